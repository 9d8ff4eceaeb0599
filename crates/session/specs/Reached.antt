-- What a session means: where it stands, which sessions reports lead to, and what holds of each of them.
use Rattle.std.specs.Prelude.{◌≡◌, ◌↔◌, Bool, true, false, cond, List, [], ◌∷◌, ℕ, suc, ◌≤◌, ◌<◌, T, length}
use Rattle.exchange.specs.Bounds.{Terms, SupplierGains, BuyerGains}
use Rattle.exchange.specs.Deal.{Deal, deal_of, State, Safe, start, end, after}
use Rattle.session.specs.Session.{entry_of, moves, marked, finished_by, done, opened, report_on, session_after}
use Rattle.session.specs.declared.Session.{Session}
use Rattle.session.specs.declared.Side.{Side}
use Rattle.session.specs.declared.Side.TheVariants.{Delivery, Payment}

-- "A report names a side and a number"
pub record Report : Type 0 where
  pub side : Side
  pub number : ℕ

-- the session after reports on one plan, whether they fit or not
abbrev pub after_reports : List State → Session → List Report → Session
after_reports xs s [] = s
after_reports xs s (r ∷ rs) = after_reports xs (session_after s (report_on xs s r.side r.number)) rs

-- the sessions of a plan: opened, then any reports
abbrev pub reached_by : List State → List Report → Session
reached_by xs rs = after_reports xs (opened xs) rs

-- where a side stands: at the open step's entry where it is marked, else at that of the step before
abbrev pub stands_at : List State → Session → Side → ℕ
stands_at xs s side = entry_of side (after start xs (cond (marked s side) (suc s.passed) s.passed))

-- the state in which the two firms are
abbrev pub stands : List State → Session → State
stands xs s = record { place = stands_at xs s Delivery; paid = stands_at xs s Payment }

-- the state with a side at another number
abbrev pub with_entry : Side → ℕ → State → State
with_entry Delivery n t = record { place = n; paid = t.paid }
with_entry Payment n t = record { place = t.place; paid = n }

-- a session that a plan's reports lead to: no more steps passed than there are, something left to report in the open step, and marks only
-- on sides that move
pub record Sound (xs : List State) (s : Session) : Type 0 where
  pub within : s.passed ≤ length xs
  pub left : s.passed < length xs → done xs s ≡ false
  pub marks_move : (side : Side) → marked s side ≡ true → moves xs s.passed side ≡ true

-- what a deal must have for its end to be reached once: no other place holds the units of the last one, and the end is safe
pub record Ending (d : Deal) : Type 0 where
  pub top : (b : ℕ) → b ≤ d.last → T (d.holds d.last b) → b ≡ d.last
  pub end_safe : Safe d d.last d.price

-- neither firm gains by leaving in a state, by the amounts that the deal is made of
abbrev pub NeitherGains : Deal → ℕ → ℕ → Type 0
NeitherGains d x p =
    (t : Terms) (holds : ℕ → ℕ → Bool) → d ≡ deal_of t holds → (SupplierGains t x p → ⊥) × (BuyerGains t x p → ⊥)

-- what holds of every session of a safe plan: the state is safe, neither firm gains by leaving, and the session is finished exactly when
-- everything is delivered and the price is paid
pub record Kept (d : Deal) (xs : List State) (s : Session) : Type 0 where
  pub sound : Sound xs s
  pub safe : Safe d (stands xs s).place (stands xs s).paid
  pub neither_gains : NeitherGains d (stands xs s).place (stands xs s).paid
  pub finished_there : (finished_by (length xs) s ≡ true) ↔ (stands xs s ≡ end d)
