-- What opening answers. Assumes nothing.
use mathlib.Core.Path.{◌≡◌, refl, sym}
use mathlib.Core.List.{List}
use Prim.Native.Nat.{ℕ}
use native.Mathlib.Omega.{arith}
use Rattle.contract.specs.Res.{Res, refused, ok}
use Rattle.contract.specs.Contract.{Contract}
use Rattle.contract.specs.Parse.{parse}
use Rattle.contract.proofs.ParsedValid.ResLaws.{bind_inv, test_inv}
use Rattle.exchange.specs.Deal.{State}
use Rattle.planning.specs.Check.{holds_count, brought_to, ahead_of_check, Checks}
use Rattle.session.specs.Code.{Held, steps_of}
use Rattle.session.specs.declared.Plan.{Plan}
use Rattle.session.proofs.PlanLaws.{count_held}

-- a plan that is accepted has a contract
accepted_contract : (r : Res Contract) (order : List ℕ) (xs : List State) → Checks r (ok tt) order xs → (k : Contract) × (r ≡ ok k)
accepted_contract (refused e) order xs c = let z : ◌≡◌ {A = ℕ} 0 1 = cc in absurd (omega arith)
accepted_contract (ok k) order xs c = (k, refl)

-- both areas of a plan that is accepted have its entries
pub accepted_held : (bytes : List ℕ) (p : Plan) (order : List ℕ)
    → Checks (ahead_of_check bytes p.count p.places.now p.sums.now order) (ok tt) order (steps_of p) → Held p
unfolding ahead_of_check
accepted_held bytes p order c =
    let (k, ahead) = accepted_contract _ order (steps_of p) c in
    let (j, _, brought) = bind_inv (parse bytes) (λ j. brought_to j p.count p.places.now p.sums.now order) ahead in
    let (holds, _) = test_inv (holds_count p.count p.places.now p.sums.now) 8 _ brought in
    count_held p (sym holds) refl
