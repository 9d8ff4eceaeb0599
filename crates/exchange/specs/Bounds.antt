-- The two bounds of a place, and who gains by defecting, as the papers write them, over the integers.
use Rattle.std.specs.Prelude.{cond, ℕ, zero, suc, ℤ, pos, ◌+ℤ◌, ◌-ℤ◌, ◌<ℤ◌}
use Rattle.std.specs.Int.Signed.{lt_z}

-- the amounts of a deal: P, the supplier's and the buyer's defection costs (cs and cd), the last place L, and vs and vd, the supplier's
-- cost and the buyer's value of a place. A place, the paper's term, is a delivery state: units delivered so far, or a row
pub record Terms : Type 0 where
  pub price : ℕ
  pub supplier : ℕ
  pub buyer : ℕ
  pub last : ℕ
  pub cost : ℕ → ℕ
  pub value : ℕ → ℕ

-- the smaller of two integers
abbrev pub minℤ : ℤ → ℤ → ℤ
minℤ x y = cond (lt_z x y) x y

-- the greater of two integers
abbrev pub maxℤ : ℤ → ℤ → ℤ
maxℤ x y = cond (lt_z y x) x y

-- the upper bound, unclipped: P − vs(L) + vs(place) + cs
unfoldable pub unclipped_upper_of : ℕ → ℕ → ℕ → ℕ → ℤ
unclipped_upper_of P vs_l vs cs = pos P -ℤ pos vs_l +ℤ pos vs +ℤ pos cs

-- the lower bound, unclipped: P − vd(L) + vd(place) − cd
unfoldable pub unclipped_lower_of : ℕ → ℕ → ℕ → ℕ → ℤ
unclipped_lower_of P vd_l vd cd = pos P -ℤ pos vd_l +ℤ pos vd -ℤ pos cd

-- W4: "the upper bound the smaller of itself and P. A negative upper bound stays negative"
unfoldable pub upper_of : ℕ → ℕ → ℕ → ℕ → ℤ
upper_of P vs_l vs cs = minℤ (unclipped_upper_of P vs_l vs cs) (pos P)

-- W4: "The lower bound answered becomes the greater of itself and 0"
unfoldable pub lower_of : ℕ → ℕ → ℕ → ℕ → ℤ
lower_of P vd_l vd cd = maxℤ (unclipped_lower_of P vd_l vd cd) (pos 0)

-- the upper bound of a place
abbrev pub upper : Terms → ℕ → ℤ
upper t x = upper_of t.price (t.cost t.last) (t.cost x) t.supplier

-- the lower bound of a place
abbrev pub lower : Terms → ℕ → ℤ
lower t x = lower_of t.price (t.value t.last) (t.value x) t.buyer

-- the unclipped upper bound of a place
abbrev pub unclipped_upper : Terms → ℕ → ℤ
unclipped_upper t x = unclipped_upper_of t.price (t.cost t.last) (t.cost x) t.supplier

-- the unclipped lower bound of a place
abbrev pub unclipped_lower : Terms → ℕ → ℤ
unclipped_lower t x = unclipped_lower_of t.price (t.value t.last) (t.value x) t.buyer

-- the least price at which the supplier does not lose by the whole deal: vs(L) − vs(0)
unfoldable pub least_price : Terms → ℤ
least_price t = pos (t.cost t.last) -ℤ pos (t.cost 0)

-- the most at which the buyer does not: vd(L) − vd(0)
unfoldable pub most_price : Terms → ℤ
most_price t = pos (t.value t.last) -ℤ pos (t.value 0)

-- what a firm with leaving cost c bears by leaving at (place, paid); W5: "a firm that withdraws while nothing is delivered and nothing
-- paid bears no leaving cost"
unfoldable pub borne : ℕ → ℕ → ℕ → ℕ
borne c zero zero = 0
borne c zero (suc p) = c
borne c (suc x) p = c

-- the supplier gains by leaving at (place, paid): paid − vs(place), less cs if it is borne, is more than P − vs(L)
unfoldable pub SupplierGains : Terms → ℕ → ℕ → Type 0
SupplierGains t x p = (pos t.price -ℤ pos (t.cost t.last)) <ℤ (pos p -ℤ pos (t.cost x) -ℤ pos (borne t.supplier x p))

-- the buyer gains by leaving at (place, paid): vd(place) − paid, less cd if it is borne, is more than vd(L) − P
unfoldable pub BuyerGains : Terms → ℕ → ℕ → Type 0
BuyerGains t x p = (pos (t.value t.last) -ℤ pos t.price) <ℤ (pos (t.value x) -ℤ pos p -ℤ pos (borne t.buyer x p))
