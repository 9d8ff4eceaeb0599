-- The units of rows compared by their words: a byte an item, the last item lowest.
use Rattle.std.specs.Prelude.{Bool, true, ◌&&◌, ℕ, zero, suc, ◌/◌, ◌%◌, leb}

-- word b has at least the units of word a in each of their lowest n bytes
unfoldable pub holds_word : ℕ → ℕ → ℕ → Bool
holds_word zero a b = true
holds_word (suc n) a b = leb (a % 256) (b % 256) && holds_word n (a / 256) (b / 256)
