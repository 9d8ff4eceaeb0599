-- Numbers in a byte area: unsigned, little-endian, w bytes each.
use Rattle.std.specs.Prelude.{◌≡◌, cond, List, [], ◌∷◌, ◌++◌, ℕ, zero, suc, ◌+◌, ◌-◌, ◌*◌, ◌/◌, ◌%◌, ◌<◌, leb, length, get_or, set, take, drop, replicate}
use Rattle.std.proofs.lemmas.List.Edits.{sets}

-- every number of a list is a byte
abbrev pub Bytes : List ℕ → Type 0
Bytes s = (i : ℕ) → get_or s i 0 < 256

-- the number in the w bytes of s from index i on
unfoldable pub num : ℕ → List ℕ → ℕ → ℕ
num zero s i = 0
num (suc w) s i = get_or s i 0 + 256 * num w s (i + 1)

-- the w bytes of the number v
unfoldable pub digits : ℕ → ℕ → List ℕ
digits zero v = []
digits (suc w) v = v % 256 ∷ digits w (v / 256)

-- f 0, f 1, .., f (n - 1)
unfoldable pub up_to : ℕ → (ℕ → ℕ) → List ℕ
up_to zero f = []
up_to (suc n) f = f 0 ∷ up_to n (λ k. f (suc k))

-- the numbers in s, w bytes each; a remainder too short for an entry counts as none
unfoldable pub entries : ℕ → List ℕ → List ℕ
entries w s = up_to (length s / w) (λ k. num w s (k * w))

-- the remainder too short for an entry
unfoldable pub remainder : ℕ → List ℕ → List ℕ
remainder w s = drop (length s / w * w) s

-- the number at index i, and 0 where it would go past the end
unfoldable pub num_at : ℕ → List ℕ → ℕ → ℕ
num_at w s i = cond (leb (i + w) (length s)) (num w s i) 0

-- s with the number v stored at index i; as it was where the number would go past the end
unfoldable pub put_at : ℕ → List ℕ → ℕ → ℕ → List ℕ
put_at w s i v = cond (leb (i + w) (length s)) (sets s i (digits w v)) s

-- n numbers of w bytes, the first at index i, each d bytes after the one before
unfoldable pub column : ℕ → List ℕ → ℕ → ℕ → ℕ → List ℕ
column w s i d n = up_to n (λ k. num w s (i + k * d))

-- entry k is v, or none where there is no entry k; other entries, the remainder and the length are as they were
pub record Stored (w : ℕ) (before after : List ℕ) (k v : ℕ) : Type 0 where
  pub entries_set : entries w after ≡ set (entries w before) k v
  pub remainder_kept : remainder w after ≡ remainder w before
  pub length_kept : length after ≡ length before

-- every entry from n on is zero; the entries before it, the remainder and the length are as they were
pub record Cleared (w : ℕ) (before after : List ℕ) (n : ℕ) : Type 0 where
  pub entries_zero : entries w after ≡ take n (entries w before) ++ replicate (length (entries w before) - n) 0
  pub remainder_kept : remainder w after ≡ remainder w before
  pub length_kept : length after ≡ length before
