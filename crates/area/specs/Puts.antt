-- Bytes stored one after the other.
use Rattle.std.specs.Prelude.{◌≡◌, List, ℕ, ◌+◌, length}
use Rattle.std.proofs.lemmas.List.Edits.{sets}

-- the bytes are stored from index i on, up to index j; all else is as it was
pub record Puts (bytes before : List ℕ) (i j : ℕ) (after : List ℕ) : Type 0 where
  pub stores : after ≡ sets before i bytes
  pub next : j ≡ i + length bytes
