-- How far a loop has come that writes entries into a list, one after the other. Definitions only.
use Rattle.std.specs.Prelude.{◌≡◌, List, ℕ, length}
use Rattle.std.proofs.Math.Seq.{paste}

-- `new` is `old` with the first n entries of `source` in the place of those from index `at` on.
pub record Pasted (old : List ℕ) (at : ℕ) (source : List ℕ) (n : ℕ) (new : List ℕ) : Type 0 where
  pub is : new ≡ paste old at source n
  pub kept : length new ≡ length old
