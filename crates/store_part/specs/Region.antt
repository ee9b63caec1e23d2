-- Where the leaves of a range stand: the range of this number at depth d of a sheet of size M. Definitions only.
use Rattle.std.specs.Prelude.{ℕ, ◌-◌, ◌*◌, ◌^◌}
use Rattle.tree_sizes.specs.Sizes.{height}

-- How many leaves it has.
unfoldable pub leaves_of : ℕ → ℕ → ℕ
leaves_of M d = 2 ^ (height M - d)

-- How many leaves stand before its first.
unfoldable pub leaves_before : ℕ → ℕ → ℕ → ℕ
leaves_before M range d = (range - 2 ^ d) * leaves_of M d
