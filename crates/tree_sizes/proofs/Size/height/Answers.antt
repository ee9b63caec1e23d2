-- `Size::height` meets its contract: the height is the largest h with 2 ^ h at most M / g.
use Prim.Native.Nat.{◌*◌, ◌/◌, ◌^◌, ◌≤◌, ◌<◌}
use native.Mathlib.Nat.{pow-succ'}
use native.Mathlib.Omega.{arith}
use Rattle.tree_sizes.specs.Sizes.{digits}
use Rattle.std.proofs.Common.{div-lt_iff_lt-mul, le-div_iff_mul-le}
use Rattle.tree_sizes.proofs.SizeLaws.{digits_le, digits_pos, height_small, height_unique}
use Rattle.tree_sizes.proofs.Size.height.Goals as goal

pub returns-then-self-le64 : goal.returns-then-self-le64
returns-then-self-le64 c = omega (arith, height_small c.args.self.m (omega arith))

pub nonzero_div-self : goal.nonzero_div-self
nonzero_div-self c = omega (arith, digits_pos c.args.self.m)

pub ilog2-requires : goal.ilog2-requires
ilog2-requires c =
    let m = c.args.self.m in
    rw c.digits.ensures ((le-div_iff_mul-le (digits_pos m)).1 (omega (arith, digits_le m (omega arith))))

pub returns : goal.returns
returns c =
    let m = c.args.self.m in
    let pos = digits_pos m in
    let low : 2 ^ c.ilog2.result ≤ m / digits m = rw c.digits.ensures at c.ilog2.ensures.power_le in
    let high : m / digits m < 2 * 2 ^ c.ilog2.result = rw c.digits.ensures at c.ilog2.ensures.next_power_gt in
    height_unique m c.ilog2.result (omega arith)
    record {
      low = omega (arith, (le-div_iff_mul-le pos).0 low);
      high = rw (pow-succ' 2 c.ilog2.result) (omega (arith, (div-lt_iff_lt-mul pos).0 high));
    }
