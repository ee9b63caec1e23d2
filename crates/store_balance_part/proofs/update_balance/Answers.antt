-- `update_balance` meets its contract. The loop's invariant: the words are right but perhaps those of the leaves from `leaf` to `last`.
use mathlib.Core.Path.{◌≡◌, refl, ap, ◌∙◌}
use Prim.Native.Nat.{ℕ, ◌*◌, ◌^◌, ◌≤◌, ◌<◌}
use native.Mathlib.Omega.{arith}
use lib.ListN.{length, length-set}
use lib.Pow.{pow_mono}
use Rattle.tree_sizes.specs.Sizes.{height}
use Rattle.tree_sizes.proofs.SizeLaws.{height_most}
use Rattle.store_balance_part.specs.Update.{RightFrom, entry_from}
use Rattle.store_balance_part.specs.RightLaws.{right_above}
use Rattle.store_balance_part.specs.UpdateLaws.{but_start, but_next, but_none, leaf_small}
use Rattle.store_balance_part.proofs.update_balance.Goals.{After-height-h, After-power-leaves, After-split_range-k, In-loop-leaf}
use Rattle.store_balance_part.proofs.update_balance.Goals as goal

-- The size of the sheet.
abbrev size : After-height-h → ℕ
size c = c.args.size.m

low : (c : After-height-h) → height (size c) ≤ 32
low c = height_most (size c) 32 (omega arith) (omega arith)

-- The number of leaves.
leaves : (c : After-power-leaves) → c.power-leaves.result ≡ 2 ^ height (size (goal.at.After-power-leaves c).After-height-h)
leaves c = c.power-leaves.ensures ∙ ap (λ (n : ℕ). 2 ^ n) c.height-h.ensures

few : (c : After-power-leaves) → c.power-leaves.result ≤ 2 ^ 32
few c = rw (leaves c) (pow_mono (low (goal.at.After-power-leaves c).After-height-h))

-- The leaf is one of the sheet, and with it begins the right half of the range that was found.
inside : (c : In-loop-leaf) → c.loop-leaf.leaf < 2 * 2 ^ height (size (goal.at.In-loop-leaf c).After-height-h)
inside c = omega (arith, c.loop-leaf-test.true, c.requires.leaves.before)

right : (c : After-split_range-k)
    → RightFrom c.height-h.result c.split_range-k.result c.loop-leaf.leaf
right c =
    record {
      half = c.split_range-k.ensures;
      after = rw (← c.power-leaves.ensures) c.loop-leaf.invariant.0;
      before = rw c.height-h.ensures (inside (goal.at.After-split_range-k c).In-loop-leaf);
    }

above : (c : After-split_range-k) → c.split_range-k.result < length c.loop-leaf.balance
above c =
    omega (arith, right_above (right c), c.power-leaves.ensures, leaves (goal.at.After-split_range-k c).After-power-leaves, c.loop-leaf.invariant.1)

pub power-leaves-requires : goal.power-leaves-requires
power-leaves-requires c = omega (arith, c.height-h.ensures, low c)

pub overflow_add-leaves : goal.overflow_add-leaves
overflow_add-leaves c = omega (arith, few c)

pub loop-leaf-init : goal.loop-leaf-init
loop-leaf-init c = (
  omega (arith, c.max-leaf.ensures),
  refl,
  but_start {first = c.args.first}
      (rw (c.height-h.ensures, c.leaf_slots-s.ensures) c.requires.kept)
      (rw (← c.power-leaves.ensures) c.max-leaf.ensures),
)

pub overflow_mul-s : goal.overflow_mul-s
overflow_mul-s c =
    omega (arith, leaf_small (size (goal.at.overflow_mul-s c).After-height-h) (omega arith) c.leaf_slots-s.ensures (leaves (goal.at.overflow_mul-s c).After-power-leaves) (inside (goal.at.overflow_mul-s c).In-loop-leaf))

pub offset_bounds-balance-k : goal.offset_bounds-balance-k
offset_bounds-balance-k c = omega (arith, above (goal.at.offset_bounds-balance-k c).After-split_range-k)

pub bounds-balance-k : goal.bounds-balance-k
bounds-balance-k c = above (goal.at.bounds-balance-k c).After-split_range-k

pub loop-leaf-preserved : goal.loop-leaf-preserved
unfolding entry_from
loop-leaf-preserved c = (
  omega arith,
  length-set c.loop-leaf.balance c.split_range-k.result c.first_entry.result ∙ c.loop-leaf.invariant.1,
  but_next c.loop-leaf.invariant.2 (right (goal.at.loop-leaf-preserved c).After-split_range-k) (omega (arith, c.power-leaves.ensures, leaves (goal.at.loop-leaf-preserved c).After-power-leaves, c.loop-leaf.invariant.1))
      (rw (← c.power-leaves.ensures) c.first_entry.ensures),
)

pub returns : goal.returns
returns c =
    but_none (size (goal.at.returns c).After-height-h) (length c.args.balance.now)
    (rw (c.height-h.ensures, c.leaf_slots-s.ensures) at c.loop-leaf.invariant.2) (omega arith) c.loop-leaf.invariant.1 (omega arith)
