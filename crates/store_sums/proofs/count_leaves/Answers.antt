-- `count_leaves` meets its contract. The loop's invariant: the leaves before k are counted.
use mathlib.Core.Path.{◌≡◌, sym, ap, ◌∙◌}
use Prim.Native.Nat.{ℕ, ◌+◌, ◌-◌, ◌*◌, ◌^◌, ◌≤◌}
use native.Mathlib.Omega.{arith}
use lib.ListN.{length}
use Rattle.tree_sizes.specs.Sizes.{height, slots}
use Rattle.tree_sizes.proofs.SizeLaws.{height_most, leaf_slots_most, slots_le}
use Rattle.store_sums.specs.SumLaws.{number_leaf, leaf_room, slots_few, length_additive}
use Rattle.store_sums.specs.UpdatingLaws.{filled_by}
use Rattle.store_sums.proofs.count_leaves.Goals.{After-power-leaves, In-loop-k}
use Rattle.store_sums.proofs.count_leaves.Goals as goal

-- The size of the sheet, and what the numbers of the code are in it.
abbrev size : After-power-leaves → ℕ
size c = c.args.size.m

first_leaf : (c : After-power-leaves) → c.power-leaves.result ≡ 2 ^ height (size c)
first_leaf c = c.power-leaves.ensures ∙ ap (λ (h : ℕ). 2 ^ h) c.height.ensures

-- The leaf of a turn has its slots in the sheet.
leaf : (c : In-loop-k)
    → let s = c.leaf_slots-s.result in s * (c.loop-k.k - c.power-leaves.result) + s ≤ slots (size (goal.at.In-loop-k c).After-power-leaves)
leaf c =
    leaf_room (size (goal.at.In-loop-k c).After-power-leaves) c.loop-k.k c.leaf_slots-s.ensures (first_leaf (goal.at.In-loop-k c).After-power-leaves) c.loop-k.auto.k (omega arith)

pub power-leaves-requires : goal.power-leaves-requires
power-leaves-requires c = omega (arith, height_most c.args.size.m 32 (omega arith) (omega arith))

pub overflow_mul-s : goal.overflow_mul-s
overflow_mul-s c = omega (arith, leaf c, slots_le (size (goal.at.overflow_mul-s c).After-power-leaves))

pub entries_in-requires : goal.entries_in-requires
entries_in-requires c = omega (arith, leaf c)

pub overflow_cast-counts : goal.overflow_cast-counts
overflow_cast-counts c =
    let s = c.leaf_slots-s in
    let most : c.entries_in.result ≤ s.result = rw c.entries_in.ensures (slots_few length_additive s.result _) in
    omega (arith, most, s.ensures, leaf_slots_most (size (goal.at.overflow_cast-counts c).After-power-leaves) (omega arith))

pub returns : goal.returns
returns c =
    let a = c.args in
    let all : c.loop-k.k ≡ 2 * c.power-leaves.result = omega arith in
    rw (← first_leaf (goal.at.returns c).After-power-leaves)
    (filled_by (λ k. rw (c.leaf_slots-s.ensures, first_leaf (goal.at.returns c).After-power-leaves) (sym (number_leaf length (size (goal.at.returns c).After-power-leaves) a.slots.now k))) (rw all at c.loop-k.invariant))
