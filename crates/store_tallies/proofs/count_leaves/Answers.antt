-- `count_leaves` meets its contract. The loop's invariant: the leaves before k are counted.
use mathlib.Core.Path.{◌≡◌, sym, ap, ◌∙◌}
use mathlib.Core.List.{List}
use Prim.Native.Nat.{ℕ, ◌+◌, ◌-◌, ◌*◌, ◌^◌, ◌≤◌}
use native.Mathlib.Omega.{arith}
use lib.ListN.{length}
use Rattle.tree_sizes.specs.Sizes.{height, slots}
use Rattle.tree_sizes.proofs.SizeLaws.{height_most, leaf_slots_most, slots_le}
use Rattle.store_layout.specs.Leaf.{nonzero}
use Rattle.store_scoring.specs.Scoring.{tally}
use Rattle.store_scoring.specs.ScoringLaws.{tally_slots}
use Rattle.store_sums.specs.SumLaws.{slots_leaf, number_leaf, leaf_room}
use Rattle.store_sums.specs.UpdatingLaws.{filled_none, filled_next, filled_by}
use Rattle.store_tallies.proofs.count_leaves.Goals.{After-power-leaves, In-loop-k}
use Rattle.store_tallies.proofs.count_leaves.Goals as goal

-- The size of the sheet, and what the numbers of the code are in it.
abbrev size : After-power-leaves → ℕ
size c = c.args.size.m

first_leaf : (c : After-power-leaves) → c.power-leaves.result ≡ 2 ^ height (size c)
first_leaf c = c.power-leaves.ensures ∙ ap (λ (h : ℕ). 2 ^ h) c.height.ensures

-- The leaf of a turn has its slots in the sheet.
leaf : (c : In-loop-k)
    → let k = c.loop-k.k in
    let s = c.leaf_slots-s.result in
    (c.power-leaves.result ≤ k) × (s * (k - c.power-leaves.result) + s ≤ slots (size (goal.at.In-loop-k c).After-power-leaves))
leaf c =
    let first = first_leaf (goal.at.In-loop-k c).After-power-leaves in
    let from : c.power-leaves.result ≤ c.loop-k.k = omega arith in
    (from, leaf_room (size (goal.at.In-loop-k c).After-power-leaves) c.loop-k.k c.leaf_slots-s.ensures first from (omega arith))

pub power-leaves-requires : goal.power-leaves-requires
power-leaves-requires c = omega (arith, height_most c.args.size.m 32 (omega arith) (omega arith))

pub loop-k-init : goal.loop-k-init
loop-k-init c = filled_none

pub overflow_sub-k : goal.overflow_sub-k
overflow_sub-k c = omega (arith, (leaf c).0)

pub overflow_mul-s : goal.overflow_mul-s
overflow_mul-s c = omega (arith, (leaf c).1, slots_le (size (goal.at.overflow_mul-s c).After-power-leaves))

pub tally_of-requires : goal.tally_of-requires
tally_of-requires c =
    let k = c.loop-k.k in record {
      room = omega (arith, (leaf (goal.at.tally_of-requires c).In-loop-k).1);
      number = rw (c.leaf_slots-s.ensures, first_leaf (goal.at.tally_of-requires c).After-power-leaves)
          (c.count_at.ensures
          ∙ c.requires.counted k (omega arith) (omega arith)
          ∙ ap (λ (xs : List ℕ). length (nonzero xs)) (slots_leaf (size (goal.at.tally_of-requires c).After-power-leaves) c.args.slots.now k));
    }

pub overflow_cast-tallies : goal.overflow_cast-tallies
overflow_cast-tallies c =
    let s = c.leaf_slots-s in
    let few : c.tally_of.result ≤ s.result = rw c.tally_of.ensures (tally_slots s.result _) in
    omega (arith, few, s.ensures, leaf_slots_most (size (goal.at.overflow_cast-tallies c).After-power-leaves) (omega arith))

pub loop-k-preserved : goal.loop-k-preserved
loop-k-preserved c = filled_next c.loop-k.invariant (omega arith) (omega arith) _ c.tally_of.ensures

pub returns : goal.returns
returns c =
    let a = c.args in
    let all : c.loop-k.k ≡ a.end = omega arith in
    filled_by (λ k. rw (c.leaf_slots-s.ensures, first_leaf (goal.at.returns c).After-power-leaves) (sym (number_leaf tally (size (goal.at.returns c).After-power-leaves) a.slots.now k))) (rw all at c.loop-k.invariant)
