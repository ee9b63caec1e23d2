-- `leaves_have_tallies` meets its contract. The loop's invariant: the leaves before k have their tallies.
use mathlib.Core.Path.{◌≡◌, refl, sym, ap, ◌∙◌}
use mathlib.Core.List.{List}
use Prim.Native.Nat.{ℕ, ◌+◌, ◌-◌, ◌*◌, ◌^◌, ◌≤◌}
use native.Mathlib.Omega.{arith}
use lib.ListN.{length}
use Rattle.base.specs.BoolLaws.{fails}
use Rattle.tree_sizes.specs.Sizes.{height, leaf_slots, slots}
use Rattle.tree_sizes.proofs.SizeLaws.{height_most, slots_le}
use Rattle.store_layout.specs.Leaf.{nonzero}
use Rattle.store_scoring.specs.Scoring.{tally}
use Rattle.store_sums.specs.SumLaws.{slots_leaf, number_leaf, leaf_room}
use Rattle.store_sums.specs.UpdatingLaws.{agrees_none, agrees_next}
use Rattle.store_tallies.specs.TalliesIn.{tally_at}
use Rattle.store_tallies.proofs.leaves_have_tallies.Invariants.{counted}
use Rattle.store_tallies.proofs.leaves_have_tallies.Goals.{After-power-leaves, In-loop-k}
use Rattle.store_tallies.proofs.leaves_have_tallies.Goals as goal

-- It is that of the definition.
right : (M : ℕ) (slots : List ℕ) {s leaves : ℕ} → s ≡ leaf_slots M → leaves ≡ 2 ^ height M → (k : ℕ) → counted slots s leaves k ≡ tally_at M slots 0 k
right M slots size first k = rw (size, first) (sym (number_leaf tally M slots k))

-- The size of the sheet, and what the numbers of the code are in it.
abbrev size : After-power-leaves → ℕ
size c = c.args.size.m

first_leaf : (c : After-power-leaves) → c.power-leaves.result ≡ 2 ^ height (size c)
first_leaf c = c.power-leaves.ensures ∙ ap (λ (h : ℕ). 2 ^ h) c.height.ensures

-- The leaf of a turn has its slots in the sheet.
leaf : (c : In-loop-k)
    → let k = c.loop-k.k in
    let s = c.leaf_slots-s.result in
    s * (k - c.power-leaves.result) + s ≤ slots (size (goal.at.In-loop-k c).After-power-leaves)
leaf c =
    leaf_room (size (goal.at.In-loop-k c).After-power-leaves) c.loop-k.k c.leaf_slots-s.ensures (first_leaf (goal.at.In-loop-k c).After-power-leaves) c.loop-k.auto.k (omega (arith, first_leaf (goal.at.In-loop-k c).After-power-leaves))

pub power-leaves-requires : goal.power-leaves-requires
power-leaves-requires c = omega (arith, height_most c.args.size.m 32 (omega arith) (omega arith))

pub loop-k-init : goal.loop-k-init
loop-k-init c = agrees_none _ _ c.args.numbers.now

pub overflow_mul-k-end : goal.overflow_mul-k-end
overflow_mul-k-end c = omega (arith, first_leaf (goal.at.overflow_mul-k-end c).After-power-leaves, c.requires.room)

pub count_at-requires : goal.count_at-requires
count_at-requires c = omega (arith, first_leaf (goal.at.count_at-requires c).After-power-leaves, c.requires.room)

pub overflow_mul-s : goal.overflow_mul-s
overflow_mul-s c = omega (arith, leaf (goal.at.overflow_mul-s c).In-loop-k, slots_le (size (goal.at.overflow_mul-s c).After-power-leaves))

pub count_at-requires-in-loop-k : goal.count_at-requires-in-loop-k
count_at-requires-in-loop-k c = omega (arith, first_leaf (goal.at.count_at-requires-in-loop-k c).After-power-leaves, c.requires.counts)

pub tally_of-requires : goal.tally_of-requires
tally_of-requires c =
    let k = c.loop-k.k in record {
      room = omega (arith, leaf (goal.at.tally_of-requires c).In-loop-k, c.requires.slots);
      number = rw (c.leaf_slots-s.ensures, first_leaf (goal.at.tally_of-requires c).After-power-leaves)
          (c.count_at-in-loop-k.ensures
          ∙ c.requires.counted k (omega (arith, first_leaf (goal.at.tally_of-requires c).After-power-leaves)) (omega (arith, first_leaf (goal.at.tally_of-requires c).After-power-leaves))
          ∙ ap (λ (xs : List ℕ). length (nonzero xs)) (slots_leaf (size (goal.at.tally_of-requires c).After-power-leaves) c.args.slots.now k));
    }

pub returns-then-count_at-tally_of : goal.returns-then-count_at-tally_of
returns-then-count_at-tally_of c =
    let k = c.loop-k.k in
    let is = right (size (goal.at.returns-then-count_at-tally_of c).After-power-leaves) c.args.slots.now c.leaf_slots-s.ensures (first_leaf (goal.at.returns-then-count_at-tally_of c).After-power-leaves) k in
    fails
    (λ all. c.if-count_at-tally_of.true (c.count_at.ensures ∙ all k (omega (arith, first_leaf (goal.at.returns-then-count_at-tally_of c).After-power-leaves)) (omega (arith, first_leaf (goal.at.returns-then-count_at-tally_of c).After-power-leaves)) ∙ sym (c.tally_of.ensures ∙ is)))

pub loop-k-preserved : goal.loop-k-preserved
loop-k-preserved c =
    agrees_next _ _ c.args.numbers.now c.loop-k.k c.loop-k.invariant
    (sym c.count_at.ensures ∙ c.if-count_at-tally_of.false ∙ c.tally_of.ensures)

pub returns : goal.returns
returns c =
    let is = right (size (goal.at.returns c).After-power-leaves) c.args.slots.now c.leaf_slots-s.ensures (first_leaf (goal.at.returns c).After-power-leaves) in
    (λ e k from before. c.loop-k.invariant k (omega (arith, first_leaf (goal.at.returns c).After-power-leaves)) (omega (arith, first_leaf (goal.at.returns c).After-power-leaves)) ∙ is k, λ all. refl)
