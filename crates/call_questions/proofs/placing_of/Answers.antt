-- `placing_of` meets its contract.
use mathlib.Core.Path.{◌≡◌, ◌∙◌, ap}
use Prim.Native.Nat.{◌+◌, ◌≤◌, ◌<◌}
use native.Mathlib.Omega.{arith}
use lib.ListN.{length, take, drop}
use lib.Pow.{pow_pos}
use Rattle.tree_sizes.specs.Sizes.{height}
use Rattle.store_layout.specs.Leaf.{nonzero}
use Rattle.store_scoring.specs.Scoring.{tally}
use Rattle.store_scoring.specs.ScoringLaws.{tally_front, tally_most}
use Rattle.store_tallies.specs.PathLaws.{path_before}
use Rattle.store_ties.specs.Ties.{placing_in}
use Rattle.call_questions.specs.StartLaws.{entries_number, entries_few, size_small, counts_room, start_enough}
use Rattle.call_questions.specs.TalliedLaws.{numbers_room, ranges_tallied, root_tallied}
use Rattle.call_questions.specs.PlaceLaws.{leaf_from, leaf_below, scoring_before, rank_slot, rank_number, rank_before}
use Rattle.call_questions.proofs.placing_of.Goals.{After-scoring_among, After-start_of-start, Start}
use Rattle.call_questions.proofs.placing_of.Goals as goal

pub start_of-start-requires : goal.start_of-start-requires
start_of-start-requires c =
    let t = c.requires.sheet in
    record { most = size_small t.sheet t.ready; room = counts_room t.sheet t.ready }

pub tally_before-ahead-requires : goal.tally_before-ahead-requires
tally_before-ahead-requires c =
    let t = c.requires.sheet in
    record { most = size_small t.sheet t.ready; room = numbers_room t }

-- The rank is that of an entry.
below : (c : Start) → c.args.rank < c.requires.sheet.entries
below c = omega (arith, entries_number c.requires.sheet.sheet, c.requires.below)

-- The entry of the rank stands behind the leaf's first slot.
enough : (c : After-start_of-start)
    → let slots = c.args.slots.now in
    c.start_of-start.result.rank + 1 ≤ length (nonzero (drop c.start_of-start.result.slot slots))
enough c =
    let t = c.requires.sheet in
    start_enough t.sheet t.ready _ c.start_of-start.ensures 1 (omega arith) (omega (arith, c.requires.below))

pub scoring_among-requires : goal.scoring_among-requires
scoring_among-requires c = omega (arith, enough (goal.at.scoring_among-requires c).After-start_of-start)

-- The scoring boats before her.
number : (c : After-scoring_among)
    → c.tally_before-ahead.result + c.scoring_among.result ≡ tally (take c.args.rank (nonzero c.args.slots.now))
number c =
    let t = c.requires.sheet in
    let from = leaf_from c.args.m c.args.work.now c.args.rank c.start_of-start.ensures in
    let under = leaf_below c.args.m c.args.work.now c.args.rank c.start_of-start.ensures in
    omega (
      arith,
      c.tally_before-ahead.ensures,
      path_before (ranges_tallied t) c.start_of-start.result.leaf from under,
      c.scoring_among.ensures,
      scoring_before t.sheet t.ready c.args.rank c.start_of-start.ensures (below (goal.at.After-scoring_among c).Start),
    )

pub overflow_add-before : goal.overflow_add-before
overflow_add-before c =
    omega (arith, number c, tally_front c.args.rank (nonzero c.args.slots.now))

pub entry_slot-slot-requires : goal.entry_slot-slot-requires
entry_slot-slot-requires c = omega (arith, enough (goal.at.entry_slot-slot-requires c).After-start_of-start)

pub count_at-requires : goal.count_at-requires
count_at-requires c =
    omega (arith, numbers_room c.requires.sheet, pow_pos (height c.args.m))

pub placing_at-requires : goal.placing_at-requires
placing_at-requires c =
    let t = c.requires.sheet in
    let slots = c.args.slots.now in
    let number_is = number (goal.at.placing_at-requires c).After-scoring_among in
    let whole = c.count_at.ensures ∙ root_tallied t in
    let before = rank_before t.sheet t.ready c.args.rank c.start_of-start.ensures (below (goal.at.placing_at-requires c).Start) c.entry_slot-slot.result c.entry_slot-slot.ensures in record { boat = rank_slot t.sheet t.ready c.args.rank c.start_of-start.ensures (below (goal.at.placing_at-requires c).Start) c.entry_slot-slot.result c.entry_slot-slot.ensures; ahead = number_is ∙ ap tally before; number = whole; few = omega (arith, whole, tally_most (nonzero slots), entries_number t.sheet, entries_few t.sheet t.ready) }

pub returns : goal.returns
returns c =
    let t = c.requires.sheet in
    c.placing_at.ensures
    ∙ ap (placing_in (nonzero c.args.slots.now))
    (rank_number t.sheet t.ready c.args.rank c.start_of-start.ensures (below (goal.at.returns c).Start) c.entry_slot-slot.result c.entry_slot-slot.ensures)
