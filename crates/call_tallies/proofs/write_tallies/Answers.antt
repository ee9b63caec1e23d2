-- `write_tallies` meets its contract.
use mathlib.Core.Path.{◌≡◌, sym, ◌∙◌, ap}
use native.Mathlib.Omega.{arith}
use lib.ListN.{length}
use Rattle.tree_sizes.specs.Sizes.{height}
use Rattle.store_order.specs.CountOrder.{count_order}
use Rattle.store_sums.specs.LaidLaws.{numbers_only}
use Rattle.store_part.specs.LeavesLaws.{part_leaves}
use Rattle.call_tallies.specs.WriteLaws.{start_tallies, start_length, start_placed}
use borrow.Author.Rules.{rules}
use Rattle.call_tallies.proofs.write_tallies.Goals.{After-update_tallies}
use Rattle.call_tallies.proofs.write_tallies.Goals as goal

-- There are as many numbers as tallies.
many : (c : After-update_tallies) → length c.update_tallies.new.tallies ≡ length c.args.tallies.now
many c =
    let same : length c.update_tallies.new.tallies ≡ length c.start_numbers.new.numbers = search rules in
    same ∙ start_length c.requires.part c.start_numbers.ensures ∙ c.requires.lengths

pub first_leaf-first-requires : goal.first_leaf-first-requires
first_leaf-first-requires c =
    record { most = omega (arith, c.requires.ready.most); inside = c.requires.part.inside }

pub last_leaf-last-requires : goal.last_leaf-last-requires
last_leaf-last-requires c =
    record { most = omega (arith, c.requires.ready.most); inside = c.requires.part.inside }

pub update_tallies-requires : goal.update_tallies-requires
update_tallies-requires c =
    let ready = c.requires.ready in
    let part = c.requires.part in
    let counted = c.requires.counted in
    let leaves = part_leaves part.inside in
    rw (c.first_leaf-first.ensures, c.last_leaf-last.ensures) record { most = ready.most; slots = ready.slots_room; room = omega (arith, ready.ranges_room, start_length part c.start_numbers.ensures, c.requires.lengths); leaves = (leaves.from, leaves.order, leaves.before); numbers = omega (arith, leaves.before, counted.room); counted = λ k from before. counted.counted k (omega (arith, leaves.from)) (omega (arith, leaves.before)); others = start_tallies part c.start_numbers.ensures }

pub put_numbers-requires : goal.put_numbers-requires
put_numbers-requires c =
    let ready = c.requires.ready in
    let part = c.requires.part in
    rw (c.first_leaf-first.ensures, c.last_leaf-last.ensures) record { most = ready.most; lengths = sym (many (goal.at.put_numbers-requires c).After-update_tallies); room = omega (arith, many (goal.at.put_numbers-requires c).After-update_tallies, ready.ranges_room); leaves = part_leaves part.inside; others = λ other. start_placed part c.start_numbers.ensures c.update_tallies.ensures (c.requires.lengths ∙ sym (many (goal.at.put_numbers-requires c).After-update_tallies)) (omega (arith, c.requires.lengths, ready.ranges_room)) other }

pub returns : goal.returns
returns c =
    λ words found size. c.put_numbers.ensures ∙ ap (count_order (height c.args.size.m)) (numbers_only _ _ _ _ _ words c.update_tallies.ensures found (many (goal.at.returns c).After-update_tallies ∙ sym size))
