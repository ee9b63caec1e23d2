-- `write_change` meets its contract.
use mathlib.Core.Path.{ap₂}
use Rattle.store_part.specs.LeavesLaws.{part_leaves}
use Rattle.call_outcomes.specs.Untallied.{store_of}
use Rattle.call_change.specs.SheetChange.{written}
use Rattle.call_change.proofs.write_change.Goals as goal

pub put_numbers-requires : goal.put_numbers-requires
put_numbers-requires c =
    let w = c.requires.ready in
    rw (c.first_leaf-first.ensures, c.last_leaf-last.ensures)
    record { most = w.few; lengths = w.lengths; room = w.room; leaves = part_leaves w.part_ready.new_part.inside; others = w.placed }

pub returns : goal.returns
unfolding written
returns c =
    ap₂ store_of c.lay_part.ensures c.put_numbers.ensures
