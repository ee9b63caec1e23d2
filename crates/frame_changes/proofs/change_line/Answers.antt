-- `change_line` meets its contract.
use borrow.Author.Rules.{rules}
use mathlib.Core.Path.{sym}
use lib.Seq.{length-take-le}
use Rattle.frame_changes.specs.ChangeLaws.{changed_gives, words_waiting}
use Rattle.frame_changes.proofs.change_line.Goals as goal

pub slice_bounds-make_change-end-2 : goal.slice_bounds-make_change-end-2
slice_bounds-make_change-end-2 c = sym (length-take-le _ _ (search rules))

pub change_answer-requires : goal.change_answer-requires
change_answer-requires c =
    record { words = words_waiting c.args.change c.args.entry _ _ _ _ _ _ _ _ c.make_change.ensures c.from-back.ensures c.requires.waiting; waiting = c.requires.waiting; room = c.requires.room }

pub returns : goal.returns
returns c =
    let given = c.args in
    changed_gives given.change given.entry _ _ _ _ _ _ _ _ c.make_change.ensures c.from-back.ensures _ c.change_answer.ensures
