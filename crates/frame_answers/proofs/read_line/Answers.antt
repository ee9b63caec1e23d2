-- `read_line` meets its contract.
use Prim.Native.Nat.{◌≤◌}
use mathlib.Core.Path.{sym}
use native.Mathlib.Omega.{arith}
use lib.Seq.{length-take-le}
use Rattle.frame_answers.specs.StepLaws.{read_refused, read_accepted, read_most}
use Rattle.frame_answers.proofs.read_line.Goals.{Else-number-ne0}
use Rattle.frame_answers.proofs.read_line.Goals as goal

pub returns-then-number-ne0 : goal.returns-then-number-ne0
returns-then-number-ne0 c =
    rw (← read_refused c.read.ensures c.from-back.ensures c.if-number-ne0.true) c.answer.ensures

-- The entries read are no more than the list has room for.
-- What was read has room in the list.
fits : (c : Else-number-ne0) → c.from-back.result.first ≤ 64
fits c =
    omega (
      arith,
      read_most _ _ _ _ _ _ _ _ _ _ _ c.read.ensures c.from-back.ensures c.if-number-ne0.false,
      c.read.auto.output,
    )

pub slice_bounds-list-end : goal.slice_bounds-list-end
slice_bounds-list-end c = omega (arith, fits (goal.at.slice_bounds-list-end c).Else-number-ne0, c.read.auto.output)

pub slice_bounds-put_read-end : goal.slice_bounds-put_read-end
slice_bounds-put_read-end c =
    sym (length-take-le _ _ (omega (arith, fits (goal.at.slice_bounds-put_read-end c).Else-number-ne0, c.read.auto.output)))

pub put_read-requires : goal.put_read-requires
put_read-requires c =
    let most = fits (goal.at.put_read-requires c).Else-number-ne0 in
    let taken = length-take-le c.from-back.result.first c.read.new.output (omega (arith, most, c.read.auto.output)) in
    omega (arith, most, taken, c.read.auto.output)

pub returns : goal.returns
returns c =
    rw (← read_accepted c.read.ensures c.from-back.ensures c.if-number-ne0.false, ← c.entry_count-n.ensures)
    c.put_read.ensures
