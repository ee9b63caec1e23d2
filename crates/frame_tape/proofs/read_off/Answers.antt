-- `read_off` meets its contract.
use Rattle.std.proofs.Common.{arith, rules}
use Rattle.store_slices.specs.PastedLaws.{pasted_none}
use Rattle.frame_tape.specs.TapeLaws.{read_off_next, read_off_done}
use Rattle.frame_tape.proofs.read_off.Goals as goal

pub loop-i-init : goal.loop-i-init
loop-i-init c = pasted_none (omega arith)

pub loop-i-preserved : goal.loop-i-preserved
loop-i-preserved c =
    read_off_next _ _ c.requires _ _ c.loop-i.invariant c.loop-i-test.true (search rules)

pub returns : goal.returns
returns c = read_off_done _ _ c.requires _ c.loop-i.invariant c.loop-i-test.false
