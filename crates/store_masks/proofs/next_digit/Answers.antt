-- `next_digit` meets its contract.
use native.Mathlib.Omega.{arith}
use Rattle.store_masks.specs.MaskLaws.{empty_digit, entry_digit}
use Rattle.store_masks.proofs.next_digit.Goals as goal

pub returns-then-slot-eq0 : goal.returns-then-slot-eq0
returns-then-slot-eq0 c = omega (arith, empty_digit _ c.if-slot-eq0.true)

pub returns : goal.returns
returns c = omega (arith, entry_digit c.args.slot (omega (arith, c.if-slot-eq0.false)))
