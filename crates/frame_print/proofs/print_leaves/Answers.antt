-- `print_leaves` meets its contract.
use borrow.Author.Rules.{rules}
use Prim.Native.Nat.{suc, ◌≤◌}
use native.Mathlib.Omega.{arith}
use native.Mathlib.Nat.{mul-le-mul_right}
use Rattle.frame_print.specs.PrintLaws.{leaves_start, leaves_room, leaves_next, leaves_done}
use Rattle.frame_print.proofs.print_leaves.Goals as goal

pub loop-j-init : goal.loop-j-init
loop-j-init c = leaves_start (search rules)

pub print_leaf-next-requires : goal.print_leaf-next-requires
print_leaf-next-requires c =
    let j = c.loop-j.j in
    let next : suc j ≤ c.args.leaves = c.loop-j-test.true in record { slots = omega (arith, mul-le-mul_right c.args.s next, c.requires.slots); counts = omega (arith, c.requires.counts); room = leaves_room c.loop-j.invariant c.loop-j-test.true }

pub loop-j-preserved : goal.loop-j-preserved
loop-j-preserved c =
    leaves_next c.loop-j.invariant c.loop-j-test.true c.print_leaf-next.ensures

pub returns : goal.returns
returns c = leaves_done c.loop-j.invariant c.loop-j-test.false
