-- `entry_in` meets its contract.
use mathlib.Core.Path.{sym, ap}
use mathlib.Core.List.{[]}
use native.Mathlib.Omega.{arith}
use lib.ListN.{length}
use Rattle.store_layout.specs.Leaf.{nonzero}
use Rattle.store_layout.proofs.LeafLaws.{nonzero_zero, nonzero_entry}
use Rattle.store_sums.proofs.entry_in.Goals as goal

pub returns-then-slot-eq0 : goal.returns-then-slot-eq0
unfolding nonzero
returns-then-slot-eq0 c = rw (nonzero_zero c.args.slot [] c.if-slot-eq0.true)

pub returns : goal.returns
unfolding nonzero
returns c = sym (ap length (nonzero_entry c.args.slot [] (omega (arith, c.if-slot-eq0.false))))
