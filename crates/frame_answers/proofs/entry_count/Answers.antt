-- `entry_count` meets its contract.
use mathlib.Core.Path.{sym}
use native.Mathlib.Omega.{arith}
use lib.ListN.{get_or-eq_default}
use Rattle.frame_answers.proofs.entry_count.Goals as goal

pub returns-then-counts-lt2 : goal.returns-then-counts-lt2
returns-then-counts-lt2 c = sym (get_or-eq_default c.args.counts.now 0 {n = 1} (omega (arith, c.if-counts-lt2.true)))
