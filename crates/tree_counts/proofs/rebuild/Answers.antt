-- `rebuild` meets its contract.
use native.Mathlib.Omega.{arith}
use Rattle.tree_counts.specs.RebuildLaws.{bounds, above_leaves, leaf_done}
use Rattle.tree_counts.proofs.rebuild.Goals as goal

pub returns-then-here-eq0 : goal.returns-then-here-eq0
returns-then-here-eq0 c =
    let a = c.args in
    leaf_done a.size.m a.here.levels a.here.depth a.here.n a.tape.now a.at a.here.k a.counts.now c.if-here-eq0.true

pub candidates-c-requires : goal.candidates-c-requires
candidates-c-requires c =
    let l = bounds (above_leaves c.if-here-eq0.false c.requires) in record { least = omega (arith, l); most = l.size; deepest = l.shallow }
