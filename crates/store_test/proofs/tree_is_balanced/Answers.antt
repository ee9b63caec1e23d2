-- `tree_is_balanced` meets its contract. The loop's invariant: the levels above are as they should be where `all` is true (`LevelsLeft`).
use Rattle.std.proofs.Common.{◌≡◌, ◌+◌, ◌-◌, sym, arith}
use Rattle.store_test.specs.Ready.{LevelTestReady}
use Rattle.store_test.specs.LevelCheck.{tree_leaf, levels_none, level_ready, levels_next}
use Rattle.store_test.proofs.tree_is_balanced.Goals.{In-loop-level}
use Rattle.store_test.proofs.tree_is_balanced.Goals as goal

pub returns-then-h-eq0 : goal.returns-then-h-eq0
returns-then-h-eq0 c = sym (tree_leaf _ _ _ c.if-h-eq0.true)

-- At each turn the level has its counts.
ready : (c : In-loop-level)
    → LevelTestReady c.args.counts.now c.loop-level.c c.loop-level.first
ready c = level_ready c.requires c.loop-level.invariant (omega (arith, c.loop-level-test.true))

pub level_is_balanced-level-requires : goal.level_is_balanced-level-requires
level_is_balanced-level-requires c = ready c

pub overflow_mul-first : goal.overflow_mul-first
overflow_mul-first c = omega (arith, (ready (goal.at.overflow_mul-first c).In-loop-level).room)

pub loop-level-preserved : goal.loop-level-preserved
loop-level-preserved c =
    let next : c.args.h - (c.loop-level._level + 1) ≡ c.args.h - c.loop-level._level - 1 = omega arith in
    rw next
    (levels_next c.requires c.loop-level.invariant (omega (arith, c.loop-level-test.true)) c.level_is_balanced-level.ensures
    c.half_candidates-c.ensures)

pub returns : goal.returns
returns c = sym (levels_none c.requires c.loop-level.invariant (omega (arith, c.loop-level-test.false)))
