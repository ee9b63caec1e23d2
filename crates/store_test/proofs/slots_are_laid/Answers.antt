-- `slots_are_laid` meets its contract.
use Rattle.std.proofs.Common.{sym, arith}
use Rattle.store_test.specs.Ready.{SlotsTestReady}
use Rattle.store_test.specs.StoreCheck.{LeavesRead, height_fits, leaves_ready, slots_broken, slots_rest}
use Rattle.store_test.proofs.slots_are_laid.Goals.{After-count_at-m, After-power-leaves}
use Rattle.store_test.proofs.slots_are_laid.Goals as goal

ready : (c : After-count_at-m) → let a = c.args in SlotsTestReady a.slots.now a.counts.now
ready c = c.requires

values : (c : After-power-leaves)
    → LeavesRead c.args.counts.now c.count_at-m.result c.leaf_slots-s.result
    c.height-h.result c.power-leaves.result
values c = record {
  m_is = c.count_at-m.ensures;
  s_is = c.leaf_slots-s.ensures;
  h_is = c.height-h.ensures;
  p_is = c.power-leaves.ensures;
}

pub power-leaves-requires : goal.power-leaves-requires
power-leaves-requires c =
    omega (arith, height_fits (ready (goal.at.power-leaves-requires c).After-count_at-m) c.count_at-m.ensures c.height-h.ensures)

pub leaves_are_spread-requires : goal.leaves_are_spread-requires
leaves_are_spread-requires c = leaves_ready (ready (goal.at.leaves_are_spread-requires c).After-count_at-m) (values c)

pub returns-then-not-leaves_are_spread : goal.returns-then-not-leaves_are_spread
returns-then-not-leaves_are_spread c =
    sym (slots_broken (ready (goal.at.returns-then-not-leaves_are_spread c).After-count_at-m) (values (goal.at.returns-then-not-leaves_are_spread c).After-power-leaves) c.leaves_are_spread.ensures c.if-not-leaves_are_spread.true)

pub overflow_mul-s : goal.overflow_mul-s
overflow_mul-s c =
    omega (arith, (leaves_ready (ready (goal.at.overflow_mul-s c).After-count_at-m) (values (goal.at.overflow_mul-s c).After-power-leaves)).slots_room)

pub returns : goal.returns
returns c =
    sym
    (slots_rest (ready (goal.at.returns c).After-count_at-m) (values (goal.at.returns c).After-power-leaves) c.leaves_are_spread.ensures c.if-not-leaves_are_spread.false
    c.slots_are_zero.ensures)
