-- `counts_are_shaped` meets its contract.
use Rattle.std.proofs.Common.{sym, arith}
use Rattle.store_test.specs.Ready.{CountsTestReady}
use Rattle.store_test.specs.StoreCheck.{SizeRead, counts_many, counts_less, counts_more, height_bound, root_ready, counts_tree, counts_rest}
use Rattle.store_test.proofs.counts_are_shaped.Goals.{After-count_at-n, After-height-h}
use Rattle.store_test.proofs.counts_are_shaped.Goals as goal

ready : (c : After-count_at-n) → let a = c.args in CountsTestReady a.entries a.counts.now
ready c = c.requires

values : (c : After-height-h)
    → let a = c.args in
    SizeRead a.entries a.counts.now c.count_at-m.result c.count_at-n.result c.height-h.result
values c =
    record {
      m_is = c.count_at-m.ensures;
      n_is = c.count_at-n.ensures;
      few = c.if-entries-n.false;
      least = c.if-m-n.false;
      most = omega (arith, c.if-greatest_size-m.false, c.greatest_size.ensures);
      h_is = c.height-h.ensures;
    }

pub returns-then-entries-n : goal.returns-then-entries-n
returns-then-entries-n c = sym (counts_many (ready (goal.at.returns-then-entries-n c).After-count_at-n) c.count_at-m.ensures c.count_at-n.ensures c.if-entries-n.true)

pub returns-then-m-n : goal.returns-then-m-n
returns-then-m-n c =
    sym (counts_less (ready (goal.at.returns-then-m-n c).After-count_at-n) c.count_at-m.ensures c.count_at-n.ensures c.if-entries-n.false c.if-m-n.true)

pub returns-then-greatest_size-m : goal.returns-then-greatest_size-m
returns-then-greatest_size-m c =
    sym
    (counts_more (ready (goal.at.returns-then-greatest_size-m c).After-count_at-n) c.count_at-m.ensures c.count_at-n.ensures c.if-entries-n.false
    c.if-m-n.false (omega (arith, c.if-greatest_size-m.true, c.greatest_size.ensures)))

pub tree_is_balanced-requires : goal.tree_is_balanced-requires
tree_is_balanced-requires c = root_ready (ready (goal.at.tree_is_balanced-requires c).After-count_at-n) (values c)

pub returns-then-not-tree_is_balanced : goal.returns-then-not-tree_is_balanced
returns-then-not-tree_is_balanced c =
    sym
    (counts_tree (ready (goal.at.returns-then-not-tree_is_balanced c).After-count_at-n) (values (goal.at.returns-then-not-tree_is_balanced c).After-height-h) c.tree_is_balanced.ensures c.if-not-tree_is_balanced.true)

pub power-requires : goal.power-requires
power-requires c =
    omega (arith, height_bound (ready (goal.at.power-requires c).After-count_at-n) (values (goal.at.power-requires c).After-height-h))

pub returns : goal.returns
returns c =
    sym
    (counts_rest (ready (goal.at.returns c).After-count_at-n) (values (goal.at.returns c).After-height-h) c.tree_is_balanced.ensures
    c.if-not-tree_is_balanced.false c.power.ensures c.counts_are_zero.ensures)
