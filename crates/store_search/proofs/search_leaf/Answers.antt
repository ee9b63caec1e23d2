-- `search_leaf` meets its contract. The loop's invariant: the first slots of the leaf are passed.
use mathlib.Core.Path.{◌≡◌, ap₂, ◌∙◌}
use Prim.Native.Nat.{ℕ, ◌+◌, ◌-◌}
use native.Mathlib.Omega.{arith}
use lib.ListN.{take, drop}
use Rattle.base.specs.ListLaws.{length_part}
use Rattle.store_layout.specs.Leaf.{nonzero}
use Rattle.store_search.specs.Sought.{sought_at}
use Rattle.store_search.specs.LeafFor.{sought_behind}
use Rattle.store_search.specs.LeafLoopLaws.{passed_none, passed_small, passed_next, passed_all}
use Rattle.store_search.proofs.search_leaf.Goals.{After-loop-held}
use Rattle.store_search.proofs.search_leaf.Goals as goal

pub loop-held-init : goal.loop-held-init
loop-held-init c = passed_none

pub overflow_add-rank : goal.overflow_add-rank
overflow_add-rank c =
    let a = c.args in
    let len : a.start.slot + a.len - a.start.slot ≡ a.len = omega arith in
    omega (
      arith,
      c.count_below-rank.ensures,
      passed_small c.loop-held.invariant c.loop-held-test.true,
      rw len at (length_part a.slots.now a.start.slot (a.start.slot + a.len - a.start.slot) (omega (arith, c.requires.room))),
    )

pub loop-held-preserved : goal.loop-held-preserved
loop-held-preserved c =
    rw (c.count_below-rank.ensures, c.has_key-present.ensures) (passed_next c.loop-held.invariant c.loop-held-test.true)

-- All slots are passed.
all : (c : After-loop-held)
    → let a = c.args in
    sought_at c.loop-held.present c.loop-held.rank ≡ sought_behind a.start.before a.k (nonzero (take a.len (drop a.start.slot a.slots.now)))
all c =
    let a = c.args in
    passed_all c.loop-held.invariant c.loop-held-test.false
    ∙ ap₂ (λ (n m : ℕ). sought_behind a.start.before a.k (nonzero (take n (drop m a.slots.now)))) (omega arith) (omega arith)

pub returns-then-present : goal.returns-then-present
unfolding sought_at
returns-then-present c = rw c.if-present.true at (all (goal.at.returns-then-present c).After-loop-held)

pub returns-else-present : goal.returns-else-present
unfolding sought_at
returns-else-present c = rw c.if-present.false at (all (goal.at.returns-else-present c).After-loop-held)
