-- `scoring_among` meets its contract. The loop's invariant: of the entries from `from` on, the first `seen` have so many scoring ones, and those
-- behind them are those of the slots from `at` on.
use mathlib.Core.Path.{◌≡◌, refl}
use Prim.Native.Nat.{◌+◌}
use native.Mathlib.Omega.{arith}
use lib.ListN.{take, drop}
use Rattle.store_layout.specs.Leaf.{nonzero}
use Rattle.store_slices.specs.ReadLaws.{Slot, slot_read}
use Rattle.store_scoring.specs.Scoring.{tally}
use Rattle.store_scoring.specs.ScoringLaws.{tally_front, tally_among}
use Rattle.store_scoring.proofs.scoring_among.Goals.{After-scores-scoring, In-loop-seen}
use Rattle.store_scoring.proofs.scoring_among.Goals as goal

-- The slot that a turn reads.
slot : (c : In-loop-seen)
    → let a = c.args in
    Slot a.slots.now (nonzero (drop a.from a.slots.now)) c.loop-seen.seen c.loop-seen.at
slot c =
    let h = c.loop-seen in
    let a = c.args in
    slot_read a.slots.now (nonzero (drop a.from a.slots.now)) h.seen h.at h.invariant.1 (omega arith)

-- Where it holds an entry, this one is counted.
next : (c : After-scores-scoring)
    → let a = c.args in
    c.loop-seen.scoring + c.scores-scoring.result ≡ tally (take (c.loop-seen.seen + 1) (nonzero (drop a.from a.slots.now)))
next c =
    let a = c.args in
    let full = c.if-x-ne0.true in
    rw (
      tally_among (nonzero (drop a.from a.slots.now)) c.loop-seen.seen _ (omega arith) ((slot (goal.at.After-scores-scoring c).In-loop-seen).entry full) full,
      ← c.loop-seen.invariant.2,
      ← c.scores-scoring.ensures,
    )

pub loop-seen-init : goal.loop-seen-init
unfolding tally
loop-seen-init c = (omega arith, refl, refl)

pub offset_bounds-slots-at : goal.offset_bounds-slots-at
offset_bounds-slots-at c = omega (arith, (slot c).inside)

pub bounds-slots-at : goal.bounds-slots-at
bounds-slots-at c = (slot (goal.at.bounds-slots-at c).In-loop-seen).inside

pub overflow_add-at : goal.overflow_add-at
overflow_add-at c = omega (arith, (slot (goal.at.overflow_add-at c).In-loop-seen).inside)

pub overflow_add-scoring : goal.overflow_add-scoring
overflow_add-scoring c =
    let a = c.args in
    omega (arith, next c, tally_front (c.loop-seen.seen + 1) (nonzero (drop a.from a.slots.now)))

pub loop-seen-smaller-then-x-ne0 : goal.loop-seen-smaller-then-x-ne0
loop-seen-smaller-then-x-ne0 c = omega (arith, (slot (goal.at.loop-seen-smaller-then-x-ne0 c).In-loop-seen).inside)

pub loop-seen-preserved-then-x-ne0 : goal.loop-seen-preserved-then-x-ne0
loop-seen-preserved-then-x-ne0 c = let s = slot (goal.at.loop-seen-preserved-then-x-ne0 c).In-loop-seen in (omega arith, s.next c.if-x-ne0.true, next c)

pub loop-seen-smaller : goal.loop-seen-smaller
loop-seen-smaller c = omega (arith, (slot (goal.at.loop-seen-smaller c).In-loop-seen).inside)

pub loop-seen-preserved : goal.loop-seen-preserved
loop-seen-preserved c = let s = slot (goal.at.loop-seen-preserved c).In-loop-seen in (omega arith, s.empty c.if-x-ne0.false, c.loop-seen.invariant.2)

pub returns : goal.returns
returns c =
    let all : c.loop-seen.seen ≡ c.args.count = omega arith in
    rw all at c.loop-seen.invariant.2
