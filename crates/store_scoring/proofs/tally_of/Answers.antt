-- `tally_of` meets its contract. The loop's invariant: the first slots have so many retired boats, and the others score.
use mathlib.Core.Path.{◌≡◌, refl}
use mathlib.Core.List.{List}
use Prim.Native.Nat.{ℕ, ◌+◌, ◌-◌}
use native.Mathlib.Omega.{arith}
use lib.ListN.{length, take, drop, length-take}
use lib.Seq.{take_all}
use Rattle.store_layout.specs.Leaf.{nonzero}
use Rattle.store_layout.proofs.LeafLaws.{nonzero_length, number_next}
use Rattle.store_scoring.specs.Scoring.{tally}
use Rattle.store_scoring.specs.ScoringLaws.{tally_next}
use Rattle.store_scoring.proofs.tally_of.Goals.{After-loop-slot, After-retired_in-retired}
use Rattle.store_scoring.proofs.tally_of.Goals as goal

-- The slots that are looked at.
abbrev part : List ℕ → ℕ → ℕ → List ℕ
part slots from len = take (from + len - from) (drop from slots)

-- With the retired boats of the next slot.
next : (c : After-retired_in-retired)
    → let a = c.args in
    let front = nonzero (take (c.loop-slot.slot-index + 1) (part a.slots.now a.from a.len)) in
    c.loop-slot.retired + c.retired_in-retired.result + tally front ≡ length front
next c =
    let slots = part c.args.slots.now c.args.from c.args.len in
    rw (tally_next slots c.loop-slot.slot-index c.loop-slot-test.true, number_next slots c.loop-slot.slot-index c.loop-slot-test.true)
    (omega (arith, c.loop-slot.invariant, c.retired_in-retired.ensures))

pub loop-slot-init : goal.loop-slot-init
unfolding tally nonzero
loop-slot-init c = refl

pub overflow_add-retired : goal.overflow_add-retired
overflow_add-retired c =
    let seen = take (c.loop-slot.slot-index + 1) (part c.args.slots.now c.args.from c.args.len) in
    omega (arith, next c, nonzero_length seen, length-take (c.loop-slot.slot-index + 1) (part c.args.slots.now c.args.from c.args.len))

pub loop-slot-preserved : goal.loop-slot-preserved
loop-slot-preserved c = next c

-- All slots are looked at.
all : (c : After-loop-slot)
    → let a = c.args in
    let part = nonzero (take a.len (drop a.from a.slots.now)) in c.loop-slot.retired + tally part ≡ length part
all c =
    let a = c.args in
    let len : a.from + a.len - a.from ≡ a.len = omega arith in
    rw (take_all c.loop-slot.slot-index (part a.slots.now a.from a.len) c.loop-slot-test.false, len) at c.loop-slot.invariant

pub overflow_sub-result : goal.overflow_sub-result
overflow_sub-result c = omega (arith, all c, c.requires.number)

pub returns : goal.returns
returns c = omega (arith, all c, c.requires.number)
