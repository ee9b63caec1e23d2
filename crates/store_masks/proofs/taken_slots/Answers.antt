-- `taken_slots` meets its contract. The loop's invariant: the first i slots of each third are told.
use mathlib.Core.Path.{◌≡◌, ◌∙◌}
use Prim.Native.Nat.{◌+◌}
use native.Mathlib.Omega.{arith}
use Rattle.store_masks.specs.ThirdsLaws.{Told, told_none, told_some, told_small, told_next, told_digits, parts_taken}
use Rattle.store_masks.proofs.taken_slots.Goals.{After-loop-i}
use Rattle.store_masks.proofs.taken_slots.Goals as goal

pub loop-i-init : goal.loop-i-init
loop-i-init c =
    let a = c.args in
    (told_none a.slots.now a.from, told_none a.slots.now _, told_none a.slots.now _)

pub next_digit-left-requires : goal.next_digit-left-requires
next_digit-left-requires c =
    record { some = told_some _ _ c.loop-i.invariant.0; room = told_small _ _ c.loop-i.invariant.0 (omega arith) (omega arith) }

pub next_digit-middle-requires : goal.next_digit-middle-requires
next_digit-middle-requires c =
    record { some = told_some _ _ c.loop-i.invariant.1; room = told_small _ _ c.loop-i.invariant.1 (omega arith) (omega arith) }

pub next_digit-right-requires : goal.next_digit-right-requires
next_digit-right-requires c =
    record { some = told_some _ _ c.loop-i.invariant.2; room = told_small _ _ c.loop-i.invariant.2 (omega arith) (omega arith) }

pub loop-i-preserved : goal.loop-i-preserved
loop-i-preserved c = (
  told_next _ _ c.loop-i.invariant.0 (omega arith) c.next_digit-left.ensures,
  told_next _ _ c.loop-i.invariant.1 (omega arith) c.next_digit-middle.ensures,
  told_next _ _ c.loop-i.invariant.2 (omega arith) c.next_digit-right.ensures,
)

-- Behind the loop each third is told as a whole.
thirds : (c : After-loop-i)
    → let a = c.args in
    let l = c.loop-i in
    Told a.slots.now a.from a.g l.left
    × Told a.slots.now (a.from + a.g) a.g l.middle
    × Told a.slots.now (a.from + a.g + a.g) a.g l.right
thirds c =
    let all : c.loop-i.i ≡ c.args.g = omega (arith, c.loop-i-test.false) in
    let inv = c.loop-i.invariant in (rw all at inv.0, rw all at inv.1, rw all at inv.2)

pub joined-requires : goal.joined-requires
joined-requires c =
    let room = c.requires.room in record {
      few = c.requires.few;
      digits = (
        told_digits (thirds c).0 (omega (arith, room)),
        told_digits (thirds c).1 (omega (arith, room)),
        told_digits (thirds c).2 (omega (arith, room)),
      );
    }

pub returns : goal.returns
returns c =
    c.joined.ensures ∙ parts_taken _ _ _ c.requires.room (thirds (goal.at.returns c).After-loop-i).0 (thirds (goal.at.returns c).After-loop-i).1 (thirds (goal.at.returns c).After-loop-i).2
