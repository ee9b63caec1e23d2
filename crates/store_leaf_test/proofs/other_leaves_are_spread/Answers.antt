-- `other_leaves_are_spread` meets its contract.
use native.Mathlib.Omega.{arith}
use Rattle.store_leaf_test.proofs.other_leaves_are_spread.Goals as goal

pub leaves_have_masks-requires : goal.leaves_have_masks-requires
leaves_have_masks-requires c =
    record { ready = rw c.if-s-eq36.true at c.requires; few = omega arith; masks = c.masks_of_36.ensures }

pub returns-then-s-eq36 : goal.returns-then-s-eq36
returns-then-s-eq36 c = rw c.if-s-eq36.true c.leaves_have_masks.ensures

pub leaves_have_masks-requires-then-s-eq39 : goal.leaves_have_masks-requires-then-s-eq39
leaves_have_masks-requires-then-s-eq39 c =
    record { ready = rw c.if-s-eq39.true at c.requires; few = omega arith; masks = c.masks_of_39.ensures }

pub returns-then-s-eq39 : goal.returns-then-s-eq39
returns-then-s-eq39 c = rw c.if-s-eq39.true c.leaves_have_masks-then-s-eq39.ensures

pub leaves_have_masks-requires-then-s-eq42 : goal.leaves_have_masks-requires-then-s-eq42
leaves_have_masks-requires-then-s-eq42 c =
    record { ready = rw c.if-s-eq42.true at c.requires; few = omega arith; masks = c.masks_of_42.ensures }

pub returns-then-s-eq42 : goal.returns-then-s-eq42
returns-then-s-eq42 c = rw c.if-s-eq42.true c.leaves_have_masks-then-s-eq42.ensures

pub leaves_have_masks-requires-then-s-eq45 : goal.leaves_have_masks-requires-then-s-eq45
leaves_have_masks-requires-then-s-eq45 c =
    record { ready = rw c.if-s-eq45.true at c.requires; few = omega arith; masks = c.masks_of_45.ensures }

pub returns-then-s-eq45 : goal.returns-then-s-eq45
returns-then-s-eq45 c = rw c.if-s-eq45.true c.leaves_have_masks-then-s-eq45.ensures

pub leaves_have_masks-requires-then-s-eq48 : goal.leaves_have_masks-requires-then-s-eq48
leaves_have_masks-requires-then-s-eq48 c =
    record { ready = rw c.if-s-eq48.true at c.requires; few = omega arith; masks = c.masks_of_48.ensures }

pub returns-then-s-eq48 : goal.returns-then-s-eq48
returns-then-s-eq48 c = rw c.if-s-eq48.true c.leaves_have_masks-then-s-eq48.ensures

pub leaves_have_masks-requires-then-s-eq51 : goal.leaves_have_masks-requires-then-s-eq51
leaves_have_masks-requires-then-s-eq51 c =
    record { ready = rw c.if-s-eq51.true at c.requires; few = omega arith; masks = c.masks_of_51.ensures }

pub returns-then-s-eq51 : goal.returns-then-s-eq51
returns-then-s-eq51 c = rw c.if-s-eq51.true c.leaves_have_masks-then-s-eq51.ensures
