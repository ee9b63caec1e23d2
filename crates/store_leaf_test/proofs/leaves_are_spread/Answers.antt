-- `leaves_are_spread` meets its contract.
use native.Mathlib.Omega.{arith}
use Rattle.store_leaf_test.proofs.leaves_are_spread.Goals as goal

pub leaves_have_masks-requires : goal.leaves_have_masks-requires
leaves_have_masks-requires c =
    record { ready = rw c.if-s-eq21.true at c.requires; few = omega arith; masks = c.masks_of_21.ensures }

pub returns-then-s-eq21 : goal.returns-then-s-eq21
returns-then-s-eq21 c = rw c.if-s-eq21.true c.leaves_have_masks.ensures

pub leaves_have_masks-requires-then-s-eq24 : goal.leaves_have_masks-requires-then-s-eq24
leaves_have_masks-requires-then-s-eq24 c =
    record { ready = rw c.if-s-eq24.true at c.requires; few = omega arith; masks = c.masks_of_24.ensures }

pub returns-then-s-eq24 : goal.returns-then-s-eq24
returns-then-s-eq24 c = rw c.if-s-eq24.true c.leaves_have_masks-then-s-eq24.ensures

pub leaves_have_masks-requires-then-s-eq27 : goal.leaves_have_masks-requires-then-s-eq27
leaves_have_masks-requires-then-s-eq27 c =
    record { ready = rw c.if-s-eq27.true at c.requires; few = omega arith; masks = c.masks_of_27.ensures }

pub returns-then-s-eq27 : goal.returns-then-s-eq27
returns-then-s-eq27 c = rw c.if-s-eq27.true c.leaves_have_masks-then-s-eq27.ensures

pub leaves_have_masks-requires-then-s-eq30 : goal.leaves_have_masks-requires-then-s-eq30
leaves_have_masks-requires-then-s-eq30 c =
    record { ready = rw c.if-s-eq30.true at c.requires; few = omega arith; masks = c.masks_of_30.ensures }

pub returns-then-s-eq30 : goal.returns-then-s-eq30
returns-then-s-eq30 c = rw c.if-s-eq30.true c.leaves_have_masks-then-s-eq30.ensures

pub leaves_have_masks-requires-then-s-eq33 : goal.leaves_have_masks-requires-then-s-eq33
leaves_have_masks-requires-then-s-eq33 c =
    record { ready = rw c.if-s-eq33.true at c.requires; few = omega arith; masks = c.masks_of_33.ensures }

pub returns-then-s-eq33 : goal.returns-then-s-eq33
returns-then-s-eq33 c = rw c.if-s-eq33.true c.leaves_have_masks-then-s-eq33.ensures
