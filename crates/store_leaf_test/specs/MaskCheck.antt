-- The check of a leaf by the mask of its number of entries.
use Rattle.std.specs.Prelude.{◌≡◌, refl, true, false, List, ℕ, length, get_or, take, drop}
use Rattle.std.proofs.Common.{sym, ap, ◌∙◌, arith}
use Rattle.base.specs.BoolLaws.{not_true_false}
use Rattle.base.specs.ListLaws.{length_part, part_at}
use Rattle.store_layout.specs.Leaf.{slot_of, nonzero}
use Rattle.store_layout.proofs.LeafLaws.{slot_of_positions, nonzero_positive}
use Rattle.store_masks.specs.Mask.{taken, mask, masks}
use Rattle.store_masks.specs.MaskLaws.{mask_spread, mask_number, mask_places, mask_at}
use Rattle.store_leaf_test.specs.Ready.{LeafTestReady}
use Rattle.store_leaf_test.specs.Check.{leaf_test}
use Rattle.store_leaf_test.specs.LeafCheck.{leaf_sound, places_full}

module _ {slots : List ℕ} {from s n : ℕ} (ready : LeafTestReady slots from s n) where
  abbrev leaf : List ℕ
  leaf = take s (drop from slots)

  module _ {number told : ℕ} (number_is : number ≡ taken leaf) (told_is : told ≡ get_or (masks s) n 0) where
    told_mask : told ≡ mask s n
    told_mask = told_is ∙ mask_at s n ready.fit

    -- The slots of the mask are taken, and no others.
    pub mask_right : number ≡ told → leaf_test s n leaf ≡ true
    mask_right e =
        let size : length leaf ≡ s = length_part slots from s ready.slots_room in
        let same : taken leaf ≡ mask s n = sym number_is ∙ e ∙ told_mask in
        places_full ready refl (mask_number s n leaf size ready.fit same)
        (λ k left.
        rw (part_at slots from s (slot_of s n k) 0 ((slot_of_positions s n ready.fit).inside k left)) at
        (mask_places s n leaf size ready.fit same k left))

    -- Other slots are taken.
    pub mask_wrong : (number ≡ told → ⊥) → leaf_test s n leaf ≡ false
    mask_wrong ne =
        not_true_false (leaf_test s n leaf) (λ h.
        let sound = leaf_sound s n leaf h in
        ne
        (number_is
        ∙ ap taken sound.1
        ∙ mask_spread s (nonzero leaf) (omega (arith, sound.0, ready.fit)) (nonzero_positive leaf)
        ∙ ap (mask s) sound.0
        ∙ sym told_mask))
