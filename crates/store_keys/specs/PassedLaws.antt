-- Slots passed from left to right: whether their entries rise, one slot more, and all of them.
use Rattle.std.specs.Prelude.{◌≡◌, refl, Bool, true, ◌&&◌, ◌≢◌, ℕ, zero, suc, ◌+◌, ◌≤◌, ◌<◌, ltb, length, get_or, drop}
use Rattle.std.proofs.Common.{sym, suc-ne-zero, add-one, arith, drop_of_length-le, drop-cons}
use mathlib.Core.List.{List, [], ◌∷◌}
use Rattle.base.specs.CaseLaws.{if_eq_yes, if_eq_no}
use Rattle.base.specs.BoolLaws.{and_true, and_assoc}
use Rattle.store_layout.specs.Leaf.{nonzero}
use Rattle.store_layout.proofs.LeafLaws.{nonzero_zero, nonzero_entry}
use Rattle.store_keys.specs.Key.{key, rise_from}
use Rattle.store_keys.specs.Passed.{key_after}

-- ---- one slot

module _ (last held : ℕ) where
  pub above_none : held ≡ 0 → rise_from last (nonzero (held ∷ [])) ≡ true
  unfolding rise_from nonzero
  above_none e = rw (nonzero_zero held [] e)

  pub above_entry : held ≢ 0 → rise_from last (nonzero (held ∷ [])) ≡ ltb last (key held)
  unfolding rise_from nonzero
  above_entry ne = rw (nonzero_entry held [] (omega arith)) (and_true (ltb last (key held)))

-- What a slot holds, and what those behind it hold.
rise_slot : (last held : ℕ) (slots : List ℕ)
    → rise_from last (nonzero (held ∷ slots)) ≡ (rise_from last (nonzero (held ∷ [])) && rise_from (key_after last held) (nonzero slots))
unfolding nonzero rise_from key_after
rise_slot last zero slots = rw (if_eq_yes 0 0 last (key 0) refl)
rise_slot last (suc x) slots =
    rw (if_eq_no (suc x) 0 last (key (suc x)) (suc-ne-zero x), and_true (ltb last (key (suc x))))

-- ---- all slots

module _ (slots : List ℕ) (i last : ℕ) (rising : Bool) where
  pub pass_slot : i < length slots → let held = get_or slots i 0 in
      (rising && rise_from last (nonzero (drop i slots)))
      ≡ ((rising && rise_from last (nonzero (held ∷ []))) && rise_from (key_after last held) (nonzero (drop (i + 1) slots)))
  pass_slot h =
      let held = get_or slots i 0 in
      rw (drop-cons slots i 0 h, add-one i, rise_slot last held (drop (suc i) slots))
      (sym (and_assoc rising (rise_from last (nonzero (held ∷ []))) (rise_from (key_after last held) (nonzero (drop (suc i) slots)))))

  pub pass_all : length slots ≤ i → (rising && rise_from last (nonzero (drop i slots))) ≡ rising
  unfolding rise_from nonzero
  pass_all h = rw (drop_of_length-le slots h) (and_true rising)
