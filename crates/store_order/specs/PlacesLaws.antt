-- The places of the ranges one after the other, and a list copied by them.
use Rattle.std.specs.Prelude.{◌≡◌, ℕ, ◌+◌, ◌<◌, get_or, set}
use Rattle.std.proofs.Math.Path.{refl, sym}
use Rattle.std.proofs.Common.{ap, ◌∙◌}
use mathlib.Core.List.{List, [], ◌∷◌}
use Rattle.std.proofs.Math.Nat.{add_comm}
use Rattle.base.specs.Lists.{tabulate}
use Rattle.base.specs.ListLaws.{length_tabulate, get_d_tabulate, tabulate_append}
use Rattle.store_order.specs.Copied.{copied, put_to, put_from}
use Rattle.store_order.specs.CopiedLaws.{put_to_one, put_from_one, put_to_append, put_from_append}
use Rattle.store_order.specs.CountOrder.{count_place}
use Rattle.store_order.specs.Places.{places_from}

module _ (h : ℕ) where
  -- Each entry is the place of its range.
  pub get_d_places : (k n i : ℕ) → i < n → get_or (places_from h k n) i 0 ≡ count_place h (k + i)
  get_d_places k n i l = get_d_tabulate (count_place h) k n i 0 l

  -- The next one copied by them, in both directions.
  module _ (i : ℕ) (from to : List ℕ) where
    pub places_none_from : to ≡ put_from 1 (places_from h 1 0) from to
    unfolding tabulate put_from copied
    places_none_from = refl

    pub places_none_to : to ≡ put_to 1 (places_from h 1 0) from to
    unfolding tabulate put_to copied
    places_none_to = refl

    pub places_next_from : {old : List ℕ} → old ≡ put_from 1 (places_from h 1 i) from to
        → set old (i + 1) (get_or from (count_place h (1 + i)) 0) ≡ put_from 1 (places_from h 1 (i + 1)) from to
    unfolding tabulate
    places_next_from e =
        sym
        (ap (λ (ks : List ℕ). put_from 1 ks from to) (tabulate_append (count_place h) 1 i 1)
        ∙ put_from_append from 1 (places_from h 1 i) (count_place h (1 + i) ∷ []) to
        ∙ rw (length_tabulate (count_place h) 1 i, e, add_comm 1 i)
        (put_from_one from (i + 1) (count_place h (i + 1)) (put_from 1 (places_from h 1 i) from to)))

    pub places_next_to : {old : List ℕ} → old ≡ put_to 1 (places_from h 1 i) from to
        → set old (count_place h (1 + i)) (get_or from (i + 1) 0) ≡ put_to 1 (places_from h 1 (i + 1)) from to
    unfolding tabulate
    places_next_to e =
        sym
        (ap (λ (ks : List ℕ). put_to 1 ks from to) (tabulate_append (count_place h) 1 i 1)
        ∙ put_to_append from 1 (places_from h 1 i) (count_place h (1 + i) ∷ []) to
        ∙ rw (length_tabulate (count_place h) 1 i, e, add_comm 1 i)
        (put_to_one from (i + 1) (count_place h (i + 1)) (put_to 1 (places_from h 1 i) from to)))
