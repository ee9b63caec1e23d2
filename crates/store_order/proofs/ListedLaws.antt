-- An order written out as a list: a list copied by it is the list in that order.
use Rattle.std.specs.Prelude.{◌≡◌, refl, List, ◌⊎◌, ℕ, zero, suc, ◌+◌, ◌-◌, ◌*◌, ◌^◌, ◌≤◌, ◌<◌}
use Rattle.std.proofs.Math.Path.{sym, ap}
use Rattle.std.proofs.Common.{◌∙◌, inl, inr, pow_pos, pow-suc, one-add, arith}
use Rattle.std.proofs.Math.Logic.{⊎_elim}
use Rattle.std.proofs.Math.ListN.{length, get_or}
use Rattle.std.proofs.Math.Seq.{ext_get_or}
use Rattle.base.specs.CaseLaws.{lt_or_ge}
use Rattle.base.specs.ListLaws.{length_tabulate, get_d_tabulate}
use Rattle.store_order.specs.Occurs.{occurs, index_of}
use Rattle.store_order.specs.OccursLaws.{at_index, occurs_none, occurs_once}
use Rattle.store_order.specs.Copied.{up, put_to, put_from, RestCopied}
use Rattle.store_order.specs.CopiedLaws.{up_once, up_below, up_above, index_up, length_copied, copied_other, copied_at}
use Rattle.store_order.specs.TreeOrder.{tree_order}
use Rattle.store_order.proofs.TreeOrderLaws.{length_order}
use Rattle.store_order.specs.CountOrder.{stored, count_place, range_at, Permutes, reorder, count_order, number_order}
use Rattle.store_order.specs.Places.{Listed, places_from}
use Rattle.store_order.specs.PlacesLaws.{get_d_places}
use Rattle.store_order.proofs.CountOrderLaws.{range_inside, count_order_lem, range_order, permutes_back, length_reorder, get_d_reorder}

-- A number is that of the size parameter or behind those of the ranges, or it is one of a range.
in_or_out : (h k : ℕ) → ((k ≡ 0) ⊎ (2 * 2 ^ h ≤ k)) ⊎ ((0 < k) × (k < 2 * 2 ^ h))
in_or_out h zero = inl (inl refl)
in_or_out h (suc k) =
    ⊎_elim (λ (l : suc k < 2 * 2 ^ h). inr (omega arith, l)) (λ (g : 2 * 2 ^ h ≤ suc k). inl (inr g)) (lt_or_ge (suc k) (2 * 2 ^ h))

stays : (h : ℕ) (f g : ℕ → ℕ) → Permutes h f g → (k : ℕ) → (k ≡ 0) ⊎ (2 * 2 ^ h ≤ k) → f k ≡ k
stays h f g p k out = ⊎_elim (λ (e : k ≡ 0). rw e p.size_stays) (λ (far : 2 * 2 ^ h ≤ k). p.unused_stay k far) out

module _ (h : ℕ) (f g : ℕ → ℕ) (p : Permutes h f g) (ks : List ℕ) (l : Listed h g ks) where
  -- The index of a number of the list is the one before its place.
  index_is : (k i : ℕ) → i < length ks → get_or ks i 0 ≡ k → 1 + i ≡ f k
  index_is k i m e = sym (p.place_range (1 + i)) ∙ ap f (sym (l.entry i m) ∙ e)

  listed_none : (k : ℕ) → (k ≡ 0) ⊎ (2 * 2 ^ h ≤ k) → occurs k ks ≡ 0
  listed_none k out =
      occurs_none k 0 ks
      (λ i m e.
      let at : 1 + i ≡ k = index_is k i m e ∙ stays h f g p k out in
      ⊎_elim (λ (z : k ≡ 0). omega arith) (λ (far : 2 * 2 ^ h ≤ k). omega (arith, l.all)) out)

  listed_once : (k : ℕ) → 0 < k → k < 2 * 2 ^ h → occurs k ks ≡ 1
  listed_once k low high =
      let i = f k - 1 in
      let place = p.ranges_stay k low high in
      let m : i < length ks = omega (arith, place.0, place.1, l.all) in
      let next : 1 + i ≡ f k = omega (arith, place.0) in
      occurs_once k 0 ks i m (l.entry i m ∙ ap g next ∙ p.range_place k)
      (λ j n e. omega (arith, index_is k j n e, next))

  module _ (xs to : List ℕ) (c : RestCopied (2 * 2 ^ h) (length xs) xs to) where
    abbrev n : ℕ
    n = length ks

    -- What is no range's is there.
    agrees : (k : ℕ) → k < length xs → (k ≡ 0) ⊎ (2 * 2 ^ h ≤ k) → get_or to k 0 ≡ get_or xs k 0
    agrees k inside out = ⊎_elim (λ (e : k ≡ 0). rw e c.size) (λ (far : 2 * 2 ^ h ≤ k). c.rest k far inside) out

    -- What stands from 1 on, put to the numbers of the list.
    pub put_to_lem : put_to 1 ks xs to ≡ reorder f xs
    unfolding put_to
    put_to_lem =
        ext_get_or 0 _ _ (length_copied xs (up 1 n) ks to ∙ c.same_length ∙ sym (length_reorder f xs))
        (λ k m.
        let inside : k < length xs = rw (length_copied xs (up 1 n) ks to, c.same_length) at m in
        ⊎_elim
        (λ (out : (k ≡ 0) ⊎ (2 * 2 ^ h ≤ k)).
        copied_other xs (up 1 n) ks to k (listed_none k out) ∙ agrees k inside out ∙ sym (get_d_reorder f xs k inside ∙ rw (stays h f g p k out)))
        (λ (within : (0 < k) × (k < 2 * 2 ^ h)).
        let once = listed_once k within.0 within.1 in
        let there = at_index k 0 ks (omega (arith, once)) in
        copied_at xs (up 1 n) ks to k (length_tabulate (λ i. i) 1 n) once (rw c.same_length inside)
        ∙ ap (λ (i : ℕ). get_or xs i 0) (get_d_tabulate (λ i. i) 1 n (index_of k ks) 0 there.0 ∙ index_is k (index_of k ks) there.0 there.1)
        ∙ sym (get_d_reorder f xs k inside))
        (in_or_out h k))

    -- What stands at the numbers of the list, put from 1 on.
    pub put_from_lem : put_from 1 ks xs to ≡ reorder g xs
    unfolding put_from
    put_from_lem =
        ext_get_or 0 _ _ (length_copied xs ks (up 1 n) to ∙ c.same_length ∙ sym (length_reorder g xs))
        (λ i m.
        let inside : i < length xs = rw (length_copied xs ks (up 1 n) to, c.same_length) at m in
        ⊎_elim
        (λ (out : (i ≡ 0) ⊎ (2 * 2 ^ h ≤ i)).
        let none : occurs i (up 1 n) ≡ 0
        = ⊎_elim (λ (z : i ≡ 0). up_below i 1 n (omega arith)) (λ (far : 2 * 2 ^ h ≤ i). up_above i 1 n (omega (arith, l.all))) out in
        copied_other xs ks (up 1 n) to i none
        ∙ agrees i inside out
        ∙ sym (get_d_reorder g xs i inside ∙ rw (stays h g f (permutes_back h f g p) i out)))
        (λ (within : (0 < i) × (i < 2 * 2 ^ h)).
        let below : i < 1 + n = omega (arith, within.1, l.all) in
        let index = index_up i 1 n within.0 below in
        copied_at xs ks (up 1 n) to i (sym (length_tabulate (λ i. i) 1 n)) (up_once i 1 n within.0 below) (rw c.same_length inside)
        ∙ ap (λ (k : ℕ). get_or xs k 0) (l.entry (index_of i (up 1 n)) (omega (arith, index, below)) ∙ ap g index)
        ∙ sym (get_d_reorder g xs i inside))
        (in_or_out h i))

-- ---- the ranges of a tree listed by their places, and the places by their ranges

ranges_listed : (h : ℕ) → Listed h (range_at h) (tree_order (suc h) 1)
unfolding stored
ranges_listed h = record {
  all = length_order (suc h) (omega arith) 1 ∙ omega (arith, pow-suc 2 h);
  entry = λ i l. sym (rw (one-add i) (range_inside h (suc i) (omega (arith, l, length_order (suc h) (omega arith) 1, pow-suc 2 h))));
}

places_listed : (h : ℕ) → Listed h (count_place h) (places_from h 1 (2 * 2 ^ h - 1))
places_listed h = record {
  all = omega (arith, length_tabulate (count_place h) 1 (2 * 2 ^ h - 1), pow_pos h);
  entry = λ i l. get_d_places h 1 (2 * 2 ^ h - 1) i (rw (length_tabulate (count_place h) 1 (2 * 2 ^ h - 1)) at l);
}

-- The counts of a store put to the numbers of their ranges, and counts by range number put to their places: by the order of the ranges, and
-- by a table of their places.
module _ (h : ℕ) (xs to : List ℕ) (c : RestCopied (2 * 2 ^ h) (length xs) xs to) where
  pub put_numbers : put_to 1 (tree_order (suc h) 1) xs to ≡ number_order h xs
  unfolding number_order
  put_numbers = put_to_lem h (count_place h) (range_at h) (count_order_lem h) (tree_order (suc h) 1) (ranges_listed h) xs to c

  pub put_places : put_from 1 (tree_order (suc h) 1) xs to ≡ count_order h xs
  unfolding count_order
  put_places = put_from_lem h (count_place h) (range_at h) (count_order_lem h) (tree_order (suc h) 1) (ranges_listed h) xs to c

  pub table_numbers : put_from 1 (places_from h 1 (2 * 2 ^ h - 1)) xs to ≡ number_order h xs
  unfolding number_order
  table_numbers = put_from_lem h (range_at h) (count_place h) (range_order h) (places_from h 1 (2 * 2 ^ h - 1)) (places_listed h) xs to c

  pub table_places : put_to 1 (places_from h 1 (2 * 2 ^ h - 1)) xs to ≡ count_order h xs
  unfolding count_order
  table_places = put_to_lem h (range_at h) (count_place h) (range_order h) (places_from h 1 (2 * 2 ^ h - 1)) (places_listed h) xs to c
