-- Laws of the order of the counts. Only `count_order_lem` looks at the order: the rest follows from `Permutes`.
use Rattle.std.specs.Prelude.{◌≡◌, List, ◌∷◌, length}
use Rattle.std.proofs.Math.Path.{refl}
use Rattle.std.proofs.Common.{sym, ap, ◌∙◌, ⊎_elim, ext_get_or, zero-add, arith}
use Prim.Native.Nat.{ℕ, zero, suc, ◌-◌, ◌*◌, ◌^◌, ◌≤◌, ◌<◌}
use Rattle.std.proofs.Math.ListN.{get_or, get_or-eq_default}
use Rattle.std.proofs.Math.Pow.{pow_pos}
use Rattle.std.proofs.Math.Nat.{pow-suc}
use Rattle.base.specs.Lists.{Every, tabulate}
use Rattle.base.specs.CaseLaws.{lt_or_ge, if_lt_yes, if_lt_no}
use Rattle.base.specs.ListLaws.{every_at, length_tabulate, get_d_tabulate, every_tabulate}
use Rattle.store_order.specs.Occurs.{occurs, index_of}
use Rattle.store_order.specs.OccursLaws.{occurs_at, at_index, index_at}
use Rattle.store_order.specs.Copied.{up}
use Rattle.store_order.specs.CopiedLaws.{up_once, up_above}
use Rattle.store_order.specs.TreeOrder.{tree_order}
use Rattle.store_order.proofs.TreeOrderLaws.{length_order, order_first, order_permutes}
use Rattle.store_order.specs.CountOrder.{stored, count_place, range_at, Permutes, reorder, count_order, number_order}

-- ---- the order

module _ (h : ℕ) where
  pub length_stored : length (stored h) ≡ 2 * 2 ^ h
  unfolding stored
  length_stored = omega (arith, length_order (suc h) (omega arith) 1, pow-suc 2 h)

  -- Each number of the tree stands in it once, and no other.
  stored_as_up : (k : ℕ) → occurs k (stored h) ≡ occurs k (up 0 (2 * 2 ^ h))
  unfolding stored occurs tabulate
  stored_as_up k =
      let room : 2 * 2 ^ h ≡ suc (2 ^ suc h - 1) = omega (arith, pow-suc 2 h, pow_pos h) in
      let whole : occurs k (0 ∷ tree_order (suc h) 1) ≡ occurs k (up 0 (suc (2 ^ suc h - 1))) = rw (order_permutes k (suc h) (omega arith)) in
      rw room whole

  stored_once : (k : ℕ) → k < 2 * 2 ^ h → occurs k (stored h) ≡ 1
  stored_once k l = stored_as_up k ∙ up_once k 0 (2 * 2 ^ h) (omega arith) (omega arith)

  stored_range : (i : ℕ) → i < 2 * 2 ^ h → get_or (stored h) i 0 < 2 * 2 ^ h
  stored_range i l =
      ⊎_elim (λ (m : get_or (stored h) i 0 < 2 * 2 ^ h). m)
      (λ (far : 2 * 2 ^ h ≤ get_or (stored h) i 0).
      absurd (omega (
        arith,
        occurs_at (stored h) i 0 (rw length_stored l),
        stored_as_up (get_or (stored h) i 0),
        up_above (get_or (stored h) i 0) 0 (2 * 2 ^ h) (omega arith),
      )))
      (lt_or_ge (get_or (stored h) i 0) (2 * 2 ^ h))

  pub place_inside : (k : ℕ) → k < 2 * 2 ^ h → count_place h k ≡ index_of k (stored h)
  unfolding count_place
  place_inside k l = if_lt_yes k (2 * 2 ^ h) _ _ l

  pub range_inside : (i : ℕ) → i < 2 * 2 ^ h → range_at h i ≡ get_or (stored h) i 0
  unfolding range_at
  range_inside i l = if_lt_yes i (2 * 2 ^ h) _ _ l

  place_outside : (k : ℕ) → 2 * 2 ^ h ≤ k → count_place h k ≡ k
  unfolding count_place
  place_outside k g = if_lt_no k (2 * 2 ^ h) _ _ g

  range_outside : (i : ℕ) → 2 * 2 ^ h ≤ i → range_at h i ≡ i
  unfolding range_at
  range_outside i g = if_lt_no i (2 * 2 ^ h) _ _ g

  pub place_low : (k : ℕ) → k < 2 * 2 ^ h → count_place h k < 2 * 2 ^ h
  place_low k l = rw (place_inside k l, ← length_stored) (at_index k 0 (stored h) (omega (arith, stored_once k l))).0

  back_range : (k : ℕ) → range_at h (count_place h k) ≡ k
  back_range k =
      ⊎_elim
      (λ (l : k < 2 * 2 ^ h).
      range_inside (count_place h k) (place_low k l) ∙ rw (place_inside k l) (at_index k 0 (stored h) (omega (arith, stored_once k l))).1)
      (λ (g : 2 * 2 ^ h ≤ k). rw (place_outside k g) (range_outside k g))
      (lt_or_ge k (2 * 2 ^ h))

  back_place : (i : ℕ) → count_place h (range_at h i) ≡ i
  back_place i =
      ⊎_elim
      (λ (l : i < 2 * 2 ^ h).
      rw (range_inside i l)
      (place_inside (get_or (stored h) i 0) (stored_range i l)
      ∙ index_at (stored h) i 0 (rw length_stored l) (stored_once (get_or (stored h) i 0) (stored_range i l))))
      (λ (g : 2 * 2 ^ h ≤ i). rw (range_outside i g) (place_outside i g))
      (lt_or_ge i (2 * 2 ^ h))

  stored_size : get_or (stored h) 0 0 ≡ 0
  unfolding stored
  stored_size = refl

  stored_root : get_or (stored h) 1 0 ≡ 1
  unfolding stored
  stored_root = order_first (suc h) (omega arith) 1 0

  -- What stands at its own place in the order of the tree stays.
  place_stays : (k : ℕ) → k < 2 * 2 ^ h → get_or (stored h) k 0 ≡ k → count_place h k ≡ k
  place_stays k l e = ap (count_place h) (sym (range_inside k l ∙ e)) ∙ back_place k

  pub count_order_lem : Permutes h (count_place h) (range_at h)
  count_order_lem = record {
    range_place = back_range;
    place_range = back_place;
    size_stays = place_stays 0 (omega (arith, pow_pos h)) stored_size;
    root_stays = place_stays 1 (omega (arith, pow_pos h)) stored_root;
    ranges_stay = λ k low high. (above k low, place_low k high);
    unused_stay = place_outside;
  }
    where
      above : (k : ℕ) → 0 < k → 0 < count_place h k
      above k low =
          ⊎_elim (λ (l : 0 < count_place h k). l)
          (λ (none : count_place h k ≤ 0).
          let zero_is : count_place h k ≡ 0 = omega arith in
          absurd (omega (arith, sym (back_range k) ∙ ap (range_at h) zero_is ∙ range_inside 0 (omega (arith, pow_pos h)) ∙ stored_size)))
          (lt_or_ge 0 (count_place h k))

-- What holds of the places holds of the ranges.
pub permutes_back : (h : ℕ) (place range : ℕ → ℕ) → Permutes h place range → Permutes h range place
permutes_back h place range p = record {
  range_place = p.place_range;
  place_range = p.range_place;
  size_stays = rw p.size_stays at (p.range_place 0);
  root_stays = rw p.root_stays at (p.range_place 1);
  ranges_stay = λ i low high. (above i low, below i high);
  unused_stay = λ i high. rw (p.unused_stay i high) at (p.range_place i);
}
  where
    above : (i : ℕ) → 0 < i → 0 < range i
    above i low =
        ⊎_elim (λ (l : 0 < range i). l)
        (λ (none : range i ≤ 0).
        let zero_is : range i ≡ 0 = omega arith in
        absurd (omega (arith, sym (p.place_range i) ∙ ap place zero_is ∙ p.size_stays)))
        (lt_or_ge 0 (range i))

    below : (i : ℕ) → i < 2 * 2 ^ h → range i < 2 * 2 ^ h
    below i high =
        ⊎_elim (λ (l : range i < 2 * 2 ^ h). l)
        (λ (far : 2 * 2 ^ h ≤ range i). absurd (omega (arith, p.place_range i, p.unused_stay (range i) far)))
        (lt_or_ge (range i) (2 * 2 ^ h))

pub range_order : (h : ℕ) → Permutes h (range_at h) (count_place h)
range_order h = permutes_back h (count_place h) (range_at h) (count_order_lem h)

-- ---- a list in another order

module _ (f : ℕ → ℕ) (xs : List ℕ) where
  pub length_reorder : length (reorder f xs) ≡ length xs
  unfolding reorder
  length_reorder = length_tabulate (λ i. get_or xs (f i) 0) 0 (length xs)

  pub get_d_reorder : (i : ℕ) → i < length xs → get_or (reorder f xs) i 0 ≡ get_or xs (f i) 0
  unfolding reorder
  get_d_reorder i l = rw (zero-add i) at (get_d_tabulate (λ i. get_or xs (f i) 0) 0 (length xs) i 0 l)

  pub every_reorder : (P : ℕ → Type 0) → Every P xs → P 0 → Every P (reorder f xs)
  unfolding reorder
  every_reorder P p none = every_tabulate (λ i. get_or xs (f i) 0) P 0 (length xs) (λ i _ _. every_at P xs (f i) 0 p none)

  -- What stands at an index that stays is the same in both.
  pub reorder_stays : (i : ℕ) → f i ≡ i → get_or (reorder f xs) i 0 ≡ get_or xs i 0
  reorder_stays i stays =
      ⊎_elim
      (λ (l : i < length xs). get_d_reorder i l ∙ rw stays)
      (λ (g : length xs ≤ i). get_or-eq_default (reorder f xs) 0 (rw length_reorder g) ∙ sym (get_or-eq_default xs 0 g))
      (lt_or_ge i (length xs))

-- The other order undoes an order, where the list has all ranges.
module _ (h : ℕ) (f g : ℕ → ℕ) (p : Permutes h f g) (xs : List ℕ) (fits : 2 * 2 ^ h ≤ length xs) where
  inside : (i : ℕ) → i < length xs → f i < length xs
  inside zero l = rw p.size_stays l
  inside (suc i) l =
      ⊎_elim
      (λ (low : suc i < 2 * 2 ^ h). omega (arith, (p.ranges_stay (suc i) (omega arith) low).1))
      (λ (high : 2 * 2 ^ h ≤ suc i). rw (p.unused_stay (suc i) high) l)
      (lt_or_ge (suc i) (2 * 2 ^ h))

  pub reorder_back : reorder f (reorder g xs) ≡ xs
  reorder_back =
      ext_get_or 0 (reorder f (reorder g xs)) xs (length_reorder f (reorder g xs) ∙ length_reorder g xs)
      (λ i l.
      let m : i < length xs = rw (length_reorder f (reorder g xs), length_reorder g xs) at l in
      get_d_reorder f (reorder g xs) i (rw (length_reorder g xs) m) ∙ get_d_reorder g xs (f i) (inside i m) ∙ rw (p.range_place i))

-- ---- the counts in the order of the store, and by range number

module _ (h : ℕ) (xs : List ℕ) where
  pub length_count_order : length (count_order h xs) ≡ length xs
  unfolding count_order
  length_count_order = length_reorder (range_at h) xs

  pub length_number_order : length (number_order h xs) ≡ length xs
  unfolding number_order
  length_number_order = length_reorder (count_place h) xs

  pub get_d_count_order : (i : ℕ) → i < length xs → get_or (count_order h xs) i 0 ≡ get_or xs (range_at h i) 0
  unfolding count_order
  get_d_count_order = get_d_reorder (range_at h) xs

  pub get_d_number_order : (k : ℕ) → k < length xs → get_or (number_order h xs) k 0 ≡ get_or xs (count_place h k) 0
  unfolding number_order
  get_d_number_order = get_d_reorder (count_place h) xs

  -- The size parameter and the count of the root keep their places, and so do the numbers that are not in use.
  pub count_order_size : get_or (count_order h xs) 0 0 ≡ get_or xs 0 0
  unfolding count_order
  count_order_size = reorder_stays (range_at h) xs 0 (range_order h).size_stays

  pub number_order_size : get_or (number_order h xs) 0 0 ≡ get_or xs 0 0
  unfolding number_order
  number_order_size = reorder_stays (count_place h) xs 0 (count_order_lem h).size_stays

  pub count_order_root : get_or (count_order h xs) 1 0 ≡ get_or xs 1 0
  unfolding count_order
  count_order_root = reorder_stays (range_at h) xs 1 (range_order h).root_stays

  pub number_order_root : get_or (number_order h xs) 1 0 ≡ get_or xs 1 0
  unfolding number_order
  number_order_root = reorder_stays (count_place h) xs 1 (count_order_lem h).root_stays

  pub count_order_unused : (i : ℕ) → 2 * 2 ^ h ≤ i → get_or (count_order h xs) i 0 ≡ get_or xs i 0
  unfolding count_order
  count_order_unused i far = reorder_stays (range_at h) xs i ((range_order h).unused_stay i far)

  pub number_order_unused : (i : ℕ) → 2 * 2 ^ h ≤ i → get_or (number_order h xs) i 0 ≡ get_or xs i 0
  unfolding number_order
  number_order_unused i far = reorder_stays (count_place h) xs i ((count_order_lem h).unused_stay i far)

  pub every_count_order : (P : ℕ → Type 0) → Every P xs → P 0 → Every P (count_order h xs)
  unfolding count_order
  every_count_order = every_reorder (range_at h) xs

  pub every_number_order : (P : ℕ → Type 0) → Every P xs → P 0 → Every P (number_order h xs)
  unfolding number_order
  every_number_order = every_reorder (count_place h) xs

  -- Each order undoes the other, where the list has all ranges.
  pub number_count : 2 * 2 ^ h ≤ length xs → number_order h (count_order h xs) ≡ xs
  unfolding count_order number_order
  number_count = reorder_back h (count_place h) (range_at h) (count_order_lem h) xs

  pub count_number : 2 * 2 ^ h ≤ length xs → count_order h (number_order h xs) ≡ xs
  unfolding count_order number_order
  count_number = reorder_back h (range_at h) (count_place h) (range_order h) xs
