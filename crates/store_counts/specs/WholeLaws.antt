-- The counts of a whole store read and written: what is no range's, then the tree, by the order of its ranges or by the table.
use Rattle.std.specs.Prelude.{◌≡◌, List, ℕ, ◌+◌, ◌*◌, ◌^◌, ◌≤◌, ◌<◌, length, get_or}
use Rattle.std.proofs.Common.{◌∙◌, ⊎_elim, pow-suc, add-one, arith, pow_mono}
use Rattle.base.specs.CaseLaws.{lt_or_ge}
use Rattle.store_order.specs.TreeOrder.{tree_order}
use Rattle.store_order.specs.Copied.{put_to, put_from, RestCopied}
use Rattle.store_order.specs.CountOrder.{count_place, count_order, number_order}
use Rattle.store_order.specs.Places.{places_from}
use Rattle.store_order.proofs.CountOrderLaws.{place_low}
use Rattle.store_order.specs.PlacesLaws.{get_d_places}
use Rattle.store_order.proofs.ListedLaws.{put_numbers, put_places, table_numbers, table_places}
use Rattle.store_order.specs.TreeReady.{TreeReady}

-- An entry of the table is a place, and so it is inside.
module _ {places : List ℕ} (table : places ≡ places_from 7 1 255) (i : ℕ) (l : i < 255) where
  pub table_entry : get_or places i 0 ≡ count_place 7 (1 + i)
  table_entry = rw table (get_d_places 7 1 255 i l)

  pub table_inside : get_or places i 0 < 256
  table_inside = rw table_entry (place_low 7 (1 + i) (omega arith))

module _ (h : ℕ) where
  pub double : 2 ^ (h + 1) ≡ 2 * 2 ^ h
  double = rw (add-one h) (pow-suc 2 h ∙ omega arith)

  -- A tree that has its places in a slice has fewer than 64 levels.
  pub levels_below : {n : ℕ} → 2 * 2 ^ h ≤ n → n < 2 ^ 64 → h + 1 < 64
  levels_below room most =
      ⊎_elim (λ (l : h + 1 < 64). l)
      (λ (g : 64 ≤ h + 1). absurd (omega (arith, pow_mono {i = 64} {j = h + 1} g, double, room, most)))
      (lt_or_ge (h + 1) 64)

  pub whole_ready : {counts work : ℕ} → 2 * 2 ^ h ≤ counts → work ≡ counts → counts < 2 ^ 64 → TreeReady (h + 1) 1 1 counts work
  whole_ready room same most = record {
    some_level = omega arith;
    levels_fit = levels_below room most;
    places = omega (arith, double, room);
    ranges = omega (arith, double, room, same);
  }

  module _ {start : ℕ} {xs to : List ℕ} (from : start ≡ 2 ^ (h + 1)) (c : RestCopied start (length xs) xs to) where
    rest : RestCopied (2 * 2 ^ h) (length xs) xs to
    rest = rw (from, double) at c

    pub numbers_read : {new : List ℕ} → new ≡ put_to 1 (tree_order (h + 1) 1) xs to → new ≡ number_order h xs
    numbers_read e = e ∙ rw (add-one h) (put_numbers h xs to rest)

    pub places_written : {new : List ℕ} → new ≡ put_from 1 (tree_order (h + 1) 1) xs to → new ≡ count_order h xs
    places_written e = e ∙ rw (add-one h) (put_places h xs to rest)

    -- With eight levels, by the table.
    pub table_read : {new : List ℕ} → h + 1 ≡ 8 → new ≡ put_from 1 (places_from 7 1 255) xs to → new ≡ number_order h xs
    table_read eight e =
        let seven : h ≡ 7 = omega (arith, eight) in
        e ∙ rw seven (table_numbers 7 xs to (rw seven at rest))

    pub table_written : {new : List ℕ} → h + 1 ≡ 8 → new ≡ put_to 1 (places_from 7 1 255) xs to → new ≡ count_order h xs
    table_written eight e =
        let seven : h ≡ 7 = omega (arith, eight) in
        e ∙ rw seven (table_places 7 xs to (rw seven at rest))
