-- The numbers written row by row: the loop that writes a row, the rows from the leaves up, and the end.
use Rattle.std.specs.Prelude.{◌≡◌, refl, List, ◌⊎◌, ◌≢◌, ℕ, zero, suc, ◌+◌, ◌-◌, ◌*◌, ◌/◌, ◌^◌, ◌≤◌, ◌<◌, length, get_or, set}
use Rattle.std.proofs.Common.{sym, ap, ◌∙◌, inl, inr, ⊎_elim, div-one, eq-or-lt_of_le, sub-add_cancel, add-one, arith, length-set, ext_get_or, get_or-set_same, get_or-set_other}
use Rattle.std.proofs.Math.Nat.{div-div-eq-div-mul, pow-succ', zero-div}
use Rattle.base.specs.CaseLaws.{lt_or_ge}
use Rattle.store_order.specs.CountOrder.{count_place, range_at, count_order}
use Rattle.store_order.proofs.CountOrderLaws.{count_order_lem, length_count_order, get_d_count_order}
use Rattle.store_rows.specs.Above.{Above, PlacedBut}
use Rattle.store_rows.specs.Row.{Row, RowsLeft, RowWritten}

-- ---- the loop that writes a row

-- Two ranges have two places.
places_apart : (h j k : ℕ) → j ≢ k → count_place h j ≢ count_place h k
places_apart h j k d e = d (sym ((count_order_lem h).range_place j) ∙ ap (range_at h) e ∙ (count_order_lem h).range_place k)

module _ {h first : ℕ} {numbers old : List ℕ} where
  pub none_written : RowWritten h first first numbers old old
  none_written = record { inside = λ k l m. absurd (omega arith); front = λ k l. refl; behind = λ k l. refl; kept = refl }

  pub next_written : {k place : ℕ} {new : List ℕ} → RowWritten h first k numbers old new → first ≤ k → place ≡ count_place h k → place < length new
      → RowWritten h first (k + 1) numbers old (set new place (get_or numbers k 0))
  next_written {k} {place} {new} w from is room =
      let number = get_or numbers k 0 in
      let other : (j : ℕ) → j ≢ k → get_or (set new place number) (count_place h j) 0 ≡ get_or new (count_place h j) 0
      = λ j d. get_or-set_other new place (count_place h j) number 0 (λ e. places_apart h j k d (e ∙ is)) in
      record {
        inside = λ j l m.
            ⊎_elim (λ (e : j ≡ k). rw (e, ← is) (get_or-set_same new place number 0 room))
            (λ (n : j < k). other j (λ e. omega arith) ∙ w.inside j l n)
            (eq-or-lt_of_le (omega arith));
        front = λ j l. other j (λ e. omega arith) ∙ w.front j l;
        behind = λ j l. other j (λ e. omega arith) ∙ w.behind j (omega arith);
        kept = length-set new place number ∙ w.kept;
      }

-- ---- the rows

-- A range above some is one of them, or above one of the ranges right above them.
above_row : {first last k : ℕ} → Above first last k → ((first ≤ k) × (k ≤ last)) ⊎ Above (first / 2) (last / 2) k
above_row {first} {last} {k} a = by a.levels a.from a.to
  where
    up : (n j : ℕ) → n / 2 ^ suc j ≡ n / 2 / 2 ^ j
    up n j = ap (λ (x : ℕ). n / x) (pow-succ' 2 j) ∙ sym (div-div-eq-div-mul n 2 (2 ^ j))

    by : (j : ℕ) → first / 2 ^ j ≤ k → k ≤ last / 2 ^ j → ((first ≤ k) × (k ≤ last)) ⊎ Above (first / 2) (last / 2) k
    by zero from to = inl (rw div-one at from, rw div-one at to)
    by (suc j) from to = inr record { levels = j; some = a.some; from = rw (up first j) at from; to = rw (up last j) at to }

module _ {h first last : ℕ} {numbers old : List ℕ} (but : PlacedBut h first last numbers old) where
  -- With the row itself written, only those above it are left.
  pub placed_up : {new : List ℕ} → RowWritten h first (last + 1) numbers old new → PlacedBut h (first / 2) (last / 2) numbers new
  placed_up {new} w =
      let outside : (k : ℕ) → ¬ Above (first / 2) (last / 2) k → ¬ ((first ≤ k) × (k ≤ last)) → get_or old (count_place h k) 0 ≡ get_or numbers k 0
      = λ k higher here. but.others k (λ a. ⊎_elim here higher (above_row a)) in
      record {
        lengths = w.kept ∙ but.lengths;
        others = λ k higher.
            ⊎_elim (λ (front : k < first). w.front k front ∙ outside k higher (λ r. omega (arith, r.0)))
            (λ (from : first ≤ k).
            ⊎_elim (λ (inside : k < last + 1). w.inside k from inside)
            (λ (behind : last + 1 ≤ k). w.behind k behind ∙ outside k higher (λ r. omega (arith, r.1)))
            (lt_or_ge k (last + 1)))
            (lt_or_ge k first);
      }

  -- With no range left, all numbers stand at their places.
  pub placed_all : last ≡ 0 → old ≡ count_order h numbers
  placed_all none =
      ext_get_or 0 old (count_order h numbers) (but.lengths ∙ sym (length_count_order h numbers))
      (λ i l.
      ap (λ (p : ℕ). get_or old p 0) (sym ((count_order_lem h).place_range i))
      ∙ but.others (range_at h i) (λ a. omega (arith, a.some, rw (none, zero-div) at a.to))
      ∙ sym (get_d_count_order h numbers i (rw but.lengths at l)))

-- ---- the rows that are left

pub rows_whole : {h first last : ℕ} → Row h first last → RowsLeft (h + 1) first last
rows_whole {h} w =
    let double : 2 ^ (h + 1) ≡ 2 * 2 ^ h = rw (add-one h) (pow-succ' 2 h) in
    record { from = omega (arith, double, w.from); order = w.order; before = omega (arith, double, w.before) }

module _ {rows first last : ℕ} (w : RowsLeft rows first last) where
  -- The lowest of them, and those above it.
  module _ (some : 0 < rows) where
    double : 2 ^ rows ≡ 2 * 2 ^ (rows - 1)
    double = ap (λ (n : ℕ). 2 ^ n) (sym (sub-add_cancel some) ∙ add-one (rows - 1)) ∙ pow-succ' 2 (rows - 1)

    pub rows_lowest : Row (rows - 1) first last
    rows_lowest = record { from = omega (arith, double, w.from); order = w.order; before = omega (arith, double, w.before) }

    pub rows_above : RowsLeft (rows - 1) (first / 2) (last / 2)
    rows_above = record {
      from = omega (arith, rows_lowest.from);
      order = omega (arith, w.order);
      before = omega (arith, rows_lowest.before);
    }

  pub rows_none : rows ≡ 0 → last ≡ 0
  rows_none none = omega (arith, rw none at w.before)
