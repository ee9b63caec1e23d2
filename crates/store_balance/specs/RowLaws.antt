-- The rows of the third slice: their lengths, what stands at each number, and the loops that write them.
use Rattle.std.specs.Prelude.{◌≡◌, List, ◌++◌, length, take, drop, set, replicate}
use Rattle.std.proofs.Math.Path.{refl, ap}
use Rattle.std.proofs.Common.{sym, ◌∙◌, not-suc-le-zero, le_of_suc-le-suc, eq-or-lt_of_le, pow_mono, take_all, take_at}
use Rattle.std.proofs.Math.Logic.{⊎_elim}
use Prim.Native.Nat.{ℕ, zero, suc, ◌+◌, ◌-◌, ◌*◌, ◌^◌, ◌≤◌, ◌<◌}
use Rattle.std.proofs.Math.Nat.{pow-succ', mul-le-mul_left}
use native.Mathlib.Omega.{arith}
use Rattle.std.proofs.Math.ListN.{get_or, length-append, get_or-append}
use Rattle.std.proofs.Math.Pow.{pow_pos, pow-add}
use Rattle.std.proofs.Math.Seq.{get_or-append-add, drop-append-add}
use Rattle.base.specs.ListLaws.{length_tabulate, get_d_tabulate, drop_replicate}
use Rattle.tree_sizes.specs.Sizes.{height, leaf_slots, slots}
use Rattle.tree_sizes.proofs.SizeLaws.{slots_le}
use Rattle.store_layout.specs.Layout.{pad_to}
use Rattle.store_slices.specs.Pasted.{Pasted}
use Rattle.store_slices.specs.PastedLaws.{pasted_next, pasted_is}
use Rattle.store_balance.specs.BalanceIn.{first_from, right_firsts, rows_to, balance_in}
use Rattle.store_balance.specs.Rows.{Rows}

-- ---- one row

module _ (slots : List ℕ) (half ranges : ℕ) where
  pub length_row : length (right_firsts slots half ranges) ≡ ranges
  unfolding right_firsts
  length_row = length_tabulate (λ i. first_from slots ((2 * i + 1) * half)) 0 ranges

  pub row_at : (i : ℕ) → i < ranges → get_or (right_firsts slots half ranges) i 0 ≡ first_from slots ((2 * i + 1) * half)
  unfolding right_firsts
  row_at i h =
      let e : 0 + i ≡ i = omega arith in
      get_d_tabulate (λ i. first_from slots ((2 * i + 1) * half)) 0 ranges i 0 h ∙ rw e

  module _ {old new : List ℕ} (i : ℕ) where
    -- The first i words of a row are written; then the next one too.
    pub row_next : Pasted old ranges (right_firsts slots half ranges) i new → 2 * ranges ≤ length old → i < ranges → (at : ℕ) → at ≡ (2 * i + 1) * half
        → Pasted old ranges (right_firsts slots half ranges) (i + 1) (set new (ranges + i) (first_from slots at))
    row_next w room more at is =
        rw is (pasted_next w (ranges + i) (first_from slots ((2 * i + 1) * half)) refl (omega arith) (omega (arith, length_row)) (sym (row_at i more)))

    pub row_all : Pasted old ranges (right_firsts slots half ranges) i new → i ≡ ranges
        → new ≡ take ranges old ++ right_firsts slots half ranges ++ drop (2 * ranges) old
    row_all w all =
        pasted_is w (2 * ranges) (omega arith)
        ∙ rw (all, take_all ranges (right_firsts slots half ranges) (omega (arith, length_row)))

-- ---- all rows

-- A list put behind another one, where this is followed by zeros up to `room` words.
pad_write : (room : ℕ) (xs ys : List ℕ) (i j : ℕ) → length xs ≡ i → length xs + length ys ≡ j
    → take i (pad_to room xs) ++ ys ++ drop j (pad_to room xs) ≡ pad_to room (xs ++ ys)
unfolding pad_to
pad_write room xs ys i j front both =
    let left : room - length xs - length ys ≡ room - length (xs ++ ys) = omega (arith, length-append xs ys) in
    rw (
      ← both,
      take_at xs (replicate (room - length xs) 0) i front,
      drop-append-add xs (replicate (room - length xs) 0) (length ys),
      drop_replicate {A = ℕ} 0 (length ys) (room - length xs),
      left,
    )

module _ (h s : ℕ) (slots : List ℕ) where
  -- The row at depth d.
  abbrev row : ℕ → List ℕ
  row d = right_firsts slots (s * 2 ^ (h - d - 1)) (2 ^ d)

  pub length_rows : (depth : ℕ) → length (rows_to h s slots depth) ≡ 2 ^ depth
  unfolding rows_to
  length_rows zero = refl
  length_rows (suc d) =
      length-append (rows_to h s slots d) (row d)
      ∙ rw (length_rows d, length_row slots (s * 2 ^ (h - d - 1)) (2 ^ d), pow-succ' 2 d) (omega arith)

  pub rows_zero : (depth : ℕ) → get_or (rows_to h s slots depth) 0 0 ≡ 0
  unfolding rows_to
  rows_zero zero = refl
  rows_zero (suc d) = get_or-append (rows_to h s slots d) (row d) 0 0 (omega (arith, length_rows d, pow_pos d)) ∙ rows_zero d

  pub rows_at : (depth d i : ℕ) → d < depth → i < 2 ^ d
      → get_or (rows_to h s slots depth) (2 ^ d + i) 0 ≡ first_from slots ((2 * i + 1) * (s * 2 ^ (h - d - 1)))
  unfolding rows_to
  rows_at zero d i less inside = absurd (not-suc-le-zero less)
  rows_at (suc n) d i less inside =
      ⊎_elim
      (λ (last : d ≡ n).
      rw (← last)
      (ap (λ (n : ℕ). get_or (rows_to h s slots d ++ row d) (n + i) 0) (sym (length_rows d))
      ∙ get_or-append-add (rows_to h s slots d) (row d) i 0
      ∙ row_at slots (s * 2 ^ (h - d - 1)) (2 ^ d) i inside))
      (λ (above : d < n).
      get_or-append (rows_to h s slots n) (row n) 0 (2 ^ d + i) (omega (arith, length_rows n, rw (pow-succ' 2 d) at (pow_mono above)))
      ∙ rows_at n d i above inside)
      (eq-or-lt_of_le (le_of_suc-le-suc less))

-- ---- the loop that writes the rows

-- Words that are all set to 0 are those before the first row.
pub rows_none : (h s room : ℕ) (list new : List ℕ) → 0 < room → new ≡ replicate room 0 → length new ≡ room → Rows h s list room h 1 new
unfolding pad_to rows_to
rows_none h s room list new pos zeroed kept =
    let none : h - h ≡ 0 = omega arith in
    let all : room ≡ suc (room - 1) = omega arith in record {
      within = omega arith;
      number = rw none;
      is = zeroed ∙ ap (λ (n : ℕ). replicate n 0) all ∙ rw none;
      kept = kept;
    }

module _ {h s : ℕ} {slots : List ℕ} {room levels ranges : ℕ} {words : List ℕ} (w : Rows h s slots room levels ranges words) where
  pub rows_all : (M : ℕ) → h ≡ height M → s ≡ leaf_slots M → levels ≡ 0 → words ≡ balance_in M room slots
  unfolding balance_in
  rows_all M depth leaf end = let all : h - levels ≡ h = omega arith in w.is ∙ rw (all, depth, leaf)

  module _ (pos : 0 < levels) where
    pub row_room : 2 ^ h ≤ room → 2 * ranges ≤ length words
    row_room fits =
        let less : suc (h - levels) ≤ h = omega (arith, w.within) in
        omega (arith, w.number, w.kept, rw (pow-succ' 2 (h - levels)) at (pow_mono less))

    module _ {leaves : ℕ} (half : leaves ≡ 2 ^ (levels - 1)) where
      -- No slot with which a right half of the row begins has a number that is too large for the code.
      pub row_small : (M : ℕ) → M < 2 ^ 32 → h ≡ height M → s ≡ leaf_slots M → (2 * ranges + 1) * (s * leaves) < 2 ^ 62
      unfolding slots
      row_small M most depth leaf =
          let levels_are : h ≡ suc (h - levels) + (levels - 1) = omega (arith, w.within) in
          let whole : 2 ^ h ≡ 2 * ranges * leaves
          = ap (λ (n : ℕ). 2 ^ n) levels_are ∙ pow-add 2 (suc (h - levels)) (levels - 1) ∙ rw (pow-succ' 2 (h - levels), w.number, half) in
          let less : levels - 1 ≤ h = omega (arith, w.within) in
          let few : leaves ≤ 2 ^ h = rw half (pow_mono less) in
          let all : s * 2 ^ h ≤ 3 * M = rw (depth, leaf) (slots_le M) in
          omega (arith, ap (λ (n : ℕ). s * n) whole, mul-le-mul_left s few)

      -- One row more.
      pub rows_next : {new : List ℕ} → new ≡ take ranges words ++ right_firsts slots (s * leaves) ranges ++ drop (2 * ranges) words
          → length new ≡ length words → Rows h s slots room (levels - 1) (2 * ranges) new
      unfolding rows_to
      rows_next written kept =
          let d = h - levels in
          let next : h - (levels - 1) ≡ suc d = omega (arith, w.within) in
          let below : levels - 1 ≡ h - d - 1 = omega (arith, w.within) in record {
            within = omega (arith, w.within);
            number = rw (next, pow-succ' 2 d, w.number);
            is =
                written
                ∙ rw (next, w.is, half, w.number, below)
                (pad_write room (rows_to h s slots d) (row h s slots d) (2 ^ d) (2 * 2 ^ d) (length_rows h s slots d)
                (omega (arith, length_rows h s slots d, length_row slots (s * 2 ^ (h - d - 1)) (2 ^ d))));
            kept = kept ∙ w.kept;
          }
