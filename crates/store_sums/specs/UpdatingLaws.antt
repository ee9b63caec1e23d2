-- The numbers brought up to date: the loops that fill a row, the rows from the leaves up, and the end.
use Rattle.std.specs.Prelude.{◌≡◌, refl, List, ◌≢◌, ℕ, suc, ◌+◌, ◌-◌, ◌*◌, ◌/◌, ◌^◌, ◌≤◌, ◌<◌, length, get_or, set}
use Rattle.std.proofs.Math.Path.{sym, ap₂}
use Rattle.std.proofs.Common.{◌∙◌, ⊎_elim, mul-le-mul_right, eq-or-lt_of_le, arith, length-set, pow_mono, pow_pos, get_or-set_same, get_or-set_other}
use Rattle.std.proofs.Math.Nat.{pow-succ'}
use Rattle.base.specs.CaseLaws.{lt_or_ge, eq_or_ne}
use Rattle.tree_sizes.specs.Sizes.{height}
use Rattle.tree_sizes.proofs.SizeLaws.{below_power, slots_le}
use Rattle.store_sums.specs.Range.{IsRange}
use Rattle.store_sums.specs.Numbers.{Additive, number_at, NumbersBut, NumbersIn}
use Rattle.store_sums.specs.SumLaws.{row_twice, range_left, range_right, range_small, number_halves}
use Rattle.store_sums.specs.Updating.{Agrees, Filled, halves_sum, Updating}

-- ---- the loop that tests words

module _ (f : ℕ → ℕ) (first : ℕ) (words : List ℕ) where
  pub agrees_none : Agrees f first first words
  agrees_none k l m = absurd (omega arith)

  pub agrees_next : (k : ℕ) → Agrees f first k words → get_or words k 0 ≡ f k → Agrees f first (k + 1) words
  agrees_next k w is j l m = ⊎_elim (λ (e : j ≡ k). rw e is) (λ (n : j < k). w j l n) (eq-or-lt_of_le (omega arith))

-- ---- the loop that fills a row

pub filled_none : {f : ℕ → ℕ} {first : ℕ} {words : List ℕ} → Filled f first first words words
filled_none = record { inside = λ k l m. absurd (omega arith); front = λ k l. refl; behind = λ k l. refl; kept = refl }

pub filled_next : {f : ℕ → ℕ} {first k : ℕ} {old new : List ℕ} → Filled f first k old new → first ≤ k → k < length old → (x : ℕ) → x ≡ f k
    → Filled f first (k + 1) old (set new k x)
filled_next {f} {first} {k} {old} {new} w start room x is = record {
  inside = λ j l m.
      ⊎_elim (λ (e : j ≡ k). rw e (get_or-set_same new k x 0 (omega (arith, w.kept)) ∙ is))
      (λ (n : j < k). get_or-set_other new k j x 0 (λ e. omega arith) ∙ w.inside j l n)
      (eq-or-lt_of_le (omega arith));
  front = λ j l. get_or-set_other new k j x 0 (λ e. omega arith) ∙ w.front j l;
  behind = λ j l. get_or-set_other new k j x 0 (λ e. omega arith) ∙ w.behind j (omega arith);
  kept = length-set new k x ∙ w.kept;
}

-- By another function with the same values.
pub filled_by : {f g : ℕ → ℕ} {first end : ℕ} {old new : List ℕ} → ((k : ℕ) → f k ≡ g k) → Filled f first end old new → Filled g first end old new
filled_by same w = record { inside = λ k l m. w.inside k l m ∙ same k; front = w.front; behind = w.behind; kept = w.kept }

-- ---- rows

-- Rows that are not the same have no number in common: the row with `high` levels above the leaves comes first.
module _ {M low high j k : ℕ} (l : low < high) (w : IsRange M high j) (v : IsRange M low k) where
  rows_apart : j < k
  rows_apart =
      let less : suc (height M - high) ≤ height M - low = omega (arith, w.inside) in
      omega (arith, w.before, v.from, rw (pow-succ' 2 (height M - high)) at (pow_mono less))

-- Fewer ranges are known to be right.
but_fewer : {measure : List ℕ → ℕ} {start M : ℕ} {slots words : List ℕ} {a b c d : ℕ} → NumbersBut measure start M slots a b words → c ≤ a → b ≤ d → NumbersBut measure start M slots c d words
but_fewer w left right = record {
  zero = w.zero;
  left = λ l k r h. w.left l k r (omega arith);
  right = λ l k r h. w.right l k r (omega arith);
  unused = w.unused;
}

-- The rows below this one are right, and this one is filled from `first` to `last`.
module _ {measure : List ℕ → ℕ} {start M : ℕ} {slots old new : List ℕ} {levels first last : ℕ} {f : ℕ → ℕ} (from : IsRange M levels first) (to : IsRange M levels last)
    (order : first ≤ last) (lower : (l k : ℕ) → l < levels → IsRange M l k → get_or old k 0 ≡ number_at measure M slots l k)
    (but : NumbersBut measure start M slots (first * 2 ^ levels) ((last + 1) * 2 ^ levels) old) (w : Filled f first (last + 1) old new)
    (right : (k : ℕ) → IsRange M levels k → f k ≡ number_at measure M slots levels k) where
  -- In the other rows nothing is written.
  other_row : (l k : ℕ) → IsRange M l k → l ≢ levels → get_or new k 0 ≡ get_or old k 0
  other_row l k v other =
      ⊎_elim (λ (less : l < levels). w.behind k (omega (arith, rows_apart less to v)))
      (λ (more : levels ≤ l). let above : levels < l = omega arith in w.front k (rows_apart above v from))
      (lt_or_ge l levels)

  this_row : (k : ℕ) → IsRange M levels k → get_or new k 0 ≡ number_at measure M slots levels k
  this_row k v =
      ⊎_elim (λ (front : k < first). w.front k front ∙ but.left levels k v (mul-le-mul_right (2 ^ levels) (omega arith)))
      (λ (inside : first ≤ k).
      ⊎_elim (λ (less : k < last + 1). w.inside k inside less ∙ right k v)
      (λ (behind : last + 1 ≤ k). w.behind k behind ∙ but.right levels k v (mul-le-mul_right (2 ^ levels) behind))
      (lt_or_ge k (last + 1)))
      (lt_or_ge k first)

  any_row : (l k : ℕ) → IsRange M l k → (l ≢ levels → get_or old k 0 ≡ number_at measure M slots l k) → get_or new k 0 ≡ number_at measure M slots l k
  any_row l k v other =
      ⊎_elim (λ (e : l ≡ levels). rw e (this_row k (rw e at v))) (λ (n : l ≢ levels). other_row l k v n ∙ other n) (eq_or_ne l levels)

  row_filled : Updating measure start M slots levels first last new
  row_filled = record {
    from = from;
    to = to;
    order = order;
    rows = λ l k h v. any_row l k v (λ n. lower l k (omega arith) v);
    others = record {
      zero = w.front 0 (omega (arith, from.from, pow_pos (height M - levels))) ∙ but.zero;
      left = λ l k v h. any_row l k v (λ n. but.left l k v h);
      right = λ l k v h. any_row l k v (λ n. but.right l k v h);
      unused = λ k h.
          let few : height M - levels ≤ height M = omega arith in w.behind k (omega (arith, to.before, pow_mono few)) ∙ but.unused k h;
    };
  }

-- ---- from the leaves up

module _ {measure : List ℕ → ℕ} {start M : ℕ} {slots : List ℕ} where
  -- The leaves are counted.
  pub updating_leaves : {first last : ℕ} {old new : List ℕ} → 2 ^ height M ≤ first → first ≤ last → last < 2 * 2 ^ height M
      → NumbersBut measure start M slots first (last + 1) old → Filled (number_at measure M slots 0) first (last + 1) old new → Updating measure start M slots 0 first last new
  updating_leaves {first} {last} start order before but w =
      let none : height M - 0 ≡ height M = omega arith in
      row_filled record { inside = omega arith; from = rw none start; before = rw none (omega arith) }
      record { inside = omega arith; from = rw none (omega arith); before = rw none before }
      order (λ l k h v. absurd (omega arith)) (but_fewer but (omega arith) (omega arith)) w (λ k v. refl)

  module _ {levels first last : ℕ} {words : List ℕ} (w : Updating measure start M slots levels first last words) where
    -- At the root all ranges are right.
    pub updating_all : first ≤ 1 → NumbersIn measure start M slots words
    updating_all root =
        let top : height M - levels ≡ 0 = omega (arith, below_power (height M - levels), w.from.from) in record {
          zero = w.others.zero;
          ranges = λ l k v. w.rows l k (omega (arith, v.inside, w.from.inside)) v;
          unused = w.others.unused;
        }

    module _ (sums : Additive measure) (more : 1 < first) where
      -- There is a row above.
      above : levels < height M
      above =
          ⊎_elim
          (λ (top : levels ≡ height M). let none : height M - levels ≡ 0 = omega arith in absurd (omega (arith, rw none at w.from.before)))
          (λ (l : levels < height M). l)
          (eq-or-lt_of_le w.from.inside)

      up : (k : ℕ) → IsRange M levels k → IsRange M (suc levels) (k / 2)
      up k v =
          let twice = row_twice (height M) levels above in
          record { inside = above; from = omega (arith, twice, v.from); before = omega (arith, twice, v.before) }

      pub updating_room : 2 * (last / 2 + 1) ≤ 2 * 2 ^ height M
      updating_room = let few : height M - levels ≤ height M = omega arith in omega (arith, w.to.before, pow_mono few)

      halves_right : (k : ℕ) → IsRange M (suc levels) k → halves_sum words k ≡ number_at measure M slots (suc levels) k
      unfolding halves_sum
      halves_right k v =
          ap₂ (λ (x y : ℕ). x + y) (w.rows levels (2 * k) (omega arith) (range_left v)) (w.rows levels (2 * k + 1) (omega arith) (range_right v))
          ∙ sym (number_halves sums M slots levels k v)

      pub updating_small : M < 2 ^ 30 → (k : ℕ) → first / 2 ≤ k → k < last / 2 + 1 → halves_sum words k < 2 ^ 32
      updating_small most k from to =
          let v : IsRange M (suc levels) k = record {
            inside = above;
            from = omega (arith, (up first w.from).from);
            before = omega (arith, (up last w.to).before);
          } in
          omega (arith, halves_right k v, range_small sums M slots (suc levels) k v, slots_le M)

      pub updating_next : {new : List ℕ} → Filled (halves_sum words) (first / 2) (last / 2 + 1) words new
          → Updating measure start M slots (suc levels) (first / 2) (last / 2) new
      updating_next v =
          let low : first / 2 * 2 ≤ first = omega arith in
          let high : last + 1 ≤ (last / 2 + 1) * 2 = omega arith in
          row_filled (up first w.from) (up last w.to) (omega (arith, w.order)) (λ l k h r. w.rows l k (omega arith) r)
          (but_fewer w.others (rw (pow-succ' 2 levels) (omega (arith, mul-le-mul_right (2 ^ levels) low)))
          (rw (pow-succ' 2 levels) (omega (arith, mul-le-mul_right (2 ^ levels) high))))
          v halves_right
