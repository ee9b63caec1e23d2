-- The third slice brought up to date leaf by leaf: the start, the next leaf, and the end.
use Rattle.std.specs.Prelude.{◌≡◌, List, ◌≢◌, ℕ, zero, suc, ◌+◌, ◌-◌, ◌*◌, ◌^◌, ◌≤◌, ◌<◌, max, length, get_or, set}
use Rattle.std.proofs.Common.{sym, ◌∙◌, ⊎_elim, mul-le-mul_left, arith, ext_get_or, get_or-set_same, get_or-set_other}
use Rattle.base.specs.CaseLaws.{eq_or_ne, lt_or_ge}
use Rattle.tree_sizes.specs.Sizes.{height, leaf_slots, slots}
use Rattle.tree_sizes.proofs.SizeLaws.{slots_le}
use Rattle.store_balance.specs.BalanceIn.{balance_in}
use Rattle.store_balance.specs.BalanceInLaws.{length_balance_in, balance_in_zero, balance_in_unused}
use Rattle.store_balance_part.specs.Update.{RightFrom, entry_from, EntriesBut, BalanceBut}
use Rattle.store_balance_part.specs.RightLaws.{range_only, leaf_only, right_above, right_some, right_leaf, balance_in_leaf}

module _ {h s : ℕ} {slots : List ℕ} {first end : ℕ} {words : List ℕ} (w : EntriesBut h s slots first end words) where
  -- No right half begins with the first leaf of the sheet.
  pub but_start : {from : ℕ} → from ≡ max first (2 ^ h + 1) → EntriesBut h s slots from end words
  but_start is = record {
    zero = w.zero;
    left = λ k leaf r l. w.left k leaf r (omega (arith, is, r.after));
    right = w.right;
    unused = w.unused;
  }

  -- The word of the next leaf is written.
  module _ {k : ℕ} (here : RightFrom h k first) (room : 2 ^ h ≤ length words) {x : ℕ} (is : x ≡ entry_from h s slots first) where
    word_at : (j leaf : ℕ) → RightFrom h j leaf → (leaf ≢ first → get_or words j 0 ≡ entry_from h s slots leaf)
        → get_or (set words k x) j 0 ≡ entry_from h s slots leaf
    word_at j leaf r other =
        ⊎_elim
        (λ (e : j ≡ k).
        rw (e, leaf_only (rw e at r) here) (get_or-set_same words k x 0 (omega (arith, right_above here)) ∙ is))
        (λ (n : j ≢ k). get_or-set_other words k j x 0 n ∙ other (λ e. n (range_only (rw e at r) here)))
        (eq_or_ne j k)

    pub but_next : EntriesBut h s slots (first + 1) end (set words k x)
    but_next = record {
      zero = get_or-set_other words k 0 x 0 (λ e. omega (arith, right_some here)) ∙ w.zero;
      left = λ j leaf r l. word_at j leaf r (λ n. w.left j leaf r (omega arith));
      right = λ j leaf r l. word_at j leaf r (λ n. w.right j leaf r l);
      unused = λ j l. get_or-set_other words k j x 0 (λ e. omega (arith, right_above here)) ∙ w.unused j l;
    }

-- No slot with which a leaf begins has a number that is too large for the code.
pub leaf_small : (M : ℕ) → M < 2 ^ 32 → {s leaves leaf : ℕ} → s ≡ leaf_slots M → leaves ≡ 2 ^ height M → leaf < 2 * 2 ^ height M
    → s * (leaf - leaves) < 2 ^ 62
unfolding slots
leaf_small M most {s} {leaves} {leaf} size number inside =
    let few : leaf - leaves ≤ 2 ^ height M = omega arith in
    rw size (omega (arith, slots_le M, mul-le-mul_left (leaf_slots M) few))

-- With no leaf left the words are the third slice.
pub but_none : (M room : ℕ) {slots : List ℕ} {first end : ℕ} {words : List ℕ} → BalanceBut M slots first end words → end ≤ first
    → length words ≡ room → 2 ^ height M ≤ room → words ≡ balance_in M room slots
but_none M room {slots} {first} {end} {words} w none size fits =
    ext_get_or 0 words (balance_in M room slots) (size ∙ sym (length_balance_in M room slots fits)) (λ k h. at k)
  where
    at : (k : ℕ) → get_or words k 0 ≡ get_or (balance_in M room slots) k 0
    at zero = w.zero ∙ sym (balance_in_zero M room slots)
    at (suc k) =
        ⊎_elim
        (λ (less : suc k < 2 ^ height M).
        let leaf = right_leaf (height M) (suc k) (omega arith) less in
        ⊎_elim
        (λ (before : leaf.0 < first). w.left (suc k) leaf.0 leaf.1 before)
        (λ (behind : first ≤ leaf.0). w.right (suc k) leaf.0 leaf.1 (omega arith))
        (lt_or_ge leaf.0 first)
        ∙ sym (balance_in_leaf M room slots leaf.1))
        (λ (behind : 2 ^ height M ≤ suc k). w.unused (suc k) behind ∙ sym (balance_in_unused M room slots (suc k) behind))
        (lt_or_ge (suc k) (2 ^ height M))
