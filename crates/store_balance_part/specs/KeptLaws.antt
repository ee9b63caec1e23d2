-- The third slice after a change of a part: it stays right but perhaps at the ranges whose right half begins with a leaf of the part.
use Rattle.std.specs.Prelude.{◌≡◌, ℕ, ◌+◌, ◌-◌, ◌*◌, ◌^◌, ◌≤◌, ◌<◌, length, take}
use Rattle.std.proofs.Common.{sym, ◌∙◌, take-append-drop, drop-drop}
use Rattle.std.proofs.Math.Path.{ap}
use mathlib.Core.List.{List}
use Rattle.std.proofs.Math.Nat.{mul-le-mul_left}
use native.Mathlib.Omega.{arith}
use Rattle.std.proofs.Math.ListN.{get_or, drop, get_or-append}
use Rattle.tree_sizes.specs.Sizes.{height, leaf_slots}
use Rattle.tree_counts.specs.declared.Part.{Part}
use Rattle.store_layout.specs.Leaf.{nonzero}
use Rattle.store_layout.proofs.LeafLaws.{nonzero_append}
use Rattle.store_sums.specs.KeptLaws.{part_before}
use Rattle.store_balance.specs.BalanceIn.{first_from, balance_in}
use Rattle.store_balance.specs.BalanceInLaws.{balance_in_zero, balance_in_unused}
use Rattle.store_part.specs.Plan.{part_from, part_length, first_leaf, last_leaf, PartIn}
use Rattle.store_part.specs.LeavesLaws.{first_slot, end_slot}
use Rattle.store_balance_part.specs.Update.{entry_from, HasEntry, BalanceBut}
use Rattle.store_balance_part.specs.RightLaws.{balance_in_leaf}

-- ---- the first entry from a slot on

-- It stands in the next s slots, where these have an entry.
first_near : (s from : ℕ) (slots : List ℕ) → 0 < length (nonzero (take s (drop from slots)))
    → first_from slots from ≡ get_or (nonzero (take s (drop from slots))) 0 0
unfolding first_from
first_near s from slots some =
    let near = take s (drop from slots) in
    let far = drop s (drop from slots) in
    ap (λ (xs : List ℕ). get_or (nonzero xs) 0 0) (sym (take-append-drop s (drop from slots)))
    ∙ ap (λ (xs : List ℕ). get_or xs 0 0) (nonzero_append near far)
    ∙ get_or-append (nonzero near) (nonzero far) 0 0 some

module _ (slots slots' : List ℕ) where
  first_before : (s from end : ℕ) → from + s ≤ end → take end slots ≡ take end slots' → 0 < length (nonzero (take s (drop from slots)))
      → first_from slots from ≡ first_from slots' from
  first_before s from end within same some =
      let near : take s (drop from slots) ≡ take s (drop from slots') = part_before from s slots slots' end within same in
      first_near s from slots some
      ∙ ap (λ (xs : List ℕ). get_or (nonzero xs) 0 0) near
      ∙ sym (first_near s from slots' (rw near at some))

  first_behind : (start from : ℕ) → start ≤ from → drop start slots ≡ drop start slots' → first_from slots from ≡ first_from slots' from
  unfolding first_from
  first_behind start from within same =
      let place : start + (from - start) ≡ from = omega arith in
      let rest : (zs : List ℕ) → drop (from - start) (drop start zs) ≡ drop from zs = λ zs. rw (drop-drop (from - start) start zs, place) in
      ap (λ (xs : List ℕ). get_or (nonzero xs) 0 0) (sym (rest slots) ∙ ap (drop (from - start)) same ∙ rest slots')

-- ---- the third slice

module _ {M : ℕ} {part : Part} (w : PartIn M part) (slots slots' : List ℕ)
    (before : take (part_from M part) slots ≡ take (part_from M part) slots')
    (behind : drop (part_from M part + part_length M part) slots ≡ drop (part_from M part + part_length M part) slots')
    (filled : (j : ℕ) → 2 ^ height M + j < first_leaf M part → HasEntry M slots j) where
  -- the first entry from a leaf on
  abbrev entry : List ℕ → ℕ → ℕ
  entry = entry_from (height M) (leaf_slots M)

  entry_left : (leaf : ℕ) → 2 ^ height M ≤ leaf → leaf < first_leaf M part → entry slots leaf ≡ entry slots' leaf
  unfolding entry_from HasEntry
  entry_left leaf inside less =
      let s = leaf_slots M in
      let j = leaf - 2 ^ height M in
      let next : j + 1 ≤ first_leaf M part - 2 ^ height M = omega arith in
      first_before slots slots' s (s * j) (part_from M part) (omega (arith, first_slot w, mul-le-mul_left s next)) before (filled j (omega arith))

  entry_right : (leaf : ℕ) → last_leaf M part + 1 ≤ leaf → entry slots leaf ≡ entry slots' leaf
  unfolding entry_from
  entry_right leaf less =
      let s = leaf_slots M in
      let j = leaf - 2 ^ height M in
      let next : last_leaf M part + 1 - 2 ^ height M ≤ j = omega arith in
      first_behind slots slots' (part_from M part + part_length M part) (s * j) (omega (arith, end_slot w, mul-le-mul_left s next)) behind

  -- The part alone is changed, and every leaf before it has an entry.
  pub balance_kept : (room : ℕ) {words : List ℕ} → words ≡ balance_in M room slots
      → BalanceBut M slots' (first_leaf M part) (last_leaf M part + 1) words
  balance_kept room is = rw is record {
    zero = balance_in_zero M room slots;
    left = λ k leaf r h. balance_in_leaf M room slots r ∙ entry_left leaf (omega (arith, r.after)) h;
    right = λ k leaf r h. balance_in_leaf M room slots r ∙ entry_right leaf h;
    unused = balance_in_unused M room slots;
  }
