-- The first entry from a slot on, by what this slot holds.
use Rattle.std.specs.Prelude.{◌≡◌, List, ℕ, ◌+◌, ◌-◌, ◌≤◌, ◌<◌, min, length, get_or, take, drop}
use Rattle.std.proofs.Common.{⊎_elim, add-one, arith, drop_of_length-le, length-drop, take_all}
use Rattle.std.proofs.Math.Seq.{drop-cons}
use Rattle.base.specs.CaseLaws.{lt_or_ge}
use Rattle.store_layout.specs.Leaf.{nonzero}
use Rattle.store_layout.proofs.LeafLaws.{nonzero_zero, nonzero_entry}
use Rattle.store_balance.specs.BalanceIn.{first_from}

module _ (slots : List ℕ) (i : ℕ) where
  pub first_none : length slots ≤ i → first_from slots i ≡ 0
  unfolding first_from nonzero
  first_none end = rw (drop_of_length-le slots end)

  module _ (inside : i < length slots) where
    pub first_found : (get_or slots i 0 ≡ 0 → ⊥) → first_from slots i ≡ get_or slots i 0
    unfolding first_from
    first_found full = rw (drop-cons slots i 0 inside, nonzero_entry (get_or slots i 0) _ (omega arith))

    pub first_next : get_or slots i 0 ≡ 0 → first_from slots i ≡ first_from slots (i + 1)
    unfolding first_from
    first_next empty = rw (add-one i, drop-cons slots i 0 inside, nonzero_zero (get_or slots i 0) _ empty)

-- The slots from the slot `from` on, where there is one.
pub first_start : (slots : List ℕ) (from start : ℕ) → start ≡ min from (length slots)
    → first_from slots from ≡ first_from (take (length slots - start) (drop start slots)) 0
unfolding first_from
first_start slots from start is =
    rw (take_all (length slots - start) (drop start slots) (omega (arith, length-drop start slots)))
    (⊎_elim
    (λ (before : from < length slots). let here : start ≡ from = omega (arith, is) in rw here)
    (λ (behind : length slots ≤ from).
    let end : length slots ≤ start = omega (arith, is) in rw (drop_of_length-le slots behind, drop_of_length-le slots end))
    (lt_or_ge from (length slots)))
