-- The loop through a leaf: one slot, its start, one slot more, and its end.
use Rattle.std.specs.Prelude.{◌≡◌, refl, Bool, false, Result, ◌||◌, ◌≢◌, ℕ, suc, ◌+◌, ◌≤◌, ◌<◌, eqb, length, get_or, drop}
use Rattle.std.proofs.Common.{sym, ap, ◌∙◌, add-zero, add-one, arith, drop-cons}
use Rattle.std.proofs.Math.Path.{ap₂}
use Rattle.std.proofs.Math.Bool.{or_assoc, or-false}
use mathlib.Core.List.{List, [], ◌∷◌}
use Rattle.std.proofs.Math.ListN.{drop_of_length-le}
use Rattle.base.specs.Cases.{if_lt}
use Rattle.store_layout.specs.Leaf.{nonzero}
use Rattle.store_layout.proofs.LeafLaws.{nonzero_append, nonzero_zero, nonzero_entry, nonzero_length}
use Rattle.store_keys.specs.Key.{key, rank_of, present}
use Rattle.store_keys.specs.KeyLaws.{rank_most, rank_append, present_append}
use Rattle.store_search.specs.Sought.{sought_at}
use Rattle.store_search.specs.LeafFor.{sought_behind}
use Rattle.store_search.specs.LeafLoop.{Passed}

-- ---- one slot

module _ (held x : ℕ) where
  pub rank_none : held ≡ 0 → rank_of x (nonzero (held ∷ [])) ≡ 0
  unfolding nonzero rank_of
  rank_none e = rw (nonzero_zero held [] e)

  pub rank_one : held ≢ 0 → rank_of x (nonzero (held ∷ [])) ≡ if_lt (key held) x 1 0
  unfolding nonzero rank_of
  rank_one ne = rw (nonzero_entry held [] (omega arith))

  pub present_none : held ≡ 0 → present x (nonzero (held ∷ [])) ≡ false
  unfolding nonzero present
  present_none e = rw (nonzero_zero held [] e)

  pub present_one : held ≢ 0 → present x (nonzero (held ∷ [])) ≡ eqb (key held) x
  unfolding nonzero present
  present_one ne = rw (nonzero_entry held [] (omega arith)) (or-false (eqb (key held) x))

  -- What a slot holds, and what those behind it hold.
  module _ (slots : List ℕ) where
    rank_slot : rank_of x (nonzero (held ∷ slots)) ≡ rank_of x (nonzero (held ∷ [])) + rank_of x (nonzero slots)
    rank_slot = ap (rank_of x) (nonzero_append (held ∷ []) slots) ∙ rank_append x (nonzero (held ∷ [])) (nonzero slots)

    present_slot : present x (nonzero (held ∷ slots)) ≡ (present x (nonzero (held ∷ [])) || present x (nonzero slots))
    present_slot = ap (present x) (nonzero_append (held ∷ []) slots) ∙ present_append x (nonzero (held ∷ [])) (nonzero slots)

-- ---- the loop

pub passed_none : {slots : List ℕ} {before x : ℕ} → Passed slots before x 0 before false
passed_none = record { ranks = refl; presence = refl }

module _ {slots : List ℕ} {before x i rank : ℕ} {found : Bool} (w : Passed slots before x i rank found) where
  module _ (inside : i < length slots) where
    abbrev held : ℕ
    held = get_or slots i 0

    -- The rank grows no larger than the number of all entries before and in the leaf.
    pub passed_small : rank + rank_of x (nonzero (held ∷ [])) ≤ before + length slots
    passed_small =
        omega (
          arith,
          rw (drop-cons slots i 0 inside, rank_slot held x (drop (suc i) slots)) at w.ranks,
          rank_most x (nonzero slots),
          nonzero_length slots,
        )

    pub passed_next : Passed slots before x (i + 1) (rank + rank_of x (nonzero (held ∷ []))) (found || present x (nonzero (held ∷ [])))
    passed_next =
        let ranks = rw (drop-cons slots i 0 inside, rank_slot held x (drop (suc i) slots)) at w.ranks in
        let presence = rw (drop-cons slots i 0 inside, present_slot held x (drop (suc i) slots)) at w.presence in
        rw (add-one i)
        record {
          ranks = omega arith;
          presence = or_assoc found (present x (nonzero (held ∷ []))) (present x (nonzero (drop (suc i) slots))) ∙ presence;
        }

  pub passed_all : length slots ≤ i → sought_at found rank ≡ sought_behind before x (nonzero slots)
  unfolding sought_behind nonzero rank_of present
  passed_all h =
      let none = drop_of_length-le slots {i = i} h in
      ap₂ {C = Result ℕ ℕ} (λ (r : ℕ) (p : Bool). sought_at p r)
      (sym (add-zero rank) ∙ rw none at w.ranks) (sym (or-false found) ∙ rw none at w.presence)
