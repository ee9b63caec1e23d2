-- The loop that checks leaves one after the other: what is left to check after j leaves.
use Rattle.std.specs.Prelude.{◌≡◌, refl, Bool, true, false, ◌&&◌, List, ◌∷◌, ℕ, ◌+◌, ◌*◌, ◌≤◌, ◌<◌, length, get_or, take, drop}
use Rattle.std.proofs.Common.{sym, ◌∙◌, drop_of_length-le, drop-cons, mul-le-mul_left, add-one, arith}
use Rattle.std.proofs.Math.Seq.{drop-drop}
use Rattle.base.specs.BoolLaws.{and_assoc, and_true, and_false}
use Rattle.base.specs.ListLaws.{every_get_d, length_part, part_at}
use Rattle.store_leaf_test.specs.Ready.{LeafTestReady, LeavesTestReady}
use Rattle.store_leaf_test.specs.Check.{leaf_test, leaves_test}

-- The first j leaves, up to the slot `from`, are as they should be where `so_far` is true: the test comes to that and that of the others.
pub record Remaining (all : List ℕ) (s : ℕ) (ns : List ℕ) (so_far : Bool) (j from : ℕ) : Type 0 where
  pub from_is : from ≡ s * j
  pub left : leaves_test s ns all ≡ (so_far && leaves_test s (drop j ns) (drop from all))

module _ {all : List ℕ} {s : ℕ} {counts : List ℕ} {first leaves : ℕ} (ready : LeavesTestReady all s counts first leaves) where
  abbrev numbers : List ℕ
  numbers = take leaves (drop first counts)

  length_numbers : length numbers ≡ leaves
  length_numbers = length_part counts first leaves ready.counts_room

  pub remaining_all : Remaining all s numbers true 0 0
  remaining_all = record { from_is = omega arith; left = refl }

  module _ {so_far : Bool} {j from : ℕ} (w : Remaining all s numbers so_far j from) where
    pub remaining_none : leaves ≤ j → leaves_test s numbers all ≡ so_far
    unfolding leaves_test
    remaining_none h = w.left ∙ rw (drop_of_length-le numbers {i = j} (omega (arith, length_numbers))) (and_true so_far)

    module _ {n : ℕ} (more : j < leaves) (here : n ≡ get_or counts (first + j) 0) where
      number_at : get_or numbers j 0 ≡ n
      number_at = part_at counts first leaves j 0 more ∙ sym here

      next_number : drop j numbers ≡ n ∷ drop (j + 1) numbers
      next_number = drop-cons numbers j 0 (omega (arith, length_numbers)) ∙ rw (number_at, add-one j)

      pub next_leaf : LeafTestReady all from s n
      next_leaf = record {
        slots_room = omega (arith, w.from_is, mul-le-mul_left s more, ready.slots_room);
        fit = rw number_at at (every_get_d (λ c. c ≤ s) numbers j 0 ready.fit (omega (arith, length_numbers)));
        small = ready.small;
      }

      module _ {r : Bool} (r-is : r ≡ leaf_test s n (take s (drop from all))) where
        remaining_less : Remaining all s numbers (so_far && r) (j + 1) (from + s)
        unfolding leaves_test
        remaining_less = record {
          from_is = omega (arith, w.from_is);
          left = w.left ∙ rw (next_number, ← r-is, drop-drop s from all) (sym (and_assoc so_far r _));
        }

        pub remaining_right : r ≡ true → Remaining all s numbers so_far (j + 1) (from + s)
        remaining_right e = rw (e, and_true so_far) at remaining_less

        pub remaining_wrong : r ≡ false → Remaining all s numbers false (j + 1) (from + s)
        remaining_wrong e = rw (e, and_false so_far) at remaining_less

  -- A leaf that is not as it should be decides the test.
  pub remaining_broken : {j from : ℕ} → Remaining all s numbers false j from → leaves_test s numbers all ≡ false
  remaining_broken w = w.left
