-- The loop that lays leaves out one after the other: what the slots hold after j leaves.
use Rattle.std.specs.Prelude.{◌≡◌, refl, List, [], ◌∷◌, ◌++◌, ℕ, ◌+◌, ◌*◌, ◌≤◌, ◌<◌, length, get_or, take, drop}
use Rattle.std.proofs.Common.{sym, ap, ◌∙◌, append-nil, append_assoc, length-append, length-drop, take-append-drop, length-take-le, take-suc, take_all, take_at, drop_at, drop-drop, mul-le-mul_left, add-one, arith}
use Rattle.base.specs.Lists.{total}
use Rattle.base.specs.ListLaws.{every_get_d, length_part, part_at, total_front, total_last}
use Rattle.store_layout.specs.Leaf.{spread}
use Rattle.store_layout.specs.Layout.{lay_leaves}
use Rattle.store_layout.specs.Ready.{LeafReady, LeavesReady}
use Rattle.store_layout.proofs.LayoutLaws.{length_lay_leaves, lay_leaves_append}

-- The first j leaves are laid out, up to the slot `to`, with the entries before `at`; the other slots are as they were.
pub record Laid (old : List ℕ) (from s : ℕ) (ns list slots : List ℕ) (j to at : ℕ) : Type 0 where
  pub to_is : to ≡ from + s * j
  pub at_is : at ≡ total (take j ns)
  pub front : slots ≡ take from old ++ lay_leaves s (take j ns) list ++ drop to old

lay_leaves_last : (s n : ℕ) (ns list : List ℕ)
    → lay_leaves s (ns ++ (n ∷ [])) list ≡ lay_leaves s ns list ++ spread s (take n (drop (total ns) list))
unfolding lay_leaves
lay_leaves_last s n ns list = lay_leaves_append s ns (n ∷ []) list ∙ rw (append-nil (spread s (take n (drop (total ns) list))))

module _ {old : List ℕ} {from s : ℕ} {counts : List ℕ} {first leaves : ℕ} {list : List ℕ}
    (ready : LeavesReady old from s counts first leaves list) where
  abbrev numbers : List ℕ
  numbers = take leaves (drop first counts)

  length_numbers : length numbers ≡ leaves
  length_numbers = length_part counts first leaves ready.counts_room

  pub laid_none : Laid old from s numbers list old 0 from 0
  unfolding lay_leaves total
  laid_none = record { to_is = omega arith; at_is = refl; front = rw (append-nil (take from old)) (sym (take-append-drop from old)) }

  module _ {slots : List ℕ} {j to at : ℕ} (w : Laid old from s numbers list slots j to at) (upto : j ≤ leaves) where
    to_room : to ≤ length old
    to_room = omega (arith, w.to_is, ready.slots_room, mul-le-mul_left s upto)

    length_front : length (take from old ++ lay_leaves s (take j numbers) list) ≡ to
    length_front =
        length-append (take from old) (lay_leaves s (take j numbers) list)
        ∙ rw (
          length-take-le from old (omega (arith, ready.slots_room)),
          length_lay_leaves s (take j numbers) list,
          length-take-le j numbers (omega (arith, length_numbers)),
        )
        (sym w.to_is)

    pub length_laid : length slots ≡ length old
    length_laid =
        ap length w.front
        ∙ length-append (take from old ++ lay_leaves s (take j numbers) list) (drop to old)
        ∙ rw (length_front, length-drop to old) (omega (arith, to_room))

    pub laid_all : leaves ≤ j → slots ≡ take from old ++ lay_leaves s numbers list ++ drop (from + s * leaves) old
    laid_all h =
        let e : j ≡ leaves = omega arith in
        let all : take j numbers ≡ numbers = take_all j numbers (omega (arith, length_numbers)) in
        w.front ∙ rw (all, w.to_is, e)

    module _ {n : ℕ} (more : j < leaves) (here : n ≡ get_or counts (first + j) 0) where
      at_number : get_or numbers j 0 ≡ n
      at_number = part_at counts first leaves j 0 more ∙ sym here

      next_numbers : take (j + 1) numbers ≡ take j numbers ++ (n ∷ [])
      next_numbers = rw (add-one j, take-suc numbers j 0 (omega (arith, length_numbers)), at_number)

      pub next_total : at + n ≡ total (take (j + 1) numbers)
      next_total = rw (next_numbers, total_last n (take j numbers), w.at_is)

      pub slots_left : to + s ≤ length old
      slots_left = omega (arith, w.to_is, ready.slots_room, mul-le-mul_left s more)

      pub leaf_ready : LeafReady (record { from = to; slots = s; at = at; entries = n }) slots list
      leaf_ready = record {
        slots_room = omega (arith, length_laid, slots_left);
        list_room = omega (arith, next_total, total_front (j + 1) numbers, ready.list_room);
        fit = rw at_number at (every_get_d (λ c. c ≤ s) numbers j 0 ready.fit (omega (arith, length_numbers)));
        small = ready.small;
      }

      slots_behind : drop (to + s) slots ≡ drop (to + s) old
      slots_behind =
          sym (drop-drop s to slots)
          ∙ ap (drop s) (ap (drop to) w.front ∙ drop_at (take from old ++ lay_leaves s (take j numbers) list) (drop to old) to length_front)
          ∙ drop-drop s to old

      pub laid_more : {after : List ℕ} → after ≡ take to slots ++ spread s (take n (drop at list)) ++ drop (to + s) slots
          → Laid old from s numbers list after (j + 1) (to + s) (at + n)
      laid_more e = record {
        to_is = omega (arith, w.to_is);
        at_is = next_total;
        front =
            e
            ∙ rw (
              slots_behind,
              w.front,
              take_at (take from old ++ lay_leaves s (take j numbers) list) (drop to old) to length_front,
              next_numbers,
              lay_leaves_last s n (take j numbers) list,
              w.at_is,
              append_assoc (take from old) (lay_leaves s (take j numbers) list),
            );
      }
