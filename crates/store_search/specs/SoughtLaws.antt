-- The search for a key in the slices of a sheet whose list rises comes to the rank of the key and whether it is there.
use Rattle.std.specs.Prelude.{◌≡◌, Bool, true, false, Result, Ok, Err, List, ℕ, ◌+◌, ◌-◌, ◌*◌, ◌^◌, ◌≤◌, ◌<◌, take, drop, replicate}
use Rattle.std.proofs.Math.Path.{refl, ap}
use Rattle.std.proofs.Common.{sym, ◌∙◌, zero-add}
use Rattle.std.proofs.Math.ListN.{length}
use Rattle.std.proofs.Math.Nat.{mul-le-mul_left}
use native.Mathlib.Omega.{arith}
use Rattle.tree_sizes.specs.Sizes.{height, leaf_slots, slots}
use Rattle.tree_sizes.proofs.SizeLaws.{leaf_slots_most}
use Rattle.tree_sizes.proofs.Fit.{fit}
use Rattle.tree_rules.specs.Tree.{Shape}
use Rattle.tree_counts.specs.Ranges.{Perfect}
use Rattle.tree_counts.specs.RangeLaws.{balanced_perfect}
use Rattle.tree_counts.specs.Counts.{shape_counts}
use Rattle.tree_counts.specs.ShapeCountLaws.{length_shape_counts, shape_counts_holds}
use Rattle.store_layout.specs.declared.Capacity.{Capacity}
use Rattle.store_layout.specs.Leaf.{nonzero}
use Rattle.store_layout.specs.Layout.{leaf_counts, lay_leaves, pad_to, lay_slots, lay_out}
use Rattle.store_layout.specs.Sheet.{IsContents}
use Rattle.store_layout.specs.Decode.{list_of}
use Rattle.store_layout.specs.Room.{CapacityReady}
use Rattle.store_layout.proofs.SheetLaws.{length_slots, list_of_lay_out}
use Rattle.store_balance.specs.Balance.{lay_balance}
use Rattle.store_balance.specs.BalanceLaws.{length_lay_balance, balance_holds}
use Rattle.store_keys.specs.Key.{Rises, rank_of}
use Rattle.store_keys.specs.KeyLaws.{rank_most}
use Rattle.store_search.specs.Sought.{sought_at, sought_in, SearchReady}
use Rattle.store_search.specs.LeafFor.{leaf_for, start_for, sought_behind}
use Rattle.store_search.specs.Searchable.{Searchable}
use Rattle.store_search.specs.LeafForLaws.{leaf_for_below, range_found}

-- ---- what is told by what is found

-- The rank of either kind.
ranked : Result ℕ ℕ → ℕ
ranked (Ok rank) = rank
ranked (Err rank) = rank

ranked_at : (there : Bool) (rank : ℕ) → ranked (sought_at there rank) ≡ rank
unfolding ranked sought_at
ranked_at true rank = refl
ranked_at false rank = refl

sought_ranks : (there there' : Bool) (rank rank' : ℕ) → sought_at there rank ≡ sought_at there' rank' → rank ≡ rank'
sought_ranks there there' rank rank' same = sym (ranked_at there rank) ∙ ap ranked same ∙ ranked_at there' rank'

pub sought_ok : (there : Bool) (rank r : ℕ) → Ok r ≡ sought_at there rank → (there ≡ true) × (r ≡ rank)
unfolding sought_at
sought_ok true rank r found = (refl, cc)
sought_ok false rank r found = absurd (cc)

pub sought_err : (there : Bool) (rank r : ℕ) → Err r ≡ sought_at there rank → (there ≡ false) × (r ≡ rank)
unfolding sought_at
sought_err true rank r found = absurd (cc)
sought_err false rank r found = (refl, cc)

-- ---- the sheet of a list with a shape

module _ (cap : Capacity) (list : List ℕ) (s : Shape) (ready : CapacityReady cap) (w : IsContents cap list s) where
  abbrev counts : List ℕ
  counts = shape_counts cap.counts (length list) s

  abbrev balance : List ℕ
  balance = lay_balance cap.counts list s

  perfect : Perfect (height s.size) s.tree
  perfect = balanced_perfect s.size (height s.size) 0 (length list) s.tree w.shape.balanced

  size_most : s.size < 2 ^ 31
  size_most = omega (arith, w.shape.allowed.most, w.room, ready.few)

  room : 2 * 2 ^ height s.size ≤ cap.counts
  room = ready.roomy.counts_fit (length list) s.size w.room w.shape.allowed

  laid_length : length (lay_slots cap.slots list s) ≡ cap.slots
  unfolding lay_out
  laid_length = length_slots cap list s w ready.roomy

  laid_entries : nonzero (lay_slots cap.slots list s) ≡ list
  unfolding lay_out list_of
  laid_entries = list_of_lay_out cap list s w

  module _ (x : ℕ) where
    -- The leaf for the key x is inside the slots.
    laid_inside : (start_for s.size counts balance x).slot + leaf_slots s.size ≤ length (lay_slots cap.slots list s)
    unfolding start_for slots
    laid_inside =
        let h = height s.size in
        let inside = leaf_for_below h counts balance x 1 0 in
        let below : (leaf_for h counts balance x 1 0).leaf - 2 ^ h + 1 ≤ 2 ^ h = omega (arith, inside.before, inside.from) in
        rw laid_length
        (omega (
          arith,
          mul-le-mul_left (leaf_slots s.size) below,
          ready.roomy.slots_fit (length list) s.size w.room w.shape.allowed,
        ))

    -- Its slots give the rank and the presence of x in the whole list.
    laid_found : Rises list → let p = start_for s.size counts balance x in
        sought_behind p.before x (nonzero (take (leaf_slots s.size) (drop p.slot (lay_slots cap.slots list s)))) ≡ sought_in x list
    unfolding lay_slots pad_to start_for sought_behind sought_in
    laid_found rising =
        let N = length list in
        let h = height s.size in
        let leaves = lay_leaves (leaf_slots s.size) (leaf_counts N s.tree) list in
        range_found s.size counts balance list x h 0 1 N 0 0 s.tree list (replicate (cap.slots - length leaves) 0)
        (fit N s.size w.shape.allowed) w.shape.balanced (shape_counts_holds h cap.counts N s perfect room)
        (balance_holds h cap.counts list s perfect (omega (arith, room))) refl w.entries rising
        (λ i inside. rw (zero-add i)) ((leaf_for h counts balance x 1 0).leaf - 2 ^ h) (omega (arith, (leaf_for_below h counts balance x 1 0).from))
        ∙ rw (zero-add (rank_of x list))

    searchable_laid : Rises list → Searchable s.size (lay_slots cap.slots list s) counts balance x
    unfolding sought_behind sought_in
    searchable_laid rising = record {
      most = omega (arith, size_most);
      counts_room = rw (length_shape_counts cap.counts (length list) s) room;
      balance_room = rw (length_lay_balance cap.counts list s) (omega (arith, room));
      slots_room = laid_inside;
      small = omega (
        arith,
        sought_ranks _ _ _ _ (laid_found rising),
        rank_most x list,
        leaf_slots_most s.size (omega (arith, size_most)),
        w.room,
        ready.few,
      );
      found = rw laid_entries (laid_found rising);
    }

-- ---- slices that are those of a sheet

pub searchable : {m : ℕ} {slots counts balance : List ℕ} → SearchReady m slots counts balance → (x : ℕ) → Searchable m slots counts balance x
searchable r x =
    rw (r.slots_are, r.counts_are, r.balance_are, ← r.size)
    (searchable_laid r.cap r.list r.shape r.ready r.contents x r.rising)
