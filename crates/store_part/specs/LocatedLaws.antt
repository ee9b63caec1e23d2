-- A change that is confined to a part leaves the rest of the slots as it was.
use Rattle.std.specs.Prelude.{◌≡◌, refl, List, [], ◌∷◌, ◌++◌, length, take, drop}
use Rattle.std.proofs.Common.{sym, ◌∙◌, ap, ⊎_elim, append_assoc, append-nil, arith, drop-drop, length-take-le}
use Prim.Native.Nat.{ℕ, zero, suc, ◌+◌, ◌-◌, ◌*◌, ◌^◌, ◌≤◌, ◌<◌}
use Rattle.std.proofs.Math.Pow.{pow-add}
use Rattle.std.proofs.Math.Nat.{pow-succ'}
use Rattle.std.proofs.Math.ListN.{length-take, length-drop, length-append}
use Rattle.std.proofs.Math.Seq.{take-nil, drop-nil}
use Rattle.base.specs.ListLaws.{every_take, every_drop, joined_take, joined_drop}
use Rattle.tree_sizes.specs.Sizes.{candidates}
use Rattle.tree_sizes.proofs.SizeLaws.{candidate_below}
use Rattle.tree_sizes.proofs.Fit.{fits_count, fits_halves}
use Rattle.tree_rules.specs.declared.Change.{Change}
use Rattle.tree_rules.specs.declared.Change.TheVariants.{Insert, Delete}
use Rattle.tree_rules.specs.Tree.{Tree, leaf, node, Balanced}
use Rattle.tree_rules.specs.Compare.{count_after}
use Rattle.tree_rules.specs.Rules.{rank_of, at_rank, InReach}
use Rattle.tree_rules.specs.ChangeLaws.{count_rank, rank_rank, rank_itself, right_reach, right_count, left_count}
use Rattle.tree_counts.specs.declared.Part.{Part}
use Rattle.tree_counts.specs.Counts.{Holds}
use Rattle.tree_counts.specs.RangeLaws.{balanced_perfect}
use Rattle.tree_counts.specs.Confined.{Within}
use Rattle.store_layout.specs.Layout.{leaf_counts, lay_leaves}
use Rattle.store_layout.proofs.LayoutLaws.{leaf_counts_total, length_leaf_counts, length_lay_leaves, lay_leaves_node}
use Rattle.tree_rules.specs.ChangeList.{change_list}
use Rattle.store_part.specs.Located.{IsRange, Located}

-- ---- a changed list, parted where a half ends

insert_take : (i b e : ℕ) (xs : List ℕ) → i ≤ b → take (suc b) (take i xs ++ (e ∷ drop i xs)) ≡ take i (take b xs) ++ (e ∷ drop i (take b xs))
insert_take zero b e xs h = refl
insert_take (suc i) zero e xs h = absurd (omega arith)
insert_take (suc i) (suc b) e [] h = refl
insert_take (suc i) (suc b) e (x ∷ xs) h = ap (λ (l : List ℕ). x ∷ l) (insert_take i b e xs (omega arith))

insert_drop : (i b e : ℕ) (xs : List ℕ) → i ≤ b → drop (suc b) (take i xs ++ (e ∷ drop i xs)) ≡ drop b xs
insert_drop zero b e xs h = refl
insert_drop (suc i) zero e xs h = absurd (omega arith)
insert_drop (suc i) (suc b) e [] h = refl
insert_drop (suc i) (suc b) e (x ∷ xs) h = insert_drop i b e xs (omega arith)

delete_take : (i b : ℕ) (xs : List ℕ) → i ≤ b → take b (take i xs ++ drop (suc i) xs) ≡ take i (take (suc b) xs) ++ drop (suc i) (take (suc b) xs)
delete_take i b [] h = rw (take-nil i) (take-nil b)
delete_take zero b (x ∷ xs) h = refl
delete_take (suc i) zero (x ∷ xs) h = absurd (omega arith)
delete_take (suc i) (suc b) (x ∷ xs) h = ap (λ (l : List ℕ). x ∷ l) (delete_take i b xs (omega arith))

delete_drop : (i b : ℕ) (xs : List ℕ) → i ≤ b → drop b (take i xs ++ drop (suc i) xs) ≡ drop (suc b) xs
delete_drop i b [] h = rw (take-nil i) (drop-nil b)
delete_drop zero b (x ∷ xs) h = refl
delete_drop (suc i) zero (x ∷ xs) h = absurd (omega arith)
delete_drop (suc i) (suc b) (x ∷ xs) h = delete_drop i b xs (omega arith)

-- the change falls into the left half, of b entries
left_take : (change : Change) (e b : ℕ) (xs : List ℕ) → InReach change b
    → take (count_after change b) (change_list change e xs) ≡ change_list change e (take b xs)
unfolding InReach count_after change_list
left_take (Insert i) e b xs h = insert_take i b e xs h
left_take (Delete i) e zero xs h = absurd (omega (arith, h))
left_take (Delete i) e (suc b) xs h = let d : suc b - 1 ≡ b = omega arith in rw d (delete_take i b xs (omega (arith, h)))

left_drop : (change : Change) (e b : ℕ) (xs : List ℕ) → InReach change b → drop (count_after change b) (change_list change e xs) ≡ drop b xs
unfolding InReach count_after change_list
left_drop (Insert i) e b xs h = insert_drop i b e xs h
left_drop (Delete i) e zero xs h = absurd (omega (arith, h))
left_drop (Delete i) e (suc b) xs h = let d : suc b - 1 ≡ b = omega arith in rw d (delete_drop i b xs (omega (arith, h)))

-- the change falls behind it
right_take : (change : Change) (e b : ℕ) (xs : List ℕ) → b < rank_of change → InReach change (length xs) → take b (change_list change e xs) ≡ take b xs
unfolding InReach rank_of change_list
right_take (Insert i) e b xs l h = joined_take i xs (e ∷ drop i xs) h b (omega (arith, l))
right_take (Delete i) e b xs l h = joined_take i xs (drop (suc i) xs) (omega (arith, h)) b (omega (arith, l))

right_drop : (change : Change) (e b : ℕ) (xs : List ℕ) → b < rank_of change → InReach change (length xs)
    → drop b (change_list change e xs) ≡ change_list (at_rank change (rank_of change - b)) e (drop b xs)
unfolding InReach rank_of at_rank change_list
right_drop (Insert i) e b xs l h =
    let d : b + (i - b) ≡ i = omega (arith, l) in
    joined_drop i xs (e ∷ drop i xs) h b (omega (arith, l)) ∙ rw (drop-drop (i - b) b xs, d)
right_drop (Delete i) e b xs l h =
    let d : b + suc (i - b) ≡ suc i = omega (arith, l) in
    joined_drop i xs (drop (suc i) xs) (omega (arith, h)) b (omega (arith, l)) ∙ rw (drop-drop (suc (i - b)) b xs, d)

-- ---- a range and its halves

module _ (M levels d n b : ℕ) (l r : Tree) (w : IsRange M (suc levels) d n (node b l r)) where
  range_below : b < n
  unfolding Balanced
  range_below = candidate_below n (candidates M d) b (fits_count M levels d n w.fits) w.balanced.0

  range_left : IsRange M levels (suc d) b l
  unfolding Balanced
  range_left = record { fits = (fits_halves M levels d n w.fits b w.balanced.0).0; balanced = w.balanced.1 }

  range_right : IsRange M levels (suc d) (n - b) r
  unfolding Balanced
  range_right = record { fits = (fits_halves M levels d n w.fits b w.balanced.0).1; balanced = w.balanced.2 }

  range_lay_leaves : (s : ℕ) (xs : List ℕ)
      → lay_leaves s (leaf_counts n (node b l r)) xs ≡ lay_leaves s (leaf_counts b l) (take b xs) ++ lay_leaves s (leaf_counts (n - b) r) (drop b xs)
  range_lay_leaves s xs = lay_leaves_node s n b l r xs (leaf_counts_total M levels (suc d) b l range_left.fits range_left.balanced)

pub range_length : (M levels d n : ℕ) (t : Tree) → IsRange M levels d n t → (s : ℕ) (xs : List ℕ) → length (lay_leaves s (leaf_counts n t) xs) ≡ s * 2 ^ levels
range_length M levels d n t w s xs =
    length_lay_leaves s (leaf_counts n t) xs
    ∙ rw (length_leaf_counts levels n t (balanced_perfect M levels d n t w.balanced))

no_levels : (M d n b : ℕ) (l r : Tree) → IsRange M 0 d n (node b l r) → ⊥
unfolding Balanced
no_levels M d n b l r w = w.balanced

-- ---- the part found on the way down

-- the part is the range itself
located_here : (M s levels k d : ℕ) (change : Change) (e n : ℕ) (t t' : Tree) (list : List ℕ) (part : Part) → length list ≡ n → InReach change n
    → IsRange M levels d n t → IsRange M levels d (count_after change n) t'
    → part ≡ record { range = k; depth = d; rank = rank_of change }
    → Located M s levels k d change e n t t' list part
located_here M s levels k d change e n t t' list part len reach old new at =
    rw at record {
      inner = levels;
      above = 0;
      number = 0;
      levels_are = omega arith;
      range_is = omega arith;
      number_below = omega arith;
      depth_is = omega arith;
      entries = list;
      few = omega arith;
      positive = λ h. h;
      tree = t;
      tree' = t';
      old_range = rw len old;
      new_range = rw len new;
      reach = rw (rank_itself change, len) reach;
      left = [];
      right = [];
      left_length = omega arith;
      old = rw len (sym (append-nil (lay_leaves s (leaf_counts n t) list)));
      new = rw (rank_itself change, len) (sym (append-nil (lay_leaves s (leaf_counts (count_after change n) t') (change_list change e list))));
      held = λ counts h. rw len h;
    }

module _ (M s levels k d : ℕ) (change : Change) (e n b b' : ℕ) (l l' r r' : Tree) (list : List ℕ) (part : Part)
    (len : length list ≡ n) (reach : InReach change n)
    (old : IsRange M (suc levels) d n (node b l r)) (new : IsRange M (suc levels) d (count_after change n) (node b' l' r')) where
  -- it is in the left half, and the right half is the same
  located_left : InReach change b → b' ≡ count_after change b → r' ≡ r
      → Located M s levels (2 * k) (suc d) change e b l l' (take b list) part
      → Located M s (suc levels) k d change e n (node b l r) (node b' l' r') list part
  unfolding Holds
  located_left inside same-b same-r w = record {
    inner = w.inner;
    above = suc w.above;
    number = w.number;
    levels_are = omega (arith, w.levels_are);
    range_is = rw (pow-succ' 2 w.above) (omega (arith, w.range_is));
    number_below = rw (pow-succ' 2 w.above) (omega (arith, w.number_below));
    depth_is = omega (arith, w.depth_is);
    entries = w.entries;
    few = omega (arith, w.few, length-take b list);
    positive = λ h. w.positive (every_take (λ x. 0 < x) b list h);
    tree = w.tree;
    tree' = w.tree';
    old_range = w.old_range;
    new_range = w.new_range;
    reach = w.reach;
    left = w.left;
    right = w.right ++ lay_leaves s (leaf_counts (n - b) r) (drop b list);
    left_length = w.left_length;
    old = range_lay_leaves M levels d n b l r old s list ∙ rw w.old (simp append_assoc);
    new = range_lay_leaves M levels d (count_after change n) b' l' r' new s (change_list change e list)
        ∙ rw (
          same-b,
          same-r,
          left_take change e b list inside,
          left_drop change e b list inside,
          left_count change n b (omega (arith, range_below M levels d n b l r old)) inside,
          w.new,
        ) (simp append_assoc);
    held = λ counts h. w.held counts (rw same-b at h.1);
  }

  -- it is in the right half, and the left half is the same
  located_right : b < rank_of change → b' ≡ b → l' ≡ l
      → Located M s levels (2 * k + 1) (suc d) (at_rank change (rank_of change - b)) e (n - b) r r' (drop b list) part
      → Located M s (suc levels) k d change e n (node b l r) (node b' l' r') list part
  unfolding Holds
  located_right behind same-b same-l w = record {
    inner = w.inner;
    above = suc w.above;
    number = 2 ^ w.above + w.number;
    levels_are = omega (arith, w.levels_are);
    range_is = rw (pow-succ' 2 w.above) (omega (arith, w.range_is));
    number_below = rw (pow-succ' 2 w.above) (omega (arith, w.number_below));
    depth_is = omega (arith, w.depth_is);
    entries = w.entries;
    few = omega (arith, w.few, length-drop b list);
    positive = λ h. w.positive (every_drop (λ x. 0 < x) b list h);
    tree = w.tree;
    tree' = w.tree';
    old_range = w.old_range;
    new_range = rw count_rank at w.new_range;
    reach = rw rank_rank at w.reach;
    left = lay_leaves s (leaf_counts b l) (take b list) ++ w.left;
    right = w.right;
    left_length = length-append (lay_leaves s (leaf_counts b l) (take b list)) w.left
        ∙ rw (range_length M levels (suc d) b l (range_left M levels d n b l r old) s (take b list), w.left_length, ← w.levels_are, pow-add 2 w.inner w.above)
        (omega arith);
    old = range_lay_leaves M levels d n b l r old s list ∙ rw w.old (simp append_assoc);
    new = range_lay_leaves M levels d (count_after change n) b' l' r' new s (change_list change e list)
        ∙ rw (
          same-b,
          same-l,
          right_take change e b list behind (rw len reach),
          right_drop change e b list behind (rw len reach),
          right_count change n b behind reach,
          later,
        ) (simp append_assoc);
    held = λ counts h.
        rw count_rank at (w.held counts (rw count_rank (rw (same-b, right_count change n b behind reach) at h.2)));
  }
    where
      later : lay_leaves s (leaf_counts (count_after change (n - b)) r') (change_list (at_rank change (rank_of change - b)) e (drop b list))
          ≡ w.left
          ++ lay_leaves s (leaf_counts (count_after change (length w.entries)) w.tree') (change_list (at_rank change part.rank) e w.entries)
          ++ w.right
      later = simp (count_rank, rank_rank) at w.new

-- Where the trees before and after a change differ in a part at most, the part is found.
pub located : (M s levels k d : ℕ) (change : Change) (e n : ℕ) (t t' : Tree) (list : List ℕ) (part : Part) → length list ≡ n → InReach change n
    → IsRange M levels d n t → IsRange M levels d (count_after change n) t'
    → Within k d change t t' part
    → Located M s levels k d change e n t t' list part
unfolding Within
located M s levels k d change e n leaf t' list part len reach old new w =
    located_here M s levels k d change e n leaf t' list part len reach old new w
located M s levels k d change e n (node b l r) leaf list part len reach old new w =
    located_here M s levels k d change e n (node b l r) leaf list part len reach old new w
located M s zero k d change e n (node b l r) (node b' l' r') list part len reach old new w = absurd (no_levels M d n b l r old)
located M s (suc levels) k d change e n (node b l r) (node b' l' r') list part len reach old new w =
    ⊎_elim
    (λ here. located_here M s (suc levels) k d change e n (node b l r) (node b' l' r') list part len reach old new here)
    (λ half. ⊎_elim
    (λ left.
    located_left M s levels k d change e n b b' l l' r r' list part len reach old new left.0 left.1 left.2
    (located M s levels (2 * k) (suc d) change e b l l' (take b list) part
    (length-take-le b list (omega (arith, range_below M levels d n b l r old))) left.0
    (range_left M levels d n b l r old) (rw left.1 at (range_left M levels d (count_after change n) b' l' r' new)) left.3))
    (λ right.
    located_right M s levels k d change e n b b' l l' r r' list part len reach old new right.0 right.1 right.2
    (located M s levels (2 * k + 1) (suc d) (at_rank change (rank_of change - b)) e (n - b) r r' (drop b list) part
    (length-drop b list ∙ rw len) (right_reach change n b right.0 reach)
    (range_right M levels d n b l r old)
    (rw count_rank (rw (right.1, right_count change n b right.0 reach) at (range_right M levels d (count_after change n) b' l' r' new))) right.3))
    half)
    w
