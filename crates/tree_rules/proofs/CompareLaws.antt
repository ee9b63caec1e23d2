-- The comparison of candidates by identity: at most one leaves and one enters, and the closed form is equal to it.
use Rattle.std.specs.Prelude.{◌≡◌, Bool, ◌||◌, ◌⊎◌, ◌≢◌, eqb}
use Rattle.std.proofs.Math.Path.{refl, ap}
use Rattle.std.proofs.Common.{sym, ◌∙◌, inl, inr, eq-eqb, ne_eqb}
use Rattle.std.proofs.Math.Bool.{true, false, not}
use Rattle.std.proofs.Math.Logic.{⊎_elim}
use mathlib.Core.List.{List, [], ◌∷◌}
use Rattle.std.proofs.Math.Option.{Option, some, none}
use Prim.Native.Nat.{ℕ, zero, suc, ◌+◌, ◌-◌, ◌≤◌, ◌<◌}
use native.Mathlib.Omega.{arith}
use Rattle.base.specs.CaseLaws.{if_eq_no, if_lt_yes, if_lt_no, by_eq, by_lt, eq_or_ne, lt_or_ge}
use Rattle.draw_shares.specs.Sum.{skip, skip_lt, skip_ge}
use Rattle.draw_shares.specs.Reservoir.{by_skip, skip_small}
use Rattle.tree_sizes.specs.Sizes.{window_start}
use Rattle.tree_sizes.proofs.SizeLaws.{window_next}
use Rattle.tree_rules.specs.declared.Change.{Change}
use Rattle.tree_rules.specs.declared.Change.TheVariants.{Insert, Delete}
use Rattle.tree_rules.specs.declared.Comparison.{Comparison}
use Rattle.tree_rules.specs.declared.Comparison.TheVariants.{Unchanged, Swapped}
use Rattle.tree_rules.specs.Compare.{count_after, rank_after, ranks_from, window, is_member, is_among, keep_if, some_of, leaving, entering, first_of_each, compare}
use Rattle.tree_rules.specs.Moves.{Leaves, Enters}
use Rattle.tree_rules.specs.Swap.{insert_swap, reverse, swap_of}

-- ---- tests over the ranks of a window

module _ (test : ℕ → Bool) where
  some_no : (a c : ℕ) → ((r : ℕ) → a ≤ r → r < a + c → test r ≡ false) → some_of test (ranks_from a c) ≡ false
  unfolding some_of ranks_from
  some_no a zero h = refl
  some_no a (suc c) h = rw (h a (omega arith) (omega arith)) (some_no (suc a) c (λ r l m. h r (omega arith) (omega arith)))

  some_yes : (a c r : ℕ) → a ≤ r → r < a + c → test r ≡ true → some_of test (ranks_from a c) ≡ true
  unfolding some_of ranks_from
  some_yes a zero r l m h = absurd (omega arith)
  some_yes a (suc c) r l m h =
      ⊎_elim
      (λ (e : r ≡ a). rw (← e, h))
      (λ (d : r ≢ a). rw (some_yes (suc a) c r (omega arith) (omega arith) h) (or_true (test a)))
      (eq_or_ne r a)
    where
      or_true : (b : Bool) → (b || true) ≡ true
      or_true true = refl
      or_true false = refl

  keep_none : (a c : ℕ) → ((r : ℕ) → a ≤ r → r < a + c → test r ≡ false) → keep_if test (ranks_from a c) ≡ []
  unfolding keep_if ranks_from
  keep_none a zero h = refl
  keep_none a (suc c) h = rw (h a (omega arith) (omega arith)) (keep_none (suc a) c (λ r l m. h r (omega arith) (omega arith)))

  keep_one : (a c x : ℕ) → a ≤ x → x < a + c → test x ≡ true → ((r : ℕ) → a ≤ r → r < a + c → r ≢ x → test r ≡ false)
      → keep_if test (ranks_from a c) ≡ x ∷ []
  unfolding keep_if ranks_from
  keep_one a zero x l m t h = absurd (omega arith)
  keep_one a (suc c) x l m t h =
      ⊎_elim
      (λ (e : a ≡ x).
      rw (e, t) (ap (λ (rs : List ℕ). x ∷ rs) (keep_none (suc x) c (λ r p q. h r (omega arith) (omega arith) (λ d. omega arith)))))
      (λ (d : a ≢ x).
      rw (h a (omega arith) (omega arith) d)
      (keep_one (suc a) c x (omega arith) (omega arith) t (λ r p q. h r (omega arith) (omega arith))))
      (eq_or_ne a x)

member_some : (r : ℕ) (xs : List ℕ) → is_member r xs ≡ some_of (eqb r) xs
unfolding is_member some_of
member_some r [] = refl
member_some r (x ∷ xs) = rw (member_some r xs)

among_yes : (rank : Option ℕ) (a c r : ℕ) → rank ≡ some r → a ≤ r → r < a + c → is_among rank (ranks_from a c) ≡ true
unfolding is_among
among_yes rank a c r e l m = rw e (member_some r (ranks_from a c) ∙ some_yes (eqb r) a c r l m (eq-eqb r r refl))

among_no : (rank : Option ℕ) (a c : ℕ) → ((r : ℕ) → a ≤ r → r < a + c → rank ≢ some r) → is_among rank (ranks_from a c) ≡ false
unfolding is_among
among_no none a c h = refl
among_no (some s) a c h =
    member_some s (ranks_from a c) ∙ some_no (eqb s) a c (λ r l m. ne_eqb s r (λ e. h r l m (ap some e)))

-- ---- the rank after a change

insert_after : (i r : ℕ) → rank_after (Insert i) r ≡ some (skip i r)
unfolding rank_after
insert_after i r = by_skip _ i r (λ l e. rw e (if_lt_yes r i _ _ l)) (λ l e. rw e (if_lt_no r i _ _ l))

delete_skip : (i r : ℕ) → rank_after (Delete i) (skip i r) ≡ some r
unfolding rank_after
delete_skip i r =
    by_skip _ i r
    (λ l e. rw e (if_lt_yes r i _ _ l))
    (λ l e. rw e (if_lt_no (suc r) i _ _ (omega arith) ∙ if_eq_no (suc r) i _ _ (λ d. omega arith) ∙ ap some (omega arith)))

-- A delete undoes an insert, and an insert a delete.
delete_undoes : (i r s : ℕ) → rank_after (Insert i) r ≡ some s → rank_after (Delete i) s ≡ some r
delete_undoes i r s e = let d : skip i r ≡ s = cc (insert_after i r) in rw (← d) (delete_skip i r)

insert_undoes : (i r s : ℕ) → rank_after (Delete i) s ≡ some r → rank_after (Insert i) r ≡ some s
unfolding rank_after
insert_undoes i r s =
    by_lt (λ o. o ≡ some r → rank_after (Insert i) r ≡ some s) s i _ _
    (λ l e. let d : s ≡ r = cc in rw (if_lt_yes r i _ _ (omega arith)) (ap some (sym d)))
    (λ l. by_eq (λ o. o ≡ some r → rank_after (Insert i) r ≡ some s) s i _ _
    (λ d e. let z : ◌≡◌ {A = ℕ} 0 1 = cc in absurd (omega arith))
    (λ d e. let k : s - 1 ≡ r = cc in rw (if_lt_no r i _ _ (omega arith)) (ap some (omega arith))))

-- ---- how the candidates before and after a change match

-- The c ranks from a on but `out` keep their order and have, after the change, the c ranks from a' on but `into`;
-- `out` has none of the latter ranks, and `into` is the rank of none of the former.
pub record Exchange (change : Change) (a a' c out into : ℕ) : Type 0 where
  pub out_from : a ≤ out
  pub out_below : out < a + c
  pub into_from : a' ≤ into
  pub into_below : into < a' + c
  pub others : (f : ℕ) → suc f < c → rank_after change (a + skip (out - a) f) ≡ some (a' + skip (into - a') f)
  pub leaves : (s : ℕ) → a' ≤ s → s < a' + c → rank_after change out ≢ some s
  pub enters : (r : ℕ) → a ≤ r → r < a + c → rank_after change r ≢ some into

-- What the candidates before and after have in common, where the comparison is this one: all, in order, or all but the two exchanged.
unfoldable pub Matched : Change → ℕ → ℕ → ℕ → Comparison → Type 0
Matched change a a' c Unchanged = (f : ℕ) → f < c → rank_after change (a + f) ≡ some (a' + f)
Matched change a a' c (Swapped out into) = Exchange change a a' c out into

matched_undo : (i a a' c : ℕ) (found : Comparison) → Matched (Insert i) a a' c found → Matched (Delete i) a' a c (reverse found)
unfolding Matched reverse
matched_undo i a a' c Unchanged m = λ f l. delete_undoes i (a + f) (a' + f) (m f l)
matched_undo i a a' c (Swapped out into) m = record {
  out_from = m.into_from;
  out_below = m.into_below;
  into_from = m.out_from;
  into_below = m.out_below;
  others = λ f l. delete_undoes i _ _ (m.others f l);
  leaves = λ r l k e. m.enters r l k (insert_undoes i r into e);
  enters = λ s l k e. m.leaves s l k (insert_undoes i out s e);
}

-- An exchange by an insert, with the ranks after it written out.
insert_exchange : (i a a' c out into : ℕ) → a ≤ out → out < a + c → a' ≤ into → into < a' + c
    → ((f : ℕ) → suc f < c → skip i (a + skip (out - a) f) ≡ a' + skip (into - a') f)
    → ((s : ℕ) → a' ≤ s → s < a' + c → skip i out ≢ s)
    → ((r : ℕ) → a ≤ r → r < a + c → skip i r ≢ into)
    → Exchange (Insert i) a a' c out into
insert_exchange i a a' c out into p q u v o l e = record {
  out_from = p;
  out_below = q;
  into_from = u;
  into_below = v;
  others = λ f h. insert_after i _ ∙ ap some (o f h);
  leaves = λ s h k d. l s h k (cc (insert_after i out));
  enters = λ r h k d. e r h k (cc (insert_after i r));
}

-- two ways to count past a number that is left out
skip_shift : (i r b j f : ℕ) → r ≡ b + f → (r < i → f < j) → (i ≤ r → j ≤ f) → skip i r ≡ b + skip j f
skip_shift i r b j f e below from =
    by_skip _ i r (λ x y. omega (arith, skip_lt j f (below x))) (λ x y. omega (arith, skip_ge j f (from x)))

-- The closed form is right for the windows from a and from a' on.
insert_matched : (i a a' c : ℕ) → 0 < c → (a' ≡ a) ⊎ (a' ≡ suc a) → Matched (Insert i) a a' c (insert_swap i a a' c)
unfolding insert_swap Matched
insert_matched i a a' c pos near =
    by_eq (Matched (Insert i) a a' c) a' a _ _
    (λ e. by_lt (Matched (Insert i) a a' c) i (a + c) _ _
    (λ l. insert_exchange i a a' c _ _ (omega arith) (omega arith) (omega arith) (omega arith)
    (λ f h. rw (skip_lt (a + c - 1 - a) f (omega arith))
    (skip_shift i (a + f) a' _ f (omega arith) (λ x. omega arith) (λ x. omega arith)))
    (λ s h k. omega (arith, skip_ge i (a + c - 1) (omega arith)))
    (λ r h k. by_skip _ i r (λ x y. omega arith) (λ x y. omega arith)))
    (λ l f h. insert_after i (a + f) ∙ ap some (omega (arith, skip_lt i (a + f) (omega arith)))))
    (λ ne. let next : a' ≡ suc a = ⊎_elim (λ e. absurd (ne e)) (λ e. e) near in
    by_lt (Matched (Insert i) a a' c) a i _ _
    (λ l. insert_exchange i a a' c _ _ (omega arith) (omega arith) (omega arith) (omega arith)
    (λ f h. rw (skip_ge (a - a) f (omega arith))
    (skip_shift i (a + suc f) a' _ f (omega arith) (λ x. omega arith) (λ x. omega arith)))
    (λ s h k. omega (arith, skip_lt i a l))
    (λ r h k. by_skip _ i r (λ x y. omega arith) (λ x y. omega arith)))
    (λ l f h. insert_after i (a + f) ∙ ap some (omega (arith, skip_ge i (a + f) (omega arith)))))

-- The same of the windows of a range, for both changes.
pub windows_matched : (change : Change) (n c : ℕ) → 0 < c → c ≤ n → c ≤ count_after change n
    → Matched change (window_start n c) (window_start (count_after change n) c) c (swap_of change n c)
unfolding swap_of count_after
windows_matched (Insert i) n c pos before after = insert_matched i _ _ c pos (window_next n c before)
windows_matched (Delete i) n c pos before after =
    let e : suc (n - 1) ≡ n = omega arith in
    matched_undo i _ _ c _ (insert_matched i _ _ c pos (rw e at (window_next (n - 1) c after)))

-- ---- the comparison

-- A candidate before and after: of rank r among the c ranks from a on, and then of rank s among the c ranks from a' on.
pub record Kept (change : Change) (a a' c r s : ℕ) : Type 0 where
  pub after : rank_after change r ≡ some s
  pub r_from : a ≤ r
  pub r_below : r < a + c
  pub s_from : a' ≤ s
  pub s_below : s < a' + c

-- These candidates leave and enter.
unfoldable Found : List ℕ → List ℕ → Comparison → Type 0
Found out into Unchanged = (out ≡ []) × (into ≡ [])
Found out into (Swapped r e) = (out ≡ r ∷ []) × (into ≡ e ∷ [])

found_first : (out into : List ℕ) (found : Comparison) → Found out into found → first_of_each out into ≡ found
unfolding Found first_of_each
found_first out into Unchanged h = rw h.0
found_first out into (Swapped r e) h = rw (h.0, h.1)

found_one : (out into : List ℕ) (found : Comparison) → Found out into found
    → ((out ≡ []) × (into ≡ []))
    ⊎ ((r : ℕ) × (e : ℕ) × (out ≡ r ∷ []) × (into ≡ e ∷ []) × (first_of_each out into ≡ Swapped r e))
unfolding Found
found_one out into Unchanged h = inl h
found_one out into (Swapped r e) h = inr (r, e, h.0, h.1, found_first out into (Swapped r e) h)

-- What holds of every rank of a window, by its place; and of every rank but x, by its place among the others.
by_place : (P : ℕ → Type 0) (a c r : ℕ) → a ≤ r → r < a + c → ((f : ℕ) → f < c → P (a + f)) → P r
by_place P a c r l k h = let e : a + (r - a) ≡ r = omega arith in rw e at (h (r - a) (omega arith))

by_other : (P : ℕ → Type 0) (a c x r : ℕ) → a ≤ x → x < a + c → a ≤ r → r < a + c → r ≢ x
    → ((f : ℕ) → suc f < c → P (a + skip (x - a) f)) → P r
by_other P a c x r p q l m ne h =
    ⊎_elim
    (λ (k : r < x).
    let e : a + skip (x - a) (r - a) ≡ r = omega (arith, skip_lt (x - a) (r - a) (omega arith)) in
    rw e at (h (r - a) (omega arith)))
    (λ (k : x ≤ r).
    let e : a + skip (x - a) (r - a - 1) ≡ r = omega (arith, skip_ge (x - a) (r - a - 1) (omega arith)) in
    rw e at (h (r - a - 1) (omega arith)))
    (lt_or_ge r x)

module _ (change : Change) (a a' c : ℕ) where
  unchanged_kept : Matched change a a' c Unchanged → (f : ℕ) → f < c → Kept change a a' c (a + f) (a' + f)
  unfolding Matched
  unchanged_kept m f l =
      record { after = m f l; r_from = omega arith; r_below = omega arith; s_from = omega arith; s_below = omega arith }

  exchange_kept : (out into : ℕ) → Exchange change a a' c out into → (f : ℕ) → suc f < c
      → Kept change a a' c (a + skip (out - a) f) (a' + skip (into - a') f)
  exchange_kept out into m f l = record {
    after = m.others f l;
    r_from = omega arith;
    r_below = omega (arith, skip_small (out - a) f (c - 1) (omega arith));
    s_from = omega arith;
    s_below = omega (arith, skip_small (into - a') f (c - 1) (omega arith));
  }

  -- What holds of every candidate kept, by its rank before and by its rank after, holds of all that do not leave and of all that do
  -- not enter.
  pub by_kept : (P Q : ℕ → Type 0) → ((r s : ℕ) → Kept change a a' c r s → P r × Q s)
      → (found : Comparison) → Matched change a a' c found
      → ((r : ℕ) → a ≤ r → r < a + c → ¬ Leaves found r → P r) × ((s : ℕ) → a' ≤ s → s < a' + c → ¬ Enters found s → Q s)
  unfolding Matched Leaves Enters
  by_kept P Q h Unchanged m = (
    λ r l k ne. by_place P a c r l k (λ f p. (h _ _ (unchanged_kept m f p)).0),
    λ s l k ne. by_place Q a' c s l k (λ f p. (h _ _ (unchanged_kept m f p)).1),
  )
  by_kept P Q h (Swapped out into) m = (
    λ r l k ne. by_other P a c out r m.out_from m.out_below l k ne (λ f p. (h _ _ (exchange_kept out into m f p)).0),
    λ s l k ne. by_other Q a' c into s m.into_from m.into_below l k ne (λ f p. (h _ _ (exchange_kept out into m f p)).1),
  )

  is_leaving : ℕ → Bool
  is_leaving r = not (is_among (rank_after change r) (ranks_from a' c))

  is_entering : ℕ → Bool
  is_entering e = not (some_of (λ r. is_among (rank_after change r) (e ∷ [])) (ranks_from a c))

  kept_tests : (r s : ℕ) → Kept change a a' c r s → (is_leaving r ≡ false) × (is_entering s ≡ false)
  unfolding is_leaving is_entering ranks_from
  kept_tests r s k = (
    ap not (among_yes (rank_after change r) a' c s k.after k.s_from k.s_below),
    ap not
        (some_yes (λ r. is_among (rank_after change r) (s ∷ [])) a c r k.r_from k.r_below
        (among_yes (rank_after change r) s 1 s k.after (omega arith) (omega arith))),
  )

  leaves_yes : (r : ℕ) → ((s : ℕ) → a' ≤ s → s < a' + c → rank_after change r ≢ some s) → is_leaving r ≡ true
  unfolding is_leaving
  leaves_yes r h = ap not (among_no (rank_after change r) a' c h)

  enters_yes : (s : ℕ) → ((r : ℕ) → a ≤ r → r < a + c → rank_after change r ≢ some s) → is_entering s ≡ true
  unfolding is_entering ranks_from
  enters_yes s h =
      ap not
      (some_no (λ r. is_among (rank_after change r) (s ∷ [])) a c
      (λ r l k. among_no (rank_after change r) s 1 (λ t p q e. h r l k (e ∙ ap some (omega arith)))))

  -- What leaves and what enters is what the match says.
  matched_found : (found : Comparison) → Matched change a a' c found
      → Found (keep_if is_leaving (ranks_from a c)) (keep_if is_entering (ranks_from a' c)) found
  unfolding Found Leaves Enters Matched
  matched_found Unchanged m =
      let others = by_kept _ _ kept_tests Unchanged m in
      (keep_none is_leaving a c (λ r l k. others.0 r l k (λ z. z)), keep_none is_entering a' c (λ s l k. others.1 s l k (λ z. z)))
  matched_found (Swapped out into) m =
      let others = by_kept _ _ kept_tests (Swapped out into) m in (
        keep_one is_leaving a c out m.out_from m.out_below (leaves_yes out m.leaves) others.0,
        keep_one is_entering a' c into m.into_from m.into_below (enters_yes into m.enters) others.1,
      )

module _ (change : Change) (n c : ℕ) (pos : 0 < c) (before : c ≤ n) (after : c ≤ count_after change n) where
  windows_found : Found (leaving change n c) (entering change n c) (swap_of change n c)
  unfolding leaving entering window is_leaving is_entering
  windows_found = matched_found change _ _ c (swap_of change n c) (windows_matched change n c pos before after)

  -- The closed form is the comparison by identity.
  pub compare_closed : compare change n c ≡ swap_of change n c
  unfolding compare
  compare_closed = found_first _ _ (swap_of change n c) windows_found

  -- The candidates are unchanged, or one leaves and one enters.
  pub at_most_one :
      ((leaving change n c ≡ []) × (entering change n c ≡ []))
      ⊎ ((r : ℕ) × (e : ℕ) × (leaving change n c ≡ r ∷ []) × (entering change n c ≡ e ∷ []) × (compare change n c ≡ Swapped r e))
  unfolding compare
  at_most_one = found_one _ _ (swap_of change n c) windows_found
