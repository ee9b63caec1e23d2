-- Laws of the third slice: its length, what stands at each range number, and that no other words hold the same.
use Rattle.std.specs.Prelude.{◌≡◌, replicate}
use Rattle.std.proofs.Math.Path.{refl, sym}
use Rattle.std.proofs.Common.{◌∙◌, arith, not-suc-le-zero, pow_pos, pow_mono, ext_get_or}
use mathlib.Core.List.{List}
use Rattle.std.proofs.Math.Logic.{⊎_elim}
use Prim.Native.Nat.{ℕ, zero, suc, ◌+◌, ◌*◌, ◌^◌, ◌≤◌, ◌<◌}
use Rattle.std.proofs.Math.Nat.{mul-le-mul_left, pow-succ'}
use Rattle.std.proofs.Math.ListN.{length, get_or, set, length-set, length-replicate}
use Rattle.std.proofs.Math.Seq.{get_or-set_same, get_or-set_other}
use Rattle.base.specs.CaseLaws.{lt_or_ge}
use Rattle.base.specs.ListLaws.{replicate_at}
use Rattle.tree_rules.specs.Tree.{Tree, leaf, node, Shape}
use Rattle.tree_counts.specs.Ranges.{Below, Perfect}
use Rattle.tree_counts.specs.RangeLaws.{below_itself, below_only, below_least, below_left, below_right, below_halves, halves_apart, below_root}
use Rattle.store_balance.specs.Balance.{write_balance, lay_balance, HoldsBalance}

-- Every number from 1 on and below 2 ^ levels is that of a range above the leaves.
pub below_above : (levels j : ℕ) → 0 < j → j < 2 ^ levels → (d : ℕ) × (d < levels) × Below 1 d j
below_above zero j pos h = absurd (omega arith)
below_above (suc levels) j pos h =
    let w = below_root levels j pos (rw (pow-succ' 2 levels) at h) in (w.0, omega (arith, w.1), w.2)

module _ (list : List ℕ) where
  -- ---- words that hold the balance entries of a range

  pub balance_same : (levels : ℕ) (xs ys : List ℕ) (k first : ℕ) (t : Tree) → Perfect levels t
      → ((d j : ℕ) → d < levels → Below k d j → get_or xs j 0 ≡ get_or ys j 0) → HoldsBalance list xs k first t → HoldsBalance list ys k first t
  unfolding Perfect HoldsBalance
  balance_same zero xs ys k first leaf has same w = tt
  balance_same (suc levels) xs ys k first (node b l r) has same w = (
    sym (same 0 k (omega arith) (below_itself k)) ∙ w.0,
    balance_same levels xs ys (2 * k) first l has.0 (λ d j h u. same (suc d) j (omega arith) (below_left k d j u)) w.1,
    balance_same levels xs ys (2 * k + 1) (first + b) r has.1 (λ d j h u. same (suc d) j (omega arith) (below_right k d j u)) w.2,
  )
  balance_same zero xs ys k first (node b l r) has same w = elim has [ ]
  balance_same (suc levels) xs ys k first leaf has same w = elim has [ ]

  -- What two lists of words hold decides the words of the ranges above the leaves.
  pub balance_agree : (levels : ℕ) (xs ys : List ℕ) (k first : ℕ) (t : Tree) → Perfect levels t → HoldsBalance list xs k first t
      → HoldsBalance list ys k first t → (d j : ℕ) → d < levels → Below k d j → get_or xs j 0 ≡ get_or ys j 0
  unfolding Perfect HoldsBalance
  balance_agree zero xs ys k first leaf has v w d j h u = absurd (not-suc-le-zero h)
  balance_agree (suc levels) xs ys k first (node b l r) has v w zero j h u = rw (below_only k j u) (v.0 ∙ sym w.0)
  balance_agree (suc levels) xs ys k first (node b l r) has v w (suc d) j h u =
      ⊎_elim
      (λ a. balance_agree levels xs ys (2 * k) first l has.0 v.1 w.1 d j (omega arith) a)
      (λ a. balance_agree levels xs ys (2 * k + 1) (first + b) r has.1 v.2 w.2 d j (omega arith) a)
      (below_halves k d j u)
  balance_agree zero xs ys k first (node b l r) has v w d j h u = elim has [ ]
  balance_agree (suc levels) xs ys k first leaf has v w d j h u = elim has [ ]

  -- ---- writing the balance entries of a range

  pub length_write_balance : (words : List ℕ) (k first : ℕ) (t : Tree) → length (write_balance list words k first t) ≡ length words
  unfolding write_balance
  length_write_balance words k first leaf = refl
  length_write_balance words k first (node b l r) =
      let x : ℕ = get_or list (first + b) 0 in
      length_write_balance (write_balance list (set words k x) (2 * k) first l) (2 * k + 1) (first + b) r
      ∙ length_write_balance (set words k x) (2 * k) first l
      ∙ length-set words k x

  -- Writing touches only the numbers of the ranges above the leaves.
  pub balance_other : (levels : ℕ) (words : List ℕ) (k first : ℕ) (t : Tree) (j : ℕ) → Perfect levels t
      → ((d : ℕ) → d < levels → Below k d j → ⊥) → get_or (write_balance list words k first t) j 0 ≡ get_or words j 0
  unfolding Perfect write_balance
  balance_other zero words k first leaf j has other = refl
  balance_other (suc levels) words k first (node b l r) j has other =
      let x : ℕ = get_or list (first + b) 0 in
      balance_other levels (write_balance list (set words k x) (2 * k) first l) (2 * k + 1) (first + b) r j has.1
      (λ d h u. other (suc d) (omega arith) (below_right k d j u))
      ∙ balance_other levels (set words k x) (2 * k) first l j has.0 (λ d h u. other (suc d) (omega arith) (below_left k d j u))
      ∙ get_or-set_other words k j x 0 (λ e. other 0 (omega arith) (rw e (below_itself k)))
  balance_other zero words k first (node b l r) j has other = elim has [ ]
  balance_other (suc levels) words k first leaf j has other = elim has [ ]

  -- What was written stands there.
  pub balance_written : (levels : ℕ) (words : List ℕ) (k first : ℕ) (t : Tree) → Perfect levels t → 0 < k
      → (k + 1) * 2 ^ levels ≤ 2 * length words → HoldsBalance list (write_balance list words k first t) k first t
  unfolding Perfect HoldsBalance write_balance
  balance_written zero words k first leaf has pos room = tt
  balance_written (suc levels) words k first (node b l r) has pos room =
      let x : ℕ = get_or list (first + b) 0 in
      let own : List ℕ = set words k x in
      let left : List ℕ = write_balance list own (2 * k) first l in
      let whole : List ℕ = write_balance list left (2 * k + 1) (first + b) r in
      let own-length : length own ≡ length words = length-set words k x in
      let left_length : length left ≡ length words = length_write_balance own (2 * k) first l ∙ own-length in
      let room-halves : (k + 1) * (2 * 2 ^ levels) ≤ 2 * length words = rw (pow-succ' 2 levels) at room in (
        balance_other levels left (2 * k + 1) (first + b) r k has.1 (λ d h u. omega (arith, below_least (2 * k + 1) d k u))
            ∙ balance_other levels own (2 * k) first l k has.0 (λ d h u. omega (arith, below_least (2 * k) d k u))
            ∙ get_or-set_same words k x 0 (omega (arith, mul-le-mul_left (k + 1) (pow_pos levels))),
        balance_same levels left whole (2 * k) first l has.0
            (λ d j h u. sym (balance_other levels left (2 * k + 1) (first + b) r j has.1 (λ e h' u'. halves_apart k d e j pos u u')))
            (balance_written levels own (2 * k) first l has.0 (omega arith) (omega arith)),
        balance_written levels left (2 * k + 1) (first + b) r has.1 (omega arith) (omega arith),
      )
  balance_written zero words k first (node b l r) has pos room = elim has [ ]
  balance_written (suc levels) words k first leaf has pos room = elim has [ ]

-- ---- the third slice of a shape

pub length_lay_balance : (room : ℕ) (list : List ℕ) (s : Shape) → length (lay_balance room list s) ≡ room
unfolding lay_balance
length_lay_balance room list s = length_write_balance list (replicate room 0) 1 0 s.tree ∙ length-replicate room 0

module _ (levels room : ℕ) (list : List ℕ) (s : Shape) (has : Perfect levels s.tree) where
  -- 0 at every number that is not one of a range above the leaves
  unwritten : (j : ℕ) → ((d : ℕ) → d < levels → Below 1 d j → ⊥) → get_or (lay_balance room list s) j 0 ≡ 0
  unfolding lay_balance
  unwritten j other = balance_other list levels (replicate room 0) 1 0 s.tree j has other ∙ replicate_at 0 room j

  pub balance_zero : get_or (lay_balance room list s) 0 0 ≡ 0
  balance_zero = unwritten 0 (λ d h u. omega (arith, below_least 1 d 0 u))

  pub balance_unused : (j : ℕ) → 2 ^ levels ≤ j → get_or (lay_balance room list s) j 0 ≡ 0
  balance_unused j from = unwritten j (λ d h u. omega (arith, u.before, rw (pow-succ' 2 d) at (pow_mono h)))

  module _ (fits : 2 ^ levels ≤ room) where
    pub balance_holds : HoldsBalance list (lay_balance room list s) 1 0 s.tree
    unfolding lay_balance
    balance_holds =
        balance_written list levels (replicate room 0) 1 0 s.tree has (omega arith) (omega (arith, length-replicate {A = ℕ} room 0))

    -- Words that hold the same, with 0 at every number that is not one of a range above the leaves, are the third slice.
    pub balance_only : (words : List ℕ) → length words ≡ room → get_or words 0 0 ≡ 0 → HoldsBalance list words 1 0 s.tree
        → ((j : ℕ) → 2 ^ levels ≤ j → get_or words j 0 ≡ 0) → words ≡ lay_balance room list s
    balance_only words same_length zero-at holds unused =
        ext_get_or 0 words (lay_balance room list s) (same_length ∙ sym (length_lay_balance room list s)) (λ j h. at j)
      where
        at : (j : ℕ) → get_or words j 0 ≡ get_or (lay_balance room list s) j 0
        at zero = zero-at ∙ sym balance_zero
        at (suc j) =
            ⊎_elim
            (λ (l : suc j < 2 ^ levels).
            let w = below_above levels (suc j) (omega arith) l in
            balance_agree list levels words (lay_balance room list s) 1 0 s.tree has holds balance_holds w.0 (suc j) w.1 w.2)
            (λ (l : 2 ^ levels ≤ suc j). unused (suc j) l ∙ sym (balance_unused (suc j) l))
            (lt_or_ge (suc j) (2 ^ levels))
