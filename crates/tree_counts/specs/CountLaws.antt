-- Laws of the counts: what a written range changes and what stands there, the tree read back, and a range written again.
use Rattle.std.specs.Prelude.{◌≡◌, refl, ◌≢◌, ℕ, zero, suc, ◌+◌, ◌-◌, ◌*◌, ◌^◌, ◌≤◌, ◌<◌, length, get_or, set}
use Rattle.std.proofs.Math.Path.{ap}
use Rattle.std.proofs.Common.{sym, ◌∙◌, subst, ⊎_elim, arith, mul-le-mul_left, not-suc-le-zero, pow_pos, length-set, get_or-set_same, get_or-set_other, set-set}
use mathlib.Core.List.{List}
use Rattle.std.proofs.Math.Nat.{pow-succ'}
use Rattle.std.proofs.lemmas.List.{set-get_or, set_comm}
use Rattle.tree_rules.specs.Tree.{Tree, leaf, node}
use Rattle.tree_counts.specs.Ranges.{Below, InSubtree, Apart, Perfect}
use Rattle.tree_counts.specs.RangeLaws.{below_itself, below_only, below_least, below_left, below_right, below_halves, halves_apart, subtree_root, subtree_left, subtree_right, not_left, not_right}
use Rattle.tree_counts.specs.Counts.{write_tree, read_tree, Holds, SameBelow}

-- ---- counts that hold a range

pub holds_count : (counts : List ℕ) (k n : ℕ) (t : Tree) → Holds counts k n t → get_or counts k 0 ≡ n
unfolding Holds
holds_count counts k n leaf w = w
holds_count counts k n (node b l r) w = w.0

pub read_perfect : (levels : ℕ) (counts : List ℕ) (k : ℕ) → Perfect levels (read_tree levels counts k)
unfolding Perfect read_tree
read_perfect zero counts k = tt
read_perfect (suc levels) counts k = (read_perfect levels counts (2 * k), read_perfect levels counts (2 * k + 1))

-- The tree that counts hold is the one read from them.
pub holds_read : (levels : ℕ) (counts : List ℕ) (k n : ℕ) (t : Tree) → Perfect levels t → Holds counts k n t
    → read_tree levels counts k ≡ t
unfolding Perfect Holds read_tree
holds_read zero counts k n leaf has w = refl
holds_read (suc levels) counts k n (node b l r) has w =
    rw (
      holds_count counts (2 * k) b l w.1,
      holds_read levels counts (2 * k) b l has.0 w.1,
      holds_read levels counts (2 * k + 1) (n - b) r has.1 w.2,
    )
holds_read zero counts k n (node b l r) has w = elim has [ ]
holds_read (suc levels) counts k n leaf has w = elim has [ ]

pub holds_same : (levels : ℕ) (xs ys : List ℕ) (k n : ℕ) (t : Tree) → Perfect levels t → SameBelow levels k xs ys → Holds xs k n t
    → Holds ys k n t
unfolding Perfect Holds
holds_same zero xs ys k n leaf has same w = sym (same 0 k (omega arith) (below_itself k)) ∙ w
holds_same (suc levels) xs ys k n (node b l r) has same w = (
  sym (same 0 k (omega arith) (below_itself k)) ∙ w.0,
  holds_same levels xs ys (2 * k) b l has.0 (λ d j h u. same (suc d) j (omega arith) (below_left k d j u)) w.1,
  holds_same levels xs ys (2 * k + 1) (n - b) r has.1 (λ d j h u. same (suc d) j (omega arith) (below_right k d j u)) w.2,
)
holds_same zero xs ys k n (node b l r) has same w = elim has [ ]
holds_same (suc levels) xs ys k n leaf has same w = elim has [ ]

-- What two lists of counts hold decides the numbers of the range.
pub holds_agree : (levels : ℕ) (xs ys : List ℕ) (k n : ℕ) (t : Tree) → Perfect levels t → Holds xs k n t → Holds ys k n t
    → SameBelow levels k xs ys
unfolding Perfect Holds
holds_agree levels xs ys k n t has v w zero j h u =
    rw (below_only k j u) (holds_count xs k n t v ∙ sym (holds_count ys k n t w))
holds_agree zero xs ys k n leaf has v w (suc d) j h u = absurd (not-suc-le-zero h)
holds_agree (suc levels) xs ys k n (node b l r) has v w (suc d) j h u =
    ⊎_elim
    (λ a. holds_agree levels xs ys (2 * k) b l has.0 v.1 w.1 d j (omega arith) a)
    (λ a. holds_agree levels xs ys (2 * k + 1) (n - b) r has.1 v.2 w.2 d j (omega arith) a)
    (below_halves k d j u)
holds_agree zero xs ys k n (node b l r) has v w (suc d) j h u = elim has [ ]
holds_agree (suc levels) xs ys k n leaf has v w (suc d) j h u = elim has [ ]

-- ---- writing a range

pub length_write : (counts : List ℕ) (k n : ℕ) (t : Tree) → length (write_tree counts k n t) ≡ length counts
unfolding write_tree
length_write counts k n leaf = length-set counts k n
length_write counts k n (node b l r) =
    length_write (write_tree (set counts k n) (2 * k) b l) (2 * k + 1) (n - b) r
    ∙ length_write (set counts k n) (2 * k) b l
    ∙ length-set counts k n

-- Writing touches only the numbers of the range.
pub write_other : (levels : ℕ) (counts : List ℕ) (k n : ℕ) (t : Tree) (j : ℕ) → Perfect levels t
    → ((d : ℕ) → d ≤ levels → Below k d j → ⊥) → get_or (write_tree counts k n t) j 0 ≡ get_or counts j 0
unfolding Perfect write_tree
write_other zero counts k n leaf j has other =
    get_or-set_other counts k j n 0 (λ e. other 0 (omega arith) (rw e (below_itself k)))
write_other (suc levels) counts k n (node b l r) j has other =
    write_other levels (write_tree (set counts k n) (2 * k) b l) (2 * k + 1) (n - b) r j has.1
    (λ d h u. other (suc d) (omega arith) (below_right k d j u))
    ∙ write_other levels (set counts k n) (2 * k) b l j has.0 (λ d h u. other (suc d) (omega arith) (below_left k d j u))
    ∙ get_or-set_other counts k j n 0 (λ e. other 0 (omega arith) (rw e (below_itself k)))
write_other zero counts k n (node b l r) j has other = elim has [ ]
write_other (suc levels) counts k n leaf j has other = elim has [ ]

-- What was written stands there.
pub write_holds : (levels : ℕ) (counts : List ℕ) (k n : ℕ) (t : Tree) → Perfect levels t → 0 < k
    → (k + 1) * 2 ^ levels ≤ length counts → Holds (write_tree counts k n t) k n t
unfolding Perfect Holds write_tree
write_holds zero counts k n leaf has pos room = get_or-set_same counts k n 0 (omega arith)
write_holds (suc levels) counts k n (node b l r) has pos room =
    let own : List ℕ = set counts k n in
    let left : List ℕ = write_tree own (2 * k) b l in
    let whole : List ℕ = write_tree left (2 * k + 1) (n - b) r in
    let own-length : length own ≡ length counts = length-set counts k n in
    let left_length : length left ≡ length counts = length_write own (2 * k) b l ∙ own-length in
    let room-halves : (k + 1) * (2 * 2 ^ levels) ≤ length counts = rw (pow-succ' 2 levels) at room in (
      write_other levels left (2 * k + 1) (n - b) r k has.1 (λ d h u. omega (arith, below_least (2 * k + 1) d k u))
          ∙ write_other levels own (2 * k) b l k has.0 (λ d h u. omega (arith, below_least (2 * k) d k u))
          ∙ get_or-set_same counts k n 0 (omega (arith, mul-le-mul_left (k + 1) (pow_pos levels))),
      holds_same levels left whole (2 * k) b l has.0
          (λ d j h u. sym (write_other levels left (2 * k + 1) (n - b) r j has.1 (λ e h' u'. halves_apart k d e j pos u u')))
          (write_holds levels own (2 * k) b l has.0 (omega arith) (omega arith)),
      write_holds levels left (2 * k + 1) (n - b) r has.1 (omega arith) (omega arith),
    )
write_holds zero counts k n (node b l r) has pos room = elim has [ ]
write_holds (suc levels) counts k n leaf has pos room = elim has [ ]

-- ---- what stands outside a range

not_root : (k j : ℕ) → (InSubtree k j → ⊥) → k ≢ j
not_root k j outside = λ e. outside (subst (λ (i : ℕ). InSubtree k i) e (subtree_root k))

pub write_set : (t : Tree) (counts : List ℕ) (k n j x : ℕ) → (InSubtree k j → ⊥)
    → set (write_tree counts k n t) j x ≡ write_tree (set counts j x) k n t
unfolding write_tree
write_set leaf counts k n j x outside = set_comm counts k j n x (not_root k j outside)
write_set (node b l r) counts k n j x outside =
    write_set r (write_tree (set counts k n) (2 * k) b l) (2 * k + 1) (n - b) j x (λ s. outside (subtree_right k j s))
    ∙ ap (λ (c : List ℕ). write_tree c (2 * k + 1) (n - b) r)
    (write_set l (set counts k n) (2 * k) b j x (λ s. outside (subtree_left k j s))
    ∙ ap (λ (c : List ℕ). write_tree c (2 * k) b l) (set_comm counts k j n x (not_root k j outside)))

pub write_comm : (t t' : Tree) (counts : List ℕ) (k n k' n' : ℕ) → Apart k k'
    → write_tree (write_tree counts k n t) k' n' t' ≡ write_tree (write_tree counts k' n' t') k n t
unfolding write_tree Apart
write_comm t leaf counts k n k' n' apart = write_set t counts k n k' n' (λ s. apart k' s (subtree_root k'))
write_comm t (node b l r) counts k n k' n' apart =
    ap (λ (c : List ℕ). write_tree (write_tree c (2 * k') b l) (2 * k' + 1) (n' - b) r)
    (write_set t counts k n k' n' (λ s. apart k' s (subtree_root k')))
    ∙ ap (λ (c : List ℕ). write_tree c (2 * k' + 1) (n' - b) r)
    (write_comm t l (set counts k' n') k n (2 * k') b (λ j s s'. apart j s (subtree_left k' j s')))
    ∙ write_comm t r (write_tree (set counts k' n') (2 * k') b l) k n (2 * k' + 1) (n' - b)
    (λ j s s'. apart j s (subtree_right k' j s'))

pub holds_set : (t : Tree) (counts : List ℕ) (k n j x : ℕ) → (InSubtree k j → ⊥) → Holds counts k n t → Holds (set counts j x) k n t
unfolding Holds
holds_set leaf counts k n j x outside w = get_or-set_other counts j k x 0 (not_root k j outside) ∙ w
holds_set (node b l r) counts k n j x outside w = (
  get_or-set_other counts j k x 0 (not_root k j outside) ∙ w.0,
  holds_set l counts (2 * k) b j x (λ s. outside (subtree_left k j s)) w.1,
  holds_set r counts (2 * k + 1) (n - b) j x (λ s. outside (subtree_right k j s)) w.2,
)

-- ---- writing a range again

right_left : (k : ℕ) → 0 < k → Apart (2 * k + 1) (2 * k)
unfolding Apart
right_left k pos j r l = halves_apart k l.0 r.0 j pos l.1 r.1

pub write_over : (levels : ℕ) (t t' : Tree) (counts : List ℕ) (k n n' : ℕ) → 0 < k → Perfect levels t → Perfect levels t'
    → write_tree (write_tree counts k n t) k n' t' ≡ write_tree counts k n' t'
unfolding write_tree Perfect
write_over zero leaf leaf counts k n n' pos p p' = set-set counts k n n'
write_over (suc levels) (node b l r) (node b' l' r') counts k n n' pos p p' =
    ap (λ (c : List ℕ). right r' (n' - b') (left l' b' c)) first
    ∙ ap (λ (c : List ℕ). right r' (n' - b') c)
    (write_comm r l' (left l b (set counts k n')) (2 * k + 1) (n - b) (2 * k) b' (right_left k pos)
    ∙ ap (λ (c : List ℕ). right r (n - b) c)
    (write_over levels l l' (set counts k n') (2 * k) b b' (omega arith) p.0 p'.0))
    ∙ write_over levels r r' (left l' b' (set counts k n')) (2 * k + 1) (n - b) (n' - b') (omega arith) p.1 p'.1
  where
    left : Tree → ℕ → List ℕ → List ℕ
    left t m c = write_tree c (2 * k) m t

    right : Tree → ℕ → List ℕ → List ℕ
    right t m c = write_tree c (2 * k + 1) m t

    first : set (right r (n - b) (left l b (set counts k n))) k n' ≡ right r (n - b) (left l b (set counts k n'))
    first =
        write_set r (left l b (set counts k n)) (2 * k + 1) (n - b) k n' (not_right k pos)
        ∙ ap (λ (c : List ℕ). right r (n - b) c)
        (write_set l (set counts k n) (2 * k) b k n' (not_left k pos) ∙ ap (λ (c : List ℕ). left l b c) (set-set counts k n n'))
write_over zero leaf (node b' l' r') counts k n n' pos p p' = elim p' [ ]
write_over zero (node b l r) _ counts k n n' pos p p' = elim p [ ]
write_over (suc levels) leaf _ counts k n n' pos p p' = elim p [ ]
write_over (suc levels) (node b l r) leaf counts k n n' pos p p' = elim p' [ ]

-- To write what the counts hold changes nothing.
write_held : (counts : List ℕ) (k n : ℕ) (t : Tree) → Holds counts k n t → write_tree counts k n t ≡ counts
unfolding Holds write_tree
write_held counts k n leaf w = rw (← w) (set-get_or counts k 0)
write_held counts k n (node b l r) w =
    ap (λ (c : List ℕ). write_tree (write_tree c (2 * k) b l) (2 * k + 1) (n - b) r) (rw (← w.0) (set-get_or counts k 0))
    ∙ ap (λ (c : List ℕ). write_tree c (2 * k + 1) (n - b) r) (write_held counts (2 * k) b l w.1)
    ∙ write_held counts (2 * k + 1) (n - b) r w.2

module _ (counts : List ℕ) (k n b : ℕ) (l r : Tree) (pos : 0 < k) where
  -- Only one half of a range is written anew, with the range's count.
  pub write_left : (n' b' : ℕ) (l' : Tree) → n' - b' ≡ n - b → Holds counts (2 * k + 1) (n - b) r
      → write_tree counts k n' (node b' l' r) ≡ write_tree (set counts k n') (2 * k) b' l'
  unfolding write_tree
  write_left n' b' l' e h =
      rw e
      (sym (write_comm r l' (set counts k n') (2 * k + 1) (n - b) (2 * k) b' (right_left k pos))
      ∙ ap (λ (c : List ℕ). write_tree c (2 * k) b' l')
      (write_held (set counts k n') (2 * k + 1) (n - b) r (holds_set r counts (2 * k + 1) (n - b) k n' (not_right k pos) h)))

  pub write_right : (n' : ℕ) (r' : Tree) → Holds counts (2 * k) b l
      → write_tree counts k n' (node b l r') ≡ write_tree (set counts k n') (2 * k + 1) (n' - b) r'
  unfolding write_tree
  write_right n' r' h =
      ap (λ (c : List ℕ). write_tree c (2 * k + 1) (n' - b) r')
      (write_held (set counts k n') (2 * k) b l (holds_set l counts (2 * k) b k n' (not_left k pos) h))
