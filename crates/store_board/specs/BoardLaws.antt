-- Laws of the ranks of a board: what is known of the next one, and of the last one.
use Rattle.std.specs.Prelude.{◌≡◌, refl, Bool, true, false, ◌||◌, List, [], ◌∷◌, ℕ, zero, suc, ◌+◌, ◌≤◌, ◌<◌, leb, ltb, length, get_or, drop}
use Rattle.std.proofs.Common.{sym, ⊎_elim, le_of_suc-le-suc, not-suc-le-zero, add-one, arith, drop-cons}
use Rattle.std.proofs.Math.Bool.{or-false}
use borrow.Author.Tests.{lt-ltb, le-ltb, ltb-false, leb-false, leb-true, le-leb, lt-leb}
use Rattle.std.proofs.Math.Seq.{drop-nil}
use Rattle.base.specs.CaseLaws.{lt_or_ge}
use Rattle.base.specs.BoolLaws.{neither}
use Rattle.store_board.specs.Board.{falls_below, some_from, entries_at}

-- ---- the next rank

module _ (ranks : List ℕ) (k : ℕ) (more : k < length ranks) where
  abbrev rank : ℕ
  rank = get_or ranks k 0

  next : drop k ranks ≡ rank ∷ drop (k + 1) ranks
  next = rw (add-one k) (drop-cons ranks k 0 more)

  -- It is below the one before it, or those behind it are looked at from it on.
  pub falls_here : (low : ℕ) → rank < low → falls_below low (drop k ranks) ≡ true
  unfolding falls_below
  falls_here low h = rw (next, lt-ltb rank low h)

  pub falls_behind : (low : ℕ) → low ≤ rank → falls_below low (drop k ranks) ≡ falls_below rank (drop (k + 1) ranks)
  unfolding falls_below
  falls_behind low h = rw (next, le-ltb rank low h)

  -- It is not below the one before it, and those behind it do not fall from it on.
  pub next_rank : (low : ℕ) → falls_below low (drop k ranks) ≡ false → (low ≤ rank) × (falls_below rank (drop (k + 1) ranks) ≡ false)
  unfolding falls_below
  next_rank low h = let both = neither (ltb rank low) (falls_below rank (drop (k + 1) ranks)) (rw next at h) in (ltb-false rank low both.0, both.1)

-- Ranks that do not fall do not fall from any bound on that is not above the first one.
pub falls_from : (low low' : ℕ) (ranks : List ℕ) → low' ≤ get_or ranks 0 0 → falls_below low ranks ≡ false → falls_below low' ranks ≡ false
unfolding falls_below
falls_from low low' [] least h = refl
falls_from low low' (rank ∷ ranks) least h = rw (le-ltb rank low' least) (neither (ltb rank low) (falls_below rank ranks) h).1

-- Behind the last one nothing falls.
pub falls_none : (low : ℕ) (ranks : List ℕ) (k : ℕ) → length ranks ≤ k → falls_below low (drop k ranks) ≡ false
unfolding falls_below
falls_none low [] k all = rw (drop-nil k)
falls_none low (rank ∷ ranks) zero all = absurd (not-suc-le-zero all)
falls_none low (rank ∷ ranks) (suc k) all = falls_none low ranks k (le_of_suc-le-suc all)

-- A rank is that of an entry, where none is not.
pub rank_inside : (N : ℕ) (ranks : List ℕ) (k : ℕ) → k < length ranks → some_from N ranks ≡ false → get_or ranks k 0 < N
unfolding some_from
rank_inside N [] k more h = absurd (not-suc-le-zero more)
rank_inside N (rank ∷ ranks) zero more h = leb-false N rank (neither (leb N rank) (some_from N ranks) h).0
rank_inside N (rank ∷ ranks) (suc k) more h = rank_inside N ranks k (le_of_suc-le-suc more) (neither (leb N rank) (some_from N ranks) h).1

-- Where one is not, it is found.
pub rank_outside : (N : ℕ) (ranks : List ℕ) → some_from N ranks ≡ true → (k : ℕ) × (k < length ranks) × (N ≤ get_or ranks k 0)
unfolding some_from
rank_outside N [] h = let z : ◌≡◌ {A = ℕ} 0 1 = cc in absurd (omega arith)
rank_outside N (rank ∷ ranks) h =
    ⊎_elim
    (λ below. let found = rank_outside N ranks (rw (lt-leb N rank below) at h) in (suc found.0, omega (arith, found.1), found.2))
    (λ outside. (0, omega arith, outside))
    (lt_or_ge rank N)

pub some_none : (N : ℕ) (ranks : List ℕ) → length ranks ≡ 0 → some_from N ranks ≡ false
unfolding some_from
some_none N [] none = refl
some_none N (rank ∷ ranks) none = absurd (omega arith)

-- The entries at the ranks, one by one.
pub entry_next : (list ranks : List ℕ) (k : ℕ) → k < length ranks → get_or (entries_at list ranks) k 0 ≡ get_or list (get_or ranks k 0) 0
entry_next list [] k more = absurd (not-suc-le-zero more)
entry_next list (rank ∷ ranks) zero more = refl
entry_next list (rank ∷ ranks) (suc k) more = entry_next list ranks k (le_of_suc-le-suc more)

-- ---- the last rank, of ranks that do not fall

-- It is not below any bound from below.
last_least : (low : ℕ) (ranks : List ℕ) (k : ℕ) → k + 1 ≡ length ranks → falls_below low ranks ≡ false → low ≤ get_or ranks k 0
unfolding falls_below
last_least low [] k all h = absurd (omega arith)
last_least low (rank ∷ []) zero all h = ltb-false rank low (neither (ltb rank low) _ h).0
last_least low (rank ∷ []) (suc k) all h = absurd (omega arith)
last_least low (rank ∷ rank' ∷ ranks) zero all h = absurd (omega arith)
last_least low (rank ∷ rank' ∷ ranks) (suc k) all h =
    let both = neither (ltb rank low) (falls_below rank (rank' ∷ ranks)) h in
    omega (arith, ltb-false rank low both.0, last_least rank (rank' ∷ ranks) k (omega arith) both.1)

-- So it tells whether one of them is that of no entry.
pub some_last : (N low : ℕ) (ranks : List ℕ) (k : ℕ) → k + 1 ≡ length ranks → falls_below low ranks ≡ false → leb N (get_or ranks k 0) ≡ some_from N ranks
unfolding falls_below some_from
some_last N low [] k all h = absurd (omega arith)
some_last N low (rank ∷ []) zero all h = sym (or-false (leb N rank))
some_last N low (rank ∷ []) (suc k) all h = absurd (omega arith)
some_last N low (rank ∷ rank' ∷ ranks) zero all h = absurd (omega arith)
some_last N low (rank ∷ rank' ∷ ranks) (suc k) all h =
    let both = neither (ltb rank low) (falls_below rank (rank' ∷ ranks)) h in
    let least : rank ≤ get_or (rank' ∷ ranks) k 0 = last_least rank (rank' ∷ ranks) k (omega arith) both.1 in
    rw (← some_last N rank (rank' ∷ ranks) k (omega arith) both.1)
    (go (leb N rank) (λ e. le-leb N (get_or (rank' ∷ ranks) k 0) (omega (arith, leb-true N rank e, least))))
  where
    go : (b : Bool) {c : Bool} → (b ≡ true → c ≡ true) → c ≡ (b || c)
    go true h = h refl
    go false h = refl
