-- The comparison by identity moves the candidates before a change to those after it.
use Rattle.std.specs.Prelude.{◌≡◌, refl, ℕ, zero, suc, ◌+◌, ◌-◌, ◌≤◌, ◌<◌}
use Rattle.std.proofs.Common.{sym, ◌∙◌, arith}
use Rattle.std.proofs.Math.Path.{ap}
use Rattle.std.proofs.Math.Option.{some}
use Rattle.base.specs.Cases.{if_eq}
use Rattle.base.specs.CaseLaws.{if_eq_yes, if_eq_no, if_lt_yes, if_lt_no, by_eq, by_lt}
use Rattle.draw_shares.specs.Rational.{Rational, ◌⊕◌, ◌⊗◌, inv}
use Rattle.draw_shares.specs.Program.{Program, draw}
use Rattle.draw_shares.specs.Same.{sum, mean, expect, ◌≈◌}
use Rattle.draw_shares.specs.Sum.{skip, sum_cong, sum_skip, mean_cong}
use Rattle.draw_shares.specs.SameLaws.{≈_trans, ≈_path, draw_cong}
use Rattle.draw_shares.specs.Reservoir.{skip_ne, reservoir}
use Rattle.tree_sizes.specs.Sizes.{window_start, IsCandidate}
use Rattle.tree_sizes.proofs.SizeLaws.{candidate_face}
use Rattle.tree_rules.specs.declared.Change.{Change}
use Rattle.tree_rules.specs.declared.Change.TheVariants.{Insert, Delete}
use Rattle.tree_rules.specs.declared.Comparison.{Comparison}
use Rattle.tree_rules.specs.declared.Comparison.TheVariants.{Unchanged, Swapped}
use Rattle.tree_rules.specs.Tree.{Tree}
use Rattle.tree_rules.specs.Rules.{visit}
use Rattle.tree_rules.specs.Compare.{count_after, rank_after, compare}
use Rattle.tree_rules.specs.Swap.{swap_of}
use Rattle.tree_rules.specs.Moves.{rank_now, GoesOut, Leaves, Inside, face_after, Moves}
use Rattle.tree_rules.proofs.CompareLaws.{Exchange, Matched, Kept, by_kept, windows_matched, compare_closed}

-- ---- the rank after a change, as a number

-- Where an entry has a rank after the change, it is `rank_now`, and the entry does not go out.
pub after_now : (change : Change) (r s : ℕ) → rank_after change r ≡ some s → (rank_now change r ≡ s) × ¬ GoesOut change r
unfolding rank_after rank_now GoesOut
after_now (Insert i) r s =
    by_lt (λ o. o ≡ some s → (rank_now (Insert i) r ≡ s) × ¬ ⊥) r i _ _
    (λ l e. (if_lt_yes r i _ _ l ∙ cc, λ z. z))
    (λ l e. (if_lt_no r i _ _ l ∙ cc, λ z. z))
after_now (Delete i) r s =
    by_lt (λ o. o ≡ some s → (rank_now (Delete i) r ≡ s) × ¬ (r ≡ i)) r i _ _
    (λ l e. (if_lt_yes r i _ _ l ∙ cc, λ d. omega arith))
    (λ l. by_eq (λ o. o ≡ some s → (rank_now (Delete i) r ≡ s) × ¬ (r ≡ i)) r i _ _
    (λ d e. let z : ◌≡◌ {A = ℕ} 0 1 = cc in absurd (omega arith))
    (λ d e. (if_lt_no r i _ _ l ∙ cc, d)))

-- ---- sums over the candidates

module _ (v : ℕ → Rational) (change : Change) (a a' : ℕ) where
  exchange_sum : (c out into : ℕ) → Exchange change a a' c out into
      → sum c (λ f. v (if_eq f (out - a) into (rank_now change (a + f)))) ≡ sum c (λ f. v (a' + f))
  exchange_sum zero out into m = absurd (omega (arith, m.out_from, m.out_below))
  exchange_sum (suc k) out into m =
      let e : into ≡ a' + (into - a') = omega arith in
      sum_skip k (out - a) (λ f. v (if_eq f (out - a) into (rank_now change (a + f)))) (omega arith)
      ∙ rw (if_eq_yes (out - a) (out - a) into (rank_now change (a + (out - a))) refl)
      (ap (λ (u : Rational). u ⊕ v into) (sum_cong k other)
      ∙ ap (λ (r : ℕ). sum k (λ f. v (a' + skip (into - a') f)) ⊕ v r) e
      ∙ sym (sum_skip k (into - a') (λ f. v (a' + f)) (omega arith)))
    where
      other : (f : ℕ) → f < k
          → v (if_eq (skip (out - a) f) (out - a) into (rank_now change (a + skip (out - a) f))) ≡ v (a' + skip (into - a') f)
      other f l =
          ap v
          (if_eq_no (skip (out - a) f) (out - a) into _ (skip_ne (out - a) f)
          ∙ (after_now change _ _ (m.others f (omega arith))).0)

  matched_sum : (c : ℕ) (found : Comparison) → Matched change a a' c found
      → sum c (λ f. v (face_after change a found f)) ≡ sum c (λ f. v (a' + f))
  unfolding Matched face_after
  matched_sum c Unchanged m = sum_cong c (λ f l. ap v (after_now change (a + f) (a' + f) (m f l)).0)
  matched_sum c (Swapped out into) m = exchange_sum c out into m

-- ---- the candidates

matched_inside : (change : Change) (n c : ℕ) (found : Comparison)
    → Matched change (window_start n c) (window_start (count_after change n) c) c found → Inside change n c found
unfolding Matched Inside
matched_inside change n c Unchanged m = tt
matched_inside change n c (Swapped out into) m =
    (record { from = m.out_from; below = m.out_below }, record { from = m.into_from; below = m.into_below })

module _ (change : Change) (n c : ℕ) (pos : 0 < c) (before : c ≤ n) (after : c ≤ count_after change n) where
  pub moves : Moves change n c (compare change n c)
  moves =
      rw (compare_closed change n c pos before after)
      record {
        inside = matched_inside change n c (swap_of change n c) matched;
        within = λ r w ne. (stayed r w ne).0;
        stays = λ r w ne. (stayed r w ne).1;
        matches = λ v. matched_sum v change _ _ c (swap_of change n c) matched;
      }
    where
      matched : Matched change (window_start n c) (window_start (count_after change n) c) c (swap_of change n c)
      matched = windows_matched change n c pos before after

      candidate : (r s : ℕ) → Kept change (window_start n c) (window_start (count_after change n) c) c r s
          → (IsCandidate (count_after change n) c (rank_now change r) × ¬ GoesOut change r) × Unit {0}
      candidate r s k =
          let now = after_now change r s k.after in
          ((rw now.0 record { from = k.s_from; below = k.s_below }, now.1), tt)

      stayed : (r : ℕ) → IsCandidate n c r → ¬ Leaves (swap_of change n c) r
          → IsCandidate (count_after change n) c (rank_now change r) × ¬ GoesOut change r
      stayed r w = (by_kept change _ _ c _ _ candidate (swap_of change n c) matched).0 r w.from w.below

-- ---- the reservoir step at a range

same_face : {A : Type 0} (a f out : ℕ) (x y : A) → a ≤ out → if_eq (a + f) out x y ≡ if_eq f (out - a) x y
same_face a f out x y l =
    by_eq (λ z. if_eq (a + f) out x y ≡ z) f (out - a) x y
    (λ e. if_eq_yes (a + f) out x y (omega arith))
    (λ ne. if_eq_no (a + f) out x y (λ e. ne (omega arith)))

-- A balance entry that is equally likely each of the c candidates is, after the visit, equally likely each of the candidates after the
-- change. `given r` goes on with the balance entry of rank r after the change; `down r` is the walk below the one of rank r before it.
pub visit_keeps : (change : Change) (n c : ℕ) (found : Comparison) (given down : ℕ → Program Tree) → Moves change n c found
    → ((r : ℕ) → IsCandidate n c r → ¬ Leaves found r → down r ≈ given (rank_now change r))
    → draw c
    (λ f.
    visit found c (window_start n c + f) (draw c (λ k. given (window_start (count_after change n) c + k))) given (down (window_start n c + f)))
    ≈ draw c (λ f. given (window_start (count_after change n) c + f))
unfolding visit expect mean Leaves face_after Inside
visit_keeps change n c Unchanged given down m d =
    record {
      means = λ g.
          mean_cong c (λ f l. (d (window_start n c + f) (candidate_face n c f l) (λ z. z)).means g)
          ∙ ap (λ (u : Rational). inv c ⊗ u) (m.matches (λ r. expect (given r) g));
    }
visit_keeps change n c (Swapped out into) given down m d =
    ≈_trans
    (draw_cong c (λ f l. ≈_path (same_face (window_start n c) f out _ _ m.inside.0.from)))
    (reservoir c (out - window_start n c) into (window_start (count_after change n) c) (λ f. rank_now change (window_start n c + f)) given
    (λ f. down (window_start n c + f))
    (omega (arith, m.inside.0.from, m.inside.0.below))
    m.matches
    (λ f l ne. d (window_start n c + f) (candidate_face n c f l) (λ e. ne (omega arith))))
