-- Laws of the rebuilding of a range, in the values that the code has: c candidates, the first at w, the balance entry b.
use Rattle.std.specs.Prelude.{◌≡◌, ◌≢◌, List, ℕ, zero, suc, ◌+◌, ◌-◌, ◌*◌, ◌^◌, ◌≤◌, ◌<◌, set, Option, Some, None}
use Rattle.std.proofs.Math.Path.{refl}
use Rattle.std.proofs.Common.{sym, ◌∙◌, subst, ⊎_elim, arith, mul-le-mul_left, pow_pos}
use Rattle.std.proofs.Math.Numerals.{add-one}
use Rattle.std.proofs.Math.Nat.{pow-succ'}
use Rattle.base.specs.CaseLaws.{le_or_gt}
use Rattle.draw.specs.Draw.{face_at, draw_at}
use Rattle.draw.specs.DrawLaws.{draw_sound}
use Rattle.draw_shares.specs.Program.{draw}
use Rattle.draw_shares.specs.Tape.{Ran, ran, ended, run_at, after_run}
use Rattle.draw_shares.proofs.TapeLaws.{run_face, run_ended, run_bind}
use Rattle.tree_sizes.specs.Sizes.{candidates, half_candidates, window_start, IsCandidate}
use Rattle.tree_sizes.proofs.SizeLaws.{height_small, height_most, candidates_half, candidate_face, candidate_below}
use Rattle.tree_sizes.proofs.Fit.{fits_count, fits_halves}
use Rattle.tree_rules.specs.Tree.{Tree, node}
use Rattle.tree_rules.specs.Rules.{rebuild, rebuild_halves, join}
use Rattle.tree_counts.specs.Counts.{write_tree}
use Rattle.tree_counts.specs.Rebuild.{RebuildReady, RebuiltAs}

-- ---- room for the counts below a range

pub inside_here : (k levels room : ℕ) → (k + 1) * 2 ^ levels ≤ room → k < room
inside_here k levels room h = omega (arith, mul-le-mul_left (k + 1) (pow_pos levels))

pub inside_right : (k levels room : ℕ) → (k + 1) * 2 ^ suc levels ≤ room → (2 * k + 1 + 1) * 2 ^ levels ≤ room
inside_right k levels room h = omega (arith, rw (pow-succ' 2 levels) at h)

pub inside_left : (k levels room : ℕ) → (k + 1) * 2 ^ suc levels ≤ room → (2 * k + 1) * 2 ^ levels ≤ room
inside_left k levels room h = omega (arith, rw (pow-succ' 2 levels) at h)

-- ---- what a range that can be rebuilt has

pub rebuild_here : {M levels d k n room : ℕ} → RebuildReady M levels d k n room → k < room
rebuild_here {levels} {k} {room} p = inside_here k levels room p.inside

-- Bounds of a range above the leaves.
pub record Bounds (M d k room : ℕ) : Type 0 where
  pub large : 64 < M
  pub size : M < 2 ^ 32
  pub shallow : d < 32
  pub below : 2 * k + 1 < room

module _ {M levels d k n room : ℕ} (p : RebuildReady M (suc levels) d k n room) where
  pub bounds : Bounds M d k room
  bounds = record {
    large = ⊎_elim (λ (h : M ≤ 64). absurd (omega (arith, p.leaves, height_small M h))) (λ h. h) (le_or_gt M 64);
    size = p.small;
    shallow = omega (arith, p.leaves, height_most M 32 (omega arith) (omega (arith, p.small)));
    below = inside_here (2 * k + 1) levels room (inside_right k levels room p.inside);
  }

  pub count_fits : candidates M d ≤ n
  count_fits = fits_count M levels d n p.fits

  pub candidate_fits : (b : ℕ) → IsCandidate n (candidates M d) b → b < n
  candidate_fits b w = candidate_below n (candidates M d) b count_fits w

  pub halves_can : (b : ℕ) → IsCandidate n (candidates M d) b
      → RebuildReady M levels (d + 1) (2 * k) b room × RebuildReady M levels (d + 1) (2 * k + 1) (n - b) room
  halves_can b w =
      let halves = fits_halves M levels d n p.fits b w in (
        record {
          fits = rw add-one halves.0;
          leaves = omega (arith, p.leaves);
          inside = inside_left k levels room p.inside;
          few = omega (arith, p.few, candidate_fits b w);
          small = p.small;
        },
        record {
          fits = rw add-one halves.1;
          leaves = omega (arith, p.leaves);
          inside = inside_right k levels room p.inside;
          few = omega (arith, p.few);
          small = p.small;
        },
      )

pub one_more : (levels : ℕ) → levels ≢ 0 → levels ≡ suc (levels - 1)
one_more levels above = omega arith

pub above_leaves : {M levels d k n room : ℕ} → levels ≢ 0 → RebuildReady M levels d k n room → RebuildReady M (suc (levels - 1)) d k n room
above_leaves {M} {levels} {d} {k} {n} {room} above p = subst (λ (x : ℕ). RebuildReady M x d k n room) (one_more levels above) p

-- The halves have half as many candidates.
pub half_count : (M d : ℕ) {c half : ℕ} → c ≡ candidates M d → half ≡ half_candidates c → half ≡ candidates M (d + 1)
half_count M d e h = h ∙ rw (e, add-one d) (sym (candidates_half M d))

-- The values that the code has once a face is drawn: c candidates from w on, and the place of the next word.
pub record Chosen (M d n : ℕ) (tape : List ℕ) (at c w face next : ℕ) : Type 0 where
  pub count_is : c ≡ candidates M d
  pub start_is : w ≡ window_start n c
  pub face_is : draw_at c tape at ≡ face_at face next

pub chosen_candidate : {M d n : ℕ} {tape : List ℕ} {at c w face next : ℕ} → Chosen M d n tape at c w face next
    → IsCandidate n (candidates M d) (w + face)
chosen_candidate {n} {tape} {at} {c} {face} {next} s =
    rw (s.start_is, ← s.count_is) (candidate_face n c face (draw_sound c tape at face next s.face_is).below)

-- ---- the run

module _ (M levels d n b : ℕ) (tape : List ℕ) (at : ℕ) where
  run_halves : run_at (rebuild_halves M levels d n b) tape at
      ≡ after_run (run_at (rebuild M levels (d + 1) b) tape at) (λ l mid.
      after_run (run_at (rebuild M levels (d + 1) (n - b)) tape mid) (λ r next. ran (node b l r) next))
  unfolding rebuild_halves join run_at
  run_halves = rw add-one (simp run_bind)

run_node : (M levels d n : ℕ) (tape : List ℕ) (at : ℕ) → levels ≢ 0
    → run_at (rebuild M levels d n) tape at
    ≡ run_at (draw (candidates M d) (λ face. rebuild_halves M (levels - 1) d n (window_start n (candidates M d) + face))) tape at
unfolding rebuild rebuild_halves
run_node M zero d n tape at above = absurd (above refl)
run_node M (suc levels) d n tape at above = let e : suc levels - 1 ≡ levels = omega arith in rw e

-- ---- what the code leaves

not_both : (answer : Option ℕ) (next : ℕ) → answer ≡ Some next → answer ≡ None → ⊥
not_both answer next p q = let z : ◌≡◌ {A = ℕ} 0 1 = cc in omega arith

ended_first : (left : Ran Tree) (then : Tree → ℕ → Ran Tree) (answer : Option ℕ) (k j n b : ℕ) (c₀ c₁ c₂ c₃ : List ℕ)
    → RebuiltAs left answer j b c₀ c₁ → answer ≡ None → RebuiltAs (after_run left then) None k n c₂ c₃
unfolding RebuiltAs after_run
ended_first (ran l mid) then answer k j n b c₀ c₁ c₂ c₃ h e = absurd (not_both answer mid h.0 e)
ended_first ended then answer k j n b c₀ c₁ c₂ c₃ h e = refl

second : (right : Ran Tree) (l : Tree) (answer : Option ℕ) (k n b : ℕ) (counts c₁ c₂ : List ℕ)
    → c₁ ≡ write_tree (set counts k n) (2 * k) b l → RebuiltAs right answer (2 * k + 1) (n - b) c₁ c₂
    → RebuiltAs (after_run right (λ r next. ran (node b l r) next)) answer k n counts c₂
unfolding RebuiltAs after_run write_tree
second (ran r next) l answer k n b counts c₁ c₂ e h = (h.0, h.1 ∙ rw e refl)
second ended l answer k n b counts c₁ c₂ e h = h

both : (left : Ran Tree) (right : ℕ → Ran Tree) (answer₁ answer₂ : Option ℕ) (k n b mid : ℕ) (counts c₁ c₂ : List ℕ)
    → RebuiltAs left answer₁ (2 * k) b (set counts k n) c₁ → answer₁ ≡ Some mid
    → RebuiltAs (right mid) answer₂ (2 * k + 1) (n - b) c₁ c₂
    → RebuiltAs (after_run left (λ l i. after_run (right i) (λ r next. ran (node b l r) next))) answer₂ k n counts c₂
unfolding RebuiltAs after_run
both (ran l i) right answer₁ answer₂ k n b mid counts c₁ c₂ h e h' =
    let same : mid ≡ i = cc h.0 in
    second (right i) l answer₂ k n b counts c₁ c₂ h.1
    (subst (λ (j : ℕ). RebuiltAs (right j) answer₂ (2 * k + 1) (n - b) c₁ c₂) same h')
both ended right answer₁ answer₂ k n b mid counts c₁ c₂ h e h' = absurd (not_both answer₁ mid e h)

module _ (M levels d k n b : ℕ) (tape : List ℕ) (at : ℕ) (counts : List ℕ) (answer : Option ℕ) where
  pub halves_ended : (c₁ c₂ : List ℕ) → RebuiltAs (run_at (rebuild M levels (d + 1) b) tape at) answer (2 * k) b (set counts k n) c₁
      → answer ≡ None → RebuiltAs (run_at (rebuild_halves M levels d n b) tape at) None k n counts c₂
  halves_ended c₁ c₂ h e =
      rw (run_halves M levels d n b tape at)
      (ended_first (run_at (rebuild M levels (d + 1) b) tape at) _ answer k (2 * k) n b (set counts k n) c₁ counts c₂ h e)

  pub halves_done : (answer₂ : Option ℕ) (mid : ℕ) (c₁ c₂ : List ℕ)
      → RebuiltAs (run_at (rebuild M levels (d + 1) b) tape at) answer (2 * k) b (set counts k n) c₁ → answer ≡ Some mid
      → RebuiltAs (run_at (rebuild M levels (d + 1) (n - b)) tape mid) answer₂ (2 * k + 1) (n - b) c₁ c₂
      → RebuiltAs (run_at (rebuild_halves M levels d n b) tape at) answer₂ k n counts c₂
  halves_done answer₂ mid c₁ c₂ h e h' =
      rw (run_halves M levels d n b tape at)
      (both (run_at (rebuild M levels (d + 1) b) tape at) (run_at (rebuild M levels (d + 1) (n - b)) tape) answer answer₂ k n b mid counts
      c₁ c₂ h e h')

module _ (M levels d n : ℕ) (tape : List ℕ) (at : ℕ) where
  pub leaf_done : (k : ℕ) (counts : List ℕ) → levels ≡ 0
      → RebuiltAs (run_at (rebuild M levels d n) tape at) (Some at) k n counts (set counts k n)
  unfolding rebuild run_at RebuiltAs write_tree
  leaf_done k counts e = rw e (refl, refl)

  module _ (above : levels ≢ 0) where
    pub run_chosen : {c w face next : ℕ} → Chosen M d n tape at c w face next
        → run_at (rebuild M levels d n) tape at ≡ run_at (rebuild_halves M (levels - 1) d n (w + face)) tape next
    run_chosen {face} {next} s =
        run_node M levels d n tape at above
        ∙ run_face (candidates M d) _ tape at face next (rw s.count_is at s.face_is)
        ∙ rw (s.start_is, s.count_is)

    pub draw_ended : (c k : ℕ) (counts c₁ : List ℕ) → c ≡ candidates M d → draw_at c tape at ≡ None
        → RebuiltAs (run_at (rebuild M levels d n) tape at) None k n counts c₁
    unfolding RebuiltAs
    draw_ended c k counts c₁ ec e =
        rw (run_node M levels d n tape at above, run_ended (candidates M d) _ tape at (rw ec at e)) refl

-- Halves that are leaves.
pub halves_leaves : (M levels d k n b : ℕ) (tape : List ℕ) (at : ℕ) (counts : List ℕ) → levels ≡ 0
    → RebuiltAs (run_at (rebuild_halves M levels d n b) tape at) (Some at) k n counts (set (set (set counts k n) (2 * k) b) (2 * k + 1) (n - b))
halves_leaves M levels d k n b tape at counts e =
    halves_done M levels d k n b tape at counts (Some at) (Some at) at _ _
    (leaf_done M levels (d + 1) b tape at (2 * k) (set counts k n) e) refl
    (leaf_done M levels (d + 1) (n - b) tape at (2 * k + 1) (set (set counts k n) (2 * k) b) e)
