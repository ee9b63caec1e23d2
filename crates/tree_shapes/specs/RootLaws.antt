-- A whole sheet rebuilt on the words of its shape k.
use Rattle.std.specs.Prelude.{◌≡◌, ◌≢◌, List, [], ◌∷◌, ◌++◌, drop, set, replicate, Option}
use Rattle.std.proofs.Math.Path.{refl, ap}
use Rattle.std.proofs.Common.{sym, ◌∙◌, arith, pow_mono}
use Rattle.std.proofs.Math.Logic.{⊎_elim}
use Prim.Native.Nat.{ℕ, zero, suc, ◌+◌, ◌^◌, ◌≤◌, ◌<◌}
use Rattle.std.proofs.Math.ListN.{length, get_or}
use Rattle.base.specs.CaseLaws.{eq_or_ne, le_or_gt, if_eq_yes, if_eq_no}
use Rattle.draw_shares.specs.Tape.{ran, run_at}
use Rattle.tree_sizes.specs.Sizes.{Fits, height, candidates}
use Rattle.tree_sizes.proofs.SizeLaws.{height_small}
use Rattle.tree_sizes.proofs.Fit.{fit, fits_pos}
use Rattle.tree_rules.specs.Tree.{Tree, leaf, Shape}
use Rattle.tree_rules.specs.Rules.{rebuild}
use Rattle.tree_counts.specs.Counts.{shape_counts}
use Rattle.tree_counts.specs.Rebuild.{RebuildReady, RebuiltAs}
use Rattle.tree_shapes.specs.Shapes.{trees, shape_at, tree_count, shape_count}
use Rattle.tree_shapes.specs.Words.{tree_words, root_candidates, IsNumber, Put, ShapeReady}
use Rattle.tree_shapes.specs.CountLaws.{count_leaf}
use Rattle.tree_shapes.specs.MemberLaws.{shape_member, shape_size}
use Rattle.tree_shapes.specs.WordsLaws.{words_few, put_there, tree_run}

pub root_leaf : (M : ℕ) → height M ≡ 0 → root_candidates M ≡ 1
unfolding root_candidates
root_leaf M e = if_eq_yes (height M) 0 _ _ e

pub root_above : (M : ℕ) → height M ≢ 0 → root_candidates M ≡ candidates M 0
unfolding root_candidates
root_above M ne = if_eq_no (height M) 0 _ _ ne

-- A root above the leaves has M above 64.
pub root_large : (M : ℕ) → height M ≢ 0 → 64 < M
root_large M ne = ⊎_elim (λ (l : M ≤ 64). absurd (ne (height_small M l))) (λ l. l) (le_or_gt M 64)

pub root_some : (M : ℕ) → 0 < root_candidates M
root_some M =
    ⊎_elim
    (λ (e : height M ≡ 0). rw (root_leaf M e) (omega arith))
    (λ (ne : height M ≢ 0). rw (root_above M ne) (go (height M) ne (fit M M (record { least = omega arith; most = omega (arith, root_large M ne) }))))
    (eq_or_ne (height M) 0)
  where
    go : (h : ℕ) → h ≢ 0 → Fits M h 0 M → 0 < candidates M 0
    go zero ne f = absurd (ne refl)
    go (suc h) ne f = fits_pos M h 0 M f

pub root_count : (M : ℕ) → tree_count (root_candidates M) (height M) ≡ shape_count M
unfolding shape_count
root_count M =
    ⊎_elim
    (λ (e : height M ≡ 0). count_leaf _ _ e ∙ sym (count_leaf _ _ e))
    (λ (ne : height M ≢ 0). rw (root_above M ne))
    (eq_or_ne (height M) 0)

module _ {M N k room : ℕ} (w : ShapeReady M N k room) where
  pub root_number : IsNumber (root_candidates M) (height M) k
  root_number = record { some = root_some M; few = rw (root_count M) w.few; below = rw (root_count M) w.below }

  pub words_room : 0 + 2 ^ height M ≤ 128
  words_room = omega (arith, pow_mono {j = 7} w.shallow)

  pub fresh_ready : RebuildReady M (height M) 0 1 N room
  fresh_ready = record {
    fits = fit N M w.allowed;
    leaves = omega arith;
    inside = w.inside;
    few = omega (arith, w.allowed.least, w.small);
    small = w.small;
  }

  -- Rebuilt on these words, the sheet has shape k.
  root_run : (words rest : List ℕ) → drop 0 words ≡ tree_words (root_candidates M) (height M) k ++ rest
      → (next : ℕ) × (run_at (rebuild M (height M) 0 N) words 0 ≡ ran (shape_at N M k).tree next)
  unfolding rebuild run_at trees shape_count tree_count
  root_run words rest e =
      let is = ap (λ (s : Shape). s.tree) (shape_member N M k w.below) in
      ⊎_elim
      (λ (flat : height M ≡ 0). (0, rw (is, flat) (ap (λ (t : Tree). ran t 0) (only k (rw flat at w.below)))))
      (λ (ne : height M ≢ 0).
      let same = root_above M ne in
      (0 + length (tree_words (candidates M 0) (height M) k), rw is (tree_run M (height M) 0 words N k 0 rest (rw same at root_number) (rw same at e))))
      (eq_or_ne (height M) 0)
    where
      only : (k : ℕ) → k < 1 → leaf ≡ get_or (leaf ∷ []) k leaf
      only zero l = refl
      only (suc k) l = absurd (omega arith)

  -- What the rebuilding leaves are the counts of shape k.
  pub shape_put : {old words : List ℕ} {next : ℕ} → length old ≡ 128 → Put old 0 (tree_words (root_candidates M) (height M) k) words next → (answer : Option ℕ) (counts : List ℕ)
      → RebuiltAs (run_at (rebuild M (height M) 0 N) words 0) answer 1 N (set (replicate room 0) 0 M) counts
      → counts ≡ shape_counts room N (shape_at N M k)
  unfolding RebuiltAs shape_counts
  shape_put {old} {words} el p answer counts r =
      let fits : length (tree_words (root_candidates M) (height M) k) ≤ length old = omega (arith, el, words_room, words_few (root_candidates M) (height M) k) in
      rw (shape_size N M k w.below) (rw (root_run words _ (put_there p fits)).1 at r).1
