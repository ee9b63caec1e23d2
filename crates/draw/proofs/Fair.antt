-- Every face has equally many runs of words, for each m and each number of words read.
use Rattle.std.specs.Prelude.{◌≡◌, refl, Bool, false, ◌≢◌, eqb}
use Rattle.std.proofs.Math.Path.{ap, ap₂}
use Rattle.std.proofs.Common.{sym, ◌∙◌, ⊎_elim, arith, zero-add, zero-mul, suc-mul, pow-suc, eq-or-lt_of_le, eq-eqb, ne_eqb}
use Rattle.std.proofs.Math.Bool.{and-true, and-false}
use mathlib.Core.List.{List, [], ◌∷◌}
use Prim.Native.Nat.{ℕ, zero, suc, ◌+◌, ◌*◌, ◌/◌, ◌%◌, ◌<◌, ◌≤◌, ◌^◌}
use Rattle.std.proofs.Math.Nat.{mul_comm, mul_assoc, div-add-mod, pow-zero}
use Rattle.std.proofs.Math.Arith.{digits_mod}
use Rattle.std.proofs.Math.Dec.{eqb-suc-suc, eqb-zero-suc}
use Rattle.base.specs.CaseLaws.{by_eq}
use Rattle.draw.specs.Draw.{scan}
use Rattle.draw.specs.DrawLaws.{scan_nil, scan_take, scan_pass, draw_one, draw_many}
use Rattle.draw.specs.Runs.{sum_below, one, runs, gives, face_runs, draw_runs}
use Rattle.draw.specs.RunsLaws.{sum_cong, sum_const, sum_none, sum_split, runs_cong, runs_none}

-- ---- sums

-- one number below m is f
sum_one : (m f : ℕ) → f < m → sum_below m (λ i. one (eqb i f)) ≡ 1
unfolding sum_below one
sum_one zero f l = omega arith
sum_one (suc m) f l =
    let l' : f ≤ m = omega arith in
    ⊎_elim
    (λ e. rw (eq-eqb m f (sym e), sum_none m (λ i. one (eqb i f)) (λ i h. ap one (ne_eqb i f (λ x. omega arith)))))
    (λ h. rw (ne_eqb m f (λ x. omega arith), sum_one m f h))
    (eq-or-lt_of_le l')

-- of the numbers below q * m, q are f mod m
sum_mod : (q m f : ℕ) → f < m → sum_below (q * m) (λ w. one (eqb (w % m) f)) ≡ q
unfolding sum_below
sum_mod zero m f l = rw (zero-mul m)
sum_mod (suc q) m f l =
    rw (
      suc-mul,
      sum_split (q * m) m (λ w. one (eqb (w % m) f)),
      sum_mod q m f l,
      sum_cong m (λ i. one (eqb ((q * m + i) % m) f)) (λ i. one (eqb i f)) (λ i h. ap (λ (k : ℕ). one (eqb k f)) (digits_mod q h)),
      sum_one m f l,
    ) (omega arith)

-- ---- runs

-- a scan from a later place is a scan with a later end
gives_later : (limit m f k : ℕ) (words : List ℕ) (at : ℕ) → gives f (suc k) (scan limit m words (suc at)) ≡ gives f k (scan limit m words at)
unfolding scan gives
gives_later limit m f k [] at = refl
gives_later limit m f k (w ∷ ws) at = ⊎_elim
    (λ h. rw (scan_take limit m w ws (suc at) h, scan_take limit m w ws at h, eqb-suc-suc (suc at) k))
    (λ h. rw (scan_pass limit m w ws (suc at) h, scan_pass limit m w ws at h) (gives_later limit m f k ws (suc at)))
    (Rattle.base.specs.CaseLaws.lt_or_ge w limit)

-- ---- q * m + r words: q * m are taken, r passed over

module _ (q m r f : ℕ) (small : f < m) where
  abbrev reads : ℕ → List ℕ → Bool
  reads k words = gives f k (scan (q * m) m words 0)

  take_last : (w : ℕ) → w < q * m → one (reads 1 (w ∷ [])) ≡ one (eqb (w % m) f)
  unfolding gives
  take_last w h = rw (scan_take (q * m) m w [] 0 h, and-true (eqb (w % m) f))

  take_early : (k w : ℕ) → w < q * m → (words : List ℕ) → reads (suc (suc k)) (w ∷ words) ≡ false
  unfolding gives
  take_early k w h words = rw (scan_take (q * m) m w words 0 h, eqb-suc-suc 0 (suc k), eqb-zero-suc k, and-false (eqb (w % m) f))

  pass : (k i : ℕ) (words : List ℕ) → reads (suc k) ((q * m + i) ∷ words) ≡ reads k words
  pass k i words = rw (scan_pass (q * m) m (q * m + i) words 0 (omega arith)) (gives_later (q * m) m f k words 0)

  none_read : reads 0 [] ≡ false
  unfolding gives
  none_read = rw (scan_nil (q * m) m 0)

  scan_runs : (k : ℕ) → runs (q * m + r) (suc k) (reads (suc k)) ≡ r ^ k * q
  unfolding runs one
  scan_runs zero =
      sum_split (q * m) r _
      ∙ ap₂ ◌+◌ (sum_cong (q * m) _ _ take_last ∙ sum_mod q m f small)
      (sum_none r _ (λ i _. ap one (pass 0 i [] ∙ none_read)))
      ∙ rw (pow-zero r) (omega arith)
  scan_runs (suc k) =
      sum_split (q * m) r _
      ∙ ap₂ ◌+◌
      (sum_none (q * m) _ (λ w h. runs_cong (q * m + r) (suc k) _ _ (take_early k w h) ∙ runs_none (q * m + r) (suc k)))
      (sum_cong r _ (λ _. r ^ k * q) (λ i _. runs_cong (q * m + r) (suc k) _ _ (pass (suc k) i) ∙ scan_runs k) ∙ sum_const r (r ^ k * q))
      ∙ rw (pow-suc r k, mul_comm (r ^ k) r, mul_assoc r (r ^ k) q) (zero-add (r * (r ^ k * q)))

-- ---- the draw

-- With more than one face, k + 1 words give a face by (W mod m) ^ k * ⌊W / m⌋ runs, whichever face it is.
pub face_runs_lem : (W m f k : ℕ) → m ≢ 1 → f < m → face_runs W m f (suc k) ≡ (W % m) ^ k * (W / m)
unfolding face_runs
face_runs_lem W m f k ne l =
    let e : W / m * m + W % m ≡ W = omega (arith, div-add-mod W m, mul_comm m (W / m)) in
    runs_cong W (suc k) _ (λ words. gives f (suc k) (scan (W / m * m) m words 0))
    (λ words. rw (draw_many W words 0 m ne, mul_comm m (W / m)))
    ∙ ap (λ (U : ℕ). runs U (suc k) (λ words. gives f (suc k) (scan (W / m * m) m words 0))) (sym e)
    ∙ scan_runs (W / m) m (W % m) f l k

no_runs : (W m f : ℕ) → m ≢ 1 → face_runs W m f 0 ≡ 0
unfolding face_runs runs gives one
no_runs W m f ne = rw (draw_many W [] 0 m ne, scan_nil (m * (W / m)) m 0)

no_word : (W k : ℕ) → face_runs W 1 0 (suc k) ≡ 0
unfolding face_runs gives
no_word W k =
    runs_cong W (suc k) _ (λ _. false) (λ words. rw (draw_one W words 0, eqb-zero-suc k, and-false (eqb 0 0)))
    ∙ runs_none W (suc k)

-- How many runs each face has, for every m and every number of words.
pub face_runs_all : (W m f k : ℕ) → f < m → face_runs W m f k ≡ draw_runs W m k
unfolding draw_runs face_runs runs gives one
face_runs_all W m f zero l =
    by_eq (λ (n : ℕ). face_runs W m f 0 ≡ n) m 1 1 0
    (λ e. let z : f ≡ 0 = omega arith in rw (e, z, draw_one W [] 0))
    (λ ne. no_runs W m f ne)
face_runs_all W m f (suc k) l =
    by_eq (λ (n : ℕ). face_runs W m f (suc k) ≡ n) m 1 0 ((W % m) ^ k * (W / m))
    (λ e. let z : f ≡ 0 = omega arith in ap₂ (λ (n g : ℕ). face_runs W n g (suc k)) e z ∙ no_word W k)
    (λ ne. face_runs_lem W m f k ne l)

-- Every face has equally many runs of words: for each number W of words, each m and each number k of words read.
pub fair : (W m f g k : ℕ) → f < m → g < m → face_runs W m f k ≡ face_runs W m g k
fair W m f g k lf lg = face_runs_all W m f k lf ∙ sym (face_runs_all W m g k lg)

-- The same of 32-bit words.
pub fair_32 : (m f g k : ℕ) → f < m → g < m → face_runs (2 ^ 32) m f k ≡ face_runs (2 ^ 32) m g k
fair_32 m f g k = fair (2 ^ 32) m f g k
