-- Laws of sums and of counts of runs of words.
use Rattle.std.specs.Prelude.{◌≡◌, refl, Bool, true, false, ◌&&◌, List, [], ◌∷◌, ◌++◌, ℕ, zero, suc, ◌+◌, ◌*◌, ◌<◌, length}
use Rattle.std.proofs.Common.{ap, ap₂, sym, ◌∙◌, arith, zero-add, add-zero, add-suc, suc-add, mul-zero, zero-mul, one-mul, suc-mul}
use Rattle.std.proofs.Math.Path.{fun_ext}
use Rattle.draw.specs.Runs.{sum_below, one, runs}

-- ---- sums

pub sum_cong : (n : ℕ) (g h : ℕ → ℕ) → ((i : ℕ) → i < n → g i ≡ h i) → sum_below n g ≡ sum_below n h
unfolding sum_below
sum_cong zero g h e = refl
sum_cong (suc n) g h e = ap₂ ◌+◌ (sum_cong n g h (λ i l. e i (omega arith))) (e n (omega arith))

pub sum_const : (n c : ℕ) → sum_below n (λ _. c) ≡ n * c
unfolding sum_below
sum_const zero c = sym (zero-mul c)
sum_const (suc n) c = rw (suc-mul, sum_const n c)

pub sum_none : (n : ℕ) (h : ℕ → ℕ) → ((i : ℕ) → i < n → h i ≡ 0) → sum_below n h ≡ 0
sum_none n h e = sum_cong n h (λ _. 0) e ∙ sum_const n 0 ∙ mul-zero n

pub sum_split : (a b : ℕ) (h : ℕ → ℕ) → sum_below (a + b) h ≡ sum_below a h + sum_below b (λ i. h (a + i))
unfolding sum_below
sum_split a zero h = rw (add-zero, add-zero)
sum_split a (suc b) h = rw (add-suc, sum_split a b h) (omega arith)

-- ---- runs

pub runs_cong : (W k : ℕ) (s t : List ℕ → Bool) → ((words : List ℕ) → s words ≡ t words) → runs W k s ≡ runs W k t
runs_cong W k s t e = ap (runs W k) (fun_ext e)

pub runs_none : (W k : ℕ) → runs W k (λ _. false) ≡ 0
unfolding runs one
runs_none W zero = refl
runs_none W (suc k) = sum_none W (λ _. runs W k (λ _. false)) (λ _ _. runs_none W k)

sum_times : (n c : ℕ) (h : ℕ → ℕ) → sum_below n (λ i. h i * c) ≡ sum_below n h * c
unfolding sum_below
sum_times zero c h = sym (zero-mul c)
sum_times (suc n) c h = omega (arith, sum_times n c h)

-- Where the first k words are to pass one test and the others another, the runs of both are multiplied.
pub runs_times : (W k l : ℕ) (test s t : List ℕ → Bool) → ((words more : List ℕ) → length words ≡ k → test (words ++ more) ≡ s words && t more)
    → runs W (k + l) test ≡ runs W k s * runs W l t
unfolding runs one
runs_times W zero l test s t e = go (s []) (λ more. e [] more refl)
  where
    go : (b : Bool) → ((more : List ℕ) → test more ≡ b && t more) → runs W (0 + l) test ≡ one b * runs W l t
    go true e = rw (zero-add, one-mul) (runs_cong W l test t e)
    go false e = rw (zero-add, zero-mul) (runs_cong W l test (λ _. false) e ∙ runs_none W l)
runs_times W (suc k) l test s t e =
    rw (suc-add)
    (sum_cong W _ _ (λ w _. runs_times W k l (λ ws. test (w ∷ ws)) (λ ws. s (w ∷ ws)) t (λ words more h. e (w ∷ words) more (ap suc h)))
    ∙ sum_times W (runs W l t) (λ w. runs W k (λ ws. s (w ∷ ws))))
