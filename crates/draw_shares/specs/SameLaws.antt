-- Laws of expectation and of programs with the same shares: congruence, exchange of independent draws.
use Rattle.std.specs.Prelude.{◌≡◌, ℕ, ◌<◌}
use Rattle.std.proofs.Math.Path.{refl, sym, ap, fun_ext}
use Rattle.std.proofs.Common.{◌∙◌, arith}
use Rattle.draw_shares.specs.Rational.{Rational, ◌⊕◌, ◌⊗◌}
use Rattle.draw_shares.specs.Program.{Program, done, draw, ◌>>=◌, Live, Draws, Ends}
use Rattle.draw_shares.specs.Same.{mean, expect, ◌≈◌}
use Rattle.draw_shares.specs.Sum.{mean_cong, mean_const, mean_swap, mean_mul, mean_add}

-- ---- expectation

module _ {A : Type 0} where
  pub expect_done : (a : A) (g : A → Rational) → expect (done a) g ≡ g a
  unfolding expect
  expect_done a g = refl

  pub expect_draw : (m : ℕ) (p : ℕ → Program A) (g : A → Rational) → expect (draw m p) g ≡ mean m (λ f. expect (p f) g)
  unfolding expect
  expect_draw m p g = refl

  pub expect_cong : (p : Program A) {g h : A → Rational} → ((a : A) → g a ≡ h a) → expect p g ≡ expect p h
  expect_cong p e = ap (λ (u : A → Rational). expect p u) (fun_ext e)

  pub expect_mean : (p : Program A) (m : ℕ) (h : ℕ → A → Rational) → expect p (λ a. mean m (λ f. h f a)) ≡ mean m (λ f. expect p (λ a. h f a))
  unfolding expect
  expect_mean (done a) m h = refl
  expect_mean (draw n p) m h = mean_cong n (λ f l. expect_mean (p f) m h) ∙ mean_swap n m (λ i j. expect (p i) (λ a. h j a))

  pub expect_add : (p : Program A) (g h : A → Rational) → expect p (λ a. g a ⊕ h a) ≡ expect p g ⊕ expect p h
  unfolding expect
  expect_add (done a) g h = refl
  expect_add (draw n p) g h = mean_cong n (λ f l. expect_add (p f) g h) ∙ mean_add n (λ f. expect (p f) g) (λ f. expect (p f) h)

  pub expect_mul : (p : Program A) (x : Rational) (g : A → Rational) → expect p (λ a. x ⊗ g a) ≡ x ⊗ expect p g
  unfolding expect
  expect_mul (done a) x g = refl
  expect_mul (draw n p) x g = mean_cong n (λ f l. expect_mul (p f) x g) ∙ mean_mul n x (λ f. expect (p f) g)

  pub expect_const : (p : Program A) (x : Rational) → Live p → expect p (λ a. x) ≡ x
  unfolding expect Draws
  expect_const (done a) x l = refl
  expect_const (draw m p) x l = mean_cong m (λ f h. expect_const (p f) x (l.1 f h)) ∙ mean_const m x l.0

  -- values that no run ends with do not count
  pub expect_ends : (R : A → Type 0) (p : Program A) {g h : A → Rational} → Ends R p → ((a : A) → R a → g a ≡ h a) → expect p g ≡ expect p h
  unfolding Ends expect
  expect_ends R (done a) e d = d a e
  expect_ends R (draw m p) e d = mean_cong m (λ f l. expect_ends R (p f) (e f l) d)

pub expect_bind : {A B : Type 0} (p : Program A) (k : A → Program B) (g : B → Rational) → expect (p >>= k) g ≡ expect p (λ a. expect (k a) g)
unfolding ◌>>=◌ expect
expect_bind (done a) k g = refl
expect_bind (draw m p) k g = mean_cong m (λ f l. expect_bind (p f) k g)

pub expect_swap : {A B : Type 0} (p : Program A) (q : Program B) (h : A → B → Rational)
    → expect p (λ a. expect q (λ b. h a b)) ≡ expect q (λ b. expect p (λ a. h a b))
unfolding expect
expect_swap (done a) q h = refl
expect_swap (draw m p) q h =
    mean_cong m (λ f l. expect_swap (p f) q h) ∙ sym (expect_mean q m (λ f b. expect (p f) (λ a. h a b)))

-- ---- an equivalence

module _ {A : Type 0} where
  pub ≈_refl : (p : Program A) → p ≈ p
  ≈_refl p = record { means = λ g. refl }

  pub ≈_sym : {p q : Program A} → p ≈ q → q ≈ p
  ≈_sym e = record { means = λ g. sym (e.means g) }

  pub ≈_trans : {p q r : Program A} → p ≈ q → q ≈ r → p ≈ r
  ≈_trans e d = record { means = λ g. e.means g ∙ d.means g }

  pub ≈_path : {p q : Program A} → p ≡ q → p ≈ q
  ≈_path e = record { means = λ g. ap (λ (u : Program A). expect u g) e }

-- ---- congruence under what goes before and what follows

module _ {A : Type 0} where
  pub draw_cong : (m : ℕ) {p q : ℕ → Program A} → ((f : ℕ) → f < m → p f ≈ q f) → draw m p ≈ draw m q
  unfolding expect
  draw_cong m e = record { means = λ g. mean_cong m (λ f l. (e f l).means g) }

module _ {A B : Type 0} where
  pub bind_cong_left : {p q : Program A} (k : A → Program B) → p ≈ q → (p >>= k) ≈ (q >>= k)
  bind_cong_left {p} {q} k e =
      record { means = λ g. expect_bind p k g ∙ e.means (λ a. expect (k a) g) ∙ sym (expect_bind q k g) }

  pub bind_cong_right : (p : Program A) {k l : A → Program B} → ((a : A) → k a ≈ l a) → (p >>= k) ≈ (p >>= l)
  bind_cong_right p {k} {l} e =
      record { means = λ g. expect_bind p k g ∙ expect_cong p (λ a. (e a).means g) ∙ sym (expect_bind p l g) }

  pub bind_cong_ends : (R : A → Type 0) (p : Program A) {k l : A → Program B} → Ends R p → ((a : A) → R a → k a ≈ l a) → (p >>= k) ≈ (p >>= l)
  bind_cong_ends R p {k} {l} e h =
      record { means = λ g. expect_bind p k g ∙ expect_ends R p e (λ a r. (h a r).means g) ∙ sym (expect_bind p l g) }

-- ---- draws that exchange, and draws that nothing looks at

pub bind_swap : {A B C : Type 0} (p : Program A) (q : Program B) (k : A → B → Program C)
    → (p >>= λ a. q >>= λ b. k a b) ≈ (q >>= λ b. p >>= λ a. k a b)
bind_swap p q k = record { means = λ g. simp expect_bind (expect_swap p q (λ a b. expect (k a b) g)) }

module _ {A : Type 0} where
  pub draw_swap : (m n : ℕ) (p : ℕ → ℕ → Program A) → draw m (λ i. draw n (λ j. p i j)) ≈ draw n (λ j. draw m (λ i. p i j))
  unfolding expect
  draw_swap m n p = record { means = λ g. mean_swap m n (λ i j. expect (p i j) g) }

  -- a draw and the program before it
  pub draw_commutes : {B : Type 0} (m : ℕ) (p : Program B) (k : ℕ → B → Program A) → (p >>= λ b. draw m (λ f. k f b)) ≈ draw m (λ f. p >>= k f)
  unfolding expect
  draw_commutes m p k = record {
    means = λ g.
        expect_bind p (λ b. draw m (λ f. k f b)) g
        ∙ expect_mean p m (λ f b. expect (k f b) g)
        ∙ mean_cong m (λ f l. sym (expect_bind p (k f) g));
  }

  pub draw_const : (m : ℕ) (p : Program A) → 0 < m → draw m (λ f. p) ≈ p
  unfolding expect
  draw_const m p l = record { means = λ g. mean_const m (expect p g) l }

  pub draw_one : (p : ℕ → Program A) → draw 1 p ≈ p 0
  unfolding expect
  draw_one p = record {
    means = λ g.
        mean_cong 1 (λ f l. ap (λ (k : ℕ). expect (p k) g) (omega arith)) ∙ mean_const 1 (expect (p 0) g) (omega arith);
  }

pub bind_const : {A B : Type 0} (p : Program A) (q : Program B) → Live p → (p >>= λ a. q) ≈ q
bind_const p q l = record { means = λ g. expect_bind p (λ a. q) g ∙ expect_const p (expect q g) l }
