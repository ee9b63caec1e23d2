-- Laws of sequencing, and of what every run of a program meets.
use Rattle.std.specs.Prelude.{◌≡◌, ℕ}
use Rattle.std.proofs.Math.Path.{refl, fun_ext}
use Rattle.std.proofs.Common.{ap}
use Rattle.draw_shares.specs.Program.{Program, done, draw, ◌>>=◌, Draws, Ends}

module _ {A B : Type 0} where
  pub done_bind : (a : A) (k : A → Program B) → done a >>= k ≡ k a
  unfolding ◌>>=◌
  done_bind a k = refl

  pub draw_bind : (m : ℕ) (p : ℕ → Program A) (k : A → Program B) → draw m p >>= k ≡ draw m (λ face. p face >>= k)
  unfolding ◌>>=◌
  draw_bind m p k = refl

  pub draws_bind : (P : ℕ → Type 0) (p : Program A) (k : A → Program B) → Draws P p → ((a : A) → Draws P (k a)) → Draws P (p >>= k)
  unfolding Draws ◌>>=◌
  draws_bind P (done a) k l h = h a
  draws_bind P (draw m p) k l h = (l.0, λ f i. draws_bind P (p f) k (l.1 f i) h)

  pub draws_bind_ends : (P : ℕ → Type 0) (R : A → Type 0) (p : Program A) (k : A → Program B) → Draws P p → Ends R p → ((a : A) → R a → Draws P (k a))
      → Draws P (p >>= k)
  unfolding Draws Ends ◌>>=◌
  draws_bind_ends P R (done a) k l e h = h a e
  draws_bind_ends P R (draw m p) k l e h = (l.0, λ f i. draws_bind_ends P R (p f) k (l.1 f i) (e f i) h)

  pub ends_bind : (R : A → Type 0) (Q : B → Type 0) (p : Program A) (k : A → Program B) → Ends R p → ((a : A) → R a → Ends Q (k a)) → Ends Q (p >>= k)
  unfolding Ends ◌>>=◌
  ends_bind R Q (done a) k e h = h a e
  ends_bind R Q (draw m p) k e h = λ f l. ends_bind R Q (p f) k (e f l) h

pub draws_done : {A : Type 0} (P : ℕ → Type 0) (a : A) → Draws P (done a)
unfolding Draws
draws_done P a = tt

pub ends_done : {A : Type 0} (R : A → Type 0) (a : A) → R a → Ends R (done a)
unfolding Ends
ends_done R a r = r

pub ends_map : {A : Type 0} (R Q : A → Type 0) (p : Program A) → ((a : A) → R a → Q a) → Ends R p → Ends Q p
unfolding Ends
ends_map R Q (done a) h e = h a e
ends_map R Q (draw m p) h e = λ f l. ends_map R Q (p f) h (e f l)

pub bind_done : {A : Type 0} (p : Program A) → p >>= done ≡ p
unfolding ◌>>=◌
bind_done (done a) = refl
bind_done (draw m p) = ap (draw m) (fun_ext (λ f. bind_done (p f)))

pub bind_bind : {A B C : Type 0} (p : Program A) (k : A → Program B) (l : B → Program C) → p >>= k >>= l ≡ p >>= (λ a. k a >>= l)
unfolding ◌>>=◌
bind_bind (done a) k l = refl
bind_bind (draw m p) k l = ap (draw m) (fun_ext (λ f. bind_bind (p f) k l))
