-- How many members of lists one after the other pass a test.
use Rattle.std.specs.Prelude.{◌≡◌, ◌≢◌, Bool, false}
use Rattle.std.proofs.Math.Path.{refl}
use Rattle.std.proofs.Common.{◌∙◌}
use Rattle.std.proofs.Math.Logic.{⊎_elim}
use mathlib.Core.List.{List, [], ◌∷◌, ◌++◌, map}
use Prim.Native.Nat.{ℕ, zero, suc, ◌+◌, ◌<◌}
use native.Mathlib.Omega.{arith}
use Rattle.base.specs.Lists.{Every}
use Rattle.base.specs.CaseLaws.{eq_or_ne}
use Rattle.draw_shares.specs.Course.{concat_below}
use Rattle.tree_shapes.specs.HowMany.{how_many}

module _ {A : Type 0} where
  pub many_append : (test : A → Bool) (xs ys : List A) → how_many test (xs ++ ys) ≡ how_many test xs + how_many test ys
  unfolding how_many
  many_append test [] ys = omega arith
  many_append test (x ∷ xs) ys = rw (many_append test xs ys) (omega arith)

  -- Tests that agree on every member.
  pub many_cong : (P : A → Type 0) (test other : A → Bool) → ((x : A) → P x → test x ≡ other x) → (xs : List A) → Every P xs
      → how_many test xs ≡ how_many other xs
  unfolding how_many Every
  many_cong P test other same [] h = refl
  many_cong P test other same (x ∷ xs) h = rw (same x h.0, many_cong P test other same xs h.1)

  pub many_never : (test : A → Bool) → ((x : A) → test x ≡ false) → (xs : List A) → how_many test xs ≡ 0
  unfolding how_many
  many_never test never [] = refl
  many_never test never (x ∷ xs) = rw (never x, many_never test never xs)

  pub many_none : (P : A → Type 0) (test : A → Bool) → ((x : A) → P x → test x ≡ false) → (xs : List A) → Every P xs → how_many test xs ≡ 0
  unfolding how_many Every
  many_none P test no_one [] h = refl
  many_none P test no_one (x ∷ xs) h = rw (no_one x h.0, many_none P test no_one xs h.1)

  concat_none : (test : A → Bool) (m : ℕ) (h : ℕ → List A) → ((i : ℕ) → i < m → how_many test (h i) ≡ 0) → how_many test (concat_below m h) ≡ 0
  unfolding concat_below how_many
  concat_none test zero h z = refl
  concat_none test (suc m) h z =
      many_append test (concat_below m h) (h m) ∙ rw (concat_none test m h (λ i l. z i (omega arith)), z m (omega arith))

  -- Only one of the lists counts.
  pub many_concat : (test : A → Bool) (m j : ℕ) (h : ℕ → List A) → j < m → ((i : ℕ) → i < m → i ≢ j → how_many test (h i) ≡ 0)
      → how_many test (concat_below m h) ≡ how_many test (h j)
  unfolding concat_below
  many_concat test zero j h l z = absurd (omega arith)
  many_concat test (suc m) j h l z =
      many_append test (concat_below m h) (h m)
      ∙ ⊎_elim
      (λ (e : j ≡ m). rw (e, concat_none test m h (λ i k. z i (omega arith) (λ d. omega arith))) (omega arith))
      (λ (d : j ≢ m). rw (many_concat test m j h (omega arith) (λ i k. z i (omega arith)), z m (omega arith) (λ e. d (omega arith))) (omega arith))
      (eq_or_ne j m)

pub many_map : {A B : Type 0} (test : B → Bool) (f : A → B) (xs : List A) → how_many test (map f xs) ≡ how_many (λ x. test (f x)) xs
unfolding how_many
many_map test f [] = refl
many_map test f (x ∷ xs) = rw (many_map test f xs)
