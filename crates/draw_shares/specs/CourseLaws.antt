-- `courses` lists each run of faces that the program allows exactly once, with the value that it ends with.
use Rattle.std.specs.Prelude.{◌≡◌, ◌≢◌}
use Rattle.std.proofs.Math.Path.{refl}
use Rattle.std.proofs.Common.{sym, ◌∙◌, ap}
use Rattle.std.proofs.Math.Logic.{⊎_elim}
use mathlib.Core.List.{List, [], ◌∷◌, ◌++◌, map}
use Prim.Native.Nat.{ℕ, zero, suc, ◌+◌, ◌≤◌, ◌<◌}
use native.Mathlib.Omega.{arith}
use borrow.Author.Tests.{eq-eqb, ne_eqb}
use Rattle.base.specs.Lists.{Every, equal_lists}
use Rattle.base.specs.CaseLaws.{eq_or_ne}
use Rattle.base.specs.ListLaws.{every_append, every_map}
use Rattle.draw_shares.specs.Program.{Program, done, draw, ◌>>=◌}
use Rattle.draw_shares.specs.Course.{Follows, Course, concat_below, before, courses, listed}

pub every_concat : {B : Type 0} (Q : B → Type 0) (m : ℕ) (h : ℕ → List B) → ((f : ℕ) → f < m → Every Q (h f)) → Every Q (concat_below m h)
unfolding Every concat_below
every_concat Q zero h e = tt
every_concat Q (suc m) h e =
    every_append Q (concat_below m h) (h m) (every_concat Q m h (λ f l. e f (omega arith))) (e m (omega arith))

-- The faces of each listed course are a run that the program allows, and it ends with the course's value.
pub courses_follow : {A : Type 0} (p : Program A) → Every (λ c. Follows p c.faces c.end) (courses p)
unfolding courses Follows Every before
courses_follow (done a) = (refl, tt)
courses_follow (draw m p) =
    every_concat _ m (λ f. map (before m f) (courses (p f)))
    (λ f l.
    every_map (λ c. Follows (p f) c.faces c.end) (λ c. Follows (draw m p) c.faces c.end) (before m f)
    (λ c e. (l, e)) (courses (p f)) (courses_follow (p f)))

module _ {A : Type 0} where
  listed_append : (faces : List ℕ) (cs ds : List (Course A)) → listed faces (cs ++ ds) ≡ listed faces cs + listed faces ds
  unfolding listed
  listed_append faces [] ds = omega arith
  listed_append faces (c ∷ cs) ds = rw (listed_append faces cs ds) (omega arith)

  -- only the courses of the first face count
  listed_here : (m f : ℕ) (fs : List ℕ) (cs : List (Course A)) → listed (f ∷ fs) (map (before m f) cs) ≡ listed fs cs
  unfolding listed before equal_lists
  listed_here m f fs [] = refl
  listed_here m f fs (c ∷ cs) = rw (listed_here m f fs cs, eq-eqb f f refl)

  listed_other : (m f g : ℕ) (fs : List ℕ) (cs : List (Course A)) → f ≢ g → listed (f ∷ fs) (map (before m g) cs) ≡ 0
  unfolding listed before equal_lists
  listed_other m f g fs [] ne = refl
  listed_other m f g fs (c ∷ cs) ne = rw (listed_other m f g fs cs ne, ne_eqb f g ne)

  listed_none : (m f k : ℕ) (fs : List ℕ) (p : ℕ → List (Course A)) → k ≤ f → listed (f ∷ fs) (concat_below k (λ g. map (before m g) (p g))) ≡ 0
  unfolding concat_below listed
  listed_none m f zero fs p l = refl
  listed_none m f (suc k) fs p l =
      listed_append (f ∷ fs) (concat_below k (λ g. map (before m g) (p g))) (map (before m k) (p k))
      ∙ rw (listed_none m f k fs p (omega arith), listed_other m f k fs (p k) (λ e. omega arith))

  listed_concat : (m f k : ℕ) (fs : List ℕ) (p : ℕ → List (Course A)) → f < k
      → listed (f ∷ fs) (concat_below k (λ g. map (before m g) (p g))) ≡ listed fs (p f)
  unfolding concat_below
  listed_concat m f zero fs p l = absurd (omega arith)
  listed_concat m f (suc k) fs p l =
      listed_append (f ∷ fs) (concat_below k (λ g. map (before m g) (p g))) (map (before m k) (p k))
      ∙ ⊎_elim
      (λ (e : f ≡ k). rw (listed_none m f k fs p (omega arith)) (omega (arith, last e)))
      (λ (ne : f ≢ k). rw (listed_concat m f k fs p (omega arith), listed_other m f k fs (p k) ne) (omega arith))
      (eq_or_ne f k)
    where
      last : f ≡ k → listed (f ∷ fs) (map (before m k) (p k)) ≡ listed fs (p f)
      last e = rw (← e) (listed_here m f fs (p f))

  -- A run of faces that the program allows is listed exactly once.
  pub courses_once : (p : Program A) (faces : List ℕ) (a : A) → Follows p faces a → listed faces (courses p) ≡ 1
  unfolding Follows courses listed equal_lists
  courses_once (done b) [] a e = refl
  courses_once (done b) (f ∷ fs) a e = absurd e
  courses_once (draw m p) [] a e = absurd e
  courses_once (draw m p) (f ∷ fs) a e =
      listed_concat m f m fs (λ g. courses (p g)) e.0 ∙ courses_once (p f) fs a e.1

-- A run of faces ends with one value.
pub follows_unique : {A : Type 0} (p : Program A) (faces : List ℕ) (a b : A) → Follows p faces a → Follows p faces b → a ≡ b
unfolding Follows
follows_unique (done x) [] a b e h = sym e ∙ h
follows_unique (done x) (f ∷ fs) a b e h = absurd e
follows_unique (draw m p) [] a b e h = absurd e
follows_unique (draw m p) (f ∷ fs) a b e h = follows_unique (p f) fs a b e.1 h.1

-- A run of faces, and a run of what follows.
pub follows_bind : {A B : Type 0} (p : Program A) (k : A → Program B) (fs gs : List ℕ) (a : A) (b : B)
    → Follows p fs a → Follows (k a) gs b → Follows (p >>= k) (fs ++ gs) b
unfolding Follows ◌>>=◌
follows_bind (done x) k [] gs a b e h = rw e h
follows_bind (done x) k (f ∷ fs) gs a b e h = absurd e
follows_bind (draw m p) k [] gs a b e h = absurd e
follows_bind (draw m p) k (f ∷ fs) gs a b e h = (e.0, follows_bind (p f) k fs gs a b e.1 h)

-- A course of a program and then of what follows: the two courses.
pub record Apart {A B : Type 0} (p : Program A) (k : A → Program B) (faces : List ℕ) (b : B) : Type 0 where
  pub first : List ℕ
  pub rest : List ℕ
  pub middle : A
  pub joined : first ++ rest ≡ faces
  pub follows_first : Follows p first middle
  pub follows_rest : Follows (k middle) rest b

pub follows_apart : {A B : Type 0} (p : Program A) (k : A → Program B) (faces : List ℕ) (b : B) → Follows (p >>= k) faces b → Apart p k faces b
unfolding Follows ◌>>=◌
follows_apart (done a) k faces b h = record { first = []; rest = faces; middle = a; joined = refl; follows_first = refl; follows_rest = h }
follows_apart (draw m p) k [] b h = absurd h
follows_apart (draw m p) k (f ∷ fs) b h =
    let w = follows_apart (p f) k fs b h.1 in
    record {
      first = f ∷ w.first;
      rest = w.rest;
      middle = w.middle;
      joined = ap (λ (xs : List ℕ). f ∷ xs) w.joined;
      follows_first = (h.0, w.follows_first);
      follows_rest = w.follows_rest;
    }
