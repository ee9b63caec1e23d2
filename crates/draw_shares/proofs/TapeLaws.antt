-- Laws of the run on a tape, and the law that joins it to the courses.
use Rattle.std.specs.Prelude.{◌≡◌, refl, List, [], ◌∷◌, ℕ, ◌≤◌, length, Option, Some, None}
use Rattle.std.proofs.Common.{subst, arith}
use Rattle.draw.specs.declared.Drawn.{Drawn}
use Rattle.draw.specs.Draw.{face_at, draw_at}
use Rattle.draw.specs.DrawLaws.{Sound, draw_sound, draw_within}
use Rattle.draw_shares.specs.Program.{Program, done, draw, ◌>>=◌, Ends}
use Rattle.draw_shares.specs.Tape.{ran, ended, after_draw, after_run, run_at, faces_after, faces_on}
use Rattle.draw_shares.specs.Course.{Follows}

pub run_done : {A : Type 0} (a : A) (tape : List ℕ) (at : ℕ) → run_at (done a) tape at ≡ ran a at
unfolding run_at
run_done a tape at = refl

module _ {A : Type 0} (m : ℕ) (p : ℕ → Program A) (tape : List ℕ) (at : ℕ) where
  pub run_face : (face next : ℕ) → draw_at m tape at ≡ face_at face next → run_at (draw m p) tape at ≡ run_at (p face) tape next
  unfolding run_at after_draw
  run_face face next e = rw e

  pub run_ended : draw_at m tape at ≡ None → run_at (draw m p) tape at ≡ ended
  unfolding run_at after_draw
  run_ended e = rw e

pub run_bind : {A B : Type 0} (p : Program A) (k : A → Program B) (tape : List ℕ) (at : ℕ)
    → run_at (p >>= k) tape at ≡ after_run (run_at p tape at) (λ a next. run_at (k a) tape next)
unfolding run_at after_draw after_run ◌>>=◌
run_bind (done a) k tape at = refl
run_bind (draw m p) k tape at = go (draw_at m tape at) (λ f n. run_bind (p f) k tape n)
  where
    go : (d : Option Drawn) → ((f n : ℕ) → run_at (p f >>= k) tape n ≡ after_run (run_at (p f) tape n) (λ a next. run_at (k a) tape next))
        → after_draw d (λ f n. run_at (p f >>= k) tape n) ≡ after_run (after_draw d (λ f n. run_at (p f) tape n)) (λ a next. run_at (k a) tape next)
    go (Some d) ih = ih d.face d.next
    go None ih = refl

-- A course ends with a value that the program can end with.
pub follows_ends : {A : Type 0} (R : A → Type 0) (p : Program A) (faces : List ℕ) (a : A) → Ends R p → Follows p faces a → R a
unfolding Ends Follows
follows_ends R (done b) [] a e h = subst R h e
follows_ends R (done b) (f ∷ fs) a e h = absurd h
follows_ends R (draw m p) [] a e h = absurd h
follows_ends R (draw m p) (f ∷ fs) a e h = follows_ends R (p f) fs a (e f h.0) h.1

-- A finished run on a tape ends where the course ends whose faces its words decide; each of those faces is below its number.
pub run_follows : {A : Type 0} (p : Program A) (tape : List ℕ) (at : ℕ) (a : A) (next : ℕ)
    → run_at p tape at ≡ ran a next → Follows p (faces_on p tape at) a
unfolding run_at faces_on Follows after_draw faces_after
run_follows (done b) tape at a next e = cc
run_follows {A} (draw m p) tape at a next e =
    go (draw_at m tape at) (λ f n. draw_sound m tape at f n) (λ f n. run_follows (p f) tape n a next) e
  where
    go : (d : Option Drawn) → ((f n : ℕ) → d ≡ face_at f n → Sound m at f n)
        → ((f n : ℕ) → run_at (p f) tape n ≡ ran a next → Follows (p f) (faces_on (p f) tape n) a)
        → after_draw d (λ f n. run_at (p f) tape n) ≡ ran a next
        → Follows (draw m p) (faces_after d (λ f n. faces_on (p f) tape n)) a
    go (Some d) sound ih e = ((sound d.face d.next refl).below, ih d.face d.next e)
    go None sound ih e = let z : ◌≡◌ {A = ℕ} 0 1 = cc in absurd (omega arith)

-- A finished run ends with a value that the program can end with.
pub run_ends : {A : Type 0} (R : A → Type 0) (p : Program A) (tape : List ℕ) (at : ℕ) (a : A) (next : ℕ)
    → Ends R p → run_at p tape at ≡ ran a next → R a
run_ends R p tape at a next e h = follows_ends R p (faces_on p tape at) a e (run_follows p tape at a next h)

-- A run does not go past the end of the tape.
pub run_within : {A : Type 0} (p : Program A) (tape : List ℕ) (at : ℕ) → at ≤ length tape → (a : A) (next : ℕ) → run_at p tape at ≡ ran a next
    → next ≤ length tape
unfolding run_at after_draw
run_within (done b) tape at l a next e = let same : at ≡ next = cc in omega arith
run_within {A} (draw m p) tape at l a next e =
    go (draw_at m tape at) (draw_within m tape at l) (λ f n h. run_within (p f) tape n h a next) e
  where
    go : (d : Option Drawn) → ((f n : ℕ) → d ≡ face_at f n → n ≤ length tape)
        → ((f n : ℕ) → n ≤ length tape → run_at (p f) tape n ≡ ran a next → next ≤ length tape)
        → after_draw d (λ f n. run_at (p f) tape n) ≡ ran a next → next ≤ length tape
    go (Some d) within ih e = ih d.face d.next (within d.face d.next refl) e
    go None within ih e = let z : ◌≡◌ {A = ℕ} 0 1 = cc in absurd (omega arith)
