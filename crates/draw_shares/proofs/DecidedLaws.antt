-- That words decide a course says what the run on a tape does.
use Rattle.std.specs.Prelude.{◌≡◌, refl, true, List, [], ◌∷◌, ℕ, ◌+◌, ◌-◌, ◌≤◌, ◌^◌, length, take, Option, Some, None}
use Rattle.std.proofs.Common.{ap, ap₂, sym, ◌∙◌, arith, add-zero, eq-eqb, eqb-true}
use Rattle.base.specs.Lists.{total}
use Rattle.base.specs.BoolLaws.{and_both}
use Rattle.draw.specs.declared.Drawn.{Drawn}
use Rattle.draw.specs.Draw.{face_at, draw_at}
use Rattle.draw.specs.DrawLaws.{draw_sound}
use Rattle.draw.specs.Runs.{gives}
use Rattle.draw_shares.specs.Program.{Program, done, draw}
use Rattle.draw_shares.specs.Tape.{ran, after_draw, run_at, faces_after, faces_on}
use Rattle.draw_shares.proofs.TapeLaws.{run_follows, run_within}
use Rattle.draw_shares.specs.Course.{Follows}
use Rattle.draw_shares.specs.CourseRuns.{decided, numbers_after, numbers_on}
use Rattle.draw_shares.proofs.CourseRunsLaws.{decided_front}

gives_face : (face place : ℕ) (d : Option Drawn) → gives face place d ≡ true → d ≡ face_at face place
unfolding gives
gives_face face place (Some d) e =
    let both = and_both _ _ e in
    let ef : d.face ≡ face = eqb-true d.face face both.0 in
    let en : d.next ≡ place = eqb-true d.next place both.1 in
    ap₂ face_at ef en
gives_face face place None e = let z : ◌≡◌ {A = ℕ} 0 1 = cc in absurd (omega arith)

-- What a run on a tape does whose words decide the faces with the numbers.
pub record Decides {A : Type 0} (p : Program A) (faces numbers tape : List ℕ) (at : ℕ) (a : A) : Type 0 where
  pub runs : run_at p tape at ≡ ran a (at + total numbers)
  pub faced : faces_on p tape at ≡ faces
  pub numbered : numbers_on p tape at ≡ numbers

-- Where the words decide a course with these numbers, the run on them ends with its value, past as many words, and has its faces and numbers.
pub decided_run : {A : Type 0} (p : Program A) (faces numbers tape : List ℕ) (at : ℕ) (a : A) → Follows p faces a
    → decided (2 ^ 32) p faces numbers tape at ≡ true → Decides p faces numbers tape at a
unfolding decided run_at faces_on numbers_on Follows after_draw faces_after numbers_after total draw_at
decided_run (done b) [] [] tape at a f e = record { runs = ap₂ ran f (sym (add-zero at)); faced = refl; numbered = refl }
decided_run (done b) [] (k ∷ ks) tape at a f e = let z : ◌≡◌ {A = ℕ} 0 1 = cc in absurd (omega arith)
decided_run (done b) (g ∷ fs) ks tape at a f e = absurd f
decided_run (draw m p) [] ks tape at a f e = absurd f
decided_run (draw m p) (g ∷ fs) [] tape at a f e = let z : ◌≡◌ {A = ℕ} 0 1 = cc in absurd (omega arith)
decided_run {A} (draw m p) (g ∷ fs) (k ∷ ks) tape at a f e =
    let both = and_both _ _ e in
    go (gives_face g (at + k) (draw_at m tape at) both.0) (decided_run (p g) fs ks tape (at + k) a f.1 both.1)
  where
    go : draw_at m tape at ≡ face_at g (at + k) → Decides (p g) fs ks tape (at + k) a → Decides (draw m p) (g ∷ fs) (k ∷ ks) tape at a
    go same rest =
        let place : at + k + total ks ≡ at + (k + total ks) = omega arith in
        let number : at + k - at ≡ k = omega arith in
        record {
          runs = rw same (rest.runs ∙ ap (ran a) place);
          faced = rw same (ap (λ (xs : List ℕ). g ∷ xs) rest.faced);
          numbered = rw same (ap₂ ◌∷◌ number rest.numbered);
        }

-- A finished run decides the course of its faces with its numbers, and reads as many words as the numbers are together.
pub run_decided : {A : Type 0} (p : Program A) (tape : List ℕ) (at : ℕ) (a : A) (next : ℕ) → run_at p tape at ≡ ran a next
    → (decided (2 ^ 32) p (faces_on p tape at) (numbers_on p tape at) tape at ≡ true) × (at + total (numbers_on p tape at) ≡ next)
unfolding decided run_at faces_on numbers_on after_draw faces_after numbers_after total draw_at gives
run_decided (done b) tape at a next e = let same : at ≡ next = cc in (refl, omega arith)
run_decided {A} (draw m p) tape at a next e =
    go (draw_at m tape at) refl (λ f n. run_decided (p f) tape n a next) e
  where
    go : (d : Option Drawn) → draw_at m tape at ≡ d
        → ((f n : ℕ) → run_at (p f) tape n ≡ ran a next
        → (decided (2 ^ 32) (p f) (faces_on (p f) tape n) (numbers_on (p f) tape n) tape n ≡ true) × (n + total (numbers_on (p f) tape n) ≡ next))
        → after_draw d (λ f n. run_at (p f) tape n) ≡ ran a next
        → (decided (2 ^ 32) (draw m p) (faces_after d (λ f n. faces_on (p f) tape n)) (numbers_after at d (λ f n. numbers_on (p f) tape n)) tape at ≡ true)
        × (at + total (numbers_after at d (λ f n. numbers_on (p f) tape n)) ≡ next)
    go (Some d) same ih e =
        let sound : at ≤ d.next = (draw_sound m tape at d.face d.next same).onward in
        let place : at + (d.next - at) ≡ d.next = omega arith in
        let rest = ih d.face d.next e in
        (rw (place, same, eq-eqb d.face d.face refl, eq-eqb d.next d.next refl) rest.0, omega (arith, rest.1))
    go None same ih e = let z : ◌≡◌ {A = ℕ} 0 1 = cc in absurd (omega arith)

-- A finished run is the same on the words that it read alone.
pub run_read : {A : Type 0} (p : Program A) (tape : List ℕ) (a : A) (next : ℕ) → run_at p tape 0 ≡ ran a next
    → Decides p (faces_on p tape 0) (numbers_on p tape 0) (take (total (numbers_on p tape 0)) tape) 0 a
run_read p tape a next e =
    let known = run_decided p tape 0 a next e in
    let inside : next ≤ length tape = run_within p tape 0 (omega arith) a next e in
    decided_run p (faces_on p tape 0) (numbers_on p tape 0) (take (total (numbers_on p tape 0)) tape) 0 a (run_follows p tape 0 a next e)
    (decided_front (2 ^ 32) p (faces_on p tape 0) (numbers_on p tape 0) tape (omega (arith, known.1)) ∙ known.0)
