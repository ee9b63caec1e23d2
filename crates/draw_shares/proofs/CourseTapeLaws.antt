-- Every course can be had: its tape decides its faces, and the run ends with its value, at the end of the tape.
use Rattle.std.specs.Prelude.{◌≡◌, ◌≢◌, ℕ, suc, ◌^◌, length}
use Rattle.std.proofs.Math.Path.{refl}
use Rattle.std.proofs.Common.{ap, ◌∙◌, arith, length-append}
use Rattle.std.proofs.Math.Logic.{⊎_elim}
use mathlib.Core.List.{List, [], ◌∷◌, ◌++◌, append-nil, append_assoc}
use Rattle.base.specs.CaseLaws.{eq_or_ne, if_eq_yes, if_eq_no}
use Rattle.draw.specs.Draw.{face_at, draw_at}
use Rattle.draw.specs.DrawLaws.{draw_one}
use Rattle.draw.specs.WordLaws.{word_decides}
use Rattle.draw_shares.specs.Program.{Program, done, draw, Among, Draws}
use Rattle.draw_shares.specs.Tape.{ran, run_at, faces_after, faces_on}
use Rattle.draw_shares.proofs.TapeLaws.{run_face}
use Rattle.draw_shares.specs.Course.{Follows}
use Rattle.draw_shares.specs.CourseTape.{course_tape}

module _ {A : Type 0} where
  -- The run from this place ends with the value, at the end of the tape, and reads these faces.
  pub record Reads (p : Program A) (tape : List ℕ) (at : ℕ) (faces : List ℕ) (a : A) : Type 0 where
    pub ends : run_at p tape at ≡ ran a (length tape)
    pub faces_are : faces_on p tape at ≡ faces

  draw_reads : (m : ℕ) (p : ℕ → Program A) (tape : List ℕ) (at face next : ℕ) (faces : List ℕ) (a : A) → draw_at m tape at ≡ face_at face next
      → Reads (p face) tape next faces a → Reads (draw m p) tape at (face ∷ faces) a
  unfolding faces_on faces_after
  draw_reads m p tape at face next faces a e r = record {
    ends = run_face m p tape at face next e ∙ r.ends;
    faces_are = rw (e, r.faces_are);
  }

  course_read : (p : Program A) (faces : List ℕ) (a : A) → Draws (Among (2 ^ 32)) p → Follows p faces a → (before : List ℕ)
      → Reads p (before ++ course_tape p faces) (length before) faces a
  unfolding Draws Follows course_tape draw_at run_at faces_on
  course_read (done b) [] a d h before = record { ends = rw (append-nil before) (ap (λ (x : A). ran x (length before)) h); faces_are = refl }
  course_read (done b) (f ∷ fs) a d h before = absurd h
  course_read (draw m p) [] a d h before = absurd h
  course_read (draw m p) (f ∷ fs) a d h before =
      ⊎_elim
      (λ (one : m ≡ 1).
      let first : f ≡ 0 = omega (arith, h.0, one) in
      rw (if_eq_yes m 1 _ _ one)
      (draw_reads m p (before ++ course_tape (p f) fs) (length before) f (length before) fs a
      (rw (one, first) (draw_one (2 ^ 32) (before ++ course_tape (p 0) fs) (length before)))
      (course_read (p f) fs a (d.1 f h.0) h.1 before)))
      (λ (many : m ≢ 1).
      rw (if_eq_no m 1 _ _ many)
      (draw_reads m p (before ++ f ∷ course_tape (p f) fs) (length before) f (suc (length before)) fs a
      (word_decides m f before (course_tape (p f) fs) many h.0 d.0.1)
      (rw (same, one_more) at (course_read (p f) fs a (d.1 f h.0) h.1 (before ++ f ∷ [])))))
      (eq_or_ne m 1)
    where
      same : (before ++ f ∷ []) ++ course_tape (p f) fs ≡ before ++ f ∷ course_tape (p f) fs
      same = append_assoc before (f ∷ []) (course_tape (p f) fs)

      one_more : length (before ++ f ∷ []) ≡ suc (length before)
      one_more = omega (arith, length-append before (f ∷ []))

  -- The words of its tape decide a course.
  pub course_supplied : (p : Program A) (faces : List ℕ) (a : A) → Draws (Among (2 ^ 32)) p → Follows p faces a → Reads p (course_tape p faces) 0 faces a
  course_supplied p faces a d h = course_read p faces a d h []
