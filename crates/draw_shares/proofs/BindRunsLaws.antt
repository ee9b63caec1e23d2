-- Words that decide a program and then another: the parts, and their runs.
use Rattle.std.proofs.Math.Path.{◌≡◌, ap, ap₂, sym}
use Rattle.std.specs.Prelude.{refl, true, ℕ, ◌+◌, ◌*◌, length}
use Rattle.std.proofs.Common.{◌∙◌, arith, zero-add, one-mul, mul_assoc}
use Rattle.std.proofs.Math.Bool.{◌&&◌}
use mathlib.Core.List.{List, [], ◌∷◌, ◌++◌}
use Rattle.std.proofs.Math.Nat.{add-zero, add_assoc}
use Rattle.base.specs.Lists.{total}
use Rattle.base.specs.BoolLaws.{and_both}
use Rattle.draw.specs.Draw.{draw_from}
use Rattle.draw.specs.Runs.{gives, face_runs}
use Rattle.draw_shares.specs.Program.{Program, done, draw, ◌>>=◌}
use Rattle.draw_shares.specs.Course.{Follows}
use Rattle.draw_shares.specs.CourseRuns.{decided, course_runs}
use Rattle.draw_shares.proofs.CourseRunsLaws.{decided_moved, decided_behind}

module _ {A B : Type 0} (W : ℕ) where
  -- Where the words decide a course of the first program, they decide on as the second one does from there.
  decided_then : (p : Program A) (k : A → Program B) (fs gs ms ns words : List ℕ) (at : ℕ) (a : A) → Follows p fs a
      → decided W p fs ms words at ≡ true → decided W (p >>= k) (fs ++ gs) (ms ++ ns) words at ≡ decided W (k a) gs ns words (at + total ms)
  unfolding decided Follows ◌>>=◌ total
  decided_then (done x) k [] gs [] ns words at a h e = rw (h, add-zero at)
  decided_then (done x) k [] gs (m ∷ ms) ns words at a h e = let z : ◌≡◌ {A = ℕ} 0 1 = cc in absurd (omega arith)
  decided_then (done x) k (f ∷ fs) gs ms ns words at a h e = absurd h
  decided_then (draw c p) k [] gs ms ns words at a h e = absurd h
  decided_then (draw c p) k (f ∷ fs) gs [] ns words at a h e = let z : ◌≡◌ {A = ℕ} 0 1 = cc in absurd (omega arith)
  decided_then (draw c p) k (f ∷ fs) gs (m ∷ ms) ns words at a h e =
      let both = and_both (gives f (at + m) (draw_from W c words at)) _ e in
      rw (both.0, ← add_assoc at m (total ms)) (decided_then (p f) k fs gs ms ns words (at + m) a h.1 both.1)

  -- The words of the first program, all read, and then those of the second.
  pub decided_bind : (p : Program A) (k : A → Program B) (fs gs ms ns words more : List ℕ) (a : A) → Follows p fs a → total ms ≡ length words
      → decided W p fs ms words 0 ≡ true → decided W (p >>= k) (fs ++ gs) (ms ++ ns) (words ++ more) 0 ≡ decided W (k a) gs ns more 0
  decided_bind p k fs gs ms ns words more a h l e =
      decided_then p k fs gs ms ns (words ++ more) 0 a h (decided_behind W p fs ms words more 0 (omega arith) ∙ e)
      ∙ rw (zero-add, l) (rw add-zero at (decided_moved W (k a) gs ns words more 0))

  -- The runs of words of both are multiplied.
  pub runs_bind : (p : Program A) (k : A → Program B) (fs gs ms ns : List ℕ) (a : A) → Follows p fs a → length fs ≡ length ms
      → course_runs W (p >>= k) (fs ++ gs) (ms ++ ns) ≡ course_runs W p fs ms * course_runs W (k a) gs ns
  unfolding course_runs Follows ◌>>=◌
  runs_bind (done x) k [] gs [] ns a h l = rw (h, one-mul)
  runs_bind (done x) k [] gs (m ∷ ms) ns a h l = absurd (omega arith)
  runs_bind (done x) k (f ∷ fs) gs ms ns a h l = absurd h
  runs_bind (draw c p) k [] gs ms ns a h l = absurd h
  runs_bind (draw c p) k (f ∷ fs) gs [] ns a h l = absurd (omega arith)
  runs_bind (draw c p) k (f ∷ fs) gs (m ∷ ms) ns a h l =
      ap (λ (n : ℕ). face_runs W c f m * n) (runs_bind (p f) k fs gs ms ns a h.1 (omega arith)) ∙ sym (mul_assoc (face_runs W c f m) _ _)

  -- A course of a program and then another, that words decide, in its two parts.
  pub record Parts (p : Program A) (k : A → Program B) (faces numbers words : List ℕ) (at : ℕ) (b : B) : Type 0 where
    pub fs : List ℕ
    pub gs : List ℕ
    pub ms : List ℕ
    pub ns : List ℕ
    pub middle : A
    pub faces_apart : fs ++ gs ≡ faces
    pub numbers_apart : ms ++ ns ≡ numbers
    pub first : Follows p fs middle
    pub second : Follows (k middle) gs b
    pub first_decided : decided W p fs ms words at ≡ true
    pub second_decided : decided W (k middle) gs ns words (at + total ms) ≡ true

  pub decided_apart : (p : Program A) (k : A → Program B) (faces numbers words : List ℕ) (at : ℕ) (b : B)
      → Follows (p >>= k) faces b → decided W (p >>= k) faces numbers words at ≡ true → Parts p k faces numbers words at b
  unfolding decided Follows ◌>>=◌ total
  decided_apart (done x) k faces numbers words at b h e = record {
    fs = [];
    gs = faces;
    ms = [];
    ns = numbers;
    middle = x;
    faces_apart = refl;
    numbers_apart = refl;
    first = refl;
    second = h;
    first_decided = refl;
    second_decided = rw (add-zero at) e;
  }
  decided_apart (draw c p) k [] numbers words at b h e = absurd h
  decided_apart (draw c p) k (f ∷ faces) [] words at b h e = let z : ◌≡◌ {A = ℕ} 0 1 = cc in absurd (omega arith)
  decided_apart (draw c p) k (f ∷ faces) (m ∷ numbers) words at b h e =
      let both = and_both (gives f (at + m) (draw_from W c words at)) _ e in
      let rest = decided_apart (p f) k faces numbers words (at + m) b h.1 both.1 in
      record {
        fs = f ∷ rest.fs;
        gs = rest.gs;
        ms = m ∷ rest.ms;
        ns = rest.ns;
        middle = rest.middle;
        faces_apart = ap (λ (xs : List ℕ). f ∷ xs) rest.faces_apart;
        numbers_apart = ap (λ (xs : List ℕ). m ∷ xs) rest.numbers_apart;
        first = (h.0, rest.first);
        second = rest.second;
        first_decided = ap₂ ◌&&◌ both.0 rest.first_decided;
        second_decided = rw (← add_assoc at m (total rest.ms)) rest.second_decided;
      }
