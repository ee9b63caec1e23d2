-- The runs of words that decide a course are a product over its draws, and as many for every course of draws among the same numbers.
use Rattle.std.specs.Prelude.{◌≡◌, take, drop}
use Rattle.std.proofs.Math.Path.{refl, ap, ap₂}
use Rattle.std.proofs.Common.{sym, ◌∙◌, arith, zero-add, add_assoc, take-append-drop, length-take-le}
use Rattle.std.proofs.Math.Bool.{◌&&◌}
use mathlib.Core.List.{List, [], ◌∷◌, ◌++◌, map}
use Prim.Native.Nat.{ℕ, ◌+◌, ◌*◌, ◌≤◌}
use Rattle.std.proofs.Math.Nat.{add-zero}
use Rattle.std.proofs.Math.ListN.{length}
use Rattle.base.specs.Lists.{Every, total}
use Rattle.base.specs.ListLaws.{every_map}
use Rattle.draw.specs.Draw.{draw_from}
use Rattle.draw.specs.Runs.{one, runs, gives, face_runs}
use Rattle.draw.specs.RunsLaws.{runs_none, runs_times}
use Rattle.draw.specs.WordsReadLaws.{draw_moved, gives_moved, draw_behind}
use Rattle.draw.proofs.Fair.{face_runs_all}
use Rattle.draw_shares.specs.Program.{Program, done, draw}
use Rattle.draw_shares.specs.Course.{Follows, Course, before, courses}
use Rattle.draw_shares.specs.CourseLaws.{every_concat, courses_follow}
use Rattle.draw_shares.specs.CourseRuns.{decided, deciding_runs, course_runs, among_of, among_runs}

module _ {A : Type 0} (W : ℕ) where
  -- Words before the place decide nothing.
  pub decided_moved : (p : Program A) (faces numbers before words : List ℕ) (at : ℕ)
      → decided W p faces numbers (before ++ words) (length before + at) ≡ decided W p faces numbers words at
  unfolding decided
  decided_moved (done a) [] [] before words at = refl
  decided_moved (done a) [] (k ∷ ks) before words at = refl
  decided_moved (done a) (f ∷ fs) ks before words at = refl
  decided_moved (draw m p) [] ks before words at = refl
  decided_moved (draw m p) (f ∷ fs) [] before words at = refl
  decided_moved (draw m p) (f ∷ fs) (k ∷ ks) before words at =
      rw (add_assoc (length before) at k, draw_moved W m before words at)
      (ap₂ ◌&&◌ (gives_moved (length before) f (at + k) (draw_from W m words at)) (decided_moved (p f) fs ks before words (at + k)))

  -- Words behind those that are read decide nothing.
  pub decided_behind : (p : Program A) (faces numbers words more : List ℕ) (at : ℕ) → at + total numbers ≤ length words
      → decided W p faces numbers (words ++ more) at ≡ decided W p faces numbers words at
  unfolding decided total
  decided_behind (done a) [] [] words more at l = refl
  decided_behind (done a) [] (k ∷ ks) words more at l = refl
  decided_behind (done a) (f ∷ fs) ks words more at l = refl
  decided_behind (draw m p) [] ks words more at l = refl
  decided_behind (draw m p) (f ∷ fs) [] words more at l = refl
  decided_behind (draw m p) (f ∷ fs) (k ∷ ks) words more at l =
      ap₂ ◌&&◌ (draw_behind W m f (at + k) words more at (omega arith) (omega arith)) (decided_behind (p f) fs ks words more (at + k) (omega arith))

  -- Cut at a place: the words in front of it decide what they did, and those behind it what all of them did from there on.
  pub decided_front : (p : Program A) (faces numbers words : List ℕ) → total numbers ≤ length words
      → decided W p faces numbers (take (total numbers) words) 0 ≡ decided W p faces numbers words 0
  decided_front p faces numbers words l =
      let whole = decided_behind p faces numbers (take (total numbers) words) (drop (total numbers) words) 0
      (omega (arith, length-take-le (total numbers) words l)) in
      sym (rw (take-append-drop (total numbers) words) at whole)

  pub decided_back : (p : Program A) (faces numbers words : List ℕ) (n : ℕ) → n ≤ length words
      → decided W p faces numbers (drop n words) 0 ≡ decided W p faces numbers words n
  decided_back p faces numbers words n l =
      let whole = decided_moved p faces numbers (take n words) (drop n words) 0 in
      sym (rw (take-append-drop n words, length-take-le n words l, add-zero n) at whole)

  -- The runs of words that decide a course with these numbers are as many as the product over its draws.
  pub course_runs_lem : (p : Program A) (faces numbers : List ℕ) → deciding_runs W p faces numbers ≡ course_runs W p faces numbers
  unfolding deciding_runs decided course_runs total face_runs runs one
  course_runs_lem (done a) [] [] = refl
  course_runs_lem (done a) [] (k ∷ ks) = runs_none W (k + total ks)
  course_runs_lem (done a) (f ∷ fs) ks = runs_none W (total ks)
  course_runs_lem (draw m p) [] ks = runs_none W (total ks)
  course_runs_lem (draw m p) (f ∷ fs) [] = runs_none W 0
  course_runs_lem (draw m p) (f ∷ fs) (k ∷ ks) =
      runs_times W k (total ks) _ (λ words. gives f k (draw_from W m words 0)) (λ more. decided W (p f) fs ks more 0) parts
      ∙ ap (λ (n : ℕ). face_runs W m f k * n) (course_runs_lem (p f) fs ks)
    where
      parts : (words more : List ℕ) → length words ≡ k
          → (gives f (0 + k) (draw_from W m (words ++ more) 0) && decided W (p f) fs ks (words ++ more) (0 + k))
          ≡ (gives f k (draw_from W m words 0) && decided W (p f) fs ks more 0)
      parts words more e =
          let later : decided W (p f) fs ks (words ++ more) (length words) ≡ decided W (p f) fs ks more 0 =
          rw add-zero at (decided_moved (p f) fs ks words more 0) in
          rw (zero-add k, ← e) (ap₂ ◌&&◌ (draw_behind W m f (length words) words more 0 (omega arith) (omega arith)) later)

  -- The product in numbers, by the numbers drawn among alone.
  pub course_value : (p : Program A) (faces numbers : List ℕ) (a : A) → Follows p faces a
      → course_runs W p faces numbers ≡ among_runs W (among_of p faces) numbers
  unfolding course_runs among_runs among_of Follows
  course_value (done b) [] [] a e = refl
  course_value (done b) [] (k ∷ ks) a e = refl
  course_value (done b) (f ∷ fs) ks a e = absurd e
  course_value (draw m p) [] ks a e = absurd e
  course_value (draw m p) (f ∷ fs) [] a e = refl
  course_value (draw m p) (f ∷ fs) (k ∷ ks) a e = ap₂ ◌*◌ (face_runs_all W m f k e.0) (course_value (p f) fs ks a e.1)

-- Two courses of draws among the same numbers have equally many runs of words, for the same numbers of words: whatever the faces and the programs.
pub course_fair : {A B : Type 0} (W : ℕ) (p : Program A) (q : Program B) (faces faces' numbers : List ℕ) (a : A) (b : B)
    → Follows p faces a → Follows q faces' b → among_of p faces ≡ among_of q faces'
    → deciding_runs W p faces numbers ≡ deciding_runs W q faces' numbers
course_fair W p q faces faces' numbers a b e h same =
    course_runs_lem W p faces numbers ∙ course_value W p faces numbers a e
    ∙ ap (λ (ms : List ℕ). among_runs W ms numbers) same
    ∙ sym (course_runs_lem W q faces' numbers ∙ course_value W q faces' numbers b h)

module _ {A : Type 0} where
  -- The numbers drawn among of each listed course are those along its faces.
  pub among_listed : (p : Program A) → Every (λ c. among_of p c.faces ≡ c.among) (courses p)
  unfolding courses among_of Every before
  among_listed (done a) = (refl, tt)
  among_listed (draw m p) =
      every_concat _ m (λ f. map (before m f) (courses (p f)))
      (λ f _.
      every_map (λ c. among_of (p f) c.faces ≡ c.among) (λ c. among_of (draw m p) c.faces ≡ c.among) (before m f)
      (λ c e. ap (λ (ms : List ℕ). m ∷ ms) e) (courses (p f)) (among_listed (p f)))

every_both : {B : Type 0} (P Q R : B → Type 0) → ((x : B) → P x → Q x → R x) → (xs : List B) → Every P xs → Every Q xs → Every R xs
unfolding Every
every_both P Q R h [] p q = tt
every_both P Q R h (x ∷ xs) p q = (h x p.0 q.0, every_both P Q R h xs p.1 q.1)

-- The runs of words of each listed course, by the numbers that it draws among: whatever its faces.
pub runs_listed : {A : Type 0} (W : ℕ) (p : Program A) (numbers : List ℕ)
    → Every (λ c. deciding_runs W p c.faces numbers ≡ among_runs W c.among numbers) (courses p)
runs_listed {A} W p numbers =
    every_both (λ (c : Course A). Follows p c.faces c.end) (λ (c : Course A). among_of p c.faces ≡ c.among) _
    (λ c e same. course_runs_lem W p c.faces numbers ∙ course_value W p c.faces numbers c.end e ∙ ap (λ (ms : List ℕ). among_runs W ms numbers) same)
    (courses p) (courses_follow p) (among_listed p)
