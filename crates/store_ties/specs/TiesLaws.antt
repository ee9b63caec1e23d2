-- Ties of scoring boats: where one part of a list joins the next, and boat by boat.
use Rattle.std.specs.Prelude.{Bool, false, ◌&&◌, ◌≡◌, ℕ, suc, ◌+◌, length, get_or}
use Rattle.std.proofs.Math.Bool.{true}
use mathlib.Core.List.{List, [], ◌∷◌, ◌++◌}
use Rattle.std.proofs.Common.{⊎_elim, ◌∙◌, ap, add-zero, arith, get_or-append-add}
use Rattle.std.proofs.Math.Path.{refl}
use Rattle.base.specs.BoolLaws.{and_false, true_or_false}
use Rattle.store_scoring.specs.Scoring.{retired_bit, tally}
use Rattle.store_scoring.specs.ScoringLaws.{tally_retired, tally_scoring, tally_append}
use Rattle.store_ties.specs.Ties.{tie_bit, ties_from, tied_in}
use Rattle.store_ties.specs.Steps.{end_tied}

-- ---- one boat

-- The two cases of a boat: she is retired, or she scores.
module _ {A : Type 0} (e : ℕ) where
  pub by_boat : (retired_bit e ≡ true → A) → (retired_bit e ≡ false → A) → A
  by_boat f g = ⊎_elim f g (true_or_false (retired_bit e))

module _ (all : Bool) (e : ℕ) (list : List ℕ) where
  ties_retired : retired_bit e ≡ true → ties_from all (e ∷ list) ≡ ties_from (all && tie_bit e) list
  unfolding ties_from
  ties_retired is = rw (is, ties_from)

  pub ties_scoring : retired_bit e ≡ false → ties_from all (e ∷ list) ≡ (all && tie_bit e) ∷ ties_from true list
  unfolding ties_from
  ties_scoring is = rw (is, ties_from)

  end_retired : retired_bit e ≡ true → end_tied all (e ∷ list) ≡ end_tied (all && tie_bit e) list
  unfolding end_tied
  end_retired is = rw (is, end_tied)

  end_scoring : retired_bit e ≡ false → end_tied all (e ∷ list) ≡ end_tied true list
  unfolding end_tied
  end_scoring is = rw (is, end_tied)

-- ---- parts of a list

ties_length : (all : Bool) (list : List ℕ) → length (ties_from all list) ≡ tally list
unfolding ties_from tally
ties_length all [] = refl
ties_length all (e ∷ list) =
    by_boat e
    (λ is. rw (ties_retired all e list is, tally_retired e list is) (ties_length (all && tie_bit e) list))
    (λ is. rw (ties_scoring all e list is, tally_scoring e list is) (ap suc (ties_length true list)))

module _ (ys : List ℕ) where
  ties_append : (all : Bool) (xs : List ℕ) → ties_from all (xs ++ ys) ≡ ties_from all xs ++ ties_from (end_tied all xs) ys
  unfolding ties_from end_tied
  ties_append all [] = refl
  ties_append all (e ∷ xs) =
      by_boat e
      (λ is. rw (ties_retired all e (xs ++ ys) is, ties_retired all e xs is, end_retired all e xs is) (ties_append (all && tie_bit e) xs))
      (λ is.
      rw (ties_scoring all e (xs ++ ys) is, ties_scoring all e xs is, end_scoring all e xs is)
      (ap (λ (bs : List Bool). (all && tie_bit e) ∷ bs) (ties_append true xs)))

  end_append : (all : Bool) (xs : List ℕ) → end_tied all (xs ++ ys) ≡ end_tied (end_tied all xs) ys
  unfolding end_tied
  end_append all [] = refl
  end_append all (e ∷ xs) =
      by_boat e
      (λ is. rw (end_retired all e (xs ++ ys) is, end_retired all e xs is) (end_append (all && tie_bit e) xs))
      (λ is. rw (end_scoring all e (xs ++ ys) is, end_scoring all e xs is) (end_append true xs))

  -- The first scoring boat behind some boats of a list.
  tied_behind : (xs : List ℕ) → tied_in (xs ++ ys) (tally xs) ≡ get_or (ties_from (end_tied true xs) ys) 0 false
  tied_behind xs =
      rw (ties_append true xs, ← ties_length true xs, ← add-zero (length (ties_from true xs)))
      (get_or-append-add (ties_from true xs) (ties_from (end_tied true xs) ys) 0 false)

-- ---- the first scoring boat of a list

-- A retired boat without the bit stands before her.
head_false : (list : List ℕ) → get_or (ties_from false list) 0 false ≡ false
unfolding ties_from
head_false [] = refl
head_false (e ∷ list) =
    by_boat e (λ is. rw (ties_retired false e list is) (head_false list)) (λ is. rw (ties_scoring false e list is))

-- She, or a retired boat before her, has no bit.
head_untied : (all : Bool) (e : ℕ) (list : List ℕ) → tie_bit e ≡ false → get_or (ties_from all (e ∷ list)) 0 false ≡ false
head_untied all e list none =
    let not : (all && tie_bit e) ≡ false = rw none (and_false all) in
    by_boat e (λ is. rw (ties_retired all e list is, not) (head_false list)) (λ is. rw (ties_scoring all e list is) not)

-- ---- a boat behind some others, and perhaps before some

module _ (xs : List ℕ) (e : ℕ) where
  module _ (is : retired_bit e ≡ true) where
    pub tally_last_retired : tally (xs ++ (e ∷ [])) ≡ tally xs
    unfolding tally
    tally_last_retired = tally_append xs (e ∷ []) ∙ omega (arith, tally_retired e [] is)

    pub end_last_retired : end_tied true (xs ++ (e ∷ [])) ≡ (end_tied true xs && tie_bit e)
    unfolding end_tied
    end_last_retired = end_append (e ∷ []) true xs ∙ end_retired (end_tied true xs) e [] is

  module _ (is : retired_bit e ≡ false) where
    pub tally_last_scoring : tally (xs ++ (e ∷ [])) ≡ tally xs + 1
    unfolding tally
    tally_last_scoring = tally_append xs (e ∷ []) ∙ omega (arith, tally_scoring e [] is)

    pub end_last_scoring : end_tied true (xs ++ (e ∷ [])) ≡ true
    unfolding end_tied
    end_last_scoring = end_append (e ∷ []) true xs ∙ end_scoring (end_tied true xs) e [] is

    pub tied_scoring : (ys : List ℕ) → tied_in (xs ++ e ∷ ys) (tally xs) ≡ (end_tied true xs && tie_bit e)
    tied_scoring ys = tied_behind (e ∷ ys) xs ∙ rw (ties_scoring (end_tied true xs) e ys is)

  -- Without the bit: the next scoring boat from her on does not tie.
  pub tied_none : tie_bit e ≡ false → (ys : List ℕ) → tied_in (xs ++ e ∷ ys) (tally xs) ≡ false
  tied_none none ys = tied_behind (e ∷ ys) xs ∙ head_untied (end_tied true xs) e ys none
