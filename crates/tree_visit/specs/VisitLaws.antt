-- Laws of the visit of one range: the run by what the visit gives, and what that says of the balance entry.
use Rattle.std.specs.Prelude.{◌≡◌, ◌≢◌, List, ℕ, Option, Some, None}
use Rattle.std.proofs.Math.Path.{refl}
use Rattle.std.proofs.Common.{sym, ◌∙◌, ⊎_elim, arith}
use Rattle.base.specs.Cases.{if_eq}
use Rattle.base.specs.CaseLaws.{eq_or_ne, by_eq, if_eq_yes, if_eq_no}
use Rattle.draw.specs.declared.Drawn.{Drawn}
use Rattle.draw.specs.Draw.{face_at, draw_at}
use Rattle.draw_shares.specs.Program.{Program}
use Rattle.draw_shares.specs.Tape.{Ran, run_at, after_draw}
use Rattle.tree_sizes.specs.Sizes.{IsCandidate}
use Rattle.tree_rules.specs.declared.Change.{Change}
use Rattle.tree_rules.specs.declared.Comparison.{Comparison}
use Rattle.tree_rules.specs.declared.Comparison.TheVariants.{Unchanged, Swapped}
use Rattle.tree_rules.specs.Tree.{Tree}
use Rattle.tree_rules.specs.Compare.{count_after}
use Rattle.tree_rules.specs.Moves.{Leaves, Inside}
use Rattle.tree_rules.specs.Rules.{visit}
use Rattle.tree_visit.specs.declared.Visited.{Visited}
use Rattle.tree_visit.specs.declared.Visited.TheVariants as visited
use Rattle.tree_visit.specs.Visit.{visit_at, visit_drawn, visit_run}

-- ---- the run

same_choice : {A B C : Type 0} (m n : ℕ) (f : A → C) (g : B → C) (x y : A) (x' y' : B) → f x ≡ g x' → f y ≡ g y'
    → f (if_eq m n x y) ≡ g (if_eq m n x' y')
same_choice m n f g x y x' y' p q =
    ⊎_elim
    (λ (e : m ≡ n). rw (if_eq_yes m n x y e, if_eq_yes m n x' y' e) p)
    (λ (e : m ≢ n). rw (if_eq_no m n x y e, if_eq_no m n x' y' e) q)
    (eq_or_ne m n)

module _ (rebuilt : Program Tree) (halves : ℕ → Program Tree) (below : Program Tree) (tape : List ℕ) where
  abbrev run : Option Visited → Ran Tree
  run v = visit_run rebuilt halves below tape v

  drawn_run : (into : ℕ) (d : Option Drawn)
      → after_draw d (λ face next. run_at (if_eq face 0 (halves into) below) tape next) ≡ run (visit_drawn into d)
  unfolding visit_run visit_drawn after_draw
  drawn_run into (Some d) = same_choice d.face 0 (λ p. run_at p tape d.next) run _ _ _ _ refl refl
  drawn_run into None = refl

  pub visit_run_lem : (found : Comparison) (c b at : ℕ)
      → run_at (visit found c b rebuilt halves below) tape at ≡ run (visit_at found c b tape at)
  unfolding visit visit_run visit_at run_at
  visit_run_lem Unchanged c b at = refl
  visit_run_lem (Swapped out into) c b at =
      same_choice b out (λ p. run_at p tape at) run _ _ _ _ refl (drawn_run into (draw_at c tape at))

  -- Where the walk does not pass, what follows below is not run.
  pub stops_run : (other : Program Tree) (v : Option Visited) → ((next : ℕ) → v ≢ Some (visited.Pass next))
      → run v ≡ visit_run rebuilt halves other tape v
  unfolding visit_run
  stops_run other (Some (visited.Pass next)) h = absurd (h next refl)
  stops_run other (Some (visited.Rebuild next)) h = refl
  stops_run other (Some (visited.Enter into next)) h = refl
  stops_run other None h = refl

-- ---- what the visit gives, by the cases of the code

pub visit_unchanged : (found : Comparison) (c b : ℕ) (tape : List ℕ) (at : ℕ) → found ≡ Unchanged
    → visit_at found c b tape at ≡ Some (visited.Pass at)
unfolding visit_at
visit_unchanged found c b tape at e = rw e

module _ (found : Comparison) (c b : ℕ) (tape : List ℕ) (at out into : ℕ) (e : found ≡ Swapped out into) where
  pub visit_leaves : b ≡ out → visit_at found c b tape at ≡ Some (visited.Rebuild at)
  unfolding visit_at
  visit_leaves h = rw e (if_eq_yes b out _ _ h)

  module _ (other : b ≢ out) where
    visit_drawn_lem : visit_at found c b tape at ≡ visit_drawn into (draw_at c tape at)
    unfolding visit_at
    visit_drawn_lem = rw e (if_eq_no b out _ _ other)

    pub visit_enters : (face next : ℕ) → draw_at c tape at ≡ face_at face next → face ≡ 0
        → visit_at found c b tape at ≡ Some (visited.Enter into next)
    unfolding visit_drawn
    visit_enters face next h first = visit_drawn_lem ∙ rw h (if_eq_yes face 0 _ _ first)

    pub visit_passes : (face next : ℕ) → draw_at c tape at ≡ face_at face next → face ≢ 0
        → visit_at found c b tape at ≡ Some (visited.Pass next)
    unfolding visit_drawn
    visit_passes face next h later = visit_drawn_lem ∙ rw h (if_eq_no face 0 _ _ later)

    pub visit_ended : draw_at c tape at ≡ None → visit_at found c b tape at ≡ None
    unfolding visit_drawn
    visit_ended h = visit_drawn_lem ∙ rw h

-- ---- what follows from what the visit gives

-- Where the walk passes, the balance entry does not leave.
pub pass_stays : (found : Comparison) (c b : ℕ) (tape : List ℕ) (at next : ℕ) → visit_at found c b tape at ≡ Some (visited.Pass next)
    → ¬ Leaves found b
unfolding visit_at Leaves
pass_stays Unchanged c b tape at next e = λ z. z
pass_stays (Swapped out into) c b tape at next e = λ same.
    let h : Some (visited.Rebuild at) ≡ Some (visited.Pass next) = sym (if_eq_yes b out (Some (visited.Rebuild at)) (visit_drawn into (draw_at c tape at)) same) ∙ e in
    let z : ◌≡◌ {A = ℕ} 0 1 = cc in
    omega arith

-- Where the walk stops for the entering entry, that is a candidate after the change.
drawn_enters : (into : ℕ) (d : Option Drawn) (e next : ℕ) → visit_drawn into d ≡ Some (visited.Enter e next) → into ≡ e
unfolding visit_drawn
drawn_enters into (Some d) e next =
    by_eq (λ v. v ≡ Some (visited.Enter e next) → into ≡ e) d.face 0 _ _
    (λ h p. cc)
    (λ h p. let z : ◌≡◌ {A = ℕ} 0 1 = cc in absurd (omega arith))
drawn_enters into None e next = λ p. let z : ◌≡◌ {A = ℕ} 0 1 = cc in absurd (omega arith)

pub enters_candidate : (change : Change) (n c b : ℕ) (tape : List ℕ) (at e next : ℕ) (found : Comparison) → Inside change n c found
    → visit_at found c b tape at ≡ Some (visited.Enter e next) → IsCandidate (count_after change n) c e
unfolding visit_at Inside
enters_candidate change n c b tape at e next Unchanged inside = λ p. let z : ◌≡◌ {A = ℕ} 0 1 = cc in absurd (omega arith)
enters_candidate change n c b tape at e next (Swapped out into) inside =
    by_eq (λ v. v ≡ Some (visited.Enter e next) → IsCandidate (count_after change n) c e) b out _ _
    (λ h p. let z : ◌≡◌ {A = ℕ} 0 1 = cc in absurd (omega arith))
    (λ h p. rw (drawn_enters into (draw_at c tape at) e next p) at inside.1)
