-- What an accepted change comes to, by the run of the rules.
use Rattle.std.proofs.Math.Path.{◌≡◌, refl, ap}
use Rattle.std.proofs.Common.{sym, ◌∙◌, arith}
use mathlib.Core.List.{List, []}
use Rattle.std.proofs.Math.Option.{none}
use Rattle.std.specs.Prelude.{Result, Ok, Err, ℕ, length}
use Rattle.draw_shares.specs.Program.{done}
use Rattle.draw_shares.specs.Tape.{Ran, ran, ended, run_at, after_run}
use Rattle.draw_shares.proofs.TapeLaws.{run_bind, run_ends}
use Rattle.tree_rules.specs.Tree.{Shape, IsShape}
use Rattle.tree_rules.specs.Compare.{count_after}
use Rattle.tree_rules.specs.Rules.{InReach, update}
use Rattle.tree_rules.proofs.ShapeLaws.{update_ends}
use Rattle.tree_rules.specs.ChangeListLaws.{length_changed}
use Rattle.store_layout.specs.Decode.{Contents}
use Rattle.call_outcomes.specs.declared.Cause.TheVariants.{TapeEnded}
use Rattle.call_outcomes.specs.declared.Cause.{Cause}
use Rattle.call_outcomes.specs.declared.Answer.{Answer}
use Rattle.call_outcomes.specs.declared.Answer.TheVariants.{Changed}
use Rattle.call_outcomes.specs.Kind.{View, Edit, applied, Calls, change, Kind, Lawful, StoreFor}
use Rattle.call_outcomes.specs.Causes.{accept, store_decision, looked_at, argument_cause, decision}
use Rattle.call_outcomes.specs.Outcome.{edited, effect, answer_of, entries_of, Outcome, refused, finished, outcome}
use Rattle.call_outcomes.specs.DecisionLaws.{store_accepted, accepted, outcome_accepted}

module _ (kind : Kind) (c : kind.calls.ChangeCall) (tape : List ℕ) (store : StoreFor kind) (before : Contents)
    (decided : decision kind (change c) store ≡ accept before) where
  abbrev edit : Edit
  edit = kind.calls.edit c before.list

  -- Everything was drawn: the sheet of the edited list with the shape drawn.
  pub outcome_drawn : (s : Shape) (words : ℕ) → run_at (update edit.change (length before.list) before.shape) tape 0 ≡ ran s words
      → outcome kind (change c) tape store []
      ≡ record {
        answer = Ok (Changed (count_after edit.change (length before.list)) words);
        store = kind.view.lay (applied edit before.list) s;
        output = [];
      }
  unfolding effect edited finished answer_of entries_of after_run run_at
  outcome_drawn s words e =
      outcome_accepted kind (change c) store tape [] before decided
      ∙ rw (run_bind (update edit.change (length before.list) before.shape) (λ t. done (kind.view.lay (applied edit before.list) t)) tape 0, e)

  -- The tape ended.
  pub outcome_ended : run_at (update edit.change (length before.list) before.shape) tape 0 ≡ ended
      → outcome kind (change c) tape store [] ≡ refused TapeEnded store []
  unfolding effect edited finished after_run run_at
  outcome_ended e =
      outcome_accepted kind (change c) store tape [] before decided
      ∙ rw (run_bind (update edit.change (length before.list) before.shape) (λ t. done (kind.view.lay (applied edit before.list) t)) tape 0, e)

  -- So nothing is changed where that is the answer.
  pub change_kept : (after : StoreFor kind)
      → ◌≡◌ {A = Outcome (StoreFor kind)} (record { answer = Err TapeEnded; store = after; output = [] }) (outcome kind (change c) tape store [])
      → after ≡ store
  unfolding refused
  change_kept after is = by_run (run_at (update edit.change (length before.list) before.shape) tape 0) refl
    where
      by_run : (r : Ran Shape) → run_at (update edit.change (length before.list) before.shape) tape 0 ≡ r → after ≡ store
      by_run (ran s next) e =
          let answers = ap (λ (x : Outcome (StoreFor kind)). x.answer) (is ∙ outcome_drawn s next e) in
          let z : ◌≡◌ {A = ℕ} 0 1 = cc in absurd (omega arith)
      by_run ended e = ap (λ (x : Outcome (StoreFor kind)). x.store) (is ∙ outcome_ended e)

  -- ---- a change that is made

  -- Everything was drawn, and the store after it is the sheet of the edited list with the shape drawn.
  pub record ChangeMade (words : ℕ) (after : StoreFor kind) : Type 0 where
    pub shape : Shape
    pub drawn : run_at (update edit.change (length before.list) before.shape) tape 0 ≡ ran shape words
    pub is_list : kind.view.IsList (applied edit before.list)
    pub is_shape : IsShape (length (applied edit before.list)) shape
    pub laid : after ≡ kind.view.lay (applied edit before.list) shape

  module _ (lawful : Lawful kind) where
    pub change_made : (n words : ℕ) (after : StoreFor kind)
        → ◌≡◌ {A = Outcome (StoreFor kind)} (record { answer = Ok (Changed n words); store = after; output = [] }) (outcome kind (change c) tape store [])
        → ChangeMade words after
    unfolding refused looked_at argument_cause applied
    change_made n words after is = by_run (run_at (update edit.change (length before.list) before.shape) tape 0) refl
      where
        looked : (store_decision kind.view store ≡ accept before) × (kind.calls.change_cause c before.list ≡ none)
        looked = accepted kind (change c) store before decided

        old : kind.view.IsList before.list × IsShape (length before.list) before.shape × (store ≡ kind.view.lay before.list before.shape)
        old = lawful.view.sound store before (store_accepted kind.view store before looked.0).1

        reach : InReach edit.change (length before.list)
        reach = lawful.calls.reach c before.list old.0 looked.1

        by_run : (r : Ran Shape) → run_at (update edit.change (length before.list) before.shape) tape 0 ≡ r → ChangeMade words after
        by_run (ran s next) e =
            let o = is ∙ outcome_drawn s next e in
            let answers = ap (λ (x : Outcome (StoreFor kind)). x.answer) o in
            let count : words ≡ next = cc in
            record {
              shape = s;
              drawn = e ∙ rw count;
              is_list = lawful.calls.keeps c before.list old.0 looked.1;
              is_shape =
                  rw (length_changed edit.change edit.entry before.list reach)
                  (run_ends (IsShape (count_after edit.change (length before.list))) (update edit.change (length before.list) before.shape) tape 0 s next
                  (update_ends edit.change (length before.list) before.shape reach old.1) e);
              laid = ap (λ (x : Outcome (StoreFor kind)). x.store) o;
            }
        by_run ended e =
            let answers : ◌≡◌ {A = Result Answer Cause} (Ok (Changed n words)) (Err TapeEnded) = ap (λ (x : Outcome (StoreFor kind)). x.answer) (is ∙ outcome_ended e) in
            let z : ◌≡◌ {A = ℕ} 0 1 = cc in absurd (omega arith)

-- Of two kinds with one view, changes that edit the list in the same way come to the same.
module _ (view : View) (calls calls' : Calls) where
  abbrev one : Kind
  one = record { view = view; calls = calls }

  abbrev other : Kind
  other = record { view = view; calls = calls' }

  pub same_edit : (c : calls.ChangeCall) (c' : calls'.ChangeCall) (tape : List ℕ) (store : view.Store) (before : Contents)
      → decision one (change c) store ≡ accept before → decision other (change c') store ≡ accept before
      → calls.edit c before.list ≡ calls'.edit c' before.list → outcome one (change c) tape store [] ≡ outcome other (change c') tape store []
  unfolding effect edited finished answer_of entries_of
  same_edit c c' tape store before decided decided' same =
      outcome_accepted one (change c) store tape [] before decided
      ∙ go (run_at (effect one (change c) before store) tape 0)
      ∙ rw same (sym (outcome_accepted other (change c') store tape [] before decided'))
    where
      go : (r : Ran view.Store) → finished one (change c) before.list store [] r ≡ finished other (change c') before.list store [] r
      go (ran s words) = rw same
      go ended = refl
