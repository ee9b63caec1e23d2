-- Each call on a converted store comes to the converted outcome of the call on the store.
use Rattle.std.specs.Prelude.{Bool, ◌≡◌, ℕ, length}
use Rattle.std.proofs.Math.Bool.{true, false}
use mathlib.Core.List.{List, []}
use Rattle.std.proofs.Math.Path.{refl, ap}
use Rattle.std.proofs.Common.{sym}
use Rattle.draw_shares.specs.Program.{done}
use Rattle.draw_shares.specs.Tape.{Ran, ran, ended, run_at, after_run}
use Rattle.draw_shares.proofs.TapeLaws.{run_bind, run_ends}
use Rattle.tree_rules.specs.Tree.{Shape, IsShape}
use Rattle.tree_rules.specs.Compare.{count_after}
use Rattle.tree_rules.specs.Rules.{InReach, update}
use Rattle.tree_rules.proofs.ShapeLaws.{update_ends}
use Rattle.tree_rules.specs.ChangeListLaws.{length_changed}
use Rattle.store_layout.specs.Decode.{Contents}
use Rattle.store_layout.specs.EmptyLaws.{empty_shape_lem}
use Rattle.call_outcomes.specs.Kind.{View, Calls, LawfulCalls, empty, Edit, applied, clear, change, ask, Kind, CallFor}
use Rattle.call_outcomes.specs.Causes.{Decision, refuse, accept, by_lengths, by_found, store_decision, looked_at, argument_cause, decision}
use Rattle.call_outcomes.specs.Outcome.{edited, effect, answer_of, entries_of, refused, finished, outcome_by, outcome}
use Rattle.call_outcomes.specs.DecisionLaws.{accepted, store_accepted}
use Rattle.call_orders.specs.Converts.{Converts, converted}

-- What a run comes to, converted.
unfoldable converted_run : {S T : Type 0} → (S → T) → Ran S → Ran T
converted_run convert (ran store words) = ran (convert store) words
converted_run convert ended = ended

module _ (calls : Calls) (from to : View) (convert : from.Store → to.Store) (c : Converts from to convert) where
  abbrev old : Kind
  old = record { view = from; calls = calls }

  abbrev new : Kind
  new = record { view = to; calls = calls }

  -- ---- the same causes

  store_same : (store : from.Store) → store_decision to (convert store) ≡ store_decision from store
  unfolding store_decision by_lengths
  store_same store = rw (c.lengths store) (go (from.right_lengths store) (c.holds_same store))
    where
      go : (right : Bool) → (right ≡ true → to.decode (convert store) ≡ from.decode store)
          → by_lengths right (by_found (to.decode (convert store))) ≡ by_lengths right (by_found (from.decode store))
      go true same = ap by_found (same refl)
      go false same = refl

  looked_same : (call : CallFor old) (store : from.Store) → looked_at new call (convert store) ≡ looked_at old call store
  unfolding looked_at
  looked_same clear store = rw (c.lengths store)
  looked_same (change x) store = store_same store
  looked_same (ask q) store = store_same store

  decision_same : (call : CallFor old) (store : from.Store) → decision new call (convert store) ≡ decision old call store
  unfolding decision argument_cause
  decision_same clear store = rw (looked_same clear store)
  decision_same (change x) store = rw (looked_same (change x) store)
  decision_same (ask q) store = rw (looked_same (ask q) store)

  -- ---- the same runs

  module _ (lawful : LawfulCalls from.IsList calls) (tape : List ℕ) where
    -- The sheet of an edited list, with whatever shape is drawn.
    edited_run : (edit : Edit) (before : Contents) → IsShape (length before.list) before.shape
        → InReach edit.change (length before.list) → from.IsList (applied edit before.list)
        → run_at (edited to edit before) tape 0 ≡ converted_run convert (run_at (edited from edit before) tape 0)
    unfolding edited applied run_at after_run converted_run
    edited_run edit before shape reach list =
        let p = update edit.change (length before.list) before.shape in
        rw (run_bind p (λ s. done (to.lay (applied edit before.list) s)) tape 0, run_bind p (λ s. done (from.lay (applied edit before.list) s)) tape 0)
        (go (run_at p tape 0) (λ s next e. run_ends (IsShape (count_after edit.change (length before.list))) p tape 0 s next (update_ends _ _ _ reach shape) e))
      where
        go : (r : Ran Shape) → ((s : Shape) (next : ℕ) → r ≡ ran s next → IsShape (count_after edit.change (length before.list)) s)
            → after_run r (λ s next. run_at (done (to.lay (applied edit before.list) s)) tape next)
            ≡ converted_run convert (after_run r (λ s next. run_at (done (from.lay (applied edit before.list) s)) tape next))
        go (ran s next) drawn =
            let shape = rw (← length_changed edit.change edit.entry before.list reach) at (drawn s next refl) in
            ap (λ (store : to.Store). ran store next) (sym (c.laid (applied edit before.list) s list shape))
        go ended drawn = refl

    -- What an accepted call leads to.
    effect_run : (call : CallFor old) (store : from.Store) (before : Contents) → decision old call store ≡ accept before
        → run_at (effect new call before (convert store)) tape 0 ≡ converted_run convert (run_at (effect old call before store) tape 0)
    unfolding effect run_at converted_run looked_at argument_cause
    effect_run clear store before e = ap (λ (s : to.Store). ran s 0) (sym (c.laid [] empty.shape c.no_entry empty_shape_lem))
    effect_run (change x) store before e =
        let a = accepted old (change x) store before e in
        let valid = c.sound store before (store_accepted from store before a.0).1 in
        edited_run (calls.edit x before.list) before valid.1 (lawful.reach x before.list valid.0 a.1) (lawful.keeps x before.list valid.0 a.1)
    effect_run (ask q) store before e = refl

    -- ---- the same outcome

    answer_same : (call : CallFor old) (list : List ℕ) (words : ℕ) → answer_of new call list words ≡ answer_of old call list words
    unfolding answer_of
    answer_same clear list words = refl
    answer_same (change x) list words = refl
    answer_same (ask q) list words = refl

    entries_same : (call : CallFor old) (list : List ℕ) → entries_of new call list ≡ entries_of old call list
    unfolding entries_of
    entries_same clear list = refl
    entries_same (change x) list = refl
    entries_same (ask q) list = refl

    pub outcome_converted : (call : CallFor old) (store : from.Store) (output : List ℕ)
        → outcome new call tape (convert store) output ≡ converted convert (outcome old call tape store output)
    unfolding outcome outcome_by finished refused converted converted_run
    outcome_converted call store output = rw (decision_same call store) (go (decision old call store) (effect_run call store))
      where
        by_run : (list : List ℕ) (r : Ran from.Store)
            → finished new call list (convert store) output (converted_run convert r) ≡ converted convert (finished old call list store output r)
        by_run list (ran s words) = rw (answer_same call list words, entries_same call list)
        by_run list ended = refl

        go : (d : Decision)
            → ((before : Contents) → d ≡ accept before
            → run_at (effect new call before (convert store)) tape 0 ≡ converted_run convert (run_at (effect old call before store) tape 0))
            → outcome_by new call tape (convert store) output d ≡ converted convert (outcome_by old call tape store output d)
        go (refuse cause) same = refl
        go (accept before) same = rw (same before refl) (by_run before.list (run_at (effect old call before store) tape 0))
