-- The calls by an entry, and the delete, on a timed sheet of any capacity.
use Rattle.std.proofs.Math.Path.{◌≡◌, refl, sym, ap}
use Rattle.std.proofs.Common.{◌∙◌, arith}
use Rattle.std.specs.Prelude.{true, false, Result, Ok, Err, ◌≢◌, ℕ, ◌≤◌, ◌<◌}
use mathlib.Core.List.{List, []}
use Rattle.std.proofs.Math.Option.{some, none}
use borrow.Author.Tests.{eq-eqb, ne_eqb, le-leb, lt-leb}
use Rattle.tree_rules.specs.declared.Change.{Change}
use Rattle.tree_rules.specs.declared.Change.TheVariants.{Insert, Delete}
use Rattle.store_layout.specs.Leaf.{nonzero}
use Rattle.store_layout.specs.Decode.{Contents}
use Rattle.store_keys.specs.Key.{key, rank_of, present}
use Rattle.store_search.specs.Sought.{sought_at, sought_in}
use Rattle.store_search.specs.SoughtLaws.{sought_ok, sought_err}
use Rattle.store_layout.specs.declared.Capacity.{Capacity}
use Rattle.store_layout.specs.Room.{CapacityReady}
use Rattle.call_outcomes.specs.declared.Cause.{Cause}
use Rattle.call_outcomes.specs.declared.Cause.TheVariants.{EntryZero, EntryPresent, Full}
use Rattle.call_outcomes.specs.declared.Answer.{Answer}
use Rattle.call_outcomes.specs.declared.Answer.TheVariants.{Present, Absent}
use Rattle.call_outcomes.specs.Kind.{change}
use Rattle.call_outcomes.specs.Causes.{first_of, Decision, refuse, accept, store_decision, looked_at, argument_cause, by_arguments, decision}
use Rattle.call_outcomes.specs.Outcome.{refused, outcome}
use Rattle.call_outcomes.specs.DecisionLaws.{arguments_some, accepted_by, outcome_refused, question_outcome}
use Rattle.call_outcomes.specs.PlainCalls.{plain_change, change_cause, place_of, question_cause, changing}
use Rattle.call_open.specs.declared.Opened.{Opened}
use Rattle.call_open.specs.Opening.{opened_as, OpenedStore, admitted}
use Rattle.call_open.specs.AdmittedLaws.{change_opened}
use Rattle.call_timed.specs.Timed.{TimedStore, timed_view, TimedChange, insert_entry, delete_rank, plainly, timed_change_cause, find_entry, timed_question_cause, found_at, timed_reply, timed_written, timed, TimedCall, ranked, insert, delete, find, timed_store_of, timed_numbers, timed_outcome_of}
use Rattle.call_timed.proofs.RankedLaws.{ranked_decided, timed_change}
use Rattle.timed_answers.specs.RankedReady.{RankedReady}
use Rattle.timed_answers.specs.SheetLaws.{list_is}

-- ---- a store that a cause refuses

module _ (cap : Capacity) (slots counts tallies balance : List ℕ) where
  abbrev store : TimedStore
  store = timed_store_of slots counts tallies balance

  decided_refused : (call : TimedCall) (tape : List ℕ) (cause : Cause) → decision (timed cap) call store ≡ refuse cause
      → timed_outcome_of (Err cause) slots counts tallies balance [] ≡ outcome (timed cap) call tape store []
  unfolding refused
  decided_refused call tape cause e = sym (outcome_refused (timed cap) call store tape [] cause e)

  -- A call that looks at the contents.
  pub store_refused : (call : TimedCall) → looked_at (timed cap) call store ≡ store_decision (timed_view cap) store → (tape : List ℕ)
      → {found : Result Opened Cause} {cause : Cause} → found ≡ opened_as (store_decision (timed_view cap) store) → found ≡ Err cause
      → timed_outcome_of (Err cause) slots counts tallies balance [] ≡ outcome (timed cap) call tape store []
  unfolding opened_as decision by_arguments
  store_refused call looks tape {cause = cause} is e = go (store_decision (timed_view cap) store) refl (sym is ∙ e)
    where
      go : (d : Decision) → store_decision (timed_view cap) store ≡ d → opened_as d ≡ Err cause
          → timed_outcome_of (Err cause) slots counts tallies balance [] ≡ outcome (timed cap) call tape store []
      go (refuse k) found h = let same : k ≡ cause = cc in decided_refused call tape cause (rw (looks, found, same))
      go (accept c) found h = let z : ◌≡◌ {A = ℕ} 0 1 = cc in absurd (omega arith)

-- ---- a timed sheet

module _ {cap : Capacity} (ready : CapacityReady cap) {slots counts tallies balance work : List ℕ} {n m : ℕ} (w : OpenedStore (timed_view cap) timed_numbers (timed_store_of slots counts tallies balance) n m work) where
  abbrev sheet : TimedStore
  sheet = timed_store_of slots counts tallies balance

  abbrev c : Contents
  c = w.contents

  -- A call that a cause of its arguments refuses.
  arguments_refused : (call : TimedCall) → looked_at (timed cap) call sheet ≡ store_decision (timed_view cap) sheet → (tape : List ℕ) (cause : Cause)
      → argument_cause (timed cap) call c.list ≡ some cause
      → timed_outcome_of (Err cause) slots counts tallies balance [] ≡ outcome (timed cap) call tape sheet []
  unfolding decision
  arguments_refused call looks tape cause e =
      decided_refused cap slots counts tallies balance call tape cause (rw (looks, w.decided) (arguments_some (argument_cause (timed cap) call) c cause e))

  -- A change that none refuses is a change at a rank.
  module _ (tc : TimedChange) (by : Change) (e : ℕ) (same : plainly tc c.list ≡ plain_change by e)
      (decided : decision (timed cap) (change tc) sheet ≡ accept c) where
    pub change_ready : RankedReady cap by e n m sheet work
    change_ready = record {
      admitted = record {
        contents = c;
        decided = rw same at (ranked_decided cap sheet tc c decided);
        count = w.count;
        size = w.size;
      };
      copied = w.copied;
    }

    pub change_done : (tape : List ℕ) {answer : Result Answer Cause} {slots' counts' tallies' balance' : List ℕ}
        → timed_outcome_of answer slots' counts' tallies' balance' [] ≡ outcome (ranked cap) (changing by e) tape sheet []
        → timed_outcome_of answer slots' counts' tallies' balance' [] ≡ outcome (timed cap) (change tc) tape sheet []
    change_done tape is = is ∙ sym (rw same at (timed_change cap sheet tc c decided tape))

  -- ---- find and insert

  module _ (e : ℕ) where
    pub find_zero : key e ≡ 0 → timed_outcome_of (Err EntryZero) slots counts tallies balance [] ≡ outcome (timed cap) (find e) [] sheet []
    unfolding looked_at argument_cause timed_question_cause first_of
    find_zero z = arguments_refused (find e) refl [] EntryZero (rw (eq-eqb (key e) 0 z))

    pub insert_zero : (tape : List ℕ) → key e ≡ 0 → timed_outcome_of (Err EntryZero) slots counts tallies balance [] ≡ outcome (timed cap) (insert e) tape sheet []
    unfolding looked_at argument_cause timed_change_cause first_of
    insert_zero tape z = arguments_refused (insert e) refl tape EntryZero (rw (eq-eqb (key e) 0 z))

    module _ (some_key : key e ≢ 0) (sought : Result ℕ ℕ) (is : sought ≡ sought_in (key e) (nonzero slots)) (rank : ℕ) where
      -- What is found, by the list.
      found_is : sought ≡ sought_at (present (key e) c.list) (rank_of (key e) c.list)
      unfolding sought_in
      found_is = is ∙ ap (λ (list : List ℕ). sought_at (present (key e) list) (rank_of (key e) list)) (sym (list_is ready w))

      find_decided : decision (timed cap) (find e) sheet ≡ accept c
      unfolding looked_at argument_cause timed_question_cause first_of
      find_decided = accepted_by (timed cap) (find e) sheet c w.decided (rw (ne_eqb (key e) 0 some_key))

      -- An entry with the key is there, at this rank.
      module _ (there : sought ≡ Ok rank) where
        here : (present (key e) c.list ≡ true) × (rank ≡ rank_of (key e) c.list)
        here = sought_ok (present (key e) c.list) (rank_of (key e) c.list) rank (sym there ∙ found_is)

        pub find_present : timed_outcome_of (Ok (Present rank)) slots counts tallies balance [] ≡ outcome (timed cap) (find e) [] sheet []
        unfolding timed_reply timed_written found_at
        find_present = sym (question_outcome (timed cap) (find_entry e) [] sheet [] c find_decided ∙ rw (here.0, ← here.1))

        pub insert_present : (tape : List ℕ)
            → timed_outcome_of (Err EntryPresent) slots counts tallies balance [] ≡ outcome (timed cap) (insert e) tape sheet []
        unfolding looked_at argument_cause timed_change_cause first_of
        insert_present tape = arguments_refused (insert e) refl tape EntryPresent (rw (ne_eqb (key e) 0 some_key, here.0))

      -- None is there, and one would stand at this rank.
      module _ (none-there : sought ≡ Err rank) where
        gap : (present (key e) c.list ≡ false) × (rank ≡ rank_of (key e) c.list)
        gap = sought_err (present (key e) c.list) (rank_of (key e) c.list) rank (sym none-there ∙ found_is)

        pub find_absent : timed_outcome_of (Ok (Absent rank)) slots counts tallies balance [] ≡ outcome (timed cap) (find e) [] sheet []
        unfolding timed_reply timed_written found_at
        find_absent = sym (question_outcome (timed cap) (find_entry e) [] sheet [] c find_decided ∙ rw (gap.0, ← gap.1))

        pub insert_full : (tape : List ℕ) → cap.entries ≤ n
            → timed_outcome_of (Err Full) slots counts tallies balance [] ≡ outcome (timed cap) (insert e) tape sheet []
        unfolding looked_at argument_cause timed_change_cause first_of
        insert_full tape full =
            arguments_refused (insert e) refl tape Full
            (rw (ne_eqb (key e) 0 some_key, gap.0, w.count, le-leb cap.entries n full))

        pub insert_decided : n < cap.entries → decision (timed cap) (insert e) sheet ≡ accept c
        unfolding looked_at argument_cause timed_change_cause first_of
        insert_decided room =
            accepted_by (timed cap) (insert e) sheet c w.decided
            (rw (ne_eqb (key e) 0 some_key, gap.0, w.count, lt-leb cap.entries n room))

        pub insert_plainly : plainly (insert_entry e) c.list ≡ plain_change (Insert rank) e
        unfolding plainly
        insert_plainly = rw gap.1

  -- ---- delete

  pub delete_decided : (i : ℕ) → question_cause (place_of i) n ≡ none → decision (timed cap) (delete i) sheet ≡ accept c
  unfolding looked_at argument_cause timed_change_cause change_cause question_cause
  delete_decided i free = accepted_by (timed cap) (delete i) sheet c w.decided (rw w.count free)

-- It asks for the same rank as a place.
pub delete_opened : (cap : Capacity) (store : TimedStore) (i : ℕ) {found after : Result Opened Cause} → found ≡ opened_as (store_decision (timed_view cap) store)
    → after ≡ admitted (question_cause (place_of i)) found → after ≡ opened_as (decision (timed cap) (delete i) store)
unfolding timed_change_cause change_cause question_cause
delete_opened cap store i found left = change_opened (timed cap) store found (question_cause (place_of i)) (delete_rank i) (λ list. refl) left

pub delete_plainly : (i : ℕ) (list : List ℕ) → plainly (delete_rank i) list ≡ plain_change (Delete i) 0
unfolding plainly
delete_plainly i list = refl
