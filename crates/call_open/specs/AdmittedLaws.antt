-- What is left of a look at a store decides the call: refused by its cause, or run on the contents of the sheet.
use Rattle.std.proofs.Math.Path.{◌≡◌, refl, sym, ap}
use Rattle.std.proofs.Common.{◌∙◌, subst, arith}
use Rattle.std.specs.Prelude.{Result, Ok, Err, List, ℕ, length}
use Rattle.std.proofs.Math.Option.{Option, some, none}
use Rattle.store_layout.specs.declared.Capacity.{Capacity}
use Rattle.store_layout.specs.Layout.{Store}
use Rattle.store_layout.specs.Decode.{Contents, decode, numbered}
use Rattle.store_tallies.specs.Tallies.{lay_tallies}
use Rattle.call_outcomes.specs.declared.Cause.{Cause}
use Rattle.call_outcomes.specs.Kind.{View, change, ask, Kind, CallFor, StoreFor}
use Rattle.call_outcomes.specs.Causes.{Decision, refuse, accept, store_decision, looked_at, argument_cause, by_arguments, decision}
use Rattle.call_outcomes.specs.Outcome.{refused, outcome}
use Rattle.call_outcomes.specs.DecisionLaws.{store_accepted, outcome_refused}
use Rattle.call_outcomes.proofs.AcceptedLaws as accepted
use Rattle.call_outcomes.specs.PlainCalls.{PlainChange, change_cause}
use Rattle.call_outcomes.specs.Untallied.{untallied_view, untallied}
use Rattle.call_outcomes.proofs.UntalliedLaws.{found_decode}
use Rattle.call_outcomes.proofs.SliceLaws.{SliceHolds, slice_holds}
use Rattle.call_outcomes.specs.Plain.{tally_slice, plain_view, PlainStore}
use Rattle.call_open.specs.declared.Opened.{Opened}
use Rattle.call_open.specs.Opening.{opened_as, Opening, plain_numbers, OpenedStore, admitted_by, admitted, Admitted, OpenedSheet}

-- ---- the causes of the arguments

-- Causes that go by the number of entries.
opened_admitted : (causes : ℕ → Option Cause) (by_list : List ℕ → Option Cause) → ((list : List ℕ) → by_list list ≡ causes (length list)) → (d : Decision)
    → admitted causes (opened_as d) ≡ opened_as (by_arguments by_list d)
unfolding admitted admitted_by opened_as by_arguments
opened_admitted causes by_list same (refuse cause) = refl
opened_admitted causes by_list same (accept c) =
    subst (λ (o : Option Cause). admitted_by (causes (length c.list)) (record { n = length c.list; m = c.shape.size }) ≡ opened_as (elim o [ some cause ↦ refuse cause | none ↦ accept c ]))
    (sym (same c.list)) (go (causes (length c.list)))
  where
    go : (o : Option Cause) → admitted_by o (record { n = length c.list; m = c.shape.size }) ≡ opened_as (elim o [ some cause ↦ refuse cause | none ↦ accept c ])
    go (some cause) = refl
    go none = refl

module _ (kind : Kind) (store : StoreFor kind) {answer after : Result Opened Cause} (found : answer ≡ opened_as (store_decision kind.view store)) (causes : ℕ → Option Cause) where
  pub change_opened : (c : kind.calls.ChangeCall) → ((list : List ℕ) → kind.calls.change_cause c list ≡ causes (length list))
      → after ≡ admitted causes answer → after ≡ opened_as (decision kind (change c) store)
  unfolding decision looked_at argument_cause
  change_opened c same is = is ∙ ap (admitted causes) found ∙ opened_admitted causes (kind.calls.change_cause c) same (store_decision kind.view store)

  pub question_opened : (q : kind.calls.Question) → ((list : List ℕ) → kind.calls.question_cause q list ≡ causes (length list))
      → after ≡ admitted causes answer → after ≡ opened_as (decision kind (ask q) store)
  unfolding decision looked_at argument_cause
  question_opened q same is = is ∙ ap (admitted causes) found ∙ opened_admitted causes (kind.calls.question_cause q) same (store_decision kind.view store)

-- ---- a sheet that was found

-- It has these numbers.
pub opened_store : (view : View) (numbers : view.Store → List ℕ) (store : view.Store) {found : Result Opened Cause} {work : List ℕ} → Opening view numbers store found work
    → (sheet : Opened) → found ≡ Ok sheet → OpenedStore view numbers store sheet.n sheet.m work
unfolding opened_as
opened_store view numbers store {work = work} w sheet e = go (store_decision view store) refl (sym w.found ∙ e)
  where
    go : (d : Decision) → store_decision view store ≡ d → opened_as d ≡ Ok sheet → OpenedStore view numbers store sheet.n sheet.m work
    go (refuse cause) looked h = let z : ◌≡◌ {A = ℕ} 0 1 = cc in absurd (omega arith)
    go (accept c) looked h = record { contents = c; decided = looked; count = cc; size = cc; copied = w.copied e }

-- ---- slots and counts

module _ (cap : Capacity) (store : Store) where
  -- A store that decides nothing holds these contents.
  pub plain_decoded : (c : Contents) → store_decision (untallied_view cap) store ≡ accept c → decode cap store ≡ some c
  plain_decoded c h = found_decode cap store c (store_accepted (untallied_view cap) store c h).1

  pub opened_sheet : {found : Result Opened Cause} {work : List ℕ} → Opening (untallied_view cap) numbered store found work → (sheet : Opened) → found ≡ Ok sheet
      → OpenedSheet cap store sheet.n sheet.m work
  opened_sheet w sheet e =
      let o = opened_store (untallied_view cap) numbered store w sheet e in
      record {
        contents = o.contents;
        decided = o.decided;
        decoded = plain_decoded o.contents o.decided;
        count = o.count;
        size = o.size;
        copied = o.copied;
      }

-- ---- a plain sheet

-- Its slots and counts are a sheet, and its tallies are those of the contents.
module _ {cap : Capacity} {store : PlainStore} {n m : ℕ} {work : List ℕ} (w : OpenedStore (plain_view cap) plain_numbers store n m work) where
  pub held : SliceHolds (untallied_view cap) (tally_slice cap) store w.contents
  held = slice_holds (untallied_view cap) (tally_slice cap) store w.contents w.decided

  abbrev pub plain_sheet : OpenedSheet cap store.sheet n m work
  plain_sheet = record {
    contents = w.contents;
    decided = held.decided;
    decoded = plain_decoded cap store.sheet w.contents held.decided;
    count = w.count;
    size = w.size;
    copied = w.copied;
  }

  pub plain_tallies : store.slice ≡ lay_tallies cap.counts w.contents.list w.contents.shape
  plain_tallies = held.laid

-- What is left is what was found.
pub found_sheet : (causes : ℕ → Option Cause) (o : Result Opened Cause) {sheet : Opened} → admitted causes o ≡ Ok sheet → o ≡ Ok sheet
unfolding admitted admitted_by
found_sheet causes (Err cause) h = h
found_sheet causes (Ok found) {sheet} h = go (causes found.n) h
  where
    go : (o : Option Cause) → admitted_by o found ≡ Ok sheet → ◌≡◌ {A = Result Opened Cause} (Ok found) (Ok sheet)
    go (some cause) e = let z : ◌≡◌ {A = ℕ} 0 1 = cc in absurd (omega arith)
    go none e = e

pub found_free : (causes : ℕ → Option Cause) (o : Result Opened Cause) {sheet : Opened} → admitted causes o ≡ Ok sheet → causes sheet.n ≡ none
unfolding admitted admitted_by
found_free causes (Err cause) h = let z : ◌≡◌ {A = ℕ} 0 1 = cc in absurd (omega arith)
found_free causes (Ok found) {sheet} h = go (causes found.n) refl h
  where
    go : (o : Option Cause) → causes found.n ≡ o → admitted_by o found ≡ Ok sheet → causes sheet.n ≡ none
    go (some cause) is e = let z : ◌≡◌ {A = ℕ} 0 1 = cc in absurd (omega arith)
    go none is e = let same : found ≡ sheet = cc in rw same at is

-- ---- the call goes on, or is refused

module _ (kind : Kind) (call : CallFor kind) (store : StoreFor kind) {after : Result Opened Cause} (is : after ≡ opened_as (decision kind call store)) where
  pub call_admitted : {sheet : Opened} → after ≡ Ok sheet → Admitted kind call store sheet.n sheet.m
  unfolding opened_as
  call_admitted {sheet} e = go (decision kind call store) refl (sym is ∙ e)
    where
      go : (d : Decision) → decision kind call store ≡ d → opened_as d ≡ Ok sheet → Admitted kind call store sheet.n sheet.m
      go (refuse cause) found h = let z : ◌≡◌ {A = ℕ} 0 1 = cc in absurd (omega arith)
      go (accept c) found h = record { contents = c; decided = found; count = cc; size = cc }

  pub call_refused : (tape output : List ℕ) {cause : Cause} → after ≡ Err cause
      → record { answer = Err cause; store = store; output = output } ≡ outcome kind call tape store output
  unfolding opened_as refused
  call_refused tape output {cause} e = go (decision kind call store) refl (sym is ∙ e)
    where
      go : (d : Decision) → decision kind call store ≡ d → opened_as d ≡ Err cause
          → record { answer = Err cause; store = store; output = output } ≡ outcome kind call tape store output
      go (refuse k) found h =
          let same : k ≡ cause = cc in
          sym (outcome_refused kind call store tape output cause (found ∙ ap refuse same))
      go (accept c) found h = let z : ◌≡◌ {A = ℕ} 0 1 = cc in absurd (omega arith)

-- ---- a call that goes on

module _ {cap : Capacity} {store : Store} {n m : ℕ} where
  module _ {c : PlainChange} (w : Admitted (untallied cap) (change c) store n m) where
    pub change_decoded : decode cap store ≡ some w.contents
    change_decoded = accepted.change_decoded cap store w.contents c w.decided

    pub change_free : change_cause cap.entries c n ≡ none
    change_free = rw (← w.count) (accepted.change_free cap store w.contents c w.decided)
