-- The questions about plain sheets of any capacity, by what their stores were found to hold.
use Rattle.std.specs.Prelude.{Result, ◌≡◌, List, [], ℕ}
use Rattle.std.proofs.Common.{sym, ◌∙◌, ap}
use Rattle.tree_sizes.specs.Sizes.{height}
use Rattle.store_order.specs.CountOrder.{number_order}
use Rattle.store_layout.specs.declared.Capacity.{Capacity}
use Rattle.store_layout.specs.Room.{CapacityReady}
use Rattle.store_layout.specs.Leaf.{nonzero}
use Rattle.store_layout.specs.Decode.{Contents}
use Rattle.store_tallies.specs.Tallies.{range_tallies}
use Rattle.store_tallies.specs.LayLaws.{numbered_tallies}
use Rattle.call_outcomes.specs.declared.Answer.{Answer}
use Rattle.call_outcomes.specs.Kind.{ask}
use Rattle.call_outcomes.specs.Causes.{accept, store_decision}
use Rattle.call_outcomes.specs.Outcome.{outcome}
use Rattle.call_outcomes.specs.PlainCalls.{Question, written_for}
use Rattle.call_outcomes.specs.PlainCallLaws.{plain_itself}
use Rattle.call_outcomes.specs.Untallied.{untallied_view}
use Rattle.call_outcomes.proofs.SliceLaws.{slice_holds}
use Rattle.call_outcomes.specs.Plain.{tally_slice, plain_view, plain, PlainStore, plain_store_of, plain_outcome_of}
use Rattle.call_outcomes.specs.declared.Cause.{Cause}
use Rattle.call_open.specs.declared.Opened.{Opened}
use Rattle.call_open.specs.Opening.{plain_numbers, Opening, OpenedStore}
use Rattle.call_open.specs.AdmittedLaws.{opened_store, plain_decoded, plain_sheet, plain_tallies}
use Rattle.call_questions.specs.Asked.{asked, Answers, Readable, Tallied}
use Rattle.call_questions.proofs.AskedLaws as questions
use Rattle.call_questions.specs.StartLaws.{decoded_list, laid}
use Rattle.sheet_open.specs.PlainOpening.{PlainOpening}

module _ {cap : Capacity} (ready : CapacityReady cap) {slots counts tallies work : List ℕ} {found : Result Opened Cause}
    (w : Opening (plain_view cap) plain_numbers (plain_store_of slots counts tallies) found work) where
  abbrev store : PlainStore
  store = plain_store_of slots counts tallies

  abbrev pub readable : Readable found slots work
  readable = record {
    cap = cap;
    counts = counts;
    ready = ready;
    sheet = λ sheet e. plain_sheet (opened_store (plain_view cap) plain_numbers store w sheet e);
  }

  lists : (c : Contents) → store_decision (plain_view cap) store ≡ accept c → c.list ≡ nonzero slots
  lists c h =
      let t = slice_holds (untallied_view cap) (tally_slice cap) store c h in
      decoded_list cap store.sheet c (plain_decoded cap store.sheet c t.decided)

  module _ (q : Question) where
    pub asked_outcome : (tape output : List ℕ) (answer : Result Answer Cause) (output' : List ℕ)
        → record { answer = answer; output = output' } ≡ asked q found (nonzero slots) output
        → plain_outcome_of answer slots counts tallies output' ≡ outcome (plain cap) (ask q) tape store output
    asked_outcome = questions.asked_outcome (plain cap) store w.found lists (plain_itself (plain_view cap) cap.entries q)

    pub answered_outcome : (answer : Result Answer Cause) → Answers q found answer → written_for q (nonzero slots) ≡ [] → (tape : List ℕ)
        → plain_outcome_of answer slots counts tallies [] ≡ outcome (plain cap) (ask q) tape store []
    answered_outcome answer a nothing = questions.answered_outcome (plain cap) store w.found lists (plain_itself (plain_view cap) cap.entries q) nothing answer a

-- ---- the tallies by range number, for a place

-- Of a plain sheet that was found, they are those of its list and its shape.
pub numbers_tallied : {cap : Capacity} → CapacityReady cap → {slots counts tallies work numbers : List ℕ} {n m : ℕ}
    → (o : OpenedStore (plain_view cap) plain_numbers (plain_store_of slots counts tallies) n m work) → numbers ≡ number_order (height m) tallies
    → numbers ≡ range_tallies cap.counts o.contents.list o.contents.shape
numbers_tallied {cap} ready {tallies = tallies} o is =
    let c = o.contents in
    is
    ∙ ap (λ (k : ℕ). number_order (height k) tallies) (sym o.size)
    ∙ ap (number_order (height c.shape.size)) (plain_tallies o)
    ∙ numbered_tallies cap ready.roomy c.list c.shape (laid (plain_sheet o)).0

pub tallied : {cap : Capacity} → (ready : CapacityReady cap) → {slots counts tallies work numbers : List ℕ} {found : Result Opened Cause}
    → PlainOpening cap (plain_store_of slots counts tallies) found work numbers → Tallied found slots work numbers
tallied {cap} ready {slots} {counts} {tallies} w = record {
  readable = readable ready w.opening;
  tallies = λ sheet e. numbers_tallied ready (opened_store (plain_view cap) plain_numbers (plain_store_of slots counts tallies) w.opening sheet e) (w.tallied e);
}
