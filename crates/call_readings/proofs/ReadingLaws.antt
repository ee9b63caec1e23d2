-- Adjacent readings joined are the reading of the whole (document 02, F-10), for every kind of sheet that answers the questions about plain
-- sheets.
use Rattle.std.specs.Prelude.{Ok, Err, ◌≡◌, ◌⊎◌, ◌↔◌, List, [], ◌++◌, ℕ, suc, ◌+◌, ◌-◌, ◌≤◌, ◌<◌, min, ltb, length, take, drop}
use Rattle.std.proofs.Common.{ap, ◌∙◌, inl, inr, ⊎_elim, append-nil, append_assoc, arith, length-take, length-drop, drop-drop}
use Rattle.std.proofs.Math.Option.{none}
use Rattle.std.proofs.Math.Nat.{sub_self}
use borrow.Author.Tests.{lt-ltb, le-ltb, lt-leb}
use Rattle.base.specs.CaseLaws.{lt_or_ge}
use Rattle.base.specs.ListLaws.{length_part, drop_take}
use Rattle.call_outcomes.specs.declared.Cause.TheVariants.{OutputShort}
use Rattle.call_outcomes.specs.declared.Answer.TheVariants.{Entries}
use Rattle.call_outcomes.specs.Kind.{SheetOf, ask, Kind, Lawful, StoreFor}
use Rattle.call_outcomes.specs.Causes.{first_of, argument_cause}
use Rattle.call_outcomes.specs.Outcome.{Outcome, outcome}
use Rattle.call_outcomes.specs.PlainCalls.{Question, read_ranks, question_cause, reply_to, written_for, AsPlain}
use Rattle.call_history.specs.Refusals.{refused_by}
use Rattle.call_history.proofs.SingleCalls.{question_by}
use Rattle.call_readings.proofs.WrittenLaws as written
use Rattle.call_readings.specs.Reading.{rank_count}

-- ---- what a read writes

-- As many entries as it has ranks, where they stand.
written_length : (list : List ℕ) (first last room : ℕ) → first ≤ last → last < length list
    → length (written_for (read_ranks first last room) list) ≡ rank_count first last
unfolding written_for
written_length list first last room in_order inside = length_part list first (rank_count first last) (omega arith)

-- What a read of first to mid writes, and then what a read of mid + 1 to last writes, is what a read of first to last writes.
pub written_joined : (list : List ℕ) (first mid last room room₁ room₂ : ℕ) → first ≤ mid → mid < last
    → written_for (read_ranks first last room) list ≡ written_for (read_ranks first mid room₁) list ++ written_for (read_ranks (suc mid) last room₂) list
written_joined = written.written_joined

-- ---- a read of a sheet whose ranks stand

module _ (kind : Kind) (lawful : Lawful kind) (asks : Question → kind.calls.Question) (plainly : (q : Question) → AsPlain kind (asks q) q)
    (list : List ℕ) (store : StoreFor kind) (w : SheetOf kind.view list store) where
  -- A read of the ranks first to last that is lent this output.
  abbrev pub read : (first last : ℕ) → (tape output : List ℕ) → Outcome (StoreFor kind)
  read first last tape output = outcome kind (ask (asks (read_ranks first last (length output)))) tape store output

  module _ (first last : ℕ) (in_order : first ≤ last) (inside : last < length list) (tape output : List ℕ) where
    cause_is : question_cause (read_ranks first last (length output)) (length list) ≡ first_of (ltb (length output) (rank_count first last)) OutputShort none
    unfolding question_cause first_of
    cause_is = rw (lt-leb (length list) first (omega arith), lt-leb (length list) last inside, le-ltb last first in_order)

    -- It is refused by cause 6 where the output is too short.
    read_short : length output < rank_count first last → (read first last tape output).answer ≡ Err OutputShort
    unfolding argument_cause first_of
    read_short short =
        refused_by kind lawful list store w (ask (asks (read_ranks first last (length output)))) OutputShort
        ((plainly _).causes list ∙ cause_is ∙ rw (lt-ltb (length output) (rank_count first last) short)) tape output

    -- Otherwise the entries come to the front of the output, and the rest of it stays.
    pub read_made : rank_count first last ≤ length output
        → read first last tape output
        ≡ record {
          answer = Ok (Entries (rank_count first last));
          store = store;
          output = written_for (read_ranks first last (length output)) list ++ drop (rank_count first last) output;
        }
    unfolding first_of reply_to
    read_made room =
        question_by kind lawful list store w (asks (read_ranks first last (length output)))
        ((plainly _).causes list ∙ cause_is ∙ rw (le-ltb (length output) (rank_count first last) room)) tape output
        ∙ rw ((plainly (read_ranks first last (length output))).reply list, (plainly (read_ranks first last (length output))).written list, written_length list first last (length output) in_order inside)

    -- So it is refused by cause 6 only where the output is too short.
    short_only : (read first last tape output).answer ≡ Err OutputShort → length output < rank_count first last
    short_only refused =
        ⊎_elim (λ short. short)
        (λ room.
        let made = ap (λ (o : Outcome (StoreFor kind)). o.answer) (read_made room) in
        let z : ◌≡◌ {A = ℕ} 0 1 = cc in absurd (omega arith))
        (lt_or_ge (length output) (rank_count first last))

  -- ---- two adjacent reads, into the front of an output and the rest of it

  module _ (first mid last : ℕ) (before : first ≤ mid) (behind : mid < last) (inside : last < length list) (tape tape₁ tape₂ output : List ℕ) where
    abbrev front : List ℕ
    front = take (rank_count first mid) output

    abbrev rest : List ℕ
    rest = drop (rank_count first mid) output

    -- The outputs joined are that of the read of the whole, where there is room for it.
    pub readings_joined : rank_count first last ≤ length output
        → (read first last tape output).output ≡ (read first mid tape₁ front).output ++ (read (suc mid) last tape₂ rest).output
    readings_joined room =
        let filled : drop (rank_count first mid) front ≡ [] = drop_take (rank_count first mid) (rank_count first mid) output ∙ rw (sub_self (rank_count first mid)) in
        let front_length : length front ≡ min (rank_count first mid) (length output) = length-take (rank_count first mid) output in
        let rest_length : length rest ≡ length output - rank_count first mid = length-drop (rank_count first mid) output in
        let whole = read_made first last (omega arith) inside tape output room in
        let one = read_made first mid before (omega arith) tape₁ front (omega (arith, front_length)) in
        let other = read_made (suc mid) last behind inside tape₂ rest (omega (arith, rest_length)) in
        let count : rank_count first last ≡ rank_count first mid + rank_count (suc mid) last = omega arith in
        let W₁ = written_for (read_ranks first mid (length front)) list in
        let W₂ = written_for (read_ranks (suc mid) last (length rest)) list in
        rw (
          whole,
          one,
          other,
          filled,
          append-nil W₁,
          drop-drop (rank_count (suc mid) last) (rank_count first mid) output,
          count,
          written.written_joined list first mid last (length output) (length front) (length rest) before behind,
        )
        (append_assoc W₁ W₂ _)

    -- The whole is refused by cause 6 exactly when one of the two is.
    pub joined_refused : ((read first last tape output).answer ≡ Err OutputShort)
        ↔ (((read first mid tape₁ front).answer ≡ Err OutputShort) ⊎ ((read (suc mid) last tape₂ rest).answer ≡ Err OutputShort))
    joined_refused =
        let front_length : length front ≡ min (rank_count first mid) (length output) = length-take (rank_count first mid) output in
        let rest_length : length rest ≡ length output - rank_count first mid = length-drop (rank_count first mid) output in (
          λ refused.
              let short = short_only first last (omega arith) inside tape output refused in
              ⊎_elim
              (λ few. inl (read_short first mid before (omega arith) tape₁ front (omega (arith, front_length))))
              (λ enough. inr (read_short (suc mid) last behind inside tape₂ rest (omega (arith, rest_length))))
              (lt_or_ge (length output) (rank_count first mid)),
          λ either.
              read_short first last (omega arith) inside tape output
              (⊎_elim
              (λ refused. omega (arith, front_length, short_only first mid before (omega arith) tape₁ front refused))
              (λ refused. omega (arith, rest_length, short_only (suc mid) last behind inside tape₂ rest refused))
              either),
        )
