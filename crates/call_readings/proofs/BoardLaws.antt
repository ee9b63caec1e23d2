-- A board of ranks is answered as the reads of its ranks, each by itself (document 02, F-9), for every kind of sheet that answers the questions
-- about plain sheets.
use Rattle.std.proofs.Math.Path.{◌≡◌, refl, sym}
use Rattle.std.proofs.Common.{◌∙◌, ⊎_elim, arith}
use Rattle.std.specs.Prelude.{Ok, Err, true, false, ◌⊎◌, ◌↔◌, ℕ, ◌+◌, ◌-◌, ◌≤◌, ◌<◌, ltb, length, drop}
use Rattle.std.proofs.Math.Bool.{or-true}
use mathlib.Core.List.{List, [], ◌∷◌, ◌++◌}
use Rattle.std.proofs.Math.Option.{Option, some, none}
use borrow.Author.Tests.{lt-ltb, le-ltb, le-leb}
use Rattle.std.proofs.Math.ListN.{get_or, length-map, get_or-append}
use Rattle.std.proofs.Math.Seq.{drop-cons, drop-append_seam}
use Rattle.base.specs.CaseLaws.{lt_or_ge}
use Rattle.base.specs.BoolLaws.{true_or_false}
use Rattle.store_board.specs.Board.{falls_below, falls, some_from, entries_at}
use Rattle.store_board.specs.BoardLaws.{entry_next, rank_inside, rank_outside}
use Rattle.call_outcomes.specs.declared.Cause.{Cause}
use Rattle.call_outcomes.specs.declared.Cause.TheVariants.{BoardRanks, Rank, OutputShort}
use Rattle.call_outcomes.specs.declared.Answer.TheVariants.{Entries}
use Rattle.call_outcomes.specs.Kind.{SheetOf, ask, Kind, Lawful, StoreFor}
use Rattle.call_outcomes.specs.Causes.{first_of, argument_cause, Decision, refuse, accept, decision}
use Rattle.call_outcomes.specs.Outcome.{Outcome, refused, outcome}
use Rattle.call_outcomes.specs.PlainCalls.{Question, read_ranks, board_of, question_cause, reply_to, written_for, AsPlain}
use Rattle.call_outcomes.specs.PlainCallLaws.{board_within, board_written}
use Rattle.call_outcomes.specs.DecisionLaws.{outcome_refused, question_outcome}
use Rattle.call_history.specs.Refusals.{refused_by}
use Rattle.call_history.proofs.SingleCalls.{question_by, not_refused}
use Rattle.call_readings.proofs.ReadingLaws.{read_made}

module _ (kind : Kind) (lawful : Lawful kind) (asks : Question → kind.calls.Question) (plainly : (q : Question) → AsPlain kind (asks q) q) where
  -- A board of ranks that is lent this output, and the read of one rank that is lent an output of one element.
  abbrev pub board : (store : StoreFor kind) (ranks tape output : List ℕ) → Outcome (StoreFor kind)
  board store ranks tape output = outcome kind (ask (asks (board_of ranks (length output)))) tape store output

  abbrev pub single : (store : StoreFor kind) (rank : ℕ) (tape : List ℕ) (x : ℕ) → Outcome (StoreFor kind)
  single store rank tape x = outcome kind (ask (asks (read_ranks rank rank 1))) tape store (x ∷ [])

  -- On any store: a board that is refused leaves the output as it was.
  pub board_untouched : (store : StoreFor kind) (ranks tape output : List ℕ) (cause : Cause) → (board store ranks tape output).answer ≡ Err cause
      → (board store ranks tape output).output ≡ output
  unfolding refused reply_to
  board_untouched store ranks tape output cause refusal = go (decision kind (ask (asks (board_of ranks (length output)))) store) refl
    where
      go : (d : Decision) → decision kind (ask (asks (board_of ranks (length output)))) store ≡ d → (board store ranks tape output).output ≡ output
      go (refuse c) is = rw (outcome_refused kind (ask (asks (board_of ranks (length output)))) store tape output c is)
      go (accept before) is =
          let made = question_outcome kind (asks (board_of ranks (length output))) tape store output before is in
          let reply = (plainly (board_of ranks (length output))).reply before.list in
          let z : ◌≡◌ {A = ℕ} 0 1 = cc in absurd (omega arith)

  module _ (list : List ℕ) (store : StoreFor kind) (w : SheetOf kind.view list store) where
    -- ---- the read of one rank

    module _ (rank : ℕ) (tape : List ℕ) (x : ℕ) where
      one : rank - rank + 1 ≡ 1
      one = omega arith

      single_read : rank < length list → single store rank tape x ≡ record { answer = Ok (Entries 1); store = store; output = get_or list rank 0 ∷ [] }
      unfolding written_for
      single_read inside =
          read_made kind lawful asks plainly list store w rank rank (omega arith) inside tape (x ∷ []) (omega arith)
          ∙ rw (one, drop-cons list rank 0 inside)

      single_outside : length list ≤ rank → (single store rank tape x).answer ≡ Err Rank
      unfolding argument_cause question_cause first_of
      single_outside outside =
          refused_by kind lawful list store w (ask (asks (read_ranks rank rank 1))) Rank
          ((plainly (read_ranks rank rank 1)).causes list ∙ rw (le-leb (length list) rank outside)) tape (x ∷ [])

      -- It is refused by cause 4 only where it is the rank of no entry.
      single_only : (single store rank tape x).answer ≡ Err Rank → length list ≤ rank
      single_only refusal =
          ⊎_elim
          (λ inside. let made = single_read inside in let z : ◌≡◌ {A = ℕ} 0 1 = cc in absurd (omega arith))
          (λ outside. outside)
          (lt_or_ge rank (length list))

    -- ---- a board

    module _ (ranks tape output : List ℕ) where
      abbrev cause_of : Option Cause
      cause_of = question_cause (board_of ranks (length output)) (length list)

      refused_for : (cause : Cause) → cause_of ≡ some cause → (board store ranks tape output).answer ≡ Err cause
      unfolding argument_cause
      refused_for cause e = refused_by kind lawful list store w (ask (asks (board_of ranks (length output)))) cause ((plainly _).causes list ∙ e) tape output

      made_for : cause_of ≡ none
          → board store ranks tape output ≡ record { answer = Ok (Entries (length ranks)); store = store; output = entries_at list ranks ++ drop (length ranks) output }
      unfolding reply_to
      made_for free =
          let within = board_within ranks (length output) (length list) free in
          question_by kind lawful list store w (asks (board_of ranks (length output))) ((plainly _).causes list ∙ free) tape output
          ∙ rw (
            (plainly (board_of ranks (length output))).reply list,
            (plainly (board_of ranks (length output))).written list,
            board_written ranks (length output) list within.inside,
            length-map ranks (λ rank. get_or list rank 0),
          )

      cause_many : 64 < length ranks → cause_of ≡ some BoardRanks
      unfolding question_cause first_of
      cause_many many = rw (lt-ltb 64 (length ranks) many)

      cause_falls : falls ranks ≡ true → cause_of ≡ some BoardRanks
      unfolding question_cause first_of
      cause_falls fall = rw (fall, or-true (ltb 64 (length ranks)))

      -- Cause 16: more than 64 ranks, or ranks that fall, whatever else is wrong with them.
      pub board_falls : (64 < length ranks) ⊎ (falls ranks ≡ true) → (board store ranks tape output).answer ≡ Err BoardRanks
      board_falls wrong = refused_for BoardRanks (⊎_elim cause_many cause_falls wrong)

      module _ (few : length ranks ≤ 64) (in_order : falls ranks ≡ false) where
        outside_refused : some_from (length list) ranks ≡ true → (board store ranks tape output).answer ≡ Err Rank
        unfolding question_cause first_of
        outside_refused outside = refused_for Rank (rw (le-ltb 64 (length ranks) few, in_order, outside))

        module _ (inside : some_from (length list) ranks ≡ false) where
          -- Cause 6, where every rank is that of an entry.
          pub board_short : length output < length ranks → (board store ranks tape output).answer ≡ Err OutputShort
          unfolding question_cause first_of
          board_short short =
              refused_for OutputShort (rw (le-ltb 64 (length ranks) few, in_order, inside, lt-ltb (length output) (length ranks) short))

          -- Otherwise the entries at the ranks come to the front of the output, and the rest of it stays.
          pub board_made : length ranks ≤ length output
              → board store ranks tape output ≡ record { answer = Ok (Entries (length ranks)); store = store; output = entries_at list ranks ++ drop (length ranks) output }
          unfolding question_cause first_of
          board_made room = made_for (rw (le-ltb 64 (length ranks) few, in_order, inside, le-ltb (length output) (length ranks) room))

          not_rank : (board store ranks tape output).answer ≡ Err Rank → ⊥
          not_rank refusal =
              ⊎_elim
              (λ short. let other = board_short short in let z : ◌≡◌ {A = ℕ} 0 1 = cc in omega arith)
              (λ room. let made = board_made room in let z : ◌≡◌ {A = ℕ} 0 1 = cc in omega arith)
              (lt_or_ge (length output) (length ranks))

        -- Cause 4: exactly when the read of one of the ranks is refused by it.
        pub board_rank : (tape' : List ℕ) (x : ℕ)
            → ((board store ranks tape output).answer ≡ Err Rank)
            ↔ ((k : ℕ) × (k < length ranks) × ((single store (get_or ranks k 0) tape' x).answer ≡ Err Rank))
        board_rank tape' x = (found, λ one. outside_refused (some_outside one))
          where
            found : (board store ranks tape output).answer ≡ Err Rank
                → (k : ℕ) × (k < length ranks) × ((single store (get_or ranks k 0) tape' x).answer ≡ Err Rank)
            found refusal =
                ⊎_elim
                (λ some. let at = rank_outside (length list) ranks some in (at.0, at.1, single_outside (get_or ranks at.0 0) tape' x at.2))
                (λ none. absurd (not_rank none refusal))
                (true_or_false (some_from (length list) ranks))

            some_outside : (k : ℕ) × (k < length ranks) × ((single store (get_or ranks k 0) tape' x).answer ≡ Err Rank)
                → some_from (length list) ranks ≡ true
            some_outside one =
                ⊎_elim (λ some. some)
                (λ none. absurd (omega (arith, rank_inside (length list) ranks one.0 one.1 none, single_only (get_or ranks one.0 0) tape' x one.2)))
                (true_or_false (some_from (length list) ranks))

      -- ---- a board that is accepted

      module _ (n : ℕ) (accepted : (board store ranks tape output).answer ≡ Ok (Entries n)) where
        free : cause_of ≡ none
        unfolding argument_cause
        free =
            sym ((plainly _).causes list)
            ∙ not_refused kind lawful list store w (ask (asks (board_of ranks (length output)))) tape output (λ cause refusal. let z : ◌≡◌ {A = ℕ} 0 1 = cc in omega arith)

        -- Entry k of the output is what the read of rank k alone puts there.
        pub board_entry : (k : ℕ) → k < length ranks → (tape' : List ℕ) (x : ℕ)
            → (single store (get_or ranks k 0) tape' x).output ≡ get_or (board store ranks tape output).output k 0 ∷ []
        board_entry k more tape' x =
            let within = board_within ranks (length output) (length list) free in
            let here = single_read (get_or ranks k 0) tape' x (rank_inside (length list) ranks k more within.inside) in
            rw (
              made_for free,
              here,
              get_or-append (entries_at list ranks) (drop (length ranks) output) 0 k (omega (arith, more, length-map ranks (λ rank. get_or list rank 0))),
              entry_next list ranks k more,
            )

        -- The rest of the output stays.
        pub board_rest : drop (length ranks) (board store ranks tape output).output ≡ drop (length ranks) output
        board_rest =
            rw (made_for free, ← length-map ranks (λ rank. get_or list rank 0))
            (drop-append_seam (entries_at list ranks) _)

    -- No ranks are accepted, and nothing is written.
    pub board_none : (tape output : List ℕ) → board store [] tape output ≡ record { answer = Ok (Entries 0); store = store; output = output }
    unfolding falls_below some_from
    board_none tape output = board_made [] tape output (omega arith) refl refl (omega arith)
