-- Lines of a chunk answered one after the other.
use Rattle.std.specs.Prelude.{◌≡◌, refl, true, false, List, [], ◌++◌, ℕ, ◌+◌, ◌-◌, ◌≤◌, ◌<◌, length, take, drop}
use Rattle.std.proofs.Common.{sym, ◌∙◌, ⊎_elim, append_assoc, append-nil, arith, length-drop, drop_of_length-le, take_all, drop-drop}
use Rattle.std.proofs.Math.Path.{ap}
use Rattle.base.specs.CaseLaws.{lt_or_ge}
use Rattle.frame_input.specs.declared.Collected.{Collected}
use Rattle.frame_input.specs.Lines.{left, collecting}
use Rattle.frame_input.specs.Chunks.{with}
use Rattle.frame_input.proofs.ChunkLaws.{from_end, from_ended, from_open}
use Rattle.frame_input.proofs.CollectLaws.{collected_within}
use Rattle.frame_lines.specs.Frame.{frame_of}
use Rattle.frame_tape.specs.Tape.{most_waiting}
use Rattle.frame_replies.specs.Reply.{bytes_of}
use Rattle.frame_replies.specs.WroteLaws.{wrote_length, wrote_none, wrote_more}
use Rattle.frame_answers.specs.Step.{Kept, TapeReady, answer_to, kept_by, answers_to, kept_after, longest, step_of}
use Rattle.frame_answers.specs.StepLaws.{step_gives}
use Rattle.frame_answers.specs.ReadyLaws.{tape_ready}
use Rattle.frame_chunks.specs.Chunk.{Standing, standing, Held, End, end, ChunkOutcome, chunk_outcome, with_answers, AnswersLine, AnswersLines}

-- ---- what a chunk comes to

module _ (chunk : List ℕ) where
  -- At its end a chunk comes to what is there.
  pub outcome_end : (s : Standing) → length chunk ≤ s.next
      → chunk_outcome chunk s ≡ record { answers = []; end = end s.line s.have s.kept }
  unfolding chunk_outcome answers_to kept_after
  outcome_end s l = rw (from_end chunk s.next s.line s.have l)

  module _ (s : Standing) (more : s.next < length chunk) (r : Collected) (line : List ℕ)
      (e : left r line ≡ collecting chunk s.next s.line s.have) where
    pub outcome_open : r.ended ≡ false → chunk_outcome chunk s ≡ chunk_outcome chunk (standing r.next line r.have s.kept)
    unfolding chunk_outcome
    outcome_open h = rw (from_open chunk s.next s.line s.have more r line e h)

    pub outcome_ended : r.ended ≡ true
        → chunk_outcome chunk s
        ≡ with_answers (bytes_of (answer_to (frame_of (take r.have line)) (take r.have line) s.kept).replies)
        (chunk_outcome chunk (standing r.next line 0 (kept_by (take r.have line) s.kept)))
    unfolding chunk_outcome with_answers with answers_to kept_after
    outcome_ended h = rw (from_ended chunk s.next s.line s.have more r line e h)

-- ---- lines answered

module _ {chunk : List ℕ} {s : Standing} {output : List ℕ} {at : ℕ} where
  pub answers_none : at ≤ length output → Held s → AnswersLines chunk s output at s output at
  unfolding with_answers
  answers_none l h = record { written = []; wrote = wrote_none l; answers = refl; held = h }

  pub answers_more : {t u : Standing} {mid new : List ℕ} {p q : ℕ} → AnswersLines chunk s output at t mid p → AnswersLines chunk t mid p u new q
      → AnswersLines chunk s output at u new q
  unfolding with_answers
  answers_more {u = u} a b = record {
    written = a.written ++ b.written;
    wrote = wrote_more a.wrote b.wrote;
    answers = a.answers ∙ rw b.answers (rw (append_assoc a.written b.written (chunk_outcome chunk u).answers));
    held = b.held;
  }

-- ---- one line, and one turn

module _ (line : List ℕ) (k : Kept) (output : List ℕ) (at : ℕ) (room : at + longest ≤ length output) (t : TapeReady k) where
  -- the part of the output from `at` on
  abbrev part : List ℕ
  part = take (length output - at) (drop at output)

  part_is : part ≡ drop at output
  part_is = take_all (length output - at) (drop at output) (omega (arith, length-drop at output))

  -- A step on the part of the output answers the line.
  pub line_answers : {bytes : ℕ} {kept : Kept} {part' : List ℕ} → length part' ≡ length part
      → record { bytes = bytes; kept = kept; output = part' } ≡ step_of line k part
      → AnswersLine line k output at bytes kept (take at output ++ (part' ++ drop (length output - at) (drop at output)))
  line_answers {bytes} {kept} {part'} same e =
      let size : length part ≡ length output - at = ap length part_is ∙ length-drop at output in
      let g = step_gives line k part (omega (arith, size)) t.room t.few same e in
      let none : drop (length output - at) (drop at output) ≡ [] = drop_of_length-le (drop at output) {i = length output - at} (omega (arith, length-drop at output)) in
      let behind : drop bytes part ≡ drop (at + bytes) output = rw part_is (drop-drop bytes at output) in
      record {
        kept = g.kept;
        wrote = record {
          is = rw (none, append-nil part', g.wrote.is, behind);
          end = omega (arith, g.wrote.end);
          room = omega (arith, g.wrote.room, size);
        };
      }

module _ {chunk : List ℕ} {s : Standing} {output : List ℕ} {at : ℕ} (h : Held s) (more : s.next < length chunk) (r : Collected) (line : List ℕ)
    (same : length line ≡ length s.line) (e : left r line ≡ collecting chunk s.next s.line s.have) where
  -- The chunk ends in front of the next LF.
  pub answers_open : r.ended ≡ false → at ≤ length output → AnswersLines chunk s output at (standing r.next line r.have s.kept) output at
  unfolding with_answers
  answers_open ended l = record {
    written = [];
    wrote = wrote_none l;
    answers = outcome_open chunk s more r line e ended;
    held = record { line = rw same (collected_within chunk s.next s.line s.have r line e h.line); tape = h.tape };
  }

  -- The line that ends is answered.
  pub answers_ended : r.ended ≡ true → {bytes : ℕ} {k : Kept} {output' : List ℕ} → AnswersLine (take r.have line) s.kept output at bytes k output'
      → AnswersLines chunk s output at (standing r.next line 0 k) output' (at + bytes)
  answers_ended ended a = record {
    written = bytes_of (answer_to (frame_of (take r.have line)) (take r.have line) s.kept).replies;
    wrote = a.wrote;
    answers = rw a.kept (outcome_ended chunk s more r line e ended);
    held = record { line = omega arith; tape = rw a.kept (tape_ready (frame_of (take r.have line)) (take r.have line) s.kept h.tape) };
  }

-- The bounds by numbers.
pub held_within : {s : Standing} {w : ℕ} → Held s → length s.line ≡ w → (s.have ≤ w) × (s.kept.waiting ≤ most_waiting)
held_within h e = (rw e at h.line, h.tape.few)

-- ---- the loop over the lines

-- Lines are answered from the front of the output on; at the place where they began no answer is written.
pub record Reached (chunk : List ℕ) (s : Standing) (output : List ℕ) (t : Standing) (output' : List ℕ) (next : ℕ) : Type 0 where
  pub lines : AnswersLines chunk s output 0 t output' next
  pub on : s.next ≤ t.next
  pub first : t.next ≤ s.next → next ≡ 0

module _ {chunk : List ℕ} {s : Standing} {output : List ℕ} where
  pub reached_start : Held s → Reached chunk s output s output 0
  reached_start h = record { lines = answers_none (omega arith) h; on = omega arith; first = λ _. refl }

  pub reached_more : {t u : Standing} {mid new : List ℕ} {p q : ℕ} → Reached chunk s output t mid p → AnswersLines chunk t mid p u new q
      → t.next < u.next → Reached chunk s output u new q
  reached_more a b further = record {
    lines = answers_more a.lines b;
    on = omega (arith, a.on);
    first = λ l. absurd (omega (arith, a.on));
  }

  -- The place goes on, where there is room for an answer, if the output was full.
  pub reached_full : {t : Standing} {mid : List ℕ} {p : ℕ} → Reached chunk s output t mid p → length mid - p < longest → longest ≤ length output
      → s.next < t.next
  reached_full {t} r full room =
      ⊎_elim (λ on. on) (λ still. absurd (omega (arith, r.first still, wrote_length r.lines.wrote))) (lt_or_ge s.next t.next)

-- ---- a chunk passed in several parts

module _ (chunk : List ℕ) (t : Standing) {there : End} (e : (chunk_outcome chunk t).end ≡ there) where
  pub end_more : {u : Standing} {output output' : List ℕ} {at next : ℕ} → AnswersLines chunk t output at u output' next
      → (chunk_outcome chunk u).end ≡ there
  unfolding with_answers
  end_more a = ap (λ (o : ChunkOutcome). o.end) (sym a.answers) ∙ e

  pub end_there : length chunk ≤ t.next → end t.line t.have t.kept ≡ there
  end_there l = ap (λ (o : ChunkOutcome). o.end) (sym (outcome_end chunk t l)) ∙ e
