-- An input that comes in chunks is answered line by line, whatever the chunks.
use Rattle.std.specs.Prelude.{◌≡◌, ◌≢◌, ℕ, ◌<◌, length, take}
use Rattle.std.proofs.Math.Path.{refl, ap}
use Rattle.std.proofs.Common.{sym, ◌∙◌, arith}
use Rattle.std.proofs.Math.Logic.{⊎_elim}
use mathlib.Core.List.{List, [], ◌∷◌, ◌++◌, map, append_assoc}
use Rattle.base.specs.CaseLaws.{eq_or_ne, if_eq_yes, if_eq_no}
use Rattle.frame_lines.specs.Frame.{frame_of}
use Rattle.frame_lines.specs.CutLaws.{cut_same}
use Rattle.frame_input.specs.Lines.{lines_of}
use Rattle.frame_input.specs.Chunks.{joined, with, gone_from, lines_over}
use Rattle.frame_input.proofs.CollectLaws.{collect_lf}
use Rattle.frame_input.proofs.ChunkLaws.{from_end, from_ended}
use Rattle.frame_input.proofs.LineLaws.{over_chunks}
use Rattle.frame_replies.specs.Reply.{bytes_of}
use Rattle.frame_answers.specs.Step.{Kept, Answered, answer_to, kept_by, answers_to, kept_after}
use Rattle.frame_chunks.specs.Chunk.{chunk_outcome, with_answers}
use Rattle.frame_chunks.specs.Input.{at_end, input_outcome}

-- ---- lines cut to the length of the line buffer

-- A line buffer has room for more than the longest frame.
module _ (size : ℕ) (more : 130 < size) where
  -- The front of a line is answered as the line is.
  cut_answer : (line : List ℕ) (k : Kept) → answer_to (frame_of (take size line)) (take size line) k ≡ answer_to (frame_of line) line k
  unfolding answer_to
  cut_answer line k =
      ⊎_elim (λ same. ap (λ (l : List ℕ). answer_to (frame_of l) l k) same) (λ none. rw (none.0, none.1)) (cut_same size more line)

  answers_cut : (lines : List (List ℕ)) (k : Kept) → answers_to (map (take size) lines) k ≡ answers_to lines k
  unfolding answers_to
  answers_cut [] k = refl
  answers_cut (line ∷ lines) k = rw (cut_answer line k, answers_cut lines (kept_by line k))

  kept_cut : (lines : List (List ℕ)) (k : Kept) → kept_after (map (take size) lines) k ≡ kept_after lines k
  unfolding kept_after
  kept_cut [] k = refl
  kept_cut (line ∷ lines) k = kept_cut lines _ ∙ ap (λ (a : Answered). kept_after lines a.kept) (cut_answer line k)

-- ---- lines one after the other

answers_append : (lines more : List (List ℕ)) (k : Kept) → answers_to (lines ++ more) k ≡ answers_to lines k ++ answers_to more (kept_after lines k)
unfolding answers_to kept_after
answers_append [] more k = refl
answers_append (line ∷ lines) more k =
    ap (λ (rest : List ℕ). bytes_of (answer_to (frame_of line) line k).replies ++ rest) (answers_append lines more (kept_by line k))
    ∙ sym (append_assoc (bytes_of (answer_to (frame_of line) line k).replies) (answers_to lines (kept_by line k)) (answers_to more (kept_after lines (kept_by line k))))

kept_append : (lines more : List (List ℕ)) (k : Kept) → kept_after (lines ++ more) k ≡ kept_after more (kept_after lines k)
unfolding kept_after
kept_append [] more k = refl
kept_append (line ∷ lines) more k = kept_append lines more (kept_by line k)

-- ---- chunks

-- the bytes of answers and what is kept are those of the lines given out
record Says (chunks : List (List ℕ)) (line : List ℕ) (have : ℕ) (k : Kept) : Type 0 where
  answers : (input_outcome chunks line have k).answers ≡ answers_to (lines_over chunks line have) k
  kept : (input_outcome chunks line have k).end.kept ≡ kept_after (lines_over chunks line have) k

lf_ends : (line : List ℕ) (have : ℕ) → gone_from (10 ∷ []) 0 line have ≡ record { lines = take have line ∷ []; line = line; have = 0 }
unfolding with
lf_ends line have =
    from_ended (10 ∷ []) 0 line have (omega arith) (record { next = 1; have = have; ended = _ }) line
    (sym (collect_lf (10 ∷ []) 0 line have (omega arith) refl)) refl
    ∙ rw (from_end (10 ∷ []) 1 line 0 (omega arith))

says : (chunks : List (List ℕ)) (line : List ℕ) (have : ℕ) (k : Kept) → Says chunks line have k
unfolding input_outcome at_end lines_over chunk_outcome with_answers answers_to kept_after
says [] line have k =
    ⊎_elim
    (λ (none : have ≡ 0). record { answers = rw (if_eq_yes have 0 _ _ none, if_eq_yes have 0 _ _ none); kept = rw (if_eq_yes have 0 _ _ none, if_eq_yes have 0 _ _ none) })
    (λ (some : have ≢ 0). record { answers = rw (if_eq_no have 0 _ _ some, if_eq_no have 0 _ _ some, lf_ends line have); kept = rw (if_eq_no have 0 _ _ some, if_eq_no have 0 _ _ some, lf_ends line have) })
    (eq_or_ne have 0)
says (chunk ∷ chunks) line have k =
    let gone = gone_from chunk 0 line have in
    let rest = says chunks gone.line gone.have (kept_after gone.lines k) in
    record {
      answers = rw rest.answers (sym (answers_append gone.lines (lines_over chunks gone.line gone.have) k));
      kept = rw rest.kept (sym (kept_append gone.lines (lines_over chunks gone.line gone.have) k));
    }

-- Chunk by chunk the answers to the lines of the whole input are given, and what is kept at the end is what these lines leave.
pub chunks_answered : (chunks : List (List ℕ)) (line : List ℕ) → 130 < length line → (k : Kept)
    → ((input_outcome chunks line 0 k).answers ≡ answers_to (lines_of (joined chunks)) k)
    × ((input_outcome chunks line 0 k).end.kept ≡ kept_after (lines_of (joined chunks)) k)
chunks_answered chunks line more k = (
  (says chunks line 0 k).answers ∙ ap (λ (lines : List (List ℕ)). answers_to lines k) cut ∙ answers_cut (length line) more (lines_of (joined chunks)) k,
  (says chunks line 0 k).kept ∙ ap (λ (lines : List (List ℕ)). kept_after lines k) cut ∙ kept_cut (length line) more (lines_of (joined chunks)) k,
)
  where
    cut : lines_over chunks line 0 ≡ map (take (length line)) (lines_of (joined chunks))
    cut = over_chunks chunks line (omega arith)
