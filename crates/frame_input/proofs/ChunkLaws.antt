-- The lines that a chunk ends from a place on, by what `collect` gives there.
use Rattle.std.specs.Prelude.{◌≡◌, List, [], take}
use Rattle.std.proofs.Math.Path.{refl, sym, ap, ap₂}
use Rattle.std.proofs.Common.{◌∙◌, arith}
use Rattle.std.proofs.Math.Bool.{true, false}
use Rattle.std.proofs.Math.Logic.{⊎_elim}
use Prim.Native.Nat.{ℕ, zero, suc, ◌+◌, ◌≤◌, ◌<◌}
use Rattle.std.proofs.Math.ListN.{length}
use Rattle.base.specs.CaseLaws.{if_lt_yes, if_lt_no, lt_or_ge}
use Rattle.frame_input.specs.declared.Collected.{Collected}
use Rattle.frame_input.specs.Lines.{Outcome, left, collecting}
use Rattle.frame_input.specs.Chunks.{Gone, with, through, gone_from}
use Rattle.frame_input.proofs.CollectLaws.{next_further}

abbrev no_line : List ℕ → ℕ → Gone
no_line line have = record { lines = []; line = line; have = have }

module _ (chunk : List ℕ) where
  through_end : (turns from : ℕ) (line : List ℕ) (have : ℕ) → length chunk ≤ from → through turns chunk from line have ≡ no_line line have
  unfolding through
  through_end zero from line have l = refl
  through_end (suc turns) from line have l = if_lt_no from (length chunk) _ _ l

  -- Turns that are enough give the same.
  through_enough : (t u from : ℕ) (line : List ℕ) (have : ℕ) → length chunk ≤ from + t → length chunk ≤ from + u
      → through t chunk from line have ≡ through u chunk from line have
  unfolding through
  through_enough zero u from line have l m = sym (through_end u from line have (omega arith))
  through_enough (suc t) zero from line have l m = through_end (suc t) from line have (omega arith)
  through_enough (suc t) (suc u) from line have l m =
      ⊎_elim
      (λ (more : from < length chunk).
      let o = collecting chunk from line have in
      let further = next_further chunk from line have more in
      if_lt_yes from (length chunk) _ _ more
      ∙ ap₂ (λ (x y : Gone). elim o.answer.ended [ true ↦ with (take o.answer.have o.line) x | false ↦ y ])
      (through_enough t u o.answer.next o.line 0 (omega arith) (omega arith))
      (through_enough t u o.answer.next o.line o.answer.have (omega arith) (omega arith))
      ∙ sym (if_lt_yes from (length chunk) _ _ more))
      (λ (past : length chunk ≤ from). through_end (suc t) from line have past ∙ sym (through_end (suc u) from line have past))
      (lt_or_ge from (length chunk))

  module _ (from : ℕ) (line : List ℕ) (have : ℕ) where
    -- At the end of the chunk no line ends any more.
    pub from_end : length chunk ≤ from → gone_from chunk from line have ≡ no_line line have
    unfolding gone_from
    from_end l = through_end (length chunk) from line have l

    -- The line ends, and the next one starts with an empty line buffer; or the line is still open.
    module _ (more : from < length chunk) (r : Collected) (line' : List ℕ) (e : left r line' ≡ collecting chunk from line have) where
      once : gone_from chunk from line have
          ≡ elim r.ended [ true ↦ with (take r.have line') (gone_from chunk r.next line' 0) | false ↦ gone_from chunk r.next line' r.have ]
      unfolding gone_from through left
      once =
          through_enough (length chunk) (suc (length chunk)) from line have (omega arith) (omega arith)
          ∙ if_lt_yes from (length chunk) _ _ more
          ∙ ap (λ (o : Outcome).
          elim o.answer.ended [
            | true ↦ with (take o.answer.have o.line) (gone_from chunk o.answer.next o.line 0)
            | false ↦ gone_from chunk o.answer.next o.line o.answer.have
          ]) (sym e)

      pub from_ended : r.ended ≡ true → gone_from chunk from line have ≡ with (take r.have line') (gone_from chunk r.next line' 0)
      from_ended h = once ∙ rw h

      pub from_open : r.ended ≡ false → gone_from chunk from line have ≡ gone_from chunk r.next line' r.have
      from_open h = once ∙ rw h
