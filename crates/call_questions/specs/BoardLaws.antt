-- A board of a plain sheet: the entries copied are the reply.
use Rattle.std.specs.Prelude.{Result, Ok, ◌≡◌, refl, List, [], ◌∷◌, ◌++◌, ℕ, length, get_or, drop}
use Rattle.std.proofs.Common.{arith}
use Rattle.std.proofs.lemmas.List.{length-map}
use Rattle.store_board.specs.Board.{entries_at}
use Rattle.call_outcomes.specs.declared.Answer.TheVariants.{Entries}
use Rattle.call_outcomes.specs.PlainCalls.{board_of, question_cause, reply_to}
use Rattle.call_outcomes.specs.PlainCallLaws.{board_within, board_written}
use Rattle.call_outcomes.specs.declared.Cause.{Cause}
use Rattle.call_open.specs.declared.Opened.{Opened}
use Rattle.call_open.specs.Opening.{admitted}
use Rattle.call_open.specs.AdmittedLaws.{found_free}
use Rattle.call_questions.specs.Asked.{asked_by, asked}

pub board_reply : (found : Result Opened Cause) (ranks list output : List ℕ) {sheet : Opened}
    → admitted (question_cause (board_of ranks (length output))) found ≡ Ok sheet → sheet.n ≡ length list
    → record { answer = Ok (Entries (length ranks)); output = entries_at list ranks ++ drop (length ranks) output }
    ≡ asked (board_of ranks (length output)) found list output
unfolding asked asked_by reply_to
board_reply found ranks list output {sheet} is all =
    let within = board_within ranks (length output) sheet.n (found_free _ _ is) in
    rw (is, board_written ranks (length output) list (rw all at within.inside), length-map ranks (λ rank. get_or list rank 0))

-- Without ranks nothing is written.
pub no_ranks : (ranks list output : List ℕ) → length ranks ≡ 0 → output ≡ entries_at list ranks ++ drop (length ranks) output
no_ranks [] list output none = refl
no_ranks (rank ∷ ranks) list output none = absurd (omega arith)
