-- A read of a plain sheet: its entries are there, and those read are the reply.
use Rattle.std.specs.Prelude.{Result, Ok, ◌≡◌, List, ◌++◌, ℕ, ◌+◌, ◌-◌, ◌≤◌, length, take, drop}
use Rattle.std.proofs.Math.Option.{none}
use Rattle.std.proofs.Common.{arith, length-drop, length-take-le}
use Rattle.store_layout.specs.declared.Capacity.{Capacity}
use Rattle.store_layout.specs.Leaf.{nonzero}
use Rattle.call_outcomes.specs.declared.Answer.TheVariants.{Entries}
use Rattle.call_outcomes.specs.PlainCalls.{read_ranks, question_cause, reply_to, written_for}
use Rattle.call_outcomes.specs.Untallied.{store_of}
use Rattle.call_outcomes.specs.PlainCallLaws.{read_within}
use Rattle.call_outcomes.specs.declared.Cause.{Cause}
use Rattle.call_open.specs.declared.Opened.{Opened}
use Rattle.call_open.specs.Opening.{admitted, OpenedSheet}
use Rattle.call_questions.specs.Asked.{asked_by, asked}
use Rattle.call_questions.specs.StartLaws.{entries_number}

-- The entries that can be read are there.
pub read_room : {cap : Capacity} {slots counts work : List ℕ} {n m : ℕ} (w : OpenedSheet cap (store_of slots counts) n m work)
    (first last room : ℕ) (free : question_cause (read_ranks first last room) n ≡ none) → first + (last - first + 1) ≤ length (nonzero slots)
read_room {n = n} w first last room free =
    let within = read_within first last room n free in omega (arith, entries_number w, within.0, within.1)

-- The entries read are the reply.
pub read_reply_lem : (found : Result Opened Cause) (first last : ℕ) (list output : List ℕ) {sheet : Opened}
    → admitted (question_cause (read_ranks first last (length output))) found ≡ Ok sheet → first + (last - first + 1) ≤ length list
    → record { answer = Ok (Entries (last - first + 1)); output = take (last - first + 1) (drop first list) ++ drop (last - first + 1) output }
    ≡ asked (read_ranks first last (length output)) found list output
unfolding asked asked_by reply_to written_for
read_reply_lem found first last list output is room =
    let count = last - first + 1 in
    let size : length (take count (drop first list)) ≡ count = length-take-le count (drop first list) (omega (arith, length-drop first list)) in
    rw (is, size)
