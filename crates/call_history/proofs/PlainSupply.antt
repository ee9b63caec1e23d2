-- Coins can be supplied for every course of a history of plain sheets of any capacity.
use Rattle.std.specs.Prelude.{◌≢◌, List, ℕ}
use Rattle.std.proofs.Math.Option.{some}
use Rattle.std.proofs.Common.{arith}
use Rattle.store_layout.specs.declared.Capacity.{Capacity}
use Rattle.store_layout.specs.Room.{CapacityReady}
use Rattle.call_outcomes.specs.declared.Cause.TheVariants.{BoardRanks, EntryZero, Rank, Full, OutputShort, TapeEnded}
use Rattle.call_outcomes.specs.Kind.{clear, change, ask}
use Rattle.call_outcomes.specs.Causes.{argument_cause}
use Rattle.call_outcomes.specs.PlainCalls.{insert_at, delete_at, change_cause, read_ranks, place_of, count_of, board_of, question_cause, Call}
use Rattle.call_outcomes.specs.Plain.{plain}
use Rattle.call_history.proofs.Supply.{Suppliable, first_other, none_ended}

cause_not_ended : (cap : Capacity) (call : Call) (list : List ℕ) → argument_cause (plain cap) call list ≢ some TapeEnded
unfolding argument_cause change_cause question_cause
cause_not_ended cap clear list = none_ended
cause_not_ended cap (change (insert_at i e)) list =
    first_other _ EntryZero _ (omega arith) (first_other _ Rank _ (omega arith) (first_other _ Full _ (omega arith) none_ended))
cause_not_ended cap (change (delete_at i)) list = first_other _ Rank _ (omega arith) none_ended
cause_not_ended cap (ask (read_ranks first last room)) list = first_other _ Rank _ (omega arith) (first_other _ OutputShort _ (omega arith) none_ended)
cause_not_ended cap (ask (place_of i)) list = first_other _ Rank _ (omega arith) none_ended
cause_not_ended cap (ask count_of) list = none_ended
cause_not_ended cap (ask (board_of ranks room)) list =
    first_other _ BoardRanks _ (omega arith) (first_other _ Rank _ (omega arith) (first_other _ OutputShort _ (omega arith) none_ended))

pub plain_suppliable : {cap : Capacity} → CapacityReady cap → Suppliable (plain cap)
plain_suppliable {cap} ready = record { few = λ list w. omega (arith, w.room, ready.few); no_cause = cause_not_ended cap }
