-- Coins can be supplied for every course of a history of timed sheets of any capacity.
use Rattle.std.specs.Prelude.{◌≢◌, List, ℕ}
use Rattle.std.proofs.Math.Option.{some}
use Rattle.std.proofs.Common.{arith}
use Rattle.store_layout.specs.declared.Capacity.{Capacity}
use Rattle.store_layout.specs.Room.{CapacityReady}
use Rattle.call_outcomes.specs.declared.Cause.TheVariants.{EntryZero, EntryPresent, Rank, Full, TapeEnded}
use Rattle.call_outcomes.specs.Kind.{clear, change, ask}
use Rattle.call_outcomes.specs.Causes.{argument_cause}
use Rattle.call_outcomes.specs.PlainCalls.{change_cause}
use Rattle.call_history.proofs.Supply.{Suppliable, first_other, none_ended}
use Rattle.call_history.proofs.PlainSupply.{plain_suppliable}
use Rattle.call_timed.specs.Timed.{insert_entry, delete_rank, timed_change_cause, find_entry, as_plain, timed_question_cause, timed, TimedCall}

cause_not_ended : {cap : Capacity} → CapacityReady cap → (call : TimedCall) (list : List ℕ) → argument_cause (timed cap) call list ≢ some TapeEnded
unfolding argument_cause timed_change_cause timed_question_cause change_cause
cause_not_ended ready clear list = none_ended
cause_not_ended ready (change (insert_entry e)) list =
    first_other _ EntryZero _ (omega arith) (first_other _ EntryPresent _ (omega arith) (first_other _ Full _ (omega arith) none_ended))
cause_not_ended ready (change (delete_rank i)) list = first_other _ Rank _ (omega arith) none_ended
cause_not_ended ready (ask (find_entry e)) list = first_other _ EntryZero _ (omega arith) none_ended
cause_not_ended ready (ask (as_plain q)) list = (plain_suppliable ready).no_cause (ask q) list

pub timed_suppliable : {cap : Capacity} → CapacityReady cap → Suppliable (timed cap)
timed_suppliable ready = record { few = λ list w. omega (arith, w.plain.room, ready.few); no_cause = cause_not_ended ready }
