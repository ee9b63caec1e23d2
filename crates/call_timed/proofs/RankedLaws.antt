-- What a timed store that decides nothing holds; and that a change of it is a change at a rank.
use Rattle.std.specs.Prelude.{◌≡◌, refl, List, [], ℕ}
use Rattle.std.proofs.Math.Option.{some, none}
use Rattle.store_layout.specs.declared.Capacity.{Capacity}
use Rattle.store_layout.specs.Decode.{Contents, decode}
use Rattle.store_tallies.specs.Tallies.{lay_tallies}
use Rattle.store_keys.specs.Key.{Rises}
use Rattle.store_keys.specs.KeyLaws.{true_rises}
use Rattle.store_balance.specs.Balance.{lay_balance}
use Rattle.call_outcomes.specs.Kind.{change}
use Rattle.call_outcomes.specs.Causes.{accept, store_decision, looked_at, argument_cause, decision}
use Rattle.call_outcomes.specs.Outcome.{outcome}
use Rattle.call_outcomes.specs.DecisionLaws.{store_accepted, accepted, accepted_by}
use Rattle.call_outcomes.specs.ChangeLaws.{same_edit}
use Rattle.call_outcomes.specs.PlainCalls.{PlainChange, plain_calls}
use Rattle.call_outcomes.specs.Untallied.{untallied_view}
use Rattle.call_outcomes.proofs.UntalliedLaws.{found_decode}
use Rattle.call_outcomes.proofs.SliceLaws.{slice_holds}
use Rattle.call_outcomes.specs.Plain.{tally_slice, plain_view}
use Rattle.call_outcomes.proofs.PlainLaws.{right_plain}
use Rattle.call_timed.specs.Timed.{balance_slice, timed_view, TimedStore, TimedLengths, TimedChange, plainly, timed_change_cause, timed_calls, timed, ranked}
use Rattle.call_timed.proofs.TimedLaws.{plain_free}

-- ---- a timed store that decides nothing

-- Slots, counts and tallies are a plain sheet with these contents, the list rises, and the last slice is that of the contents.
pub record HoldsTimed (cap : Capacity) (store : TimedStore) (c : Contents) : Type 0 where
  pub lengths : TimedLengths cap store
  pub plain : store_decision (plain_view cap) store.sheet ≡ accept c
  pub untallied : store_decision (untallied_view cap) store.sheet.sheet ≡ accept c
  pub decoded : decode cap store.sheet.sheet ≡ some c
  pub tallies : store.sheet.slice ≡ lay_tallies cap.counts c.list c.shape
  pub rising : Rises c.list
  pub third : store.slice ≡ lay_balance cap.counts c.list c.shape

pub timed_holds : (cap : Capacity) (store : TimedStore) (c : Contents) → store_decision (timed_view cap) store ≡ accept c → HoldsTimed cap store c
timed_holds cap store c h =
    let t = slice_holds (plain_view cap) (balance_slice cap) store c h in
    let p = slice_holds (untallied_view cap) (tally_slice cap) store.sheet c t.decided in
    record {
      lengths = record { plain = right_plain cap store.sheet t.right; balance = t.length_is };
      plain = t.decided;
      untallied = p.decided;
      decoded = found_decode cap store.sheet.sheet c (store_accepted (untallied_view cap) store.sheet.sheet c p.decided).1;
      tallies = p.laid;
      rising = true_rises 0 c.list t.listed;
      third = t.laid;
    }

-- ---- a change of a timed sheet that no cause before 7 refuses

module _ (cap : Capacity) (store : TimedStore) (tc : TimedChange) (c : Contents) (decided : decision (timed cap) (change tc) store ≡ accept c) where
  looked : (store_decision (timed_view cap) store ≡ accept c) × (timed_change_cause cap.entries tc c.list ≡ none)
  unfolding looked_at argument_cause
  looked = accepted (timed cap) (change tc) store c decided

  pub change_holds : HoldsTimed cap store c
  change_holds = timed_holds cap store c looked.0

  -- The change at the rank of its key is not refused either, and comes to the same.
  abbrev made : PlainChange
  made = plainly tc c.list

  pub ranked_decided : decision (ranked cap) (change made) store ≡ accept c
  unfolding looked_at argument_cause
  ranked_decided = accepted_by (ranked cap) (change made) store c looked.0 (plain_free cap.entries tc c.list looked.1)

  pub timed_change : (tape : List ℕ) → outcome (timed cap) (change tc) tape store [] ≡ outcome (ranked cap) (change made) tape store []
  timed_change tape =
      same_edit (timed_view cap) (timed_calls cap.entries) (plain_calls cap.entries) tc made tape store c decided ranked_decided refl
