-- `examine` meets its contract.
use mathlib.Core.Path.{◌≡◌, sym}
use Prim.Native.Nat.{ℕ}
use native.Mathlib.Omega.{arith}
use Rattle.call_outcomes.specs.Plain.{plain_view}
use Rattle.call_outcomes.specs.Federation.{federation}
use Rattle.call_outcomes.proofs.FederationLaws.{federation_ready}
use Rattle.call_open.specs.Opening.{plain_numbers}
use Rattle.call_open.specs.SliceOpeningLaws.{look_lengths}
use Rattle.call_timed.specs.Timed.{balance_slice, timed_store_of}
use Rattle.timed_open.specs.OpeningLaws.{look_ready, timed_tallied}
use Rattle.federation_timed.proofs.examine.Goals as goal

pub returns-then-balance-ne8192 : goal.returns-then-balance-ne8192
returns-then-balance-ne8192 c =
    let a = c.args in
    record {
      opening =
          look_lengths (plain_view federation) (balance_slice federation) plain_numbers (timed_store_of a.slots.now a.counts.now a.tallies.now a.balance.now) _ c.if-balance-ne8192.true;
      tallied = λ e. let z : ◌≡◌ {A = ℕ} 0 1 = cc in absurd (omega arith);
    }

pub admit_timed-requires : goal.admit_timed-requires
admit_timed-requires c =
    record { ready = look_ready federation_ready _ c.if-balance-ne8192.false c.examine-opened.ensures.opening; right = sym c.if-balance-ne8192.false }

pub returns : goal.returns
returns c =
    timed_tallied federation_ready _ c.if-balance-ne8192.false c.examine-opened.ensures c.admit_timed.ensures
