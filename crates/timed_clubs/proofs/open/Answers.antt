-- `open` meets its contract.
use mathlib.Core.Path.{◌≡◌, sym}
use Prim.Native.Nat.{ℕ}
use native.Mathlib.Omega.{arith}
use Rattle.call_outcomes.specs.Plain.{plain_view}
use Rattle.call_outcomes.specs.Clubs.{clubs}
use Rattle.call_outcomes.proofs.ClubsLaws.{clubs_ready}
use Rattle.call_open.specs.Opening.{plain_numbers}
use Rattle.call_open.specs.SliceOpeningLaws.{look_lengths}
use Rattle.call_timed.specs.Timed.{balance_slice, timed_store_of}
use Rattle.timed_open.specs.OpeningLaws.{found_timed, look_ready, timed_opening}
use Rattle.timed_clubs.proofs.open.Goals as goal

pub returns-then-balance-ne256 : goal.returns-then-balance-ne256
returns-then-balance-ne256 c =
    let a = c.args in (
      look_lengths (plain_view clubs) (balance_slice clubs) plain_numbers (timed_store_of a.slots.now a.counts.now a.tallies.now a.balance.now) _ c.if-balance-ne256.true,
      record { same = λ e. let z : ◌≡◌ {A = ℕ} 0 1 = cc in absurd (omega arith) },
    )

pub admit_timed-requires : goal.admit_timed-requires
admit_timed-requires c =
    record { ready = look_ready clubs_ready _ c.if-balance-ne256.false c.open-opened.ensures.0; right = sym c.if-balance-ne256.false }

pub returns : goal.returns
returns c =
    let a = c.args in (
      timed_opening clubs_ready _ c.if-balance-ne256.false c.open-opened.ensures.0 c.admit_timed.ensures,
      record { same = λ e. c.open-opened.ensures.1.same (found_timed a.slots.now a.balance.now c.admit_timed.ensures e) },
    )
