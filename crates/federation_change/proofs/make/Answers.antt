-- `make` meets its contract.
use mathlib.Core.Path.{◌∙◌, ap}
use native.Mathlib.Omega.{arith}
use lib.ListN.{length}
use Rattle.store_order.proofs.CountOrderLaws.{length_number_order}
use Rattle.call_outcomes.proofs.FederationLaws.{federation_ready}
use Rattle.call_change.specs.SheetChangeLaws.{few, in_reach, update_ready, write_ready, before_few, change_ended}
use Rattle.sheet_change.specs.TallyLaws.{sheet_ready, tallies_after, plain_made_by_slots, part_made, plain_ended}
use Rattle.federation_change.proofs.make.Goals as goal

pub count_after-after-requires : goal.count_after-after-requires
count_after-after-requires c =
    let p = sheet_ready federation_ready c.requires.sheet in
    (in_reach federation_ready p, omega (arith, few federation_ready p))

pub update-requires : goal.update-requires
update-requires c = update_ready federation_ready (sheet_ready federation_ready c.requires.sheet)

pub write_drawn-requires : goal.write_drawn-requires
write_drawn-requires c =
    let p = sheet_ready federation_ready c.requires.sheet in record { ready = write_ready federation_ready p _ _ _ c.update.ensures _ _ _ c.in_ok-updated.was; most = before_few federation_ready p _ _ _ c.update.ensures _ _ _ c.in_ok-updated.was }

pub write_tallies-requires : goal.write_tallies-requires
write_tallies-requires c =
    let after = tallies_after federation_ready c.requires.sheet _ _ _ c.update.ensures _ _ _ c.in_ok-updated.was c.write_drawn.ensures c.requires.tallied in
    record { ready = after.ready; lengths = ap length c.requires.tallied ∙ length_number_order _ _; part = after.part; counted = after.counted }

pub returns : goal.returns
returns c =
    let p = c.requires.sheet in (
      plain_made_by_slots federation_ready p _ _ _ c.update.ensures _ _ _ c.in_ok-updated.was c.write_drawn.ensures _ c.count_after-after.ensures
          c.write_tallies.ensures,
      part_made federation_ready p _ _ _ c.update.ensures _ _ _ c.in_ok-updated.was c.write_drawn.ensures,
    )

pub returns-in_err-updated : goal.returns-in_err-updated
returns-in_err-updated c =
    let p = c.requires.sheet in
    rw c.from_residual.ensures (plain_ended federation_ready p _ (change_ended federation_ready (sheet_ready federation_ready p) _ _ _ c.update.ensures c.in_err-updated.was), tt)
