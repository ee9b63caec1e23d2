-- `none_among` meets its contract.
use Rattle.std.proofs.Common.{rules, ◌≡◌, ◌∙◌, bit_or}
use Rattle.std.specs.List.{fold}
use Rattle.std.proofs.iter.runs.Made.{chains}
use Rattle.std.proofs.Math.Seq.{take-length}
use Rattle.store_scoring.specs.ScoringLaws.{retired_zero, none_fold}
use Rattle.store_scoring.proofs.none_among.Goals as goal

-- `take-length` is for a body that joins a part of the slots: it is refused for what it leaves out.
pub returns : goal.returns
returns c =
    let joined : c.fold-joined.result ≡ fold bit_or 0 c.args.slots.now = search (rules, chains, take-length c.args.slots.now) in
    rw (c.is_retired.ensures, joined) (none_fold 0 c.args.slots.now ∙ rw retired_zero)
