-- `narrow_ranges` meets its contract.
use Rattle.std.proofs.Common.{rules}
use Rattle.base.specs.ListLaws.{every_take, every_drop}
use Rattle.store_widths.proofs.narrow_ranges.Goals as goal

pub narrow-requires-clause-fit : goal.narrow-requires-clause-fit
narrow-requires-clause-fit c = search (rules, every_take, every_drop)
