-- `places_of_eight_levels` meets its contract: the places of the whole tree are computed by the rule, and are the table.
use mathlib.Core.Path.{refl}
use Rattle.base.specs.Cases.{if_eq, if_lt, if_le}
use Rattle.base.specs.Lists.{tabulate}
use Rattle.store_order.specs.Occurs.{index_of}
use Rattle.store_order.specs.TreeOrder.{each, order_by, tree_order}
use Rattle.store_order.specs.CountOrder.{stored, count_place}
use Rattle.store_counts.proofs.table.places_of_eight_levels.Goals as goal

pub returns : goal.returns
unfolding tabulate count_place stored tree_order order_by each index_of if_eq if_lt if_le
returns c = refl
