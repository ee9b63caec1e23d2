-- `entries_of_30` meets its contract: the entries of the slots are computed by the rule, and are the table.
use mathlib.Core.Path.{refl}
use Rattle.base.specs.Lists.{tabulate}
use Rattle.store_order.specs.TreeOrder.{each}
use Rattle.store_layout.specs.Leaf.{slot_of, put_entries}
use Rattle.store_spread.specs.SlotEntries.{slot_entries, entry_table}
use Rattle.store_spread.proofs.table.entries_of_30.Goals as goal

pub returns : goal.returns
unfolding entry_table each slot_entries tabulate put_entries slot_of
returns c = refl
