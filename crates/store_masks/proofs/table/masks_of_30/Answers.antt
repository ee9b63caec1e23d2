-- `masks_of_30` meets its contract: the masks are computed by the rule, and are the table.
use mathlib.Core.Path.{refl}
use Rattle.base.specs.Lists.{tabulate}
use Rattle.store_layout.specs.Leaf.{slot_of, put_entries, spread}
use Rattle.store_masks.specs.Mask.{is_taken, taken, mask, masks}
use Rattle.store_masks.proofs.table.masks_of_30.Goals as goal

pub returns : goal.returns
unfolding masks tabulate mask taken is_taken spread put_entries slot_of
returns c = refl
