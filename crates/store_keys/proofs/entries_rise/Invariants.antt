-- `entries_rise` meets its contract. The loop's invariant: whether the entries rise is told by `rising` and by those of the slots that are
-- left, above `last`.
use mathlib.Core.Path.{◌≡◌}
use mathlib.Core.Bool.{◌&&◌}
use lib.ListN.{drop}
use Rattle.store_layout.specs.Leaf.{nonzero}
use Rattle.store_keys.specs.Key.{rises, rise_from}
use Rattle.store_keys.proofs.entries_rise.Given as goal

abbrev pub invariant-loop-held : goal.invariant-loop-held
invariant-loop-held l = rises (nonzero l.held-items) ≡ (l.rising && rise_from l.last (nonzero (drop l.held-index l.held-items)))
