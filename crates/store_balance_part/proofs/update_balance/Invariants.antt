-- `update_balance` meets its contract. The loop's invariant: the words are right but perhaps those of the leaves from `leaf` to `last`.
use mathlib.Core.Path.{◌≡◌}
use Prim.Native.Nat.{◌+◌, ◌<◌}
use lib.ListN.{length}
use Rattle.store_balance_part.specs.Update.{EntriesBut}
use Rattle.store_balance_part.proofs.update_balance.Given as goal

abbrev pub invariant-loop-leaf : goal.invariant-loop-leaf
invariant-loop-leaf l =
    (l.leaves < l.leaf) × (length l.balance ≡ length l.initial.balance) × EntriesBut l.h l.s l.slots l.leaf (l.last + 1) l.balance
