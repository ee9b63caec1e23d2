-- `copy_one` meets its contract.
use Rattle.std.proofs.Common.{arith}
use Rattle.store_order.proofs.PutLaws.{one_from}
use Rattle.store_tree.proofs.WritingDirection.copy_one.Goals as goal

pub returns : goal.returns
returns c = record { copied = one_from _ _ _ _; few = (omega arith, omega arith) }
