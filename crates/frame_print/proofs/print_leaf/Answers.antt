-- `print_leaf` meets its contract.
use Rattle.frame_print.specs.PrintLaws.{leaf_wrote}
use Rattle.frame_print.proofs.print_leaf.Goals as goal

pub returns : goal.returns
returns c =
    leaf_wrote _ _ _ _ _ _ c.count_at-count.ensures c.put_leaf.ensures
