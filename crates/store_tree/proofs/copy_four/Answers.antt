-- `copy_four` meets its contract.
use Rattle.store_order.proofs.PutLaws.{four_put}
use Rattle.store_tree.proofs.copy_four.Goals as goal

pub returns : goal.returns
returns g c =
    let a = c.args in
    record {
      copied = (four_put (g.met.D.Direction.puts a.from.now) a.at a.k a.to.now
          c.copy_two.ensures.copied
          c.copy_two-2.ensures.copied
          c.copy_two-3.ensures.copied
          c.copy_two-4.ensures.copied
          c.copy_two-5.ensures.copied);
      few = c.copy_two.ensures.few;
    }
