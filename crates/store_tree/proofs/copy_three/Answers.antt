-- `copy_three` meets its contract.
use Rattle.store_order.proofs.PutLaws.{three_put}
use Rattle.store_tree.proofs.copy_three.Goals as goal

pub returns : goal.returns
returns g c =
    let a = c.args in
    record {
      copied = (three_put (g.met.D.Direction.puts a.from.now) a.at a.k a.to.now
          c.copy_one.ensures.copied
          c.copy_two.ensures.copied
          c.copy_two-2.ensures.copied);
      few = c.copy_one.ensures.few;
    }
