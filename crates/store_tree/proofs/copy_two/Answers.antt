-- `copy_two` meets its contract.
use Rattle.store_order.proofs.PutLaws.{two_put}
use Rattle.store_tree.proofs.copy_two.Goals as goal

pub returns : goal.returns
returns g c =
    let a = c.args in
    record {
      copied = (two_put (g.met.D.Direction.puts a.from.now) a.at a.k a.to.now
          c.copy_one.ensures.copied
          c.copy_one-2.ensures.copied
          c.copy_one-3.ensures.copied);
      few = c.copy_one.ensures.few;
    }
