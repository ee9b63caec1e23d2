-- `put_in` meets its contract.
use native.Mathlib.Omega.{arith}
use Rattle.store_slices.specs.PastedLaws.{shifted_put}
use Rattle.store_slices.proofs.put_in.Goals as goal

pub returns : goal.returns
returns c =
    let a = c.args in
    shifted_put a.n a.i a.e (record { is = c.copy_within.ensures.after; kept = c.copy_within.ensures.len }) (omega arith) (omega arith)
