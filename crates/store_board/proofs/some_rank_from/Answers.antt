-- `some_rank_from` meets its contract.
use mathlib.Core.Path.{sym}
use Prim.Native.Nat.{◌-◌}
use native.Mathlib.Omega.{arith}
use lib.ListN.{length}
use Rattle.store_board.specs.BoardLaws.{some_none, some_last}
use Rattle.store_board.proofs.some_rank_from.Goals as goal

pub returns-in-Some : goal.returns-in-Some
returns-in-Some c =
    let a = c.args in
    let item = c.in-Some.ensures.item in
    rw (item.3.1 0) (some_last a.n 0 a.ranks.now (length a.ranks.now - 1) (omega (arith, item.3.0)) c.requires)

pub returns-in-None : goal.returns-in-None
returns-in-None c = sym (some_none c.args.n c.args.ranks.now (omega (arith, c.in-None.ensures.item.3)))
