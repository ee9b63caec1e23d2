-- `ranks_fall` meets its contract. The loop's invariant: whether the ranks fall is whether those that are left do, the first of them from `low` on.
use mathlib.Core.Path.{◌≡◌}
use lib.ListN.{drop}
use Rattle.store_board.specs.Board.{falls_below, falls}
use Rattle.store_board.proofs.ranks_fall.Given as goal

abbrev pub invariant-loop-rank : goal.invariant-loop-rank
invariant-loop-rank l = falls l.ranks ≡ falls_below l.low (drop l.rank-index l.ranks)
