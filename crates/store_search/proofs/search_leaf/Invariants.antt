-- `search_leaf` meets its contract. The loop's invariant: the first slots of the leaf are passed.
use Rattle.store_search.specs.LeafLoop.{Passed}
use Rattle.store_search.proofs.search_leaf.Given as goal

abbrev pub invariant-loop-held : goal.invariant-loop-held
invariant-loop-held l = Passed l.held-items l.initial.rank l.k l.held-index l.rank l.present
