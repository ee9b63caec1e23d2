-- `search` meets its contract: what the descent and the loop through the leaf come to is what is asked (`Searchable`).
use Rattle.store_search.specs.Searchable.{Searchable}
use Rattle.store_search.specs.SoughtLaws.{searchable}
use Rattle.store_search.proofs.search.Goals.{After-key-k}
use Rattle.store_search.proofs.search.Goals as goal

-- What the search relies on, for the key that the code has found.
ready : (c : After-key-k)
    → let a = c.args in
    Searchable a.size.m a.slots.now a.counts.now a.balance.now c.key-k.result
ready c = searchable c.requires c.key-k.result

pub start_for-start-requires : goal.start_for-start-requires
start_for-start-requires c =
    let r = ready c in record { most = r.most; counts = r.counts_room; balance = r.balance_room }

pub search_leaf-requires : goal.search_leaf-requires
search_leaf-requires c =
    let r = ready (goal.at.search_leaf-requires c).After-key-k in
    rw (c.leaf_slots.ensures, c.start_for-start.ensures) record { room = r.slots_room; small = r.small }

pub returns : goal.returns
returns c =
    rw (← c.key-k.ensures, c.search_leaf.ensures, c.leaf_slots.ensures, c.start_for-start.ensures) (ready (goal.at.returns c).After-key-k).found
