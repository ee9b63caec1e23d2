-- `right_lengths` meets its contract.
use Rattle.federation_store.proofs.right_lengths.Goals as goal

pub returns : goal.returns
returns c = rw c.capacity.ensures at c.right_lengths.ensures
