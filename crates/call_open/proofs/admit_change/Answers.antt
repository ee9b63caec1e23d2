-- `admit_change` meets its contract.
use Rattle.call_open.specs.ArgumentLaws.{change_insert, change_delete}
use Rattle.call_open.proofs.admit_change.Goals as goal

pub returns-in-Insert : goal.returns-in-Insert
returns-in-Insert c = change_insert _ _ _ _ c.in-Insert.is c.admit_insert.ensures

pub returns-in-Delete : goal.returns-in-Delete
returns-in-Delete c = change_delete _ _ _ _ c.in-Delete.is c.admit_rank.ensures
