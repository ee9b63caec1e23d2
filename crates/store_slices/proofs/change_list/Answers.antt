-- `change_list` meets its contract.
use native.Mathlib.Omega.{arith}
use Rattle.store_slices.specs.ChangedLaws.{insert_within, delete_within, put_in_changed, take_out_changed}
use Rattle.store_slices.proofs.change_list.Goals as goal

pub put_in-requires : goal.put_in-requires
put_in-requires c =
    record { within = insert_within c.args.n c.requires.reach c.in-Insert.is; room = omega arith }

pub take_out-requires : goal.take_out-requires
take_out-requires c =
    record { within = delete_within c.args.n c.requires.reach c.in-Delete.is; room = omega arith }

pub returns-in-Insert : goal.returns-in-Insert
returns-in-Insert c =
    put_in_changed c.requires.reach c.put_in.auto.list c.in-Insert.is (omega arith) c.put_in.ensures

pub returns-in-Delete : goal.returns-in-Delete
returns-in-Delete c =
    take_out_changed c.requires.reach c.take_out.auto.list c.in-Delete.is (omega arith) c.take_out.ensures
