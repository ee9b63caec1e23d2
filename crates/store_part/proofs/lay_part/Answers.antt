-- `store_part::lay_part` meets its contract.
use Rattle.store_part.specs.LayPartLaws.{gather_ready, gathered_part, zeroed_part, change_ready, entries_ready, laid_anew}
use Rattle.store_part.proofs.lay_part.Goals as goal

pub gather-n-requires : goal.gather-n-requires
gather-n-requires c =
    rw (c.part_from-old_from.ensures, c.part_length-old_length.ensures)
    (gather_ready _ _ _ _ _ _ _ c.requires.ready c.requires.room)

pub change_list-requires : goal.change_list-requires
change_list-requires c =
    let both = change_ready c.requires.ready c.requires.room c.at_rank-here.ensures
    (gathered_part _ _ _ _ _ _ _ _ c.part_from-old_from.ensures c.part_length-old_length.ensures
    c.gather-n.ensures) in record { reach = both.0; room = both.1 }

pub lay_entries-requires : goal.lay_entries-requires
lay_entries-requires c =
    entries_ready c.requires.ready c.requires.room c.at_rank-here.ensures
    (gathered_part _ _ _ _ _ _ _ _ c.part_from-old_from.ensures c.part_length-old_length.ensures c.gather-n.ensures)
    c.change_list.ensures _ c.zero_slots.auto.slots

pub returns : goal.returns
returns c =
    laid_anew c.requires.ready c.requires.room c.at_rank-here.ensures
    (gathered_part _ _ _ _ _ _ _ _ c.part_from-old_from.ensures c.part_length-old_length.ensures c.gather-n.ensures)
    c.change_list.ensures _ _
    (zeroed_part _ _ _ _ _ _ _ _ _ _ c.part_from.ensures c.part_length.ensures c.part_from-old_from.ensures c.part_length-old_length.ensures
    c.max-last.ensures c.zero_slots.ensures)
    c.lay_entries.ensures
