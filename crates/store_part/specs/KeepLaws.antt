-- A part laid out anew in a sheet of the same size: the slots before it and behind it stay.
use Rattle.std.specs.Prelude.{◌≡◌, List, ◌++◌, ℕ, ◌+◌, ◌*◌, length, take, drop}
use Rattle.std.proofs.Common.{◌∙◌, append_assoc, arith, length-append, length-take-le, take_at, drop_at}
use Rattle.std.proofs.Math.Path.{ap}
use Rattle.std.proofs.Math.Nat.{max-eq_left}
use Rattle.std.proofs.Math.ListN.{length-drop}
use Rattle.tree_sizes.specs.Sizes.{leaf_slots}
use Rattle.tree_rules.specs.declared.Change.{Change}
use Rattle.tree_rules.specs.Rules.{at_rank}
use Rattle.tree_rules.specs.ChangeList.{change_list}
use Rattle.tree_counts.specs.declared.Part.{Part}
use Rattle.store_layout.specs.Layout.{lay_leaves}
use Rattle.store_layout.proofs.LayoutLaws.{length_lay_leaves}
use Rattle.store_part.specs.Region.{leaves_of}
use Rattle.store_part.specs.Plan.{part_from, part_length, part_counts}
use Rattle.store_part.specs.PlanLaws.{zeroed_none}
use Rattle.store_part.specs.LayPart.{part_entries, lay_entries, lay_part, LayReady}

module _ {M : ℕ} {part : Part} {change : Change} {counts slots : List ℕ} (w : LayReady M M part change counts slots) (e : ℕ) where
  abbrev from : ℕ
  from = part_from M part

  abbrev end : ℕ
  end = part_from M part + part_length M part

  abbrev new : List ℕ
  new = lay_leaves (leaf_slots M) (part_counts M part counts) (change_list (at_rank change part.rank) e (part_entries M part slots))

  laid : lay_part M M part change e counts slots ≡ take from slots ++ new ++ drop end slots
  unfolding lay_part lay_entries
  laid = rw (max-eq_left {n = end} {m = end} (omega arith), zeroed_none end slots)

  front : length (take from slots) ≡ from
  front = length-take-le from slots (omega (arith, w.new_room))

  new_length : length new ≡ part_length M part
  unfolding part_length part_counts
  new_length =
      let leaves = leaves_of M part.depth in
      length_lay_leaves (leaf_slots M) (part_counts M part counts) _
      ∙ ap (λ (k : ℕ). leaf_slots M * k)
      (length-take-le leaves (drop (part.range * leaves) counts) (omega (arith, length-drop (part.range * leaves) counts, w.counts_room)))

  pub slots_before : take from (lay_part M M part change e counts slots) ≡ take from slots
  slots_before =
      ap (take from) (laid ∙ append_assoc (take from slots) new (drop end slots)) ∙ take_at (take from slots) (new ++ drop end slots) from front

  pub slots_behind : drop end (lay_part M M part change e counts slots) ≡ drop end slots
  slots_behind =
      ap (drop end) laid
      ∙ drop_at (take from slots ++ new) (drop end slots) end (length-append (take from slots) new ∙ rw (front, new_length))
