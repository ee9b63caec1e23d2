-- Laws of laying out a part: its numbers are small, and what the steps of the code come to.
use Rattle.std.specs.Prelude.{◌≡◌, List, ◌++◌, ℕ, ◌+◌, ◌-◌, ◌*◌, ◌^◌, ◌≤◌, ◌<◌, max, length, take, drop, replicate}
use Rattle.std.proofs.Common.{◌∙◌, arith, mul-le-mul_left, mul-add}
use Rattle.base.specs.Lists.{total}
use Rattle.tree_sizes.specs.Sizes.{leaf_slots, slots}
use Rattle.tree_sizes.proofs.SizeLaws.{slots_le, leaf_slots_most}
use Rattle.tree_rules.specs.declared.Change.{Change}
use Rattle.tree_rules.specs.Compare.{count_after}
use Rattle.tree_rules.specs.Rules.{at_rank, InReach}
use Rattle.tree_rules.specs.ChangeLaws.{count_most, count_rank}
use Rattle.tree_counts.specs.declared.Part.{Part}
use Rattle.store_layout.specs.Leaf.{nonzero}
use Rattle.store_layout.specs.Ready.{LeavesReady, GatherReady, Gathered}
use Rattle.store_layout.proofs.LayoutLaws.{lay_leaves_take}
use Rattle.tree_rules.specs.ChangeList.{change_list}
use Rattle.store_slices.specs.Changed.{Changed}
use Rattle.store_part.specs.Region.{leaves_of, leaves_before}
use Rattle.store_part.specs.RegionLaws.{leaves_within}
use Rattle.store_part.specs.Plan.{part_from, part_length, part_counts, zeroed}
use Rattle.store_part.specs.LayPart.{part_entries, lay_entries, lay_part, PartReady, EntriesReady, LayReady}

-- The slots of a part are slots of the sheet.
pub part_within : (M : ℕ) (part : Part) → PartReady M part → part_from M part + part_length M part ≤ slots M
unfolding part_from part_length slots
part_within M part w =
    omega (
      arith,
      mul-le-mul_left (leaf_slots M)
          (leaves_within M part.range part.depth w.inside.depth_most w.inside.range_most),
      mul-add (leaf_slots M) (leaves_before M part.range part.depth) (leaves_of M part.depth),
    )

pub part_small : (M : ℕ) (part : Part) → PartReady M part → part_from M part + part_length M part < 2 ^ 64
part_small M part w = omega (arith, part_within M part w, slots_le M, w.most)

-- What laying out leaves asks, of the part.
pub leaves_ready : (M : ℕ) (part : Part) (counts list slots : List ℕ) → EntriesReady M part counts list slots
    → LeavesReady slots (part_from M part) (leaf_slots M) counts (part.range * leaves_of M part.depth) (leaves_of M part.depth) list
unfolding part_length part_counts
leaves_ready M part counts list slots w = record {
  slots_room = w.room;
  counts_room = w.counts_room;
  list_room = omega (arith, w.list_room);
  fit = w.fit;
  small = leaf_slots_most M w.part_ready.most;
}

pub part_list_room : {M : ℕ} {part : Part} {counts list slots : List ℕ} → EntriesReady M part counts list slots
    → total (take (leaves_of M part.depth) (drop (part.range * leaves_of M part.depth) counts)) < length list
unfolding part_counts
part_list_room w = w.list_room

-- ---- the steps of laying a part out anew

pub gather_ready : (M M' : ℕ) (part : Part) (change : Change) (counts slots list : List ℕ) → LayReady M M' part change counts slots
    → length (part_entries M part slots) + 1 < length list → GatherReady slots (part_from M part) (part_length M part) list
unfolding part_entries
gather_ready M M' part change counts slots list w room = record { slots_room = w.old_room; list_room = omega arith }

-- what was gathered, by the numbers that the code has
pub gathered_part : (M : ℕ) (part : Part) (slots list gathered : List ℕ) (from len n : ℕ) → from ≡ part_from M part → len ≡ part_length M part
    → Gathered (nonzero (take len (drop from slots))) list n gathered → Gathered (part_entries M part slots) list n gathered
unfolding part_entries
gathered_part M part slots list gathered from len n f l g = rw (f, l) at g

-- what was zeroed
pub zeroed_part : (M M' : ℕ) (part : Part) (slots cleared : List ℕ) (from' len' from len last : ℕ)
    → from' ≡ part_from M' part → len' ≡ part_length M' part → from ≡ part_from M part → len ≡ part_length M part → last ≡ max (from' + len') (from + len)
    → cleared ≡ take (from' + len') slots ++ replicate (last - (from' + len')) 0 ++ drop last slots
    → cleared ≡ zeroed (part_from M' part + part_length M' part) (max (part_from M' part + part_length M' part) (part_from M part + part_length M part)) slots
unfolding zeroed
zeroed_part M M' part slots cleared from' len' from len last f' l' f l m z = z ∙ rw (m, f', l', f, l)

-- The list before, with the n entries of the part gathered into it, and with these changed.
module _ {M M' : ℕ} {part : Part} {change here : Change} {n : ℕ} {counts slots list gathered : List ℕ}
    (ready : LayReady M M' part change counts slots) (room : length (part_entries M part slots) + 1 < length list)
    (here-is : here ≡ at_rank change part.rank)
    (g : Gathered (part_entries M part slots) list n gathered) where
  pub change_ready : InReach here n × (n < length gathered)
  change_ready = (rw (here-is, g.number) ready.reach, omega (arith, g.kept, g.number))

  module _ {e : ℕ} {changed : List ℕ} (c : Changed here e n gathered changed) where
    entries_are : take (count_after change (length (part_entries M part slots))) changed ≡ change_list (at_rank change part.rank) e (part_entries M part slots)
    entries_are = rw (count_rank change part.rank n, g.front, g.number) at (rw here-is at c.entries)

    pub entries_ready : (cleared : List ℕ) → length cleared ≡ length slots → EntriesReady M' part counts changed cleared
    entries_ready cleared same = record {
      part_ready = ready.new_part;
      room = rw same ready.new_room;
      counts_room = ready.counts_room;
      list_room = omega (arith, ready.counts_total, count_most change (length (part_entries M part slots)), c.kept, g.kept);
      fit = ready.counts_fit;
    }

    pub laid_anew : (cleared laid : List ℕ)
        → cleared ≡ zeroed (part_from M' part + part_length M' part) (max (part_from M' part + part_length M' part) (part_from M part + part_length M part)) slots
        → laid ≡ lay_entries M' part counts changed cleared
        → laid ≡ lay_part M M' part change e counts slots
    unfolding lay_part lay_entries
    laid_anew cleared laid z l =
        l ∙ rw (← entries_are, ← ready.counts_total, lay_leaves_take (leaf_slots M') (part_counts M' part counts) changed (total (part_counts M' part counts)) (omega arith), z)
