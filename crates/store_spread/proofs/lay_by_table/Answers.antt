-- `lay_by_table` meets its contract. The loop's invariant: so many leaves are laid out as counts are seen (`Laid`), and the list is as it was.
use Rattle.std.proofs.Common.{◌≡◌, ℕ, ◌-◌, get_or, take, drop}
use Rattle.std.proofs.lemmas.List.Edits.{get_or-between}
use mathlib.Core.Path.{refl, ◌∙◌}
use Prim.Native.Nat.{◌+◌, ◌<◌}
use lib.ListN.{length}
use native.Mathlib.Omega.{arith}
use borrow.Author.Rules.{rules}
use Rattle.store_layout.proofs.LeavesLoop.{laid_none}
use Rattle.store_spread.specs.LeavesTableLaws.{restored, end_room, table_ready, laid_next}
use Rattle.store_spread.proofs.lay_by_table.Goals.{In-loop-count}
use Rattle.store_spread.proofs.lay_by_table.Goals as goal

-- The number of a turn's leaf.
abbrev number : (g : _) → In-loop-count g → ℕ
number g c = let a = c.args in get_or (take (a.first + a.leaves - a.first) (drop a.first a.counts.now)) c.loop-count.count-index 0

here : (g : _) (c : In-loop-count g) → number g c ≡ get_or c.args.counts.now (c.args.first + c.loop-count.count-index) 0
here g c = get_or-between c.args.counts.now c.args.first (c.args.first + c.args.leaves) c.loop-count.count-index 0 (omega arith)

-- At each turn there is room behind the leaf's entries.
room : (g : _) (c : In-loop-count g)
    → c.loop-count.at + number g c < length c.args.list.now
room g c =
    end_room c.requires.ready c.requires.room c.loop-count.invariant.0 (omega arith) (omega arith) (here g c)

behind : (g : _) (c : In-loop-count g) → let l = c.loop-count in l.at + number g c < length l.list
behind g c = rw c.loop-count.invariant.1 (room g c)

pub loop-count-init : goal.loop-count-init
loop-count-init g c = (laid_none c.requires.ready, refl)

pub overflow_add-end : goal.overflow_add-end
overflow_add-end g c = omega (arith, room g (goal.at.overflow_add-end g c).In-loop-count)

pub offset_bounds-list-end : goal.offset_bounds-list-end
offset_bounds-list-end g c = omega (arith, room g (goal.at.offset_bounds-list-end g c).In-loop-count)

pub bounds-list-end : goal.bounds-list-end
bounds-list-end g c = behind g (goal.at.bounds-list-end g c).In-loop-count

pub offset_bounds-list-end-in-loop-count : goal.offset_bounds-list-end-in-loop-count
offset_bounds-list-end-in-loop-count g c = omega (arith, room g (goal.at.offset_bounds-list-end-in-loop-count g c).In-loop-count)

pub bounds-list-end-in-loop-count : goal.bounds-list-end-in-loop-count
bounds-list-end-in-loop-count g c = behind g (goal.at.bounds-list-end-in-loop-count g c).In-loop-count

pub spread_leaf-requires : goal.spread_leaf-requires
spread_leaf-requires g c =
    rw c.loop-count.invariant.1
    (table_ready c.requires.ready c.requires.room c.loop-count.invariant.0 (omega arith) (omega arith) (here g (goal.at.spread_leaf-requires g c).In-loop-count) c.requires.table)

pub offset_bounds-list-end-in-loop-count-2 : goal.offset_bounds-list-end-in-loop-count-2
offset_bounds-list-end-in-loop-count-2 g c = omega (arith, room g (goal.at.offset_bounds-list-end-in-loop-count-2 g c).In-loop-count)

pub bounds-list-end-in-loop-count-2 : goal.bounds-list-end-in-loop-count-2
bounds-list-end-in-loop-count-2 g c = search (rules, behind g (goal.at.bounds-list-end-in-loop-count-2 g c).In-loop-count)

pub loop-count-preserved : goal.loop-count-preserved
loop-count-preserved g c = (
  laid_next c.requires.ready c.requires.room c.loop-count.invariant.0 (omega arith) (omega arith) (here g (goal.at.loop-count-preserved g c).In-loop-count)
      (c.spread_leaf.ensures ∙ rw c.loop-count.invariant.1),
  restored c.loop-count.list (c.loop-count.at + number g (goal.at.loop-count-preserved g c).In-loop-count) ∙ c.loop-count.invariant.1,
)
