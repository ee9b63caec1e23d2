-- `update_tallies` meets its contract.
use mathlib.Core.List.{List}
use Prim.Native.Nat.{ℕ, ◌+◌}
use native.Mathlib.Omega.{arith}
use Rattle.store_scoring.specs.Scoring.{tally}
use Rattle.store_sums.specs.Updating.{Filled, RowsReady}
use Rattle.store_sums.specs.UpdatingLaws.{updating_leaves}
use Rattle.store_tallies.specs.TalliesIn.{tally_at}
use Rattle.store_tallies.specs.AdditiveLaws.{tally_additive}
use Rattle.store_tallies.proofs.update_tallies.Goals.{After-count_leaves}
use Rattle.store_tallies.proofs.update_tallies.Goals as goal

-- The leaves have their tallies.
abbrev ready : (c : After-count_leaves) (words : List ℕ)
    → let a = c.args in
    Filled (tally_at a.size.m a.slots.now 0) a.first (a.last + 1) a.tallies.now words → RowsReady a.first a.last words
ready c words counted =
    let leaves = c.requires.leaves in
    record {
      measure = tally;
      sums = tally_additive;
      start = 0;
      M = c.args.size.m;
      slots = c.args.slots.now;
      most = c.requires.most;
      room = omega (arith, c.requires.room, counted.kept);
      leaves = updating_leaves leaves.0 leaves.1 leaves.2 c.requires.others counted;
    }

pub count_leaves-requires : goal.count_leaves-requires
count_leaves-requires c =
    record { most = omega arith; slots = c.requires.slots; room = omega arith; leaves = (omega arith, omega arith, omega arith); numbers = omega arith; counted = c.requires.counted }

pub add_rows-requires : goal.add_rows-requires
add_rows-requires c = ready (goal.at.add_rows-requires c).After-count_leaves _ c.count_leaves.ensures

pub returns : goal.returns
returns c =
    c.add_rows.ensures.all (ready (goal.at.returns c).After-count_leaves _ c.count_leaves.ensures)
