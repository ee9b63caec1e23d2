-- The lengths of a timed store, by those of its slices.
use Rattle.std.specs.Prelude.{◌≡◌, refl, List, ◌&&◌, ℕ, eqb, length}
use Rattle.store_layout.specs.declared.Capacity.{Capacity}
use Rattle.call_outcomes.specs.Untallied.{right_lengths}
use Rattle.call_outcomes.specs.Slice.{lengths_with}
use Rattle.call_timed.specs.Timed.{timed_view, timed_store_of}

-- The test of the lengths is that of the view.
pub lengths_tested : (cap : Capacity) (slots counts tallies balance : List ℕ)
    → ((eqb (length slots) cap.slots && eqb (length counts) cap.counts && eqb (length tallies) cap.counts) && eqb (length balance) cap.counts)
    ≡ (timed_view cap).right_lengths (timed_store_of slots counts tallies balance)
unfolding lengths_with right_lengths
lengths_tested cap slots counts tallies balance = refl
