-- The tallies of a list with a shape are what the slots of its layout give, and no other numbers are; so are the counts of its leaves.
use Rattle.std.specs.Prelude.{◌≡◌, List, ℕ, ◌+◌, ◌*◌, ◌^◌, length, take, drop}
use Rattle.std.proofs.Common.{sym, ◌∙◌, arith}
use Rattle.std.proofs.Math.Path.{ap}
use Rattle.std.proofs.Math.Nat.{sub-zero}
use Rattle.tree_sizes.specs.Sizes.{height}
use Rattle.tree_rules.specs.Tree.{Tree, leaf, node, Shape}
use Rattle.tree_counts.specs.Counts.{Holds, shape_counts}
use Rattle.store_layout.specs.declared.Capacity.{Capacity}
use Rattle.store_layout.specs.Layout.{lay_slots}
use Rattle.store_layout.specs.Sheet.{IsContents}
use Rattle.store_layout.specs.Room.{Roomy}
use Rattle.store_order.specs.CountOrder.{count_order}
use Rattle.store_scoring.specs.Scoring.{tally}
use Rattle.store_sums.specs.Numbers.{number_at}
use Rattle.store_sums.specs.LaidLaws.{HoldsOf, laid_range, counts_laid, numbers_only}
use Rattle.store_tallies.specs.Tallies.{range_tallies, lay_tallies}
use Rattle.store_tallies.specs.TalliesIn.{LeavesCounted, TalliesIn}
use Rattle.store_tallies.specs.TallyTree.{tally_tree}
use Rattle.store_tallies.specs.LayLaws.{tally_rest, length_range_tallies, range_tallies_holds, range_tallies_zero, range_tallies_unused}

-- The tallies are numbers of the ranges.
tallies_of : (words : List ℕ) (k : ℕ) (entries : List ℕ) (t : Tree) → Holds words k (tally entries) (tally_tree entries t) → HoldsOf tally words k entries t
unfolding HoldsOf Holds tally_tree
tallies_of words k entries leaf holds = holds
tallies_of words k entries (node b l r) holds = (
  holds.0,
  tallies_of words (2 * k) (take b entries) l holds.1,
  tallies_of words (2 * k + 1) (drop b entries) r (rw (tally_rest b entries) at holds.2),
)

module _ (cap : Capacity) (roomy : Roomy cap) (list : List ℕ) (s : Shape) (w : IsContents cap list s) where
  -- At the number of each range stands the number of scoring entries in its slots.
  pub tallies_laid : TalliesIn s.size (lay_slots cap.slots list s) (range_tallies cap.counts list s)
  tallies_laid = record {
    zero = range_tallies_zero cap roomy list s w;
    ranges = laid_range cap roomy list s w tally (range_tallies cap.counts list s)
        (tallies_of (range_tallies cap.counts list s) 1 list s.tree (range_tallies_holds cap roomy list s w));
    unused = range_tallies_unused cap roomy list s w;
  }

  -- The counts of the leaves are the numbers of entries in their slots.
  pub leaves_counted : LeavesCounted s.size (lay_slots cap.slots list s) (2 ^ height s.size) (2 * 2 ^ height s.size) (shape_counts cap.counts (length list) s)
  unfolding number_at
  leaves_counted k from before =
      let h = height s.size in
      (counts_laid cap roomy list s w).ranges 0 k (record { inside = omega arith; from = rw (sub-zero h) from; before = rw (sub-zero h) before })

-- ---- no other numbers are the tallies

module _ (cap : Capacity) (roomy : Roomy cap) (list : List ℕ) (s : Shape) (w : IsContents cap list s) (words : List ℕ)
    (found : TalliesIn s.size (lay_slots cap.slots list s) words) (room : length words ≡ cap.counts) where
  pub tallies_found : words ≡ range_tallies cap.counts list s
  tallies_found =
      numbers_only tally 0 s.size (lay_slots cap.slots list s) words (range_tallies cap.counts list s) found (tallies_laid cap roomy list s w)
      (room ∙ sym (length_range_tallies cap.counts list s))

  pub tallies_ordered : count_order (height s.size) words ≡ lay_tallies cap.counts list s
  unfolding lay_tallies
  tallies_ordered = ap (count_order (height s.size)) tallies_found
