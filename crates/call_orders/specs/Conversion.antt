-- The conversions between the order of the range numbers and the tree order (document 02, F-5). Definitions only.
use Rattle.std.specs.Prelude.{Result, Ok, Err, not, List, ◌≡◌, ℕ, ◌-◌, ◌*◌, ◌≤◌, eqb, ltb, length, get_or}
use Rattle.std.proofs.Math.Option.{Option, some, none}
use Rattle.tree_sizes.specs.Sizes.{height}
use Rattle.store_order.specs.CountOrder.{count_order, number_order}
use Rattle.store_layout.specs.declared.Capacity.{Capacity}
use Rattle.store_layout.specs.Layout.{Store}
use Rattle.call_outcomes.specs.declared.Cause.{Cause}
use Rattle.call_outcomes.specs.declared.Cause.TheVariants.{Lengths, NotASheet}
use Rattle.call_outcomes.specs.declared.Answer.{Answer}
use Rattle.call_outcomes.specs.declared.Answer.TheVariants.{Converted}
use Rattle.call_outcomes.specs.Causes.{first_of}

-- The counts of the ranges of M's tree, where number 0 is M: from the range numbers to the tree order, and back.
unfoldable pub to_tree : List ℕ → List ℕ
to_tree counts = count_order (height (get_or counts 0 0)) counts

unfoldable pub to_number : List ℕ → List ℕ
to_number counts = number_order (height (get_or counts 0 0)) counts

-- Cause 1 for another number of counts, cause 2 where no sheet has so large an M.
unfoldable pub conversion_cause : Capacity → List ℕ → Option Cause
conversion_cause cap counts = first_of (not (eqb (length counts) cap.counts)) Lengths (first_of (ltb (2 * cap.entries - 1) (get_or counts 0 0)) NotASheet none)

-- Counts that neither cause refuses.
pub record Convertible (cap : Capacity) (counts : List ℕ) : Type 0 where
  pub lengths : length counts ≡ cap.counts
  pub size : get_or counts 0 0 ≤ 2 * cap.entries - 1

-- What a conversion comes to: the answer, or the cause that refuses it; and the counts after it.
pub record Conversion : Type 0 where
  pub answer : Result Answer Cause
  pub counts : List ℕ

-- A refused one changes nothing.
unfoldable pub conversion_by : (List ℕ → List ℕ) → List ℕ → Option Cause → Conversion
conversion_by convert counts (some cause) = record { answer = Err cause; counts = counts }
conversion_by convert counts none = record { answer = Ok (Converted (get_or counts 0 0)); counts = convert counts }

unfoldable pub conversion : Capacity → (List ℕ → List ℕ) → List ℕ → Conversion
conversion cap convert counts = conversion_by convert counts (conversion_cause cap counts)

-- A store with its counts converted to the tree order.
unfoldable pub to_tree_order : Capacity → Store → Store
to_tree_order cap store = record { slots = store.slots; counts = (conversion cap to_tree store.counts).counts }
