-- What the conversions of the clubs' counts leave.
use Rattle.std.specs.Prelude.{Ok, List, ◌≡◌, ℕ, get_or}
use Rattle.std.proofs.Common.{sym}
use Rattle.tree_sizes.specs.Sizes.{height}
use Rattle.store_order.specs.CountOrder.{count_order, number_order}
use Rattle.call_outcomes.specs.declared.Answer.TheVariants.{Converted}
use Rattle.call_outcomes.specs.Clubs.{clubs}
use Rattle.call_orders.specs.Conversion.{to_tree, to_number, Convertible, Conversion, conversion}
use Rattle.call_orders.proofs.ConversionLaws.{conversion_done}

module _ {counts new : List ℕ} (c : Convertible clubs counts) where
  -- Written in the tree order.
  pub tree_order_done : new ≡ count_order (height (get_or counts 0 0)) counts
      → ◌≡◌ {A = Conversion} (record { answer = Ok (Converted (get_or counts 0 0)); counts = new }) (conversion clubs to_tree counts)
  unfolding to_tree
  tree_order_done written = rw written (sym (conversion_done clubs to_tree counts c))

  -- Read by range number.
  pub number_order_done : new ≡ number_order (height (get_or counts 0 0)) counts
      → ◌≡◌ {A = Conversion} (record { answer = Ok (Converted (get_or counts 0 0)); counts = new }) (conversion clubs to_number counts)
  unfolding to_number
  number_order_done read = rw read (sym (conversion_done clubs to_number counts c))
