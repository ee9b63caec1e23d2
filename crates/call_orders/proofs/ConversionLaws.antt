-- The conversions take any contents with an M that a sheet can have, and are each other's inverse.
use Rattle.std.specs.Prelude.{Ok, Err, List, ◌≡◌, ◌≢◌, ℕ, ◌-◌, ◌*◌, ◌^◌, ◌≤◌, ◌<◌, get_or}
use Rattle.std.proofs.Math.Option.{Option, some, none}
use Rattle.std.proofs.Math.Path.{refl}
use Rattle.std.proofs.Common.{◌∙◌}
use Rattle.std.proofs.Math.ListN.{length}
use borrow.Author.Tests.{eq-eqb, ne_eqb, le-ltb, lt-ltb}
use Rattle.tree_sizes.specs.Sizes.{height}
use Rattle.store_order.proofs.CountOrderLaws.{length_count_order, length_number_order, count_order_size, number_order_size, number_count, count_number}
use Rattle.store_layout.specs.declared.Capacity.{Capacity}
use Rattle.store_layout.specs.Room.{Roomy}
use Rattle.store_layout.specs.RoomLaws.{counts_enough}
use Rattle.call_outcomes.specs.declared.Cause.{Cause}
use Rattle.call_outcomes.specs.declared.Cause.TheVariants.{Lengths, NotASheet}
use Rattle.call_outcomes.specs.declared.Answer.TheVariants.{Converted}
use Rattle.call_outcomes.specs.Causes.{first_of}
use Rattle.call_orders.specs.Conversion.{to_tree, to_number, conversion_cause, Convertible, conversion_by, conversion}

-- ---- accepted and refused

module _ (cap : Capacity) (convert : List ℕ → List ℕ) (counts : List ℕ) where
  pub conversion_lengths : length counts ≢ cap.counts → conversion cap convert counts ≡ record { answer = Err Lengths; counts = counts }
  unfolding conversion conversion_by conversion_cause first_of
  conversion_lengths d = rw (ne_eqb (length counts) cap.counts d)

  pub conversion_size : length counts ≡ cap.counts → 2 * cap.entries - 1 < get_or counts 0 0
      → conversion cap convert counts ≡ record { answer = Err NotASheet; counts = counts }
  unfolding conversion conversion_by conversion_cause first_of
  conversion_size e g = rw (eq-eqb (length counts) cap.counts e, lt-ltb (2 * cap.entries - 1) (get_or counts 0 0) g)

  pub conversion_done : Convertible cap counts → conversion cap convert counts ≡ record { answer = Ok (Converted (get_or counts 0 0)); counts = convert counts }
  unfolding conversion conversion_by conversion_cause first_of
  conversion_done c =
      rw (eq-eqb (length counts) cap.counts c.lengths, le-ltb (2 * cap.entries - 1) (get_or counts 0 0) c.size)

  -- The counts are as many as they were.
  pub length_conversion : ((xs : List ℕ) → length (convert xs) ≡ length xs) → length (conversion cap convert counts).counts ≡ length counts
  unfolding conversion conversion_by
  length_conversion kept = go (conversion_cause cap counts)
    where
      go : (cause : Option Cause) → length (conversion_by convert counts cause).counts ≡ length counts
      go none = kept counts
      go (some cause) = refl

-- ---- each other's inverse

module _ (cap : Capacity) (roomy : Roomy cap) (counts : List ℕ) (c : Convertible cap counts) where
  pub tree_room : 2 * 2 ^ height (get_or counts 0 0) ≤ length counts
  tree_room = rw c.lengths (counts_enough cap roomy (get_or counts 0 0) c.size)

  -- M stays, and so what is converted can be converted back.
  to_tree_lem : Convertible cap (to_tree counts)
  unfolding to_tree
  to_tree_lem = record {
    lengths = length_count_order (height (get_or counts 0 0)) counts ∙ c.lengths;
    size = rw (count_order_size (height (get_or counts 0 0)) counts) c.size;
  }

  to_number_lem : Convertible cap (to_number counts)
  unfolding to_number
  to_number_lem = record {
    lengths = length_number_order (height (get_or counts 0 0)) counts ∙ c.lengths;
    size = rw (number_order_size (height (get_or counts 0 0)) counts) c.size;
  }

  pub there_and_back : conversion cap to_number (conversion cap to_tree counts).counts ≡ record { answer = Ok (Converted (get_or counts 0 0)); counts = counts }
  unfolding to_tree to_number
  there_and_back =
      let h = height (get_or counts 0 0) in
      rw (conversion_done cap to_tree counts c)
      (conversion_done cap to_number (to_tree counts) to_tree_lem ∙ rw (count_order_size h counts, number_count h counts tree_room))

  pub back_and_there : conversion cap to_tree (conversion cap to_number counts).counts ≡ record { answer = Ok (Converted (get_or counts 0 0)); counts = counts }
  unfolding to_tree to_number
  back_and_there =
      let h = height (get_or counts 0 0) in
      rw (conversion_done cap to_number counts c)
      (conversion_done cap to_tree (to_number counts) to_number_lem ∙ rw (number_order_size h counts, count_number h counts tree_room))
