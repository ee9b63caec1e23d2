-- Laws of the counts of a store by range number.
use Rattle.std.specs.Prelude.{◌≡◌, List, ℕ, ◌*◌, ◌^◌, ◌≤◌, length, get_or}
use Rattle.base.specs.Lists.{Every}
use Rattle.tree_sizes.specs.Sizes.{height}
use Rattle.store_order.specs.CountOrder.{count_order}
use Rattle.store_layout.specs.Layout.{Store}
use Rattle.store_layout.specs.Decode.{numbered}
use Rattle.store_order.proofs.CountOrderLaws.{length_number_order, count_order_size, number_order_size, number_order_root, every_number_order, number_count, count_number}

module _ (store : Store) where
  pub length_numbered : length (numbered store) ≡ length store.counts
  unfolding numbered
  length_numbered = length_number_order (height (get_or store.counts 0 0)) store.counts

  pub every_numbered : (P : ℕ → Type 0) → Every P store.counts → P 0 → Every P (numbered store)
  unfolding numbered
  every_numbered = every_number_order (height (get_or store.counts 0 0)) store.counts

  pub numbered_size : get_or (numbered store) 0 0 ≡ get_or store.counts 0 0
  unfolding numbered
  numbered_size = number_order_size (height (get_or store.counts 0 0)) store.counts

  pub numbered_root : get_or (numbered store) 1 0 ≡ get_or store.counts 1 0
  unfolding numbered
  numbered_root = number_order_root (height (get_or store.counts 0 0)) store.counts

  -- Put back into the order of the store, they are what stands there.
  pub numbered_back : 2 * 2 ^ height (get_or store.counts 0 0) ≤ length store.counts
      → count_order (height (get_or (numbered store) 0 0)) (numbered store) ≡ store.counts
  unfolding numbered
  numbered_back fits = rw numbered_size (count_number (height (get_or store.counts 0 0)) store.counts fits)

-- A store that was given counts by range number has these.
pub numbered_given : (all counts : List ℕ) → 2 * 2 ^ height (get_or counts 0 0) ≤ length counts
    → numbered (record { slots = all; counts = count_order (height (get_or counts 0 0)) counts }) ≡ counts
unfolding numbered
numbered_given all counts fits =
    rw (count_order_size (height (get_or counts 0 0)) counts) (number_count (height (get_or counts 0 0)) counts fits)
