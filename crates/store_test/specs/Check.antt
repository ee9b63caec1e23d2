-- The tests by which code checks a store: its ranges, its leaves, and that everything unused is zero. Definitions only.
use Rattle.std.specs.Prelude.{ℕ, zero, suc, ◌+◌, ◌-◌, ◌*◌, ◌^◌, Bool, true, ◌&&◌, List, take, drop, ◌==◌, nat_le, nat_lt, slice_index, slice_index_or}
use Rattle.tree_sizes.specs.Sizes.{ceil_div, height, leaf_slots, slots, candidates, half_candidates, window_start}
use Rattle.store_leaf_test.specs.Check.{leaves_test}
use Rattle.store_zeros.specs.AllZero.{all_zero}

-- The range k, which is no leaf and has c candidates: its balance entry is one of them, and the counts of its halves add up to its own.
unfoldable pub range_test : List ℕ → ℕ → ℕ → Bool
range_test counts c k =
    let n = slice_index_or counts k 0 in
    let b = slice_index_or counts (2 * k) 0 in
    nat_le (window_start n c) b && nat_lt b (window_start n c + c) && slice_index counts (2 * k + 1) == n - b

-- In a sheet of size M, the range k at depth d, `levels` above the leaves, and the ranges below it.
unfoldable pub tree_test : List ℕ → ℕ → ℕ → ℕ → ℕ → Bool
tree_test counts M zero d k = true
tree_test counts M (suc levels) d k =
    range_test counts (candidates M d) k
    && tree_test counts M levels (suc d) (2 * k)
    && tree_test counts M levels (suc d) (2 * k + 1)

-- The same of the range k by sums alone: nothing is asked of the number of its entries.
unfoldable pub sums_test : List ℕ → ℕ → ℕ → Bool
sums_test counts c k =
    let n = slice_index_or counts k 0 in
    let b = slice_index_or counts (2 * k) 0 in
    (b + slice_index counts (2 * k + 1) == n)
    && nat_le (ceil_div n 2) (b + half_candidates c)
    && nat_lt (b + half_candidates c) (ceil_div n 2 + c)

-- The ranges k, k + 1, .., n in all, with c candidates each.
unfoldable pub ranges_test : List ℕ → ℕ → ℕ → ℕ → Bool
ranges_test counts c k zero = true
ranges_test counts c k (suc n) = sums_test counts c k && ranges_test counts c (suc k) n

-- The same of so many levels, from these ranges down: the halves of a range have half as many candidates, rounded up.
unfoldable pub levels_test : List ℕ → ℕ → ℕ → ℕ → ℕ → Bool
levels_test counts c zero k n = true
levels_test counts c (suc levels) k n = ranges_test counts c k n && levels_test counts (half_candidates c) levels (2 * k) (2 * n)

-- The counts are those of a shape of at most `entries` entries, and 0 at every number that is not in use.
unfoldable pub counts_test : ℕ → List ℕ → Bool
counts_test entries counts =
    let M = slice_index_or counts 0 0 in
    let N = slice_index_or counts 1 0 in
    nat_le N entries
    && nat_le N M
    && nat_le M (2 * N - 1)
    && tree_test counts M (height M) 0 1
    && all_zero (drop (2 * 2 ^ height M) counts)

-- The slots are those of the leaves whose numbers of entries the counts tell, and 0 behind the last leaf.
unfoldable pub slots_test : List ℕ → List ℕ → Bool
slots_test all counts =
    let M = slice_index_or counts 0 0 in
    leaves_test (leaf_slots M) (take (2 ^ height M) (drop (2 ^ height M) counts)) all && all_zero (drop (slots M) all)

-- A store with these slots, and these counts by range number, is a sheet for at most `entries` entries. (`CheckLaws` shows that this is the
-- test `sheet_test`.)
unfoldable pub store_test : ℕ → List ℕ → List ℕ → Bool
store_test entries all counts = counts_test entries counts && slots_test all counts
