-- The rules at work on written cases.
use Rattle.std.specs.Prelude.{◌≡◌, refl, ◌+◌}
use Rattle.base.specs.Cases.{if_eq, if_lt, if_le}
use Rattle.draw_shares.specs.Program.{done, draw}
use Rattle.tree_sizes.specs.Sizes.{ceil_div, window_start}
use Rattle.tree_rules.specs.declared.Change.TheVariants.{Insert, Delete}
use Rattle.tree_rules.specs.declared.Comparison.TheVariants.{Unchanged, Swapped}
use Rattle.tree_rules.specs.Rules.{kept, anew, shrink, delete_size}
use Rattle.tree_rules.specs.Compare.{count_after, rank_after, ranks_from, window, is_member, is_among, keep_if, some_of, leaving, entering, compare, first_of_each}

-- 10 entries with 3 candidates, ranks 3 to 5; 11 entries: ranks 4 to 6
insert_behind : compare (Insert 8) 10 3 ≡ Swapped 3 6
unfolding compare leaving entering first_of_each keep_if some_of is_among is_member window ranks_from window_start ceil_div count_after rank_after if_eq if_lt
insert_behind = refl

insert_before : compare (Insert 2) 10 3 ≡ Unchanged
unfolding compare leaving entering first_of_each keep_if some_of is_among is_member window ranks_from window_start ceil_div count_after rank_after if_eq if_lt
insert_before = refl

-- the candidate of rank 4 goes out of 10 entries; ranks 3 to 5 of the 9 that are left had the ranks 3, 5, 6 before
delete_candidate : compare (Delete 4) 10 3 ≡ Swapped 4 5
unfolding compare leaving entering first_of_each keep_if some_of is_among is_member window ranks_from window_start ceil_div count_after rank_after if_eq if_lt
delete_candidate = refl

-- delete with N = 5: M = 9 draws among 8, M = 7 is kept
delete_draws : delete_size 5 9 ≡ draw 8 (λ f. done (anew (if_lt f 3 (5 + f) 4)))
unfolding delete_size shrink if_eq if_le
delete_draws = refl

delete_keeps : delete_size 5 7 ≡ done kept
unfolding delete_size if_eq if_le
delete_keeps = refl
