-- A change and the number of entries, and a change seen from a half of its range: ranks and numbers of entries.
use Rattle.std.specs.Prelude.{◌≡◌, refl, ℕ, suc, ◌-◌, ◌≤◌, ◌<◌}
use Rattle.std.proofs.Common.{sym, ◌∙◌, arith}
use Rattle.base.specs.Cases.{if_lt}
use Rattle.base.specs.CaseLaws.{if_lt_yes, if_lt_no}
use Rattle.tree_rules.specs.declared.Change.{Change}
use Rattle.tree_rules.specs.declared.Change.TheVariants.{Insert, Delete}
use Rattle.tree_rules.specs.Compare.{count_after}
use Rattle.tree_rules.specs.Rules.{rank_of, at_rank, InReach}
use Rattle.tree_rules.specs.Moves.{rank_now, GoesOut}

-- ---- the number of entries after a change

pub count_most : (change : Change) (n : ℕ) → count_after change n ≤ suc n
unfolding count_after
count_most (Insert i) n = omega arith
count_most (Delete i) n = omega arith

pub count_least : (change : Change) (n : ℕ) → n ≤ suc (count_after change n)
unfolding count_after
count_least (Insert i) n = omega arith
count_least (Delete i) n = omega arith

-- ---- a change at another rank

pub count_rank : (change : Change) (j n : ℕ) → count_after (at_rank change j) n ≡ count_after change n
unfolding count_after at_rank
count_rank (Insert i) j n = refl
count_rank (Delete i) j n = refl

pub rank_rank : (change : Change) (i j : ℕ) → at_rank (at_rank change i) j ≡ at_rank change j
unfolding at_rank
rank_rank (Insert r) i j = refl
rank_rank (Delete r) i j = refl

pub rank_itself : (change : Change) → at_rank change (rank_of change) ≡ change
unfolding at_rank rank_of
rank_itself (Insert r) = refl
rank_itself (Delete r) = refl

-- ---- an entry behind the balance entry, of rank b: the right half gains or loses it

pub right_reach : (change : Change) (n b : ℕ) → b < rank_of change → InReach change n → InReach (at_rank change (rank_of change - b)) (n - b)
unfolding InReach rank_of at_rank
right_reach (Insert i) n b l h = omega (arith, l, h)
right_reach (Delete i) n b l h = omega (arith, l, h)

pub right_count : (change : Change) (n b : ℕ) → b < rank_of change → InReach change n → count_after change n - b ≡ count_after change (n - b)
unfolding InReach rank_of count_after
right_count (Insert i) n b l h = omega (arith, l, h)
right_count (Delete i) n b l h = omega (arith, l, h)

pub right_after : (change : Change) (n b : ℕ) → b < rank_of change → InReach change n
    → count_after (at_rank change (rank_of change - b)) (n - b) ≡ count_after change n - b
right_after change n b l h = count_rank change (rank_of change - b) (n - b) ∙ sym (right_count change n b l h)

-- ---- an entry before it: the left half does; the balance entry itself does not go out

pub left_reach : (change : Change) (b : ℕ) → rank_of change ≤ b → ¬ GoesOut change b → InReach change b
unfolding InReach rank_of GoesOut
left_reach (Insert i) b l stays = l
left_reach (Delete i) b l stays = omega (arith, l, stays)

pub left_count : (change : Change) (n b : ℕ) → b ≤ n → InReach change b → count_after change n - count_after change b ≡ n - b
unfolding InReach count_after
left_count (Insert i) n b l h = omega arith
left_count (Delete i) n b l h = omega (arith, h)

-- ---- the rank after a change, for both kinds

now_is : (change : Change) (r : ℕ) → rank_now change r ≡ if_lt r (rank_of change) r (count_after change r)
unfolding rank_now rank_of count_after
now_is (Insert i) r = refl
now_is (Delete i) r = refl

pub right_now : (change : Change) (r : ℕ) → r < rank_of change → rank_now change r ≡ r
right_now change r h = now_is change r ∙ if_lt_yes r (rank_of change) _ _ h

pub left_now : (change : Change) (r : ℕ) → rank_of change ≤ r → rank_now change r ≡ count_after change r
left_now change r h = now_is change r ∙ if_lt_no r (rank_of change) _ _ h
