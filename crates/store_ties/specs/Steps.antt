-- Where a boat stands in the slots, and how far the search for her tied group has come. Definitions only.
use Rattle.std.specs.Prelude.{Bool, true, false, ◌&&◌, ◌≡◌, List, [], ◌∷◌, ℕ, ◌+◌, ◌-◌, ◌≤◌, ◌<◌, length, get_or, take}
use Rattle.store_layout.specs.Leaf.{nonzero}
use Rattle.store_scoring.specs.Scoring.{retired_bit, tally}
use Rattle.store_ties.specs.Groups.{group_first, tied_from, group_end}
use Rattle.store_ties.specs.Ties.{tie_bit, tied_in}

-- The entries in the slots before an index.
abbrev pub entries_before : List ℕ → ℕ → List ℕ
entries_before slots at = nonzero (take at slots)

-- The slot holds the entry of a boat.
pub record InSlot (slots : List ℕ) (slot : ℕ) : Type 0 where
  pub inside : slot < length slots
  pub entry : 0 < get_or slots slot 0

-- It holds that of a scoring boat, who has `before` scoring boats before her.
pub record Scores (slots : List ℕ) (slot before : ℕ) : Type 0 where
  pub boat : InSlot slots slot
  pub scoring : retired_bit (get_or slots slot 0) ≡ false
  pub number : before ≡ tally (entries_before slots slot)

-- The retired boats at the end of the list, back to its last scoring boat, all bear bit 63. Where it has no scoring boat they are all its boats,
-- and `all` tells whether those right before it bear the bit.
unfoldable pub end_tied : Bool → List ℕ → Bool
end_tied all [] = all
end_tied all (e ∷ list) = elim (retired_bit e) [ true ↦ end_tied (all && tie_bit e) list | false ↦ end_tied true list ]

-- On the way back from the scoring boat number i there are k left, and `joined` tells whether her group goes on to the last of them: it has the
-- first boat that the group of that one has, or starts behind her.
pub record FirstBefore (tied : ℕ → Bool) (i k : ℕ) (joined : Bool) : Type 0 where
  pub same : group_first tied i ≡ elim joined [ true ↦ group_first tied (k - 1) | false ↦ k ]

-- The group of the boat number i ends behind the boats from number k on that tied, one after the other, with the boat before them.
pub record EndFrom (tied : ℕ → Bool) (N i k : ℕ) : Type 0 where
  pub end : group_end tied N i ≡ k + tied_from tied (N - k) k

-- The slots before the index `at` hold k scoring entries.
pub record Passed (slots : List ℕ) (at k : ℕ) : Type 0 where
  pub inside : at ≤ length slots
  pub scoring : tally (entries_before slots at) ≡ k

-- The way back from the scoring boat number i has come to the index `at`, with k scoring boats before it.
pub record Back (slots : List ℕ) (i at k : ℕ) (joined : Bool) : Type 0 where
  pub passed : Passed slots at k
  pub first : FirstBefore (tied_in (nonzero slots)) i k joined

-- The way on from the scoring boat number i, of N, has come to the index `at`, with k scoring boats before it; the retired boats right before it
-- bear the bit.
pub record On (slots : List ℕ) (N i at k : ℕ) : Type 0 where
  pub passed : Passed slots at k
  pub tied : end_tied true (entries_before slots at) ≡ true
  pub end : EndFrom (tied_in (nonzero slots)) N i k
