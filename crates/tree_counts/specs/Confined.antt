-- The part of a tree that a change is confined to. Definitions only.
use Rattle.std.specs.Prelude.{◌≡◌, ◌⊎◌, ℕ, suc, ◌+◌, ◌-◌, ◌*◌, ◌<◌}
use Rattle.tree_rules.specs.declared.Change.{Change}
use Rattle.tree_rules.specs.Tree.{Tree, leaf, node, Shape}
use Rattle.tree_rules.specs.Compare.{count_after}
use Rattle.tree_rules.specs.Rules.{rank_of, at_rank, InReach}
use Rattle.tree_counts.specs.declared.Part.{Part}

-- The trees t and t' of the range k at depth d, before and after the change, differ in the part at most: the part is this
-- range itself, or lies in the half that gains or loses the entry, and the other half is the same in both.
unfoldable pub Within : ℕ → ℕ → Change → Tree → Tree → Part → Type 0
Within k d change leaf t' part = part ≡ record { range = k; depth = d; rank = rank_of change }
Within k d change (node b l r) leaf part = part ≡ record { range = k; depth = d; rank = rank_of change }
Within k d change (node b l r) (node b' l' r') part =
    (part ≡ record { range = k; depth = d; rank = rank_of change })
    ⊎ (InReach change b × (b' ≡ count_after change b) × (r' ≡ r) × Within (2 * k) (suc d) change l l' part)
    ⊎ ((b < rank_of change) × (b' ≡ b) × (l' ≡ l) × Within (2 * k + 1) (suc d) (at_rank change (rank_of change - b)) r r' part)

-- The part is the whole sheet, or the size is kept and the trees differ in the part at most.
unfoldable pub Confined : Change → Shape → Shape → Part → Type 0
Confined change s s' part =
    (part ≡ record { range = 1; depth = 0; rank = rank_of change })
    ⊎ ((s'.size ≡ s.size) × Within 1 0 change s.tree s'.tree part)
