-- One pass over a leaf, from left to right (document 02, F-7). Definitions only.
use Rattle.std.specs.Prelude.{◌≡◌, List, ◌++◌, ℕ, ◌+◌, ◌≤◌, ◌<◌, take, drop}
use Rattle.store_layout.specs.declared.Leaf.{Leaf}
use Rattle.store_layout.specs.declared.Next.{Next}
use Rattle.store_layout.specs.Leaf.{slot_of, spread}
use Rattle.store_layout.specs.Quotient.{Stands}
use Rattle.store_layout.specs.Ready.{LeafReady}

-- What the leaf rule gives for the slots of a leaf.
unfoldable pub rule_of : Leaf → List ℕ → List ℕ
rule_of leaf list = spread leaf.slots (take leaf.entries (drop leaf.at list))

-- The first i slots of the leaf hold what the rule gives, and the later ones what they held before. All slots outside the leaf are as they
-- were.
unfoldable pub written_to : Leaf → List ℕ → ℕ → List ℕ → List ℕ
written_to leaf list i slots = take leaf.from slots ++ take i (rule_of leaf list) ++ drop (leaf.from + i) slots

-- After i of s slots: k of the n entries are behind, the others ahead, and `next` is the slot of entry k, or past the slots where there is
-- none.
pub record Passed (position : ℕ → ℕ) (n s i k next : ℕ) : Type 0 where
  pub inside : i ≤ s
  pub used : k ≤ n
  pub behind : (j : ℕ) → j < k → position j < i
  pub ahead : k < n → i ≤ position k
  pub next_is : k < n → next ≡ position k
  pub past : n ≤ k → s ≤ next

-- The pass is in front of slot i of a leaf: the first i slots are written, and `next` is the entry that comes next, with its position.
pub record InFront (leaf : Leaf) (list : List ℕ) (i : ℕ) (next : Next) (slots : List ℕ) : Type 0 where
  pub ready : LeafReady leaf slots list
  pub written : slots ≡ written_to leaf list i slots
  pub passed : Passed (slot_of leaf.slots leaf.entries) leaf.entries leaf.slots i next.k next.position.whole
  pub stands : Stands leaf.slots leaf.entries next.k next.position

-- So far the slots are the old ones with the first i slots of the leaf written.
pub record SoFar (leaf : Leaf) (list old : List ℕ) (i : ℕ) (next : Next) (slots : List ℕ) : Type 0 where
  pub start : LeafReady leaf old list
  pub front : InFront leaf list i next slots
  pub written : slots ≡ written_to leaf list i old
