-- The tallies look at bit 62 of the entries alone: where each entry is replaced by another one with the same bit 62, they stay as they are.
use Rattle.std.specs.Prelude.{◌≡◌, Bool, set, take, drop, replicate}
use Rattle.std.proofs.Math.Path.{refl, ap, ap₂}
use Rattle.std.proofs.Math.Bool.{true, false}
use mathlib.Core.List.{List, [], ◌∷◌, map}
use Prim.Native.Nat.{ℕ, suc, ◌+◌, ◌*◌}
use Rattle.base.specs.ListLaws.{map_take, map_drop}
use Rattle.tree_sizes.specs.Sizes.{height}
use Rattle.tree_rules.specs.Tree.{Tree, leaf, node, Shape}
use Rattle.store_order.specs.CountOrder.{count_order}
use Rattle.store_scoring.specs.Scoring.{retired_bit, tally}
use Rattle.store_tallies.specs.Tallies.{write_tallies, range_tallies, lay_tallies}

module _ (f : ℕ → ℕ) (same : (e : ℕ) → retired_bit (f e) ≡ retired_bit e) where
  map_tally : (list : List ℕ) → tally (map f list) ≡ tally list
  unfolding tally
  map_tally [] = refl
  map_tally (e ∷ list) = ap₂ (λ (out : Bool) (n : ℕ). elim out [ true ↦ n | false ↦ suc n ]) (same e) (map_tally list)

  map_write : (words : List ℕ) (k : ℕ) (entries : List ℕ) (t : Tree) → write_tallies words k (map f entries) t ≡ write_tallies words k entries t
  unfolding write_tallies
  map_write words k entries leaf = rw (map_tally entries)
  map_write words k entries (node b l r) =
      rw (map_tally entries, map_take f b entries, map_drop f b entries, map_write (set words k (tally entries)) (2 * k) (take b entries) l)
      (map_write (write_tallies (set words k (tally entries)) (2 * k) (take b entries) l) (2 * k + 1) (drop b entries) r)

  pub map_lay_tallies : (room : ℕ) (list : List ℕ) (s : Shape) → lay_tallies room (map f list) s ≡ lay_tallies room list s
  unfolding lay_tallies range_tallies
  map_lay_tallies room list s = ap (count_order (height s.size)) (map_write (replicate room 0) 1 list s.tree)
