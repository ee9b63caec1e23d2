-- The layout does not look into entries: where each is replaced by another one, the slots have the others, and nothing else changes.
use Rattle.std.specs.Prelude.{◌≡◌, ℕ, zero, suc, ◌-◌, take, drop, set}
use Rattle.std.proofs.Math.Path.{refl, sym, ap}
use Rattle.std.proofs.Common.{◌∙◌, ap₂}
use mathlib.Core.List.{List, [], ◌∷◌, ◌++◌, map, map-append}
use Rattle.std.proofs.Math.ListN.{length, replicate, length-map}
use Rattle.base.specs.ListLaws.{map_take, map_drop}
use Rattle.tree_sizes.specs.Sizes.{leaf_slots}
use Rattle.tree_rules.specs.Tree.{Shape}
use Rattle.store_layout.specs.declared.Capacity.{Capacity}
use Rattle.store_layout.specs.Leaf.{slot_of, put_entries, spread}
use Rattle.store_layout.specs.Layout.{leaf_counts, lay_leaves, pad_to, lay_slots, lay_counts, lay_out}

-- f puts another entry in the place of each, and nothing in the place of none.
module _ (f : ℕ → ℕ) (none : f 0 ≡ 0) where
  map_set : (xs : List ℕ) (i x : ℕ) → set (map f xs) i (f x) ≡ map f (set xs i x)
  map_set [] i x = refl
  map_set (y ∷ xs) zero x = refl
  map_set (y ∷ xs) (suc i) x = ap (λ (ys : List ℕ). f y ∷ ys) (map_set xs i x)

  map_zeros : (n : ℕ) → replicate n 0 ≡ map f (replicate n 0)
  map_zeros zero = refl
  map_zeros (suc n) = ap₂ (λ (y : ℕ) (ys : List ℕ). y ∷ ys) (sym none) (map_zeros n)

  map_put : (position : ℕ → ℕ) (k : ℕ) (xs slots : List ℕ) → put_entries position k (map f xs) (map f slots) ≡ map f (put_entries position k xs slots)
  unfolding put_entries
  map_put position k [] slots = refl
  map_put position k (x ∷ xs) slots = rw (map_put position (suc k) xs slots) (map_set (put_entries position (suc k) xs slots) (position k) x)

  map_spread : (s : ℕ) (xs : List ℕ) → spread s (map f xs) ≡ map f (spread s xs)
  unfolding spread
  map_spread s xs = rw (length-map xs f)
      (ap (put_entries (slot_of s (length xs)) 0 (map f xs)) (map_zeros s) ∙ map_put (slot_of s (length xs)) 0 xs (replicate s 0))

  map_leaves : (s : ℕ) (ns list : List ℕ) → lay_leaves s ns (map f list) ≡ map f (lay_leaves s ns list)
  unfolding lay_leaves
  map_leaves s [] list = refl
  map_leaves s (n ∷ ns) list =
      rw (map_take f n list, map_drop f n list, map_spread s (take n list), map_leaves s ns (drop n list))
      (sym (map-append f (spread s (take n list)) (lay_leaves s ns (drop n list))))

  pub map_lay_out : (cap : Capacity) (list : List ℕ) (s : Shape)
      → lay_out cap (map f list) s ≡ record { slots = map f (lay_out cap list s).slots; counts = (lay_out cap list s).counts }
  unfolding lay_out lay_slots pad_to
  map_lay_out cap list s =
      let leaves = lay_leaves (leaf_slots s.size) (leaf_counts (length list) s.tree) list in
      let room = cap.slots - length leaves in
      let slots : map f leaves ++ replicate room 0 ≡ map f (leaves ++ replicate room 0)
      = ap (λ (ys : List ℕ). map f leaves ++ ys) (map_zeros room) ∙ sym (map-append f leaves (replicate room 0)) in
      rw (length-map list f, map_leaves (leaf_slots s.size) (leaf_counts (length list) s.tree) list, length-map leaves f)
      (ap (λ (ys : List ℕ). record { slots = ys; counts = lay_counts cap.counts (length list) s }) slots)
