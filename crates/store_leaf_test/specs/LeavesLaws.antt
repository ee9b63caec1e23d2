-- Leaves that meet the test are laid out by the rule, and leaves that are laid out by the rule meet it.
use Rattle.std.specs.Prelude.{◌≡◌, refl, true, List, [], ◌∷◌, ◌++◌, ℕ, suc, ◌+◌, ◌*◌, ◌≤◌, ◌<◌, length, take, drop}
use Rattle.std.proofs.Common.{ap₂, append_assoc, length-append, length-drop, length-take-le, take_at, drop_at, take-add, arith}
use Rattle.base.specs.Lists.{Every, total}
use Rattle.base.specs.BoolLaws.{and_both}
use Rattle.base.specs.ListLaws.{every_take, every_drop}
use Rattle.store_layout.specs.Leaf.{spread, nonzero}
use Rattle.store_layout.proofs.LeafLaws.{length_spread, nonzero_append}
use Rattle.store_layout.specs.Layout.{lay_leaves}
use Rattle.store_leaf_test.specs.Check.{leaf_test, leaves_test}
use Rattle.store_leaf_test.specs.LeafCheck.{leaf_sound, leaf_test_lem}

pub leaves_sound : (s : ℕ) (ns all : List ℕ) → leaves_test s ns all ≡ true
    → (total ns ≡ length (nonzero (take (s * length ns) all)))
    × (take (s * length ns) all ≡ lay_leaves s ns (nonzero (take (s * length ns) all)))
unfolding leaves_test lay_leaves total nonzero
leaves_sound s [] all h = let e : s * 0 ≡ 0 = omega arith in rw e (refl, refl)
leaves_sound s (n ∷ ns) all h =
    let e : s * suc (length ns) ≡ s + s * length ns = omega arith in
    let first : List ℕ = take s all in
    let rest : List ℕ = take (s * length ns) (drop s all) in
    let both = and_both (leaf_test s n first) _ h in
    let head = leaf_sound s n first both.0 in
    let tail = leaves_sound s ns (drop s all) both.1 in
    rw (
      e,
      take-add s (s * length ns) all,
      nonzero_append first rest,
      length-append (nonzero first) (nonzero rest),
      take_at (nonzero first) (nonzero rest) n head.0,
      drop_at (nonzero first) (nonzero rest) n head.0,
    )
    (omega (arith, head.0, tail.0), ap₂ (λ (xs ys : List ℕ). xs ++ ys) head.1 tail.1)

pub leaves_test_lem : (s : ℕ) (ns list rest : List ℕ) → total ns ≡ length list → Every (λ n. n ≤ s) ns → Every (λ e. 0 < e) list
    → leaves_test s ns (lay_leaves s ns list ++ rest) ≡ true
unfolding leaves_test lay_leaves total Every
leaves_test_lem s [] list rest e fit pos = refl
leaves_test_lem s (n ∷ ns) list rest e fit pos =
    let first : List ℕ = spread s (take n list) in
    let others : List ℕ = lay_leaves s ns (drop n list) ++ rest in
    let number : length (take n list) ≡ n = length-take-le n list (omega arith) in
    rw (
      append_assoc first (lay_leaves s ns (drop n list)) rest,
      take_at first others s (length_spread s (take n list)),
      drop_at first others s (length_spread s (take n list)),
      rw number at (leaf_test_lem s (take n list) (omega (arith, number, fit.0)) (every_take (λ x. 0 < x) n list pos)),
      leaves_test_lem s ns (drop n list) rest (omega (arith, length-drop n list)) fit.1 (every_drop (λ x. 0 < x) n list pos),
    )
