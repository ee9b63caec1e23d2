-- `are_tallies` meets its contract.
use mathlib.Core.Path.{◌≡◌, sym, ap, ◌∙◌}
use Prim.Native.Nat.{ℕ, ◌*◌, ◌^◌}
use native.Mathlib.Omega.{arith}
use lib.Pow.{pow_pos}
use Rattle.base.specs.BoolLaws.{not_both, fails}
use Rattle.tree_sizes.specs.Sizes.{height}
use Rattle.tree_sizes.proofs.SizeLaws.{height_most}
use Rattle.store_zeros.specs.ZeroLaws.{zero_behind, zero_behind_test}
use Rattle.store_sums.specs.AddUpLaws.{adds_up, leaves_agree, halves_agree}
use Rattle.store_tallies.specs.AdditiveLaws.{tally_additive}
use Rattle.store_tallies.proofs.are_tallies.Goals.{After-power-leaves}
use Rattle.store_tallies.proofs.are_tallies.Goals as goal

-- The number of leaves.
leaves : (c : After-power-leaves) → c.power-leaves.result ≡ 2 ^ height c.args.size.m
leaves c = c.power-leaves.ensures ∙ ap (λ (h : ℕ). 2 ^ h) c.height.ensures

pub count_at-requires : goal.count_at-requires
count_at-requires c = omega (arith, c.requires.room, pow_pos (height c.args.size.m))

pub returns-then-count_at-ne0 : goal.returns-then-count_at-ne0
returns-then-count_at-ne0 c = fails (λ w. c.if-count_at-ne0.true (c.count_at.ensures ∙ w.zero))

pub returns-then-not-leaves_have_tallies : goal.returns-then-not-leaves_have_tallies
returns-then-not-leaves_have_tallies c = fails (λ w. not_both (c.leaves_have_tallies.ensures.1 (leaves_agree tally_additive _ _ _ _ w)) c.if-not-leaves_have_tallies.true)

pub power-leaves-requires : goal.power-leaves-requires
power-leaves-requires c =
    omega (arith, c.height.ensures, height_most c.args.size.m 32 (omega arith) (omega (arith, c.requires.most)))

pub halves_add_up-requires : goal.halves_add_up-requires
halves_add_up-requires c = omega (arith, leaves c, c.requires.room)

pub returns-then-not-halves_add_up : goal.returns-then-not-halves_add_up
returns-then-not-halves_add_up c =
    fails (λ w. not_both (c.halves_add_up.ensures.1 (rw (leaves (goal.at.returns-then-not-halves_add_up c).After-power-leaves) (halves_agree tally_additive _ _ _ _ w))) c.if-not-halves_add_up.true)

pub overflow_mul-leaves : goal.overflow_mul-leaves
overflow_mul-leaves c =
    omega (arith, leaves (goal.at.overflow_mul-leaves c).After-power-leaves, c.requires.room)

pub returns : goal.returns
returns c =
    let numbers = c.args.numbers.now in
    let zeros = c.counts_are_zero.ensures in (
      λ all.
          adds_up tally_additive _ _ _ numbers (sym c.count_at.ensures ∙ c.if-count_at-ne0.false)
          (c.leaves_have_tallies.ensures.0 c.if-not-leaves_have_tallies.false)
          (rw (leaves (goal.at.returns c).After-power-leaves) at (c.halves_add_up.ensures.0 c.if-not-halves_add_up.false))
          (rw (leaves (goal.at.returns c).After-power-leaves) at (zero_behind numbers (2 * c.power-leaves.result) (sym zeros ∙ all))),
      λ w. zeros ∙ zero_behind_test numbers (2 * c.power-leaves.result) (rw (leaves (goal.at.returns c).After-power-leaves) w.unused),
    )
