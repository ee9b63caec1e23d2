-- `count_entries` meets its contract.
use mathlib.Core.Path.{◌≡◌, ap, ◌∙◌}
use mathlib.Core.List.{List}
use Prim.Native.Nat.{ℕ, ◌+◌, ◌-◌, ◌*◌, ◌^◌}
use native.Mathlib.Omega.{arith}
use lib.ListN.{length, set, length-set}
use lib.Pow.{pow_pos}
use lib.Seq.{get_or-set_same, get_or-set_other}
use Rattle.base.specs.ListLaws.{replicate_at}
use Rattle.tree_sizes.specs.Sizes.{height}
use Rattle.tree_sizes.proofs.SizeLaws.{height_most}
use Rattle.store_sums.specs.Numbers.{number_at, NumbersBut}
use Rattle.store_sums.specs.Updating.{Filled, RowsReady}
use Rattle.store_sums.specs.SumLaws.{length_additive}
use Rattle.store_sums.specs.UpdatingLaws.{updating_leaves}
use Rattle.store_sums.specs.KeptLaws.{numbers_none}
use Rattle.store_sums.proofs.count_entries.Goals.{After-power-leaves}
use Rattle.store_sums.proofs.count_entries.Goals as goal

-- The number of leaves.
leaves : (c : After-power-leaves)
    → c.power-leaves.result ≡ 2 ^ height c.args.size.m
leaves c = c.power-leaves.ensures ∙ ap (λ (h : ℕ). 2 ^ h) c.height.ensures

-- The leaves have their numbers, where they are counted in words with the size parameter at number 0 and 0 elsewhere.
abbrev ready : (c : After-power-leaves) (words : List ℕ)
    → let m = c.args.size.m in
    Filled (number_at length m c.args.slots.now 0) (2 ^ height m) (2 * 2 ^ height m) (set c.args.counts.now 0 m) words
    → RowsReady c.power-leaves.result (2 * c.power-leaves.result - 1) words
ready c words counted =
    let m = c.args.size.m in
    let counts = c.args.counts.now in
    let some = pow_pos (height m) in
    let end : 2 * c.power-leaves.result - 1 + 1 ≡ 2 * 2 ^ height m = omega (arith, leaves c, some) in
    let kept : length (set counts 0 m) ≡ length counts = length-set counts 0 m in
    let none : NumbersBut length m m c.args.slots.now (2 ^ height m) (2 * 2 ^ height m) (set counts 0 m)
    = numbers_none length m m c.args.slots.now (set counts 0 m) (get_or-set_same counts 0 m 0 (omega (arith, c.requires.room, some)))
    (λ j h. get_or-set_other counts 0 j m 0 (λ e. omega (arith, some)) ∙ rw c.requires.zeros (replicate_at 0 (length counts) j)) in
    record {
      measure = length;
      sums = length_additive;
      start = m;
      M = m;
      slots = c.args.slots.now;
      most = c.requires.most;
      room = omega (arith, c.requires.room, counted.kept, kept);
      leaves = updating_leaves {old = set counts 0 m} (omega (arith, leaves c)) (omega (arith, leaves c, some)) (omega (arith, leaves c, some))
          (rw (end, leaves c) none) (rw (end, leaves c) counted);
    }

pub power-leaves-requires : goal.power-leaves-requires
power-leaves-requires c =
    omega (arith, c.height.ensures, height_most c.args.size.m 32 (omega arith) (omega arith))

pub add_rows-requires : goal.add_rows-requires
add_rows-requires c = ready (goal.at.add_rows-requires c).After-power-leaves _ c.count_leaves.ensures

pub returns : goal.returns
returns c =
    (c.add_rows.ensures.all (ready (goal.at.returns c).After-power-leaves _ c.count_leaves.ensures), (c.add_rows.ensures.kept ∙ c.count_leaves.ensures.kept ∙ length-set c.args.counts.now 0 c.args.size.m))
