-- `fresh_tallies` meets its contract.
use mathlib.Core.Path.{◌≡◌, sym, ◌∙◌, ap}
use Prim.Native.Nat.{ℕ, ◌+◌, ◌-◌, ◌*◌, ◌^◌}
use native.Mathlib.Omega.{arith}
use lib.ListN.{length, length-replicate}
use lib.Pow.{pow_pos}
use Rattle.base.specs.ListLaws.{replicate_at}
use Rattle.tree_sizes.specs.Sizes.{height}
use Rattle.tree_sizes.proofs.SizeLaws.{height_most}
use Rattle.store_order.specs.CountOrder.{count_order}
use Rattle.store_scoring.specs.Scoring.{tally}
use Rattle.store_sums.specs.LaidLaws.{numbers_only}
use Rattle.store_sums.specs.KeptLaws.{numbers_none}
use borrow.Author.Rules.{rules}
use Rattle.call_tallies.proofs.fresh_tallies.Goals.{After-power-leaves, After-update_tallies}
use Rattle.call_tallies.proofs.fresh_tallies.Goals as goal

-- The number of leaves, and that their range numbers have room.
leaves : (c : After-power-leaves) → c.power-leaves.result ≡ 2 ^ height c.args.size.m
leaves c = c.power-leaves.ensures ∙ rw c.height.ensures

-- There are as many numbers as tallies.
many : (c : After-update_tallies) → length c.update_tallies.new.tallies ≡ length c.args.tallies.now
many c =
    let same : length c.update_tallies.new.tallies ≡ length c.args.numbers.now = search rules in
    same ∙ ap length c.requires.numbers ∙ length-replicate (length c.args.tallies.now) 0

pub power-leaves-requires : goal.power-leaves-requires
power-leaves-requires c =
    omega (arith, c.height.ensures, height_most c.args.size.m 32 (omega arith) (omega (arith, c.requires.ready.most)))

pub overflow_mul-leaves : goal.overflow_mul-leaves
overflow_mul-leaves c = omega (arith, leaves c, c.requires.ready.ranges_room)

pub overflow_sub-leaves : goal.overflow_sub-leaves
overflow_sub-leaves c = omega (arith, leaves c, pow_pos (height c.args.size.m))

pub update_tallies-requires : goal.update_tallies-requires
update_tallies-requires c =
    let n = c.power-leaves.result in
    let some = pow_pos (height c.args.size.m) in
    let end : 2 * n - 1 + 1 ≡ 2 * 2 ^ height c.args.size.m = omega (arith, leaves (goal.at.update_tallies-requires c).After-power-leaves, some) in
    let room = length c.args.tallies.now in
    let ready = c.requires.ready in
    let counted = c.requires.counted in record {
      most = ready.most;
      slots = ready.slots_room;
      room = rw (c.requires.numbers, length-replicate {A = ℕ} room 0) ready.ranges_room;
      leaves = (omega (arith, leaves (goal.at.update_tallies-requires c).After-power-leaves), omega (arith, leaves (goal.at.update_tallies-requires c).After-power-leaves, some), omega (arith, leaves (goal.at.update_tallies-requires c).After-power-leaves, some));
      numbers = omega (arith, leaves (goal.at.update_tallies-requires c).After-power-leaves, some, counted.room);
      counted = λ k from before. counted.counted k (omega (arith, leaves (goal.at.update_tallies-requires c).After-power-leaves)) (omega (arith, leaves (goal.at.update_tallies-requires c).After-power-leaves, some));
      others = rw (end, leaves (goal.at.update_tallies-requires c).After-power-leaves, c.requires.numbers)
          (numbers_none tally 0 c.args.size.m c.args.slots.now _ (replicate_at 0 room 0) (λ k h. replicate_at 0 room k));
    }

pub write_counts-requires : goal.write_counts-requires
write_counts-requires c =
    record { lengths = sym (many (goal.at.write_counts-requires c).After-update_tallies); room = omega (arith, many (goal.at.write_counts-requires c).After-update_tallies, c.requires.ready.ranges_room) }

pub returns : goal.returns
returns c =
    λ words found size. c.write_counts.ensures ∙ ap (count_order (height c.args.size.m)) (numbers_only _ _ _ _ _ words c.update_tallies.ensures found (many (goal.at.returns c).After-update_tallies ∙ sym size))
