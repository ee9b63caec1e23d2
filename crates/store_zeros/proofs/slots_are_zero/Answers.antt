-- `slots_are_zero` meets its contract.
use Rattle.std.proofs.Common.{◌≡◌, ◌*◌, ◌/◌, List, [], ℕ, ◌+◌, length, get_or, take, drop, sym, ap, ◌∙◌, arith}
use Rattle.store_zeros.specs.AllZero.{all_zero}
use Rattle.store_zeros.specs.ZeroLaws.{zero_end, tail_is, block_at, part_zero, part_not_zero}
use Rattle.store_zeros.proofs.slots_are_zero.Goals.{After-as_chunks, In-loop-block}
use Rattle.store_zeros.proofs.slots_are_zero.Goals as goal

tail : (c : After-as_chunks) → c.in-Some.tail.now ≡ drop c.args.from c.args.slots.now
tail c = c.in-Some.ensures.lookup.0.2 ∙ tail_is c.args.slots.now c.args.from

-- The block of a turn.
block : (c : In-loop-block) (d : List ℕ)
    → get_or c.as_chunks.result.0.now c.loop-block.block-index d ≡ take 64 (drop (c.loop-block.block-index * 64) (drop c.args.from c.args.slots.now))
block c d =
    let all = drop c.args.from c.args.slots.now in
    let few = length c.in-Some.tail.now / 64 in
    rw (c.as_chunks.ensures.front, ← tail (goal.at.In-loop-block c).After-as_chunks)
    (block_at 64 few c.in-Some.tail.now d c.loop-block.block-index (omega (arith, c.as_chunks.ensures.front_len, c.loop-block-test.true)))

pub returns-in_default : goal.returns-in_default
returns-in_default c = sym (zero_end c.args.slots.now c.args.from (omega (arith, c.in_default.ensures.lookup.0)))

pub returns-then-not-all_are_zero : goal.returns-then-not-all_are_zero
returns-then-not-all_are_zero c =
    let all = drop c.args.from c.args.slots.now in
    let i = c.loop-block.block-index in
    sym
    (c.loop-block.invariant
    ∙ part_not_zero all (i * 64) 64 (c.all_are_zero.ensures ∙ ap all_zero (block (goal.at.returns-then-not-all_are_zero c).In-loop-block [])) c.if-not-all_are_zero.true)

pub loop-block-preserved : goal.loop-block-preserved
loop-block-preserved c =
    let all = drop c.args.from c.args.slots.now in
    let i = c.loop-block.block-index in
    let next : (i + 1) * 64 ≡ i * 64 + 64 = omega arith in
    c.loop-block.invariant
    ∙ rw next
    (part_zero all (i * 64) 64 (c.all_are_zero.ensures ∙ ap all_zero (block (goal.at.loop-block-preserved c).In-loop-block [])) c.if-not-all_are_zero.false)
