-- `counts_are_zero` meets its contract.
use Rattle.std.proofs.Common.{sym, ap, ◌∙◌, arith}
use Rattle.store_zeros.specs.AllZero.{all_zero}
use Rattle.store_zeros.specs.ZeroLaws.{zero_joined, zero_joined_all, zero_end, tail_is}
use Rattle.store_zeros.proofs.counts_are_zero.Goals as goal

pub returns-in_default : goal.returns-in_default
returns-in_default c = sym (zero_end c.args.counts.now c.args.from (omega (arith, c.in_default.ensures.lookup.0)))

pub loop-count-preserved : goal.loop-count-preserved
loop-count-preserved c =
    c.loop-count.invariant ∙ zero_joined c.in-Some.tail.now c.loop-count.count-index c.loop-count.joined c.loop-count-test.true

pub returns : goal.returns
returns c =
    let tail = c.in-Some.tail.now in
    sym (c.loop-count.invariant ∙ zero_joined_all tail c.loop-count.count-index c.loop-count.joined c.loop-count-test.false)
    ∙ ap all_zero (c.in-Some.ensures.lookup.0.2 ∙ tail_is c.args.counts.now c.args.from)
