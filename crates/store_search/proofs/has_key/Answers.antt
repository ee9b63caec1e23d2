-- `has_key` meets its contract: of one slot at most one entry is compared.
use mathlib.Core.Path.{sym, ap, ◌∙◌}
use Prim.Native.Nat.{ℕ}
use lib.Dec.{eqb}
use Rattle.store_search.specs.LeafLoopLaws.{present_none, present_one}
use Rattle.store_search.proofs.has_key.Goals as goal

pub returns-then-held-eq0 : goal.returns-then-held-eq0
returns-then-held-eq0 c = sym (present_none c.args.held c.args.k c.if-held-eq0.true)

pub returns : goal.returns
returns c =
    let a = c.args in
    ap (λ (x : ℕ). eqb x a.k) c.key.ensures ∙ sym (present_one a.held a.k c.if-held-eq0.false)
