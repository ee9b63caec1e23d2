-- `is_above` meets its contract: of one slot at most one entry is compared.
use mathlib.Core.Path.{sym, ap, ◌∙◌}
use Prim.Native.Nat.{ℕ}
use lib.Dec.{ltb}
use Rattle.store_keys.specs.PassedLaws.{above_none, above_entry}
use Rattle.store_keys.proofs.is_above.Goals as goal

pub returns-then-held-eq0 : goal.returns-then-held-eq0
returns-then-held-eq0 c = sym (above_none c.args.last c.args.held c.if-held-eq0.true)

pub returns : goal.returns
returns c =
    let a = c.args in
    ap (λ (k : ℕ). ltb a.last k) c.key.ensures ∙ sym (above_entry a.last a.held c.if-held-eq0.false)
