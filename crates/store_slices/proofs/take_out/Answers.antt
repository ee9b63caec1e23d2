-- `take_out` meets its contract.
use mathlib.Core.Path.{ap, ◌∙◌}
use mathlib.Core.List.{◌++◌}
use lib.ListN.{take, drop}
use Prim.Native.Nat.{ℕ, ◌+◌, ◌-◌}
use native.Mathlib.Omega.{arith}
use Rattle.store_slices.specs.PastedLaws.{pasted_is}
use Rattle.store_slices.proofs.take_out.Goals as goal

pub returns : goal.returns
returns c =
    let a = c.args in
    pasted_is (record { is = c.copy_within.ensures.after; kept = c.copy_within.ensures.len }) (a.n - 1) (omega arith)
    ∙ ap (λ (m : ℕ). take a.i a.list.now ++ take m (drop (a.i + 1) a.list.now) ++ drop (a.n - 1) a.list.now) (omega arith)
