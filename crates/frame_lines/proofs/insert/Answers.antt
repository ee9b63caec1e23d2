-- `insert` meets its contract: the line has 22 digits, and each number is the digits of its field.
use Prim.Native.Nat.{ℕ}
use Rattle.std.specs.Prelude.{Some}
use mathlib.Core.Path.{sym, ap₂, ◌∙◌}
use native.Mathlib.Omega.{arith}
use Rattle.frame_lines.specs.declared.Frame.TheVariants.{Insert}
use Rattle.frame_lines.specs.Frame.{insert_of}
use Rattle.frame_lines.specs.FrameLaws.{length_is, length_other}
use Rattle.frame_lines.proofs.insert.Goals as goal

pub returns-then-line-ne22 : goal.returns-then-line-ne22
unfolding insert_of
returns-then-line-ne22 c = sym (length_other c.args.line.now 22 _ (λ e. omega arith))

pub returns : goal.returns
unfolding insert_of
returns c =
    ap₂ (λ (r e : ℕ). Some (Insert r e)) c.number-rank.ensures c.number-entry.ensures
    ∙ sym (length_is c.args.line.now 22 _ (omega arith))
