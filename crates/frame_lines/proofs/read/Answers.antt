-- `read` meets its contract: the line has 10 digits, and each number is the digits of its field.
use Prim.Native.Nat.{ℕ}
use Rattle.std.specs.Prelude.{Some}
use mathlib.Core.Path.{sym, ap₂, ◌∙◌}
use Rattle.frame_lines.specs.declared.Frame.TheVariants.{Read}
use Rattle.frame_lines.specs.Frame.{read_of}
use Rattle.frame_lines.specs.FrameLaws.{length_is, length_other}
use Rattle.frame_lines.proofs.read.Goals as goal

pub returns-then-line-ne10 : goal.returns-then-line-ne10
unfolding read_of
returns-then-line-ne10 c = sym (length_other _ 10 _ c.if-line-ne10.true)

pub returns : goal.returns
unfolding read_of
returns c = ap₂ (λ (f l : ℕ). Some (Read f l)) c.number-first.ensures c.number-last.ensures ∙ sym (length_is _ 10 _ c.if-line-ne10.false)
