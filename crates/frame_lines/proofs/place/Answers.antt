-- `place` meets its contract: the line has 6 digits, and each number is the digits of its field.
use Prim.Native.Nat.{ℕ}
use Rattle.std.specs.Prelude.{Some}
use mathlib.Core.Path.{sym, ap, ◌∙◌}
use Rattle.frame_lines.specs.declared.Frame.TheVariants.{Place}
use Rattle.frame_lines.specs.Frame.{place_of}
use Rattle.frame_lines.specs.FrameLaws.{length_is, length_other}
use Rattle.frame_lines.proofs.place.Goals as goal

pub returns-then-line-ne6 : goal.returns-then-line-ne6
unfolding place_of
returns-then-line-ne6 c = sym (length_other _ 6 _ c.if-line-ne6.true)

pub returns : goal.returns
unfolding place_of
returns c = ap (λ (r : ℕ). Some (Place r)) c.number-rank.ensures ∙ sym (length_is _ 6 _ c.if-line-ne6.false)
