-- `decode` meets its contract: the tests are those of the definition.
use mathlib.Core.Path.{sym, ap, ◌∙◌}
use Prim.Native.Nat.{ℕ}
use Rattle.frame_lines.specs.Frame.{form_of}
use Rattle.frame_lines.specs.FrameLaws.{frame_short, frame_other, frame_hex}
use Rattle.frame_lines.proofs.decode.Goals as goal

pub returns-then-line-lt2 : goal.returns-then-line-lt2
returns-then-line-lt2 c = sym (frame_short _ c.if-line-lt2.true)

pub returns-then-not-is_hex_line : goal.returns-then-not-is_hex_line
returns-then-not-is_hex_line c =
    let h = c.is_hex_line in
    sym (frame_other _ c.if-line-lt2.false (sym h.ensures ∙ c.if-not-is_hex_line.true))

pub returns : goal.returns
returns c =
    let h = c.is_hex_line in
    let line = c.args.line.now in
    c.form.ensures
    ∙ ap (λ (k : ℕ). form_of k line) c.number-first.ensures
    ∙ sym (frame_hex line c.if-line-lt2.false (sym h.ensures ∙ c.if-not-is_hex_line.false))
