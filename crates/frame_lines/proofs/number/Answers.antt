-- `number` meets its contract: 16 digits fit 64 bits.
use Rattle.std.proofs.Common.{◌≡◌, ap, sym, ◌∙◌, List, ℕ, ◌+◌, ◌-◌, ◌<◌, ◌≤◌, arith, get_or, take, drop, length}
use Rattle.std.proofs.lemmas.List.{get_or-take, get_or-drop, length-take-le, length-drop}
use Rattle.frame_lines.specs.Frame.{hex_value}
use Rattle.frame_lines.specs.FrameLaws.{hex_value_lt, field_zero, field_suc, field_next}
use Rattle.frame_lines.proofs.number.Goals as goal

-- The digits are those from place i on.
module _ (line : List ℕ) (i c k : ℕ) (inside : i + c ≤ length line) (more : k < length (take (i + c - i) (drop i line))) where
  before : k < c
  before = omega (arith, length-take-le (i + c - i) (drop i line) (omega (arith, length-drop i line)))

  digit : get_or (take (i + c - i) (drop i line)) k 0 ≡ get_or line (i + k) 0
  digit = get_or-take (i + c - i) (drop i line) k 0 (omega (arith, before)) ∙ get_or-drop i line k 0

pub loop-b-init : goal.loop-b-init
loop-b-init c = sym (field_zero _ _)

pub overflow_mul-n : goal.overflow_mul-n
overflow_mul-n c =
    let a = c.args in
    let k = c.loop-b.b-index in
    omega (arith, field_next a.line.now a.i k 0 (omega (arith, before a.line.now a.i a.c k c.requires.inside c.loop-b-test.true)) (omega arith))

pub overflow_add-n : goal.overflow_add-n
overflow_add-n c =
    let a = c.args in
    let k = c.loop-b.b-index in
    let v = hex_value (get_or (take (a.i + a.c - a.i) (drop a.i a.line.now)) k 0) in
    omega (arith, field_next a.line.now a.i k v (omega (arith, before a.line.now a.i a.c k c.requires.inside c.loop-b-test.true)) (hex_value_lt _))

pub loop-b-preserved : goal.loop-b-preserved
loop-b-preserved c =
    let a = c.args in
    let k = c.loop-b.b-index in
    omega (arith, field_suc a.line.now a.i k, ap hex_value (digit a.line.now a.i a.c k c.requires.inside c.loop-b-test.true))
