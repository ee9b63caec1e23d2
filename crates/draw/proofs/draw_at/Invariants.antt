-- `draw::draw_at` meets its contract. The loop's invariant: the scan from `i` on is the scan from `at` on.
use mathlib.Core.Path.{◌≡◌}
use Prim.Native.Nat.{ℕ, ◌-◌, ◌*◌, ◌/◌, ◌^◌}
use lib.ListN.{length, drop}
use Rattle.draw.specs.Draw.{scan}
use Rattle.draw.proofs.draw_at.Given as goal

abbrev pub limit : ℕ → ℕ
limit m = m * (2 ^ 32 / m)

abbrev pub invariant-loop-i : goal.invariant-loop-i
invariant-loop-i l = scan (limit l.m) l.m (drop l.at l.tape) l.at ≡ scan (limit l.m) l.m (drop l.i l.tape) l.i

abbrev pub decreases-loop-i : goal.decreases-loop-i
decreases-loop-i l = length l.tape - l.i
