-- For every face of a draw among 1 to 2 ^ 32 there is a word that decides it: the face itself.
use Rattle.std.specs.Prelude.{◌≡◌, ◌≢◌, List, ◌∷◌, ◌++◌, ℕ, zero, suc, ◌+◌, ◌*◌, ◌/◌, ◌≤◌, ◌<◌, ◌^◌, length}
use Rattle.std.proofs.Common.{◌∙◌, le-mul_of_pos_right, mod-eq_of_lt, arith}
use Rattle.std.proofs.Math.Nat.{lt-mul-div-succ}
use Rattle.std.proofs.Math.Seq.{drop-append_seam}
use Rattle.draw.specs.Draw.{face_at, draw_at}
use Rattle.draw.specs.DrawLaws.{scan_take, draw_many}

div_pos : (W m : ℕ) → 0 < m → m ≤ W → 0 < W / m
div_pos W m pos l = go (W / m) (lt-mul-div-succ W pos)
  where
    go : (q : ℕ) → W < m * (q + 1) → 0 < q
    go zero h = absurd (omega (arith, h, l))
    go (suc q) h = omega arith

pub word_decides : (m face : ℕ) (before after : List ℕ) → m ≢ 1 → face < m → m ≤ 2 ^ 32
    → draw_at m (before ++ face ∷ after) (length before) ≡ face_at face (suc (length before))
unfolding draw_at
word_decides m face before after many below few =
    let limit = m * (2 ^ 32 / m) in
    let enough : m ≤ limit = le-mul_of_pos_right m (div_pos (2 ^ 32) m (omega arith) few) in
    draw_many (2 ^ 32) (before ++ face ∷ after) (length before) m many
    ∙ rw (drop-append_seam before (face ∷ after)) (scan_take limit m face after (length before) (omega (arith, enough)) ∙ rw (mod-eq_of_lt below))
