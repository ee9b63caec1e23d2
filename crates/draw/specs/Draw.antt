-- A draw among m faces from a tape of words (document 01, "Coins"). Definitions only.
use Rattle.std.specs.Prelude.{List, [], ◌∷◌, ℕ, suc, ◌+◌, ◌*◌, ◌/◌, ◌%◌, ◌^◌, drop, Option, Some, None}
use Rattle.base.specs.Cases.{if_eq, if_lt}
use Rattle.draw.specs.declared.Drawn.{Drawn}

-- A draw that gives this face, with this place after it.
abbrev pub face_at : ℕ → ℕ → Option Drawn
face_at face next = Some (record { face = face; next = next })

-- Words are read until one is below the limit; the face is that word mod m. `at` is the place of the first word.
unfoldable pub scan : ℕ → ℕ → List ℕ → ℕ → Option Drawn
scan limit m [] at = None
scan limit m (word ∷ words) at = if_lt word limit (face_at (word % m) (suc at)) (scan limit m words (suc at))

-- The draw among m faces from words below W, read from the place `at` on: m = 1 reads nothing and gives 0.
-- m = 0 has the limit 0, which no word is below.
unfoldable pub draw_from : ℕ → ℕ → List ℕ → ℕ → Option Drawn
draw_from W m tape at = if_eq m 1 (face_at 0 at) (scan (m * (W / m)) m (drop at tape) at)

-- The draw from a tape of 32-bit words.
unfoldable pub draw_at : ℕ → List ℕ → ℕ → Option Drawn
draw_at = draw_from (2 ^ 32)

-- The place on the tape after a draw: past the last word read, or what it was where the draw ended.
abbrev pub tape_place_after : ℕ → Option Drawn → ℕ
tape_place_after at (Some d) = d.next
tape_place_after at None = at

-- What a draw gives apart from the place: its face, or none where the tape ended.
abbrev pub face_of : Option Drawn → Option ℕ
face_of (Some d) = Some d.face
face_of None = None

-- The draw with this place after it and this face.
abbrev pub drawn_of : ℕ → Option ℕ → Option Drawn
drawn_of after (Some face) = face_at face after
drawn_of after None = None

-- The same draw with its place moved on by n words.
abbrev pub moved : ℕ → Option Drawn → Option Drawn
moved n (Some d) = face_at d.face (n + d.next)
moved n None = None
