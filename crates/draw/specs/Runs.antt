-- How many runs of words make a draw read them all and give a face. Definitions only.
use Rattle.std.specs.Prelude.{Bool, true, false, ◌&&◌, List, [], ◌∷◌, ℕ, zero, suc, ◌+◌, ◌*◌, ◌/◌, ◌%◌, ◌^◌, eqb, Option, Some, None}
use Rattle.base.specs.Cases.{if_eq}
use Rattle.draw.specs.declared.Drawn.{Drawn}
use Rattle.draw.specs.Draw.{draw_from}

-- h 0 + .. + h (n - 1)
unfoldable pub sum_below : ℕ → (ℕ → ℕ) → ℕ
sum_below zero h = 0
sum_below (suc n) h = sum_below n h + h n

-- 1 where the test passes, 0 where not
unfoldable pub one : Bool → ℕ
one true = 1
one false = 0

-- How many runs of k words below W pass the test.
unfoldable pub runs : ℕ → ℕ → (List ℕ → Bool) → ℕ
runs W zero test = one (test [])
runs W (suc k) test = sum_below W (λ word. runs W k (λ words. test (word ∷ words)))

-- The draw gives this face and ends at this place.
unfoldable pub gives : ℕ → ℕ → Option Drawn → Bool
gives face place (Some d) = eqb d.face face && eqb d.next place
gives face place None = false

-- How many runs of k words below W make the draw among m faces read all k and give the face.
unfoldable pub face_runs : ℕ → ℕ → ℕ → ℕ → ℕ
face_runs W m face k = runs W k (λ words. gives face k (draw_from W m words 0))

-- The same in numbers, for each of the m faces: a draw among 1 reads no word; any other passes over all words but the last.
unfoldable pub draw_runs : ℕ → ℕ → ℕ → ℕ
draw_runs W m zero = if_eq m 1 1 0
draw_runs W m (suc k) = if_eq m 1 0 ((W % m) ^ k * (W / m))
