-- Numbers copied from some indices of a list to others of another. Definitions only.
use Rattle.std.specs.Prelude.{◌≡◌, List, [], ◌∷◌, ℕ, ◌≤◌, ◌<◌, length, get_or, set}
use Rattle.base.specs.Lists.{tabulate}

-- The numbers k, k + 1, .., n in all.
abbrev pub up : ℕ → ℕ → List ℕ
up k n = tabulate (λ i. i) k n

-- The list `to` with what `from` has at each of the indices `is`, at the index beside it in `js`.
unfoldable pub copied : List ℕ → List ℕ → List ℕ → List ℕ → List ℕ
copied [] js from to = to
copied (i ∷ is) [] from to = to
copied (i ∷ is) (j ∷ js) from to = copied is js from (set to j (get_or from i 0))

-- What stands from `at` on, put to the indices ks.
unfoldable pub put_to : ℕ → List ℕ → List ℕ → List ℕ → List ℕ
put_to at ks from to = copied (up at (length ks)) ks from to

-- What stands at the indices ks, put from `at` on.
unfoldable pub put_from : ℕ → List ℕ → List ℕ → List ℕ → List ℕ
put_from at ks from to = copied ks (up at (length ks)) from to

-- The list `to` is as long as xs and agrees with it at index 0 and at those from `start` to `stop`.
pub record RestCopied (start stop : ℕ) (xs to : List ℕ) : Type 0 where
  pub same_length : length to ≡ length xs
  pub size : get_or to 0 0 ≡ get_or xs 0 0
  pub rest : (k : ℕ) → start ≤ k → k < stop → get_or to k 0 ≡ get_or xs k 0
