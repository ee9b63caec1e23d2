-- The definition of the draw on written tapes.
use Rattle.std.specs.Prelude.{◌≡◌, refl, [], ◌∷◌, None}
use Rattle.base.specs.Cases.{if_eq, if_lt}
use Rattle.draw.specs.Draw.{face_at, scan, draw_from, draw_at}
use Rattle.draw.specs.Runs.{sum_below, one, runs, gives, face_runs}

-- among 3, FFFFFFFF is passed over and FFFFFFFE gives 2
among_three : draw_at 3 (0xFFFFFFFF ∷ 0xFFFFFFFE ∷ []) 0 ≡ face_at 2 2
unfolding draw_at draw_from scan if_eq if_lt
among_three = refl

-- a tape that ends before a word decides
tape_ends : draw_at 3 (7 ∷ 0xFFFFFFFF ∷ []) 1 ≡ None
unfolding draw_at draw_from scan if_eq if_lt
tape_ends = refl

-- among 1, past the end of the tape
among_one : draw_at 1 [] 5 ≡ face_at 0 5
unfolding draw_at draw_from scan if_eq if_lt
among_one = refl

-- among 0
among_none : draw_at 0 (0 ∷ []) 0 ≡ None
unfolding draw_at draw_from scan if_eq if_lt
among_none = refl

-- of the 64 pairs of words below 8, 2 * 2 give a face of 3 by their second word
pairs_of_eight : face_runs 8 3 1 2 ≡ 4
unfolding face_runs runs sum_below one gives draw_from scan if_eq if_lt
pairs_of_eight = refl
