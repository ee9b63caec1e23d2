-- The definitions at work on small programs.
use Rattle.std.specs.Prelude.{◌≡◌, refl, [], ◌∷◌, ℕ, ◌+◌, eqb}
use Rattle.base.specs.Cases.{if_eq, if_lt}
use Rattle.base.specs.Lists.{total}
use Rattle.draw.specs.Draw.{scan, draw_from}
use Rattle.draw.specs.Runs.{sum_below, one, runs, gives, face_runs, draw_runs}
use Rattle.draw_shares.specs.Program.{Program, done, draw}
use Rattle.draw_shares.specs.Fraction.{◌≐◌, unit}
use Rattle.draw_shares.specs.Course.{concat_below, product, before, courses, course_share, sum_shares, share}
use Rattle.draw_shares.specs.CourseRuns.{decided, deciding_runs, course_runs, among_of, among_runs}

-- a face below 2 and a face below 3, added
dice : Program ℕ
dice = draw 2 (λ f. draw 3 (λ g. done (f + g)))

-- two of its six courses end with 1, and one with 3
share_of_one : share (eqb 1) dice ≐ unit 3
unfolding dice share sum_shares courses course_share product unit concat_below before
share_of_one = refl

share_of_three : share (eqb 3) dice ≐ unit 6
unfolding dice share sum_shares courses course_share product unit concat_below before
share_of_three = refl

-- of the 5 * 5 * 5 runs of three words below 5, four decide the faces 1 and 0 of the dice by one word and two: among 2 the word 4
-- is passed over and 1 and 3 give 1; among 3 the words 3 and 4 are passed over and 0 gives 0
runs_of_dice : deciding_runs 5 dice (1 ∷ 0 ∷ []) (1 ∷ 2 ∷ []) ≡ 4
unfolding dice deciding_runs decided total runs sum_below one gives draw_from scan if_eq if_lt
runs_of_dice = refl

-- and three words decide nothing where the faces are too few, or where the first draw is to read no word
runs_of_less : deciding_runs 5 dice (1 ∷ []) (3 ∷ []) ≡ 0
unfolding dice deciding_runs decided total runs sum_below one gives draw_from scan if_eq if_lt
runs_of_less = refl

runs_by_product : course_runs 5 dice (1 ∷ 0 ∷ []) (1 ∷ 2 ∷ []) ≡ 4
unfolding dice course_runs face_runs runs sum_below one gives draw_from scan if_eq if_lt
runs_by_product = refl

among_of_dice : among_of dice (1 ∷ 0 ∷ []) ≡ 2 ∷ 3 ∷ []
unfolding dice among_of
among_of_dice = refl

runs_in_numbers : among_runs 5 (2 ∷ 3 ∷ []) (1 ∷ 2 ∷ []) ≡ 4
unfolding among_runs draw_runs if_eq
runs_in_numbers = refl
