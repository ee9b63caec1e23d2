-- Laws of the draw: what one word decides, when a draw ends, and that a face is below m.
use Rattle.std.specs.Prelude.{◌≡◌, ◌≢◌, List, [], ◌∷◌, ℕ, zero, suc, ◌+◌, ◌-◌, ◌*◌, ◌/◌, ◌%◌, ◌<◌, ◌≤◌, ◌^◌, length, get_or, drop, Option, Some, None, unwrap_or}
use Rattle.std.proofs.Math.Path.{refl}
use Rattle.std.proofs.Common.{ap, ◌∙◌, arith, add-one, div-lt_iff_lt-mul, le-div_iff_mul-le, mod-lt, mul-le-mul_left, mul-zero, zero-mul, drop_of_length-le, length-drop, drop-cons}
use Rattle.std.proofs.Math.Nat.{div-add-mod, div-eq_of_lt}
use Rattle.base.specs.CaseLaws.{if_eq_yes, if_eq_no, if_lt_yes, if_lt_no, by_eq, by_lt}
use Rattle.draw.specs.declared.Drawn.{Drawn}
use Rattle.draw.specs.Draw.{face_at, scan, draw_from, draw_at, tape_place_after, face_of, drawn_of}

pub scan_nil : (limit m at : ℕ) → scan limit m [] at ≡ None
unfolding scan
scan_nil limit m at = refl

module _ (limit m word : ℕ) (words : List ℕ) (at : ℕ) where
  pub scan_take : word < limit → scan limit m (word ∷ words) at ≡ face_at (word % m) (suc at)
  unfolding scan
  scan_take h = if_lt_yes word limit _ _ h

  pub scan_pass : limit ≤ word → scan limit m (word ∷ words) at ≡ scan limit m words (suc at)
  unfolding scan
  scan_pass h = if_lt_no word limit _ _ h

-- The same by places on the tape.
module _ (limit m : ℕ) (tape : List ℕ) (i : ℕ) where
  pub scan_taken : i < length tape → get_or tape i 0 < limit → scan limit m (drop i tape) i ≡ face_at (get_or tape i 0 % m) (i + 1)
  scan_taken inside h = rw (drop-cons tape i 0 inside, add-one) (scan_take limit m (get_or tape i 0) (drop (suc i) tape) i h)

  pub scan_passed : i < length tape → limit ≤ get_or tape i 0 → scan limit m (drop i tape) i ≡ scan limit m (drop (i + 1) tape) (i + 1)
  scan_passed inside h = rw (drop-cons tape i 0 inside, add-one) (scan_pass limit m (get_or tape i 0) (drop (suc i) tape) i h)

  pub scan_ended : length tape ≤ i → scan limit m (drop i tape) i ≡ None
  scan_ended past = rw (drop_of_length-le tape past) (scan_nil limit m i)

-- No word is below the limit 0.
scan_none : (m : ℕ) (words : List ℕ) (at : ℕ) → scan 0 m words at ≡ None
scan_none m [] at = scan_nil 0 m at
scan_none m (word ∷ words) at = scan_pass 0 m word words at (omega arith) ∙ scan_none m words (suc at)

module _ (W : ℕ) (tape : List ℕ) (at : ℕ) where
  pub draw_one : draw_from W 1 tape at ≡ face_at 0 at
  unfolding draw_from
  draw_one = if_eq_yes 1 1 _ _ refl

  pub draw_many : (m : ℕ) → m ≢ 1 → draw_from W m tape at ≡ scan (m * (W / m)) m (drop at tape) at
  unfolding draw_from
  draw_many m ne = if_eq_no m 1 _ _ ne

  pub draw_none : draw_from W 0 tape at ≡ None
  draw_none = draw_many 0 (λ e. omega arith) ∙ rw (zero-mul (W / 0)) (scan_none 0 (drop at tape) at)

  pub draw_above : (m : ℕ) → m ≢ 1 → W < m → draw_from W m tape at ≡ None
  draw_above m ne h = draw_many m ne ∙ rw (div-eq_of_lt h, mul-zero m) (scan_none m (drop at tape) at)

-- A word is below the limit exactly where the largest multiple of m up to the word is at most W - m.
module _ (W m word : ℕ) (pos : 0 < m) (few : m ≤ W) where
  whole : m * (word / m) + word % m ≡ word
  whole = div-add-mod word m

  pub word_below : word - word % m ≤ W - m → word < m * (W / m)
  word_below h =
      let next : word / m + 1 ≤ W / m = (le-div_iff_mul-le pos).1 (omega (arith, whole)) in
      omega (arith, whole, mod-lt word pos, mul-le-mul_left m next)

  pub word_above : W - m < word - word % m → m * (W / m) ≤ word
  word_above h =
      let below : W / m < word / m + 1 = (div-lt_iff_lt-mul pos).1 (omega (arith, whole)) in
      let most : W / m ≤ word / m = omega (arith, below) in
      omega (arith, whole, mul-le-mul_left m most)

-- A draw tells its face and the place after it.
module _ {face next f n : ℕ} (same : face_at face next ≡ face_at f n) where
  pub same_face : face ≡ f
  same_face = ap (λ d. unwrap_or (face_of d) 0) same

  pub same_place : next ≡ n
  same_place = ap (tape_place_after 0) same

-- A face is below m, and the place does not go back.
pub record Sound (m at face next : ℕ) : Type 0 where
  pub below : face < m
  pub onward : at ≤ next

Good : ℕ → ℕ → Option Drawn → Type 0
Good m at d = (face next : ℕ) → d ≡ face_at face next → Sound m at face next

good_face : (m at face next : ℕ) → face < m → at ≤ next → Good m at (face_at face next)
unfolding Good
good_face m at face next b o f n e =
    let ef : face ≡ f = same_face e in
    let en : next ≡ n = same_place e in
    record { below = omega arith; onward = omega arith }

good_ended : (m at : ℕ) → Good m at None
unfolding Good
good_ended m at f n e = let z : ◌≡◌ {A = ℕ} 0 1 = cc in absurd (omega arith)

good_scan : (limit m : ℕ) (words : List ℕ) (at i : ℕ) → 0 < m → at ≤ i → Good m at (scan limit m words i)
unfolding scan
good_scan limit m [] at i p o = good_ended m at
good_scan limit m (word ∷ words) at i p o =
    by_lt (Good m at) word limit _ _
    (λ h. good_face m at (word % m) (suc i) (mod-lt word p) (omega arith))
    (λ h. good_scan limit m words at (suc i) p (omega arith))

good_draw : (W m : ℕ) (tape : List ℕ) (at : ℕ) → Good m at (draw_from W m tape at)
unfolding draw_from
good_draw W zero tape at = rw (draw_none W tape at) (good_ended 0 at)
good_draw W (suc k) tape at =
    by_eq (Good (suc k) at) (suc k) 1 _ _
    (λ e. good_face (suc k) at 0 at (omega arith) (omega arith))
    (λ ne. good_scan (suc k * (W / suc k)) (suc k) (drop at tape) at at (omega arith) (omega arith))

pub draw_sound : (m : ℕ) (tape : List ℕ) (at face next : ℕ) → draw_at m tape at ≡ face_at face next → Sound m at face next
unfolding draw_at Good
draw_sound m tape at face next e = good_draw (2 ^ 32) m tape at face next e

-- A draw is its face and the place after it.
pub draw_apart : (at : ℕ) (d : Option Drawn) → drawn_of (tape_place_after at d) (face_of d) ≡ d
draw_apart at (Some d) = refl
draw_apart at None = refl

-- No draw goes past the end of the tape.
Within : ℕ → Option Drawn → Type 0
Within most d = (face next : ℕ) → d ≡ face_at face next → next ≤ most

within_ended : (most : ℕ) → Within most None
unfolding Within
within_ended most f n e = let z : ◌≡◌ {A = ℕ} 0 1 = cc in absurd (omega arith)

within_face : (most face next : ℕ) → next ≤ most → Within most (face_at face next)
unfolding Within
within_face most face next l f n e = let same : next ≡ n = same_place e in omega arith

within_scan : (limit m : ℕ) (words : List ℕ) (at most : ℕ) → at + length words ≤ most → Within most (scan limit m words at)
unfolding scan
within_scan limit m [] at most l = within_ended most
within_scan limit m (word ∷ words) at most l =
    by_lt (Within most) word limit _ _
    (λ _. within_face most (word % m) (suc at) (omega arith))
    (λ _. within_scan limit m words (suc at) most (omega arith))

pub draw_within : (m : ℕ) (tape : List ℕ) (at : ℕ) → at ≤ length tape → (face next : ℕ) → draw_at m tape at ≡ face_at face next → next ≤ length tape
unfolding draw_at draw_from Within
draw_within m tape at l =
    by_eq (Within (length tape)) m 1 _ _
    (λ _. within_face (length tape) 0 at l)
    (λ _. within_scan _ m (drop at tape) at (length tape) (omega (arith, length-drop at tape)))
