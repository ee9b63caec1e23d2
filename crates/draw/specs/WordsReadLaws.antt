-- A draw at any place depends on the words that it reads alone: not on the words before its place, nor on those behind.
use Rattle.std.specs.Prelude.{◌≡◌, refl, false, ◌≢◌, List, [], ◌∷◌, ◌++◌, ℕ, suc, ◌+◌, ◌*◌, ◌/◌, ◌<◌, ◌≤◌, eqb, length, drop, Option, Some, None}
use Rattle.std.proofs.Common.{sym, ◌∙◌, ⊎_elim, arith, add-suc, add-zero, eq-eqb, ne_eqb, length-drop}
use Rattle.std.proofs.Math.Bool.{and-false}
use Rattle.std.proofs.lemmas.List.{drop-append-le}
use Rattle.std.proofs.Math.Seq.{drop-append-add}
use Rattle.base.specs.CaseLaws.{eq_or_ne, lt_or_ge}
use Rattle.draw.specs.declared.Drawn.{Drawn}
use Rattle.draw.specs.Draw.{scan, draw_from, moved}
use Rattle.draw.specs.DrawLaws.{scan_nil, scan_take, scan_pass, draw_one, draw_many}
use Rattle.draw.specs.Runs.{gives}

-- ---- the words before

scan_moved : (limit m n : ℕ) (words : List ℕ) (at : ℕ) → scan limit m words (n + at) ≡ moved n (scan limit m words at)
scan_moved limit m n [] at = rw (scan_nil limit m (n + at), scan_nil limit m at)
scan_moved limit m n (word ∷ words) at =
    ⊎_elim
    (λ (h : word < limit). rw (scan_take limit m word words (n + at) h, scan_take limit m word words at h, add-suc))
    (λ (h : limit ≤ word).
    rw (scan_pass limit m word words (n + at) h, scan_pass limit m word words at h, ← add-suc n at) (scan_moved limit m n words (suc at)))
    (lt_or_ge word limit)

-- Words before its place only move a draw.
pub draw_moved : (W m : ℕ) (before words : List ℕ) (at : ℕ)
    → draw_from W m (before ++ words) (length before + at) ≡ moved (length before) (draw_from W m words at)
draw_moved W m before words at =
    ⊎_elim
    (λ (e : m ≡ 1). rw (e, draw_one W (before ++ words) (length before + at), draw_one W words at))
    (λ (ne : m ≢ 1).
    rw (draw_many W (before ++ words) (length before + at) m ne, draw_many W words at m ne, drop-append-add before words at)
    (scan_moved (m * (W / m)) m (length before) (drop at words) at))
    (eq_or_ne m 1)

-- ---- the words behind

-- a scan ends past the place where it begins
scan_past : (limit m face place : ℕ) (words : List ℕ) (at : ℕ) → place ≤ at → gives face place (scan limit m words at) ≡ false
unfolding gives
scan_past limit m face place [] at l = rw (scan_nil limit m at)
scan_past limit m face place (word ∷ words) at l =
    ⊎_elim
    (λ (h : word < limit). rw (scan_take limit m word words at h, ne_eqb (suc at) place (λ e. omega arith), and-false))
    (λ (h : limit ≤ word). rw (scan_pass limit m word words at h) (scan_past limit m face place words (suc at) (omega arith)))
    (lt_or_ge word limit)

scan_behind : (limit m face place : ℕ) (words more : List ℕ) (at : ℕ) → place ≤ at + length words
    → gives face place (scan limit m (words ++ more) at) ≡ gives face place (scan limit m words at)
scan_behind limit m face place [] more at l =
    scan_past limit m face place more at (omega arith) ∙ sym (scan_past limit m face place [] at (omega arith))
scan_behind limit m face place (word ∷ words) more at l =
    ⊎_elim
    (λ (h : word < limit). rw (scan_take limit m word (words ++ more) at h, scan_take limit m word words at h))
    (λ (h : limit ≤ word).
    rw (scan_pass limit m word (words ++ more) at h, scan_pass limit m word words at h) (scan_behind limit m face place words more (suc at) (omega arith)))
    (lt_or_ge word limit)

-- Words behind the place where it is to end do not matter to a draw.
pub draw_behind : (W m face place : ℕ) (words more : List ℕ) (at : ℕ) → at ≤ length words → place ≤ length words
    → gives face place (draw_from W m (words ++ more) at) ≡ gives face place (draw_from W m words at)
draw_behind W m face place words more at inside l =
    ⊎_elim
    (λ (e : m ≡ 1). rw (e, draw_one W (words ++ more) at, draw_one W words at))
    (λ (ne : m ≢ 1).
    rw (draw_many W (words ++ more) at m ne, draw_many W words at m ne, drop-append-le at words more inside)
    (scan_behind (m * (W / m)) m face place (drop at words) more at (omega (arith, length-drop at words))))
    (eq_or_ne m 1)

-- ---- both

eqb_add : (n x y : ℕ) → eqb (n + x) (n + y) ≡ eqb x y
eqb_add n x y =
    ⊎_elim
    (λ (e : x ≡ y). eq-eqb (n + x) (n + y) (omega arith) ∙ sym (eq-eqb x y e))
    (λ (ne : x ≢ y). ne_eqb (n + x) (n + y) (λ e. ne (omega arith)) ∙ sym (ne_eqb x y ne))
    (eq_or_ne x y)

pub gives_moved : (n face place : ℕ) (d : Option Drawn) → gives face (n + place) (moved n d) ≡ gives face place d
unfolding gives
gives_moved n face place (Some d) = rw (eqb_add n d.next place)
gives_moved n face place None = refl

-- Whether a draw gives this face and reads exactly these words depends on these words alone, whatever stands before and behind them.
pub draw_reads : (W m face : ℕ) (before words more : List ℕ)
    → gives face (length before + length words) (draw_from W m (before ++ (words ++ more)) (length before)) ≡ gives face (length words) (draw_from W m words 0)
draw_reads W m face before words more =
    let moves : draw_from W m (before ++ (words ++ more)) (length before) ≡ moved (length before) (draw_from W m (words ++ more) 0) =
    rw add-zero at (draw_moved W m before (words ++ more) 0) in
    rw moves
    (gives_moved (length before) face (length words) (draw_from W m (words ++ more) 0)
    ∙ draw_behind W m face (length words) words more 0 (omega arith) (omega arith))
