-- A draw that a tape decides is the same on every longer tape that begins with the same words.
use Rattle.std.specs.Prelude.{◌≡◌, ◌≢◌, List, [], ◌∷◌, ◌++◌, ℕ, suc, ◌*◌, ◌/◌, ◌≤◌, ◌<◌, ◌^◌, length, drop, None}
use Rattle.std.proofs.Common.{sym, ◌∙◌, ⊎_elim, arith, drop_of_length-le}
use Rattle.std.proofs.lemmas.List.{drop-append-le}
use Rattle.base.specs.CaseLaws.{eq_or_ne, lt_or_ge, le_or_gt}
use Rattle.draw.specs.Draw.{face_at, scan, draw_at}
use Rattle.draw.specs.DrawLaws.{scan_nil, scan_take, scan_pass, draw_one, draw_many}

scan_longer : (limit m : ℕ) (words more : List ℕ) (at face next : ℕ) → scan limit m words at ≡ face_at face next
    → scan limit m (words ++ more) at ≡ face_at face next
scan_longer limit m [] more at face next e =
    let no : None ≡ face_at face next = sym (scan_nil limit m at) ∙ e in
    let z : ◌≡◌ {A = ℕ} 0 1 = cc in absurd (omega arith)
scan_longer limit m (word ∷ words) more at face next e =
    ⊎_elim
    (λ (h : word < limit). scan_take limit m word (words ++ more) at h ∙ sym (scan_take limit m word words at h) ∙ e)
    (λ (h : limit ≤ word).
    scan_pass limit m word (words ++ more) at h ∙ scan_longer limit m words more (suc at) face next (sym (scan_pass limit m word words at h) ∙ e))
    (lt_or_ge word limit)

pub draw_longer : (m : ℕ) (tape more : List ℕ) (at face next : ℕ) → draw_at m tape at ≡ face_at face next → draw_at m (tape ++ more) at ≡ face_at face next
unfolding draw_at
draw_longer m tape more at face next e =
    ⊎_elim
    (λ (one : m ≡ 1). rw one (draw_one (2 ^ 32) (tape ++ more) at ∙ sym (draw_one (2 ^ 32) tape at) ∙ (rw one at e)))
    (λ (many : m ≢ 1). draw_many (2 ^ 32) (tape ++ more) at m many ∙ scanned many)
    (eq_or_ne m 1)
  where
    scanned : m ≢ 1 → scan (m * (2 ^ 32 / m)) m (drop at (tape ++ more)) at ≡ face_at face next
    scanned many =
        let known : scan (m * (2 ^ 32 / m)) m (drop at tape) at ≡ face_at face next = sym (draw_many (2 ^ 32) tape at m many) ∙ e in
        ⊎_elim
        (λ (l : at ≤ length tape).
        rw (drop-append-le at tape more l) (scan_longer (m * (2 ^ 32 / m)) m (drop at tape) more at face next known))
        (λ (l : length tape < at).
        let past : length tape ≤ at = omega arith in
        let none : scan (m * (2 ^ 32 / m)) m [] at ≡ face_at face next = rw (drop_of_length-le tape past) at known in
        let no : None ≡ face_at face next = sym (scan_nil (m * (2 ^ 32 / m)) m at) ∙ none in
        let z : ◌≡◌ {A = ℕ} 0 1 = cc in absurd (omega arith))
        (le_or_gt at (length tape))
