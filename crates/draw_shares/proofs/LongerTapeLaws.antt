-- A run that ends on a tape is the same on every longer tape that begins with the same words.
use Rattle.std.specs.Prelude.{◌≡◌, refl, List, ◌++◌, ℕ, length, take, drop, Option, Some, None}
use Rattle.std.proofs.Common.{ap, ap₂, sym, ◌∙◌, arith}
use Rattle.std.proofs.Math.Seq.{take-append_seam, drop-append_seam}
use Rattle.draw.specs.declared.Drawn.{Drawn}
use Rattle.draw.specs.Draw.{face_at, draw_at}
use Rattle.draw.specs.LongerTapeLaws.{draw_longer}
use Rattle.draw_shares.specs.Program.{Program, done, draw}
use Rattle.draw_shares.specs.Tape.{ran, after_draw, run_at}
use Rattle.draw_shares.proofs.TapeLaws.{run_face}

pub run_longer : {A : Type 0} (p : Program A) (tape more : List ℕ) (at : ℕ) (a : A) (next : ℕ) → run_at p tape at ≡ ran a next
    → run_at p (tape ++ more) at ≡ ran a next
unfolding run_at after_draw
run_longer (done b) tape more at a next e = e
run_longer {A} (draw m p) tape more at a next e =
    go (draw_at m tape at) (draw_longer m tape more at) (λ f n. run_longer (p f) tape more n a next) e
  where
    go : (d : Option Drawn) → ((f n : ℕ) → d ≡ face_at f n → draw_at m (tape ++ more) at ≡ face_at f n)
        → ((f n : ℕ) → run_at (p f) tape n ≡ ran a next → run_at (p f) (tape ++ more) n ≡ ran a next)
        → after_draw d (λ f n. run_at (p f) tape n) ≡ ran a next → run_at (draw m p) (tape ++ more) at ≡ ran a next
    go (Some d) same ih e = run_face m p (tape ++ more) at d.face d.next (same d.face d.next refl) ∙ ih d.face d.next e
    go None same ih e = let z : ◌≡◌ {A = ℕ} 0 1 = cc in absurd (omega arith)

-- Of the tapes at the front of the same words, a program reads at most one to its end.
pub tape_unique : {A : Type 0} (p : Program A) (tape tape' more more' : List ℕ) (a a' : A) → run_at p tape 0 ≡ ran a (length tape)
    → run_at p tape' 0 ≡ ran a' (length tape') → tape ++ more ≡ tape' ++ more' → (tape ≡ tape') × (more ≡ more')
tape_unique {A} p tape tape' more more' a a' e e' same =
    let whole : run_at p (tape ++ more) 0 ≡ ran a (length tape) = run_longer p tape more 0 a (length tape) e in
    let whole' : run_at p (tape' ++ more') 0 ≡ ran a' (length tape') = run_longer p tape' more' 0 a' (length tape') e' in
    let both : ran a (length tape) ≡ ran a' (length tape') = sym whole ∙ ap (λ (words : List ℕ). run_at p words 0) same ∙ whole' in
    let size : length tape ≡ length tape' = cc in (
      sym (take-append_seam tape more) ∙ ap₂ (λ (n : ℕ) (words : List ℕ). take n words) size same ∙ take-append_seam tape' more',
      sym (drop-append_seam tape more) ∙ ap₂ (λ (n : ℕ) (words : List ℕ). drop n words) size same ∙ drop-append_seam tape' more',
    )
