-- A line of more than 130 bytes is no frame, so that its first bytes, if they are more than these, tell what frame it is.
use Rattle.std.specs.Prelude.{◌≡◌, refl, Option, None, ◌⊎◌, List, ℕ, ◌/◌, ◌≤◌, ◌<◌, length, take}
use Rattle.std.proofs.Common.{ap, sym, ◌∙◌, inl, inr, ⊎_elim, arith, take_all, length-take-le}
use Rattle.base.specs.CaseLaws.{by_eq, by_lt, lt_or_ge}
use Rattle.frame_lines.specs.declared.Frame.{Frame}
use Rattle.frame_lines.specs.Frame.{tape_of, frame_of}
use Rattle.frame_lines.specs.FrameLaws.{length_other, by_frame}

module _ (line : List ℕ) (long : 130 < length line) where
  long_tape : tape_of line ≡ None
  unfolding tape_of
  long_tape =
      by_eq (λ (x : Option Frame). x ≡ None) _ _ _ _
      (λ e. by_lt (λ (x : Option Frame). x ≡ None) (length line / 8) 1 _ _ (λ _. refl)
      (λ _. by_lt (λ (x : Option Frame). x ≡ None) 16 (length line / 8) _ _ (λ _. refl) (λ l. absurd (omega (arith, e, l)))))
      (λ _. refl)

  pub frame_long : frame_of line ≡ None
  frame_long =
      by_frame (λ (x : Option Frame). x ≡ None) line
      (λ n x (l : n ≤ 22) _. length_other line n x (λ e. omega (arith, e, l)))
      long_tape refl

module _ (size : ℕ) (more : 130 < size) where
  -- The first bytes of a line are the whole line, or both are no frame.
  pub cut_same : (line : List ℕ) → (take size line ≡ line) ⊎ ((frame_of (take size line) ≡ None) × (frame_of line ≡ None))
  cut_same line =
      ⊎_elim
      (λ (l : length line < size). inl (take_all size line (omega arith)))
      (λ (l : size ≤ length line).
      inr (frame_long (take size line) (omega (arith, length-take-le size line l)), frame_long line (omega arith)))
      (lt_or_ge (length line) size)

  pub frame_cut : (line : List ℕ) → frame_of (take size line) ≡ frame_of line
  frame_cut line = ⊎_elim (λ e. ap frame_of e) (λ both. both.0 ∙ sym both.1) (cut_same line)
