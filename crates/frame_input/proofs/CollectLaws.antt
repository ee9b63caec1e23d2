-- What one byte more does to the collecting of a line: at the end of the chunk, at an LF, and at another byte, with and without room; and
-- that collecting goes on in the chunk and keeps within the line buffer.
use Rattle.std.specs.Prelude.{◌≡◌, true, false, ◌≢◌, List, [], ◌∷◌, take, drop, get_or, set}
use Rattle.std.proofs.Math.Path.{ap}
use Rattle.std.proofs.Common.{⊎_elim, append-nil, take-append-drop, drop_of_length-le, take-suc-set, drop-set-lt, drop-cons}
use Prim.Native.Nat.{ℕ, suc, ◌+◌, ◌-◌, ◌≤◌, ◌<◌}
use Rattle.std.proofs.Math.Nat.{add-zero, add-suc, suc-add, min-le_left}
use Rattle.std.proofs.Math.Numerals.{add-one}
use native.Mathlib.Omega.{arith}
use Rattle.std.proofs.Math.ListN.{length, length-set, length-take}
use Rattle.std.proofs.Math.Seq.{take-nil, append_snoc}
use Rattle.base.specs.CaseLaws.{if_eq_yes, if_eq_no, eq_or_ne}
use Rattle.frame_input.specs.declared.Collected.{Collected}
use Rattle.frame_input.specs.Lines.{Outcome, up_to_lf, has_lf, length_with_lf, left, behind, collecting_of, collecting}

-- ---- the first byte

module _ (b : ℕ) (bytes : List ℕ) where
  pub up_to_lf_lem : b ≡ 10 → up_to_lf (b ∷ bytes) ≡ []
  unfolding up_to_lf
  up_to_lf_lem e = if_eq_yes b 10 _ _ e

  pub up_to_other : b ≢ 10 → up_to_lf (b ∷ bytes) ≡ b ∷ up_to_lf bytes
  unfolding up_to_lf
  up_to_other ne = if_eq_no b 10 _ _ ne

  pub has_lf_lem : b ≡ 10 → has_lf (b ∷ bytes) ≡ true
  unfolding has_lf
  has_lf_lem e = if_eq_yes b 10 _ _ e

  pub has_other : b ≢ 10 → has_lf (b ∷ bytes) ≡ has_lf bytes
  unfolding has_lf
  has_other ne = if_eq_no b 10 _ _ ne

  pub length_lf : b ≡ 10 → length_with_lf (b ∷ bytes) ≡ 1
  unfolding length_with_lf
  length_lf e = rw (up_to_lf_lem e, has_lf_lem e)

  pub length_other : b ≢ 10 → length_with_lf (b ∷ bytes) ≡ suc (length_with_lf bytes)
  unfolding length_with_lf
  length_other ne = rw (up_to_other ne, has_other ne) (suc-add (length (up_to_lf bytes)) _)

-- ---- the line buffer

pub behind_none : (line : List ℕ) (have : ℕ) → behind line have [] ≡ line
unfolding behind
behind_none line have = rw (add-zero have, append-nil (take have line)) (take-append-drop have line)

pub behind_cons : (line : List ℕ) (have b : ℕ) (more : List ℕ) → have < length line
    → behind line have (b ∷ more) ≡ behind (set line have b) (suc have) more
unfolding behind
behind_cons line have b more l =
    rw (
      take-suc-set line have b l,
      drop-set-lt (suc have + length more) line have b (omega arith),
      append_snoc (take have line) b more,
      add-suc have (length more),
      suc-add have (length more),
    )

-- ---- a step of the collecting

module _ (line : List ℕ) (have : ℕ) where
  pub collecting_nil : (from : ℕ) → collecting_of [] from line have ≡ left (record { next = from; have = have; ended = false }) line
  unfolding collecting_of length_with_lf up_to_lf has_lf
  collecting_nil from = rw (take-nil {A = ℕ} (length line - have), behind_none line have, add-zero have, add-zero from)

  module _ (b : ℕ) (bytes : List ℕ) (from : ℕ) where
    pub collecting_lf : b ≡ 10 → collecting_of (b ∷ bytes) from line have ≡ left (record { next = from + 1; have = have; ended = true }) line
    unfolding collecting_of
    collecting_lf e =
        rw (up_to_lf_lem b bytes e, has_lf_lem b bytes e, length_lf b bytes e, take-nil {A = ℕ} (length line - have), behind_none line have, add-zero have)

    pub collecting_room : b ≢ 10 → have < length line
        → collecting_of (b ∷ bytes) from line have ≡ collecting_of bytes (from + 1) (set line have b) (have + 1)
    unfolding collecting_of
    collecting_room ne l =
        let room : length line - have ≡ suc (length line - suc have) = omega arith in
        rw (
          up_to_other b bytes ne,
          has_other b bytes ne,
          length_other b bytes ne,
          length-set line have b,
          add-one have,
          add-one from,
          room,
          behind_cons line have b (take (length line - suc have) (up_to_lf bytes)) l,
          add-suc from (length_with_lf bytes),
          suc-add from (length_with_lf bytes),
          add-suc have (length (take (length line - suc have) (up_to_lf bytes))),
          suc-add have (length (take (length line - suc have) (up_to_lf bytes))),
        )

    pub collecting_full : b ≢ 10 → length line ≤ have → collecting_of (b ∷ bytes) from line have ≡ collecting_of bytes (from + 1) line have
    unfolding collecting_of
    collecting_full ne l =
        let none : length line - have ≡ 0 = omega arith in
        rw (has_other b bytes ne, length_other b bytes ne, none, add-one from, add-suc from (length_with_lf bytes), suc-add from (length_with_lf bytes))

-- ---- a turn of the loop

module _ (input : List ℕ) (at : ℕ) (line : List ℕ) (have : ℕ) where
  pub collect_end : length input ≤ at → collecting input at line have ≡ left (record { next = at; have = have; ended = false }) line
  unfolding collecting
  collect_end l = rw (drop_of_length-le input l) (collecting_nil line have at)

  module _ (more : at < length input) where
    pub collect_lf : get_or input at 0 ≡ 10 → collecting input at line have ≡ left (record { next = at + 1; have = have; ended = true }) line
    unfolding collecting
    collect_lf e = rw (drop-cons input at 0 more) (collecting_lf line have (get_or input at 0) (drop (suc at) input) at e)

    pub collect_room : get_or input at 0 ≢ 10 → have < length line
        → collecting input at line have ≡ collecting input (at + 1) (set line have (get_or input at 0)) (have + 1)
    unfolding collecting
    collect_room ne l =
        rw (drop-cons input at 0 more, ← add-one at) (collecting_room line have (get_or input at 0) (drop (at + 1) input) at ne l)

    pub collect_full : get_or input at 0 ≢ 10 → length line ≤ have → collecting input at line have ≡ collecting input (at + 1) line have
    unfolding collecting
    collect_full ne l =
        rw (drop-cons input at 0 more, ← add-one at) (collecting_full line have (get_or input at 0) (drop (at + 1) input) at ne l)

-- ---- where to go on, and how many bytes the line buffer holds

length_with : (b : ℕ) (bytes : List ℕ) → 0 < length_with_lf (b ∷ bytes)
length_with b bytes = ⊎_elim (λ e. omega (arith, length_lf b bytes e)) (λ ne. omega (arith, length_other b bytes ne)) (eq_or_ne b 10)

module _ (input : List ℕ) (from : ℕ) (line : List ℕ) (have : ℕ) where
  pub next_further : from < length input → from < (collecting input from line have).answer.next
  unfolding collecting collecting_of left
  next_further more = rw (drop-cons input from 0 more) (omega (arith, length_with (get_or input from 0) (drop (suc from) input)))

  pub have_within : have ≤ length line → (collecting input from line have).answer.have ≤ length line
  unfolding collecting collecting_of left
  have_within l =
      let room = length line - have in
      let part = up_to_lf (drop from input) in
      omega (arith, length-take room part, min-le_left room (length part))

  -- the same, of what `collect` returns
  module _ (r : Collected) (line' : List ℕ) (e : left r line' ≡ collecting input from line have) where
    returned : r ≡ (collecting input from line have).answer
    unfolding left
    returned = ap (λ (o : Outcome). o.answer) e

    pub collected_further : from < length input → from < r.next
    collected_further more = rw returned (next_further more)

    pub collected_within : have ≤ length line → r.have ≤ length line
    collected_within l = rw returned (have_within l)
