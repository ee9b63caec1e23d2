-- Writing in parts, one after the other, from left to right.
use Rattle.std.specs.Prelude.{◌≡◌, refl, List, [], ◌∷◌, ◌++◌, ℕ, suc, ◌+◌, ◌≤◌, ◌<◌, length, get_or, set, take, drop}
use Rattle.std.proofs.Common.{sym, ap, ◌∙◌, append_assoc, append-nil, arith, add-one, length-append, take-append-drop, length-drop, length-take-le, take_at, drop_at, drop-cons, drop-drop}
use Rattle.std.proofs.lemmas.List.{set_at}
use Rattle.frame_replies.specs.Wrote.{Wrote, Writing}

module _ {old : List ℕ} {at : ℕ} where
  -- The output keeps its length.
  pub wrote_length : {bytes new : List ℕ} {next : ℕ} → Wrote old at bytes new next → length new ≡ length old
  wrote_length {bytes} {new} {next} w =
      let front : length (take at old) ≡ at = length-take-le at old (omega (arith, w.end, w.room)) in
      rw (w.is, length-append (take at old) (bytes ++ drop next old), length-append bytes (drop next old))
      (omega (arith, front, w.end, w.room, length-drop next old))

  -- There is room for more bytes behind these where there was room for both.
  pub wrote_room : {bytes new : List ℕ} {next : ℕ} → Wrote old at bytes new next → (c more : ℕ) → length bytes ≡ c → at + (c + more) ≤ length old
      → next + more ≤ length new
  wrote_room w c more e l = omega (arith, w.end, wrote_length w)

  pub wrote_none : at ≤ length old → Wrote old at [] old at
  wrote_none l = record { is = sym (take-append-drop at old); end = omega arith; room = l }

  pub wrote_more : {xs ys mid new : List ℕ} {p q : ℕ} → Wrote old at xs mid p → Wrote mid p ys new q → Wrote old at (xs ++ ys) new q
  wrote_more {xs} {ys} {mid} {new} {p} {q} v w =
      let front : length (take at old) ≡ at = length-take-le at old (omega (arith, v.end, v.room)) in
      let seam : length (take at old ++ xs) ≡ p = length-append (take at old) xs ∙ omega (arith, front, v.end) in
      let split : mid ≡ (take at old ++ xs) ++ drop p old = v.is ∙ sym (append_assoc (take at old) xs (drop p old)) in
      let before : take p mid ≡ take at old ++ xs = rw split (take_at (take at old ++ xs) (drop p old) p seam) in
      let after : drop p mid ≡ drop p old = rw split (drop_at (take at old ++ xs) (drop p old) p seam) in
      let behind : drop q mid ≡ drop q old =
      rw (w.end, ← drop-drop (length ys) p mid, after, drop-drop (length ys) p old) in
      record {
        is = w.is ∙ rw (before, behind) (simp append_assoc);
        end = omega (arith, v.end, w.end, length-append xs ys);
        room = omega (arith, w.room, wrote_length v);
      }

-- One byte.
pub wrote_one : (old : List ℕ) (at x : ℕ) → at < length old → Wrote old at (x ∷ []) (set old at x) (at + 1)
wrote_one old at x l =
    let front : length (take at old) ≡ at = length-take-le at old (omega arith) in
    let split : old ≡ take at old ++ (get_or old at 0 ∷ drop (suc at) old) = sym (rw (← drop-cons old at 0 l) (take-append-drop at old)) in
    record {
      is = ap (λ (o : List ℕ). set o at x) split ∙ rw (add-one at) (set_at (take at old) (get_or old at 0) (drop (suc at) old) x at front);
      end = refl;
      room = omega arith;
    }

module _ {old total : List ℕ} {at : ℕ} where
  pub writing_start : at ≤ length old → Writing old at total total old at
  writing_start l = record { done = []; all = refl; wrote = wrote_none l }

  -- The next part is written.
  pub writing_next : {part rest mid new : List ℕ} {p q : ℕ} → Writing old at total (part ++ rest) mid p → Wrote mid p part new q
      → Writing old at total rest new q
  writing_next {part} {rest} v w = record {
    done = v.done ++ part;
    all = v.all ∙ sym (append_assoc v.done part rest);
    wrote = wrote_more v.wrote w;
  }

  -- The last part is written.
  pub writing_last : {part mid new : List ℕ} {p q : ℕ} → Writing old at total part mid p → Wrote mid p part new q → Wrote old at total new q
  writing_last v w = rw v.all (wrote_more v.wrote w)

  -- Nothing is left to write.
  pub writing_done : {new : List ℕ} {p : ℕ} → Writing old at total [] new p → Wrote old at total new p
  writing_done v = rw (v.all, append-nil v.done) v.wrote

  -- There is room for the rest where there was room for all.
  pub writing_room : {rest mid : List ℕ} {p : ℕ} → Writing old at total rest mid p → at + length total ≤ length old → p + length rest ≤ length mid
  writing_room {rest} v l =
      omega (arith, rw (v.all, length-append v.done rest) at l, v.wrote.end, wrote_length v.wrote)
