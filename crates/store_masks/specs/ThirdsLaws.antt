-- The taken slots worked out slot by slot, and in three parts.
use Rattle.std.specs.Prelude.{◌≡◌, List, [], ◌∷◌, ◌++◌, ℕ, suc, ◌+◌, ◌-◌, ◌*◌, ◌^◌, ◌≤◌, ◌<◌, length, get_or, take, drop}
use Rattle.std.proofs.Math.Path.{refl}
use Rattle.std.proofs.Common.{◌∙◌, length-drop, pow-add, pow_mono, pow_pos, take-suc, take-add, drop-drop, get_or-drop, add_assoc, mul-le-mul_right, suc-mul, add-one, arith}
use Rattle.base.specs.ListLaws.{length_part}
use Rattle.store_masks.specs.Mask.{is_taken, taken}
use Rattle.store_masks.specs.MaskLaws.{taken_bound, taken_append, taken_one}

-- The number is one more than the taken ones of i slots from `from` on.
pub record Told (slots : List ℕ) (from i number : ℕ) : Type 0 where
  pub is : number ≡ 1 + taken (take i (drop from slots))

module _ (slots : List ℕ) (from : ℕ) where
  pub told_none : Told slots from 0 1
  unfolding taken
  told_none = record { is = refl }

  module _ {i number : ℕ} (w : Told slots from i number) where
    pub told_some : 0 < number
    told_some = omega (arith, w.is)

    pub told_bound : from + i ≤ length slots → number ≤ 2 ^ i
    told_bound room =
        let below : taken (take i (drop from slots)) < 2 ^ i
        = rw (length_part slots from i room) at (taken_bound (take i (drop from slots))) in
        omega (arith, w.is, below)

    pub told_small : from + i ≤ length slots → i ≤ 20 → number < 2 ^ 63
    told_small room few = omega (arith, told_bound room, pow_mono {i = i} {j = 20} few)

    pub told_next : {next : ℕ} → from + i < length slots → next ≡ 2 * number + is_taken (get_or slots (from + i) 0) - 1
        → Told slots from (i + 1) next
    told_next room e =
        let x = get_or slots (from + i) 0 in
        let front = take i (drop from slots) in
        let more : take (i + 1) (drop from slots) ≡ front ++ (x ∷ [])
        = rw (add-one i) (take-suc (drop from slots) i 0 (omega (arith, length-drop from slots)) ∙ rw (get_or-drop from slots i 0)) in
        record { is = e ∙ rw (more, taken_append front (x ∷ []), taken_one x) (omega (arith, w.is)) }

two_fit : {a b : ℕ} (j k : ℕ) → a < 2 ^ j → b < 2 ^ k → a * 2 ^ k + b < 2 ^ (j + k)
two_fit {a} {b} j k l m =
    let whole : suc a * 2 ^ k ≤ 2 ^ j * 2 ^ k = mul-le-mul_right (2 ^ k) l in
    rw (pow-add 2 j k) (omega (arith, whole, suc-mul a (2 ^ k)))

pub told_digits : {slots : List ℕ} {from g number : ℕ} → Told slots from g number → from + g ≤ length slots → number - 1 < 2 ^ g
told_digits {slots} {from} {g} w room = omega (arith, told_bound slots from w room, pow_pos g)

-- ---- three parts

-- Three numbers of g digits, written one after the other, have 3 g.
pub digits_fit : {left middle right : ℕ} (g : ℕ) → g ≤ 20 → left < 2 ^ g → middle < 2 ^ g → right < 2 ^ g
    → (left * 2 ^ g + middle < 2 ^ 40) × ((left * 2 ^ g + middle) * 2 ^ g + right < 2 ^ 60)
digits_fit {left} {middle} {right} g few l m r =
    let two : left * 2 ^ g + middle < 2 ^ (g + g) = two_fit g g l m in
    let three : (left * 2 ^ g + middle) * 2 ^ g + right < 2 ^ (g + g + g) = two_fit (g + g) g two r in
    (omega (arith, two, pow_mono {i = g + g} {j = 40} (omega arith)), omega (arith, three, pow_mono {i = g + g + g} {j = 60} (omega arith)))

module _ (slots : List ℕ) (from g : ℕ) (room : from + 3 * g ≤ length slots) where
  part_number : {at number : ℕ} → Told slots at g number → number - 1 ≡ taken (take g (drop at slots))
  part_number w = omega (arith, w.is)

  pub parts_taken : {left middle right : ℕ} → Told slots from g left → Told slots (from + g) g middle → Told slots (from + g + g) g right
      → ((left - 1) * 2 ^ g + (middle - 1)) * 2 ^ g + (right - 1) ≡ taken (take (3 * g) (drop from slots))
  parts_taken {left} {middle} {right} a b c =
      let size : 3 * g ≡ g + g + g = omega arith in
      let second = take g (drop (from + g) slots) in
      let third = take g (drop (from + g + g) slots) in
      let e : take (3 * g) (drop from slots) ≡ (take g (drop from slots) ++ second) ++ third
      = rw (size, take-add (g + g) g (drop from slots), take-add g g (drop from slots), drop-drop g from slots, drop-drop (g + g) from slots, ← add_assoc from g g)
      in
      rw (
        e,
        taken_append (take g (drop from slots) ++ second) third,
        taken_append (take g (drop from slots)) second,
        length_part slots (from + g + g) g (omega (arith, room)),
        length_part slots (from + g) g (omega (arith, room)),
        part_number a,
        part_number b,
        part_number c,
      )
