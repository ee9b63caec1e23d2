-- Two lists compared by their differences, which are joined bit by bit.
use Rattle.std.specs.Prelude.{◌≡◌, ◌&&◌, List, [], ◌∷◌, ℕ, length, eqb}
use Rattle.std.proofs.Common.{sym, eq-eqb, eqb-true}
use native.Mathlib.Omega.{arith}
use Rattle.std.specs.Int.Bits.{bit_or, bit_xor, xor_add_and, xor_self}
use Rattle.std.proofs.lemmas.Nat.{and_le_l, and_le_r}
use Rattle.std.specs.List.{fold, zip}
use Rattle.base.specs.Lists.{equal_lists}
use Rattle.base.specs.BoolLaws.{and_assoc, and_true, tests_agree}
use Rattle.store_zeros.specs.ZeroLaws.{joined_zero}

-- Two numbers differ in no bit exactly where they are equal.
difference_zero : (a b : ℕ) → eqb (bit_xor a b) 0 ≡ eqb a b
difference_zero a b =
    tests_agree (eqb (bit_xor a b) 0) (eqb a b)
    (λ h. eq-eqb a b (omega (arith, eqb-true (bit_xor a b) 0 h, xor_add_and a b, and_le_l a b, and_le_r a b)))
    (λ h. rw (eqb-true a b h, xor_self b) (eq-eqb 0 0 (omega arith)))

-- Two lists of one length are equal exactly where no difference is left of those that are joined.
pub same_joined : (xs ys : List ℕ) (joined : ℕ) → length xs ≡ length ys
    → eqb (fold (λ (j : ℕ) (p : ℕ × ℕ). bit_or j (bit_xor p.0 p.1)) joined (zip xs ys)) 0 ≡ (eqb joined 0 && equal_lists xs ys)
unfolding equal_lists
same_joined [] [] joined same = sym (and_true (eqb joined 0))
same_joined [] (y ∷ ys) joined same = absurd (omega (arith, same))
same_joined (x ∷ xs) [] joined same = absurd (omega (arith, same))
same_joined (x ∷ xs) (y ∷ ys) joined same =
    rw (same_joined xs ys (bit_or joined (bit_xor x y)) (omega (arith, same)), joined_zero joined (bit_xor x y), difference_zero x y)
    (and_assoc (eqb joined 0) (eqb x y) (equal_lists xs ys))
