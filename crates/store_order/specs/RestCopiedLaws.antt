-- The numbers that are no range's, copied one after the other.
use Rattle.std.specs.Prelude.{◌≡◌, List, ◌≢◌, ℕ, ◌+◌, ◌<◌, length, get_or, set}
use Rattle.std.proofs.Common.{◌∙◌, ⊎_elim, length-set, get_or-set_same, get_or-set_other, ext_get_or, arith}
use Rattle.std.proofs.Math.Arith.{lt_of_le-ne}
use Rattle.base.specs.CaseLaws.{eq_or_ne}
use Rattle.store_order.specs.Copied.{RestCopied}

-- The number 0; one number more.
module _ {start : ℕ} {xs : List ℕ} (to : List ℕ) where
  pub rest_size : length to ≡ length xs → 0 < length xs → RestCopied start start xs (set to 0 (get_or xs 0 0))
  rest_size same some = record {
    same_length = length-set to 0 (get_or xs 0 0) ∙ same;
    size = get_or-set_same to 0 (get_or xs 0 0) 0 (omega (arith, same, some));
    rest = λ k low high. absurd (omega (arith, low, high));
  }

  pub rest_next : {i : ℕ} → RestCopied start i xs to → 0 < i → i < length xs → RestCopied start (i + 1) xs (set to i (get_or xs i 0))
  rest_next {i} c low inside = record {
    same_length = length-set to i (get_or xs i 0) ∙ c.same_length;
    size = get_or-set_other to i 0 (get_or xs i 0) 0 (λ e. omega (arith, e)) ∙ c.size;
    rest = λ k first last.
        ⊎_elim
        (λ (e : k ≡ i). rw e (get_or-set_same to i (get_or xs i 0) 0 (omega (arith, c.same_length))))
        (λ (d : k ≢ i). get_or-set_other to i k (get_or xs i 0) 0 d ∙ c.rest k first (lt_of_le-ne (omega arith) d))
        (eq_or_ne k i);
  }

-- Where the numbers from 1 on are copied, all are.
pub rest_all : {xs to : List ℕ} → RestCopied 1 (length xs) xs to → to ≡ xs
rest_all {xs} {to} c =
    ext_get_or 0 to xs c.same_length
    (λ i l.
    ⊎_elim
    (λ (e : i ≡ 0). rw e c.size)
    (λ (d : i ≢ 0). c.rest i (omega (arith, d)) (rw c.same_length at l))
    (eq_or_ne i 0))
