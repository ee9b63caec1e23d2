-- Laws of what is copied.
use Rattle.std.specs.Prelude.{◌≡◌, ◌≢◌, get_or, set}
use Rattle.std.proofs.Math.Path.{refl, ap}
use Rattle.std.proofs.Common.{sym, ◌∙◌, arith, length-append, get_or-set_same}
use mathlib.Core.List.{List, [], ◌∷◌, ◌++◌}
use Rattle.std.proofs.Math.Logic.{⊎_elim}
use Prim.Native.Nat.{ℕ, zero, suc, ◌+◌, ◌≤◌, ◌<◌}
use Rattle.std.proofs.Math.Arith.{lt_of_le-ne}
use Rattle.std.proofs.Math.ListN.{length, length-set}
use Rattle.std.proofs.Math.Seq.{get_or-set_other}
use Rattle.base.specs.CaseLaws.{eq_or_ne}
use Rattle.base.specs.Lists.{tabulate}
use Rattle.base.specs.ListLaws.{length_tabulate, get_d_tabulate, tabulate_append}
use Rattle.store_order.specs.Occurs.{occurs, index_of}
use Rattle.store_order.specs.OccursLaws.{occurs_here, occurs_later, index_here, index_later, at_index}
use Rattle.store_order.specs.Copied.{up, copied, put_to, put_from}

-- ---- numbers one after the other

module _ (r : ℕ) where
  pub up_below : (k n : ℕ) → r < k → occurs r (up k n) ≡ 0
  unfolding tabulate occurs
  up_below k zero l = refl
  up_below k (suc n) l = occurs_later r k (up (suc k) n) (λ e. omega (arith, e)) ∙ up_below (suc k) n (omega arith)

  pub up_above : (k n : ℕ) → k + n ≤ r → occurs r (up k n) ≡ 0
  unfolding tabulate occurs
  up_above k zero l = refl
  up_above k (suc n) l = occurs_later r k (up (suc k) n) (λ e. omega (arith, e)) ∙ up_above (suc k) n (omega arith)

  pub up_once : (k n : ℕ) → k ≤ r → r < k + n → occurs r (up k n) ≡ 1
  unfolding tabulate
  up_once k zero low high = absurd (omega arith)
  up_once k (suc n) low high =
      ⊎_elim
      (λ (e : k ≡ r). occurs_here r k (up (suc k) n) e ∙ ap suc (up_below (suc k) n (omega arith)))
      (λ (d : k ≢ r). occurs_later r k (up (suc k) n) d ∙ up_once (suc k) n (lt_of_le-ne low d) (omega arith))
      (eq_or_ne k r)

  pub index_up : (k n : ℕ) → k ≤ r → r < k + n → k + index_of r (up k n) ≡ r
  index_up k n low high =
      let there = at_index r 0 (up k n) (omega (arith, up_once k n low high)) in
      sym (get_d_tabulate (λ i. i) k n (index_of r (up k n)) 0 (omega (arith, there.0, length_tabulate (λ i. i) k n))) ∙ there.1

-- ---- copied

module _ (from : List ℕ) where
  pub length_copied : (is js to : List ℕ) → length (copied is js from to) ≡ length to
  unfolding copied
  length_copied [] js to = refl
  length_copied (i ∷ is) [] to = refl
  length_copied (i ∷ is) (j ∷ js) to = length_copied is js (set to j (get_or from i 0)) ∙ length-set to j (get_or from i 0)

  copied_append : (is js is' js' to : List ℕ) → length is ≡ length js
      → copied (is ++ is') (js ++ js') from to ≡ copied is' js' from (copied is js from to)
  unfolding copied
  copied_append [] [] is' js' to e = refl
  copied_append [] (j ∷ js) is' js' to e = absurd (omega arith)
  copied_append (i ∷ is) [] is' js' to e = absurd (omega arith)
  copied_append (i ∷ is) (j ∷ js) is' js' to e = copied_append is js is' js' (set to j (get_or from i 0)) (omega arith)

  -- What stands at an index to which nothing is copied stays.
  pub copied_other : (is js to : List ℕ) (k : ℕ) → occurs k js ≡ 0 → get_or (copied is js from to) k 0 ≡ get_or to k 0
  unfolding copied
  copied_other [] js to k none = refl
  copied_other (i ∷ is) [] to k none = refl
  copied_other (i ∷ is) (j ∷ js) to k none =
      ⊎_elim
      (λ (e : j ≡ k). absurd (omega (arith, occurs_here k j js e)))
      (λ (d : j ≢ k).
      copied_other is js (set to j (get_or from i 0)) k (sym (occurs_later k j js d) ∙ none)
      ∙ get_or-set_other to j k (get_or from i 0) 0 (λ e. d (sym e)))
      (eq_or_ne j k)

  -- At an index to which one number is copied stands that number.
  pub copied_at : (is js to : List ℕ) (k : ℕ) → length is ≡ length js → occurs k js ≡ 1 → k < length to
      → get_or (copied is js from to) k 0 ≡ get_or from (get_or is (index_of k js) 0) 0
  unfolding copied occurs
  copied_at [] [] to k e once l = absurd (omega arith)
  copied_at [] (j ∷ js) to k e once l = absurd (omega arith)
  copied_at (i ∷ is) [] to k e once l = absurd (omega arith)
  copied_at (i ∷ is) (j ∷ js) to k e once l =
      ⊎_elim
      (λ (here : j ≡ k).
      copied_other is js (set to j (get_or from i 0)) k (omega (arith, occurs_here k j js here, once))
      ∙ rw (index_here k j js here, here) (get_or-set_same to k (get_or from i 0) 0 l))
      (λ (d : j ≢ k).
      copied_at is js (set to j (get_or from i 0)) k (omega arith) (omega (arith, occurs_later k j js d, once)) (rw (length-set to j (get_or from i 0)) l)
      ∙ rw (index_later k j js d))
      (eq_or_ne j k)

  -- ---- to some indices, and from them

  pub put_to_one : (at k : ℕ) (to : List ℕ) → put_to at (k ∷ []) from to ≡ set to k (get_or from at 0)
  unfolding put_to copied tabulate
  put_to_one at k to = refl

  pub put_from_one : (at k : ℕ) (to : List ℕ) → put_from at (k ∷ []) from to ≡ set to at (get_or from k 0)
  unfolding put_from copied tabulate
  put_from_one at k to = refl

  pub put_to_append : (at : ℕ) (ks ks' to : List ℕ) → put_to at (ks ++ ks') from to ≡ put_to (at + length ks) ks' from (put_to at ks from to)
  unfolding put_to
  put_to_append at ks ks' to =
      rw (length-append ks ks', tabulate_append (λ i. i) at (length ks) (length ks'))
      (copied_append (up at (length ks)) ks (up (at + length ks) (length ks')) ks' to (length_tabulate (λ i. i) at (length ks)))

  pub put_from_append : (at : ℕ) (ks ks' to : List ℕ) → put_from at (ks ++ ks') from to ≡ put_from (at + length ks) ks' from (put_from at ks from to)
  unfolding put_from
  put_from_append at ks ks' to =
      rw (length-append ks ks', tabulate_append (λ i. i) at (length ks) (length ks'))
      (copied_append ks (up at (length ks)) ks' (up (at + length ks) (length ks')) to (sym (length_tabulate (λ i. i) at (length ks))))
