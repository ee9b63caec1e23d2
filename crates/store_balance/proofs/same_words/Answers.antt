-- `same_words` meets its contract.
use Rattle.std.proofs.Common.{rules, ◌≡◌, ℕ, bit_or, bit_xor}
use Rattle.std.specs.List.{fold, zip}
use Rattle.std.proofs.Math.Seq.{take-length}
use Rattle.std.proofs.lemmas.Iterator.{YieldsList-from_slice, YieldsList-from_zip}
use Rattle.std.proofs.lemmas.Iterator.Consumers.{fold_from_yields_List}
use Rattle.store_zeros.specs.SameLaws.{same_joined}
use Rattle.store_balance.proofs.same_words.Goals as goal

-- `take-length` is for a body that compares a part of the words: it is refused for what it leaves out.
pub returns : goal.returns
returns c =
    let a = c.args in
    let joined : c.fold-joined.result ≡ fold (λ (j : ℕ) (p : ℕ × ℕ). bit_or j (bit_xor p.0 p.1)) 0 (zip a.a.now a.b.now) =
    fold_from_yields_List _ (λ (j : ℕ) (p : ℕ × ℕ). bit_or j (bit_xor p.0 p.1)) 0 c.fold-joined.result c.fold-joined.ensures.ran
    (YieldsList-from_zip (YieldsList-from_slice a.a.now (search (rules, take-length a.a.now))) (YieldsList-from_slice a.b.now (search (rules, take-length a.b.now))))
    (λ j x k q called. search rules) in
    rw joined (same_joined a.a.now a.b.now 0 c.requires)
