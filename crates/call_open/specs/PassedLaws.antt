-- What a `?` gives where it meets a refusal: the refusal, with the same cause; and what it says of an `Option` that `ok_or` made a `Result`.
use Rattle.std.specs.Prelude.{◌≡◌, ℕ, Option, Some, None, Result, Ok, Err, ok_or}
use Rattle.std.specs.Result.{IsErrAnd}
use Rattle.std.proofs.Common.{refl, ◌∙◌, sym, ap, arith}
use Rattle.std.proofs.lemmas.Result.{err_from_is_err_and}

pub passed_on : {T E : Type 0} {r : Result T E} {cause : E} → IsErrAnd r (λ e. e ≡ cause) → r ≡ Err cause
passed_on {r = r} is = let p = err_from_is_err_and r is in rw (p.1, p.2)

pub some_of : {T E : Type 0} (o : Option T) (cause : E) {r : Result T E} {x : T} → r ≡ ok_or o cause → r ≡ Ok x → o ≡ Some x
some_of {T} {E} (Some y) cause {r} {x} is h = let both : ◌≡◌ {A = Result T E} (Ok y) (Ok x) = sym is ∙ h in let same : y ≡ x = cc in ap Some same
some_of {T} {E} None cause {r} {x} is h =
    let both : ◌≡◌ {A = Result T E} (Err cause) (Ok x) = sym is ∙ h in let z : ◌≡◌ {A = ℕ} 0 1 = cc in absurd (omega arith)

pub none_of : {T E : Type 0} (o : Option T) (cause : E) {r : Result T E} {e : E} → r ≡ ok_or o cause → r ≡ Err e → (o ≡ None) × (e ≡ cause)
none_of {T} {E} (Some y) cause {r} {e} is h =
    let both : ◌≡◌ {A = Result T E} (Ok y) (Err e) = sym is ∙ h in let z : ◌≡◌ {A = ℕ} 0 1 = cc in absurd (omega arith)
none_of {T} {E} None cause {r} {e} is h =
    let both : ◌≡◌ {A = Result T E} (Err cause) (Err e) = sym is ∙ h in (refl, let same : cause ≡ e = cc in sym same)
