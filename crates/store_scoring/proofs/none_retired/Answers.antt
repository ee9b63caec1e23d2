-- `none_retired` meets its contract.
use Rattle.std.proofs.Common.{rules, ◌≡◌, ◌<◌, ◌*◌, ◌∙◌, sym, ℕ, List, drop, length, true, false}
use Rattle.std.specs.Bool.{MatchBool}
use Rattle.std.specs.List.{AllWithin, HoldsAt}
use Rattle.std.specs.Simd.{first_chunks}
use Rattle.std.proofs.lemmas.Iterator.{cases_from_all, YieldsList-from_slice}
use borrow.Author.Tests.{tests}
use Rattle.store_layout.specs.Leaf.{nonzero}
use Rattle.store_scoring.specs.Scoring.{none_retired}
use Rattle.store_scoring.specs.ScoringLaws.{none_blocks, some_block}
use Rattle.store_scoring.proofs.none_retired.Goals as goal

-- No boat of these slots is retired, or one is.
abbrev none : List ℕ → Type 0
none slots = none_retired (nonzero slots) ≡ true

abbrev some : List ℕ → Type 0
some slots = none_retired (nonzero slots) ≡ false

-- Of the blocks of n slots that these slots begin with, and behind which the rest stands, one has a retired boat.
found : (n k : ℕ) (slots : List ℕ) {blocks : List (List ℕ)} {rest : List ℕ} → rest ≡ drop (k * n) slots → blocks ≡ first_chunks n k slots
    → (i : ℕ) × (i < length blocks) × HoldsAt some blocks i → some slots
found n k slots back front one = let out = rw front at one in some_block n k slots out.0 out.1 out.2

pub returns-then-all : goal.returns-then-all
returns-then-all c =
    let blocks = c.as_chunks.result.0.now in
    let tested : MatchBool c.all.result (AllWithin none blocks 0 (length blocks)) ((k : ℕ) × (k < length blocks) × HoldsAt some blocks k) =
    cases_from_all _ _ _ none some c.all.ensures.ran (YieldsList-from_slice blocks (cc)) (λ x q k. search (rules, tests)) (λ x q k. search (rules, tests)) in
    let every : AllWithin none blocks 0 (length blocks) = rw c.if-all.true at tested in
    rw (c.none_among.ensures, c.as_chunks.ensures.back) (sym (none_blocks _ _ _ (rw c.as_chunks.ensures.front at every)))

pub returns-else-all : goal.returns-else-all
returns-else-all c =
    let blocks = c.as_chunks.result.0.now in
    let tested : MatchBool c.all.result (AllWithin none blocks 0 (length blocks)) ((k : ℕ) × (k < length blocks) × HoldsAt some blocks k) =
    cases_from_all _ _ _ none some c.all.ensures.ran (YieldsList-from_slice blocks (cc)) (λ x q k. search (rules, tests)) (λ x q k. search (rules, tests)) in
    let one : (k : ℕ) × (k < length blocks) × HoldsAt some blocks k = rw c.if-all.false at tested in
    c.if-all.false ∙ sym (found _ _ _ c.as_chunks.ensures.back c.as_chunks.ensures.front one)
