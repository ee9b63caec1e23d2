-- The look at a plain store, by that at its slots and counts and by the test of its tallies.
use Rattle.std.proofs.Math.Path.{◌≡◌}
use Rattle.std.proofs.Common.{◌∙◌, ap, arith}
use Rattle.std.specs.Prelude.{Result, Ok, Err, List, false, ℕ}
use Rattle.tree_sizes.specs.Sizes.{height}
use Rattle.store_order.specs.CountOrder.{number_order}
use Rattle.store_layout.specs.declared.Capacity.{Capacity}
use Rattle.call_outcomes.specs.declared.Cause.{Cause}
use Rattle.call_outcomes.specs.declared.Cause.TheVariants.{Lengths}
use Rattle.call_outcomes.specs.Causes.{by_lengths, store_decision}
use Rattle.call_outcomes.specs.Plain.{PlainStore, plain_view}
use Rattle.call_open.specs.declared.Opened.{Opened}
use Rattle.call_open.specs.Opening.{opened_as, plain_numbers, Opening}
use Rattle.sheet_open.specs.PlainOpening.{PlainOpening}

module _ {cap : Capacity} {store : PlainStore} {work numbers : List ℕ} where
  pub plain_refused : {cause : Cause} → Opening (plain_view cap) plain_numbers store (Err cause) work → PlainOpening cap store (Err cause) work numbers
  plain_refused w = record { opening = w; tallied = λ e. let z : ◌≡◌ {A = ℕ} 0 1 = cc in absurd (omega arith) }

  pub plain_wrong : (plain_view cap).right_lengths store ≡ false → PlainOpening cap store (Err Lengths) work numbers
  unfolding store_decision by_lengths opened_as
  plain_wrong wrong = plain_refused record { found = rw wrong; copied = λ e. let z : ◌≡◌ {A = ℕ} 0 1 = cc in absurd (omega arith) }

  pub plain_sheet : {sheet : Opened} → Opening (plain_view cap) plain_numbers store (Ok sheet) work → numbers ≡ number_order (height sheet.m) store.slice
      → PlainOpening cap store (Ok sheet) work numbers
  plain_sheet {sheet} w is = record { opening = w; tallied = λ e. is ∙ ap (λ (s : Opened). number_order (height s.m) store.slice) (same_sheet e) }
    where
      same_sheet : {other : Opened} → ◌≡◌ {A = Result Opened Cause} (Ok sheet) (Ok other) → sheet ≡ other
      same_sheet e = cc
