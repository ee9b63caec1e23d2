-- The look at a timed store, by that at the plain store in it and by the test of its order and its third slice.
use Rattle.std.specs.Prelude.{Result, Ok, Err, ◌≡◌, Bool, ◌&&◌, List, ℕ, length}
use Rattle.std.proofs.Math.Path.{refl}
use Rattle.std.proofs.Common.{sym, ◌∙◌, ap, ap₂, arith}
use Rattle.std.proofs.Math.Bool.{true, false}
use Rattle.base.specs.Lists.{equal_lists}
use Rattle.store_layout.specs.declared.Capacity.{Capacity}
use Rattle.store_layout.specs.Room.{CapacityReady}
use Rattle.store_keys.specs.Key.{rises}
use Rattle.store_balance.specs.Balance.{lay_balance}
use Rattle.store_balance.specs.BalanceIn.{balance_in}
use Rattle.store_balance.specs.BalanceInLaws.{balance_laid}
use Rattle.call_outcomes.specs.Untallied.{store_of}
use Rattle.call_outcomes.specs.Slice.{slice_test}
use Rattle.call_outcomes.specs.Plain.{plain_view, plain_store_of}
use Rattle.call_outcomes.specs.declared.Cause.{Cause}
use Rattle.call_open.specs.declared.Opened.{Opened}
use Rattle.call_open.specs.Opening.{plain_numbers, Opening, OpenedSheet, OpenedStore}
use Rattle.call_open.specs.OpenedLaws as opening
use Rattle.call_open.specs.AdmittedLaws.{opened_store, plain_sheet}
use Rattle.call_open.specs.SliceOpeningLaws.{look_refused, look_not, look_sheet}
use Rattle.call_timed.specs.Timed.{balance_slice, timed_view, TimedStore, timed_store_of, timed_numbers}
use Rattle.sheet_open.specs.PlainOpening.{PlainOpening}
use Rattle.timed_open.specs.TimedLook.{timed_test, timed_by, timed_look, LookReady, TimedOpening}

-- The test that the code makes is that of the definition.
test_is : {cap : Capacity} (ready : CapacityReady cap) {sl counts work : List ℕ} {n m : ℕ} (w : OpenedSheet cap (store_of sl counts) n m work) (balance : List ℕ)
    → length balance ≡ cap.counts → timed_test m sl balance ≡ slice_test (balance_slice cap) balance w.contents
unfolding slice_test
test_is {cap} ready {sl} {m = m} w balance number =
    let c = w.contents in
    let words : balance_in m (length balance) sl ≡ lay_balance cap.counts c.list c.shape
    = ap (λ (k : ℕ). balance_in m k sl) number
    ∙ ap₂ (λ (k : ℕ) (xs : List ℕ). balance_in k cap.counts xs) (sym w.size) (opening.slots_are ready w)
    ∙ balance_laid cap ready.roomy c.list c.shape (opening.laid ready w).0 in
    ap₂ (λ (xs ys : List ℕ). rises xs && equal_lists balance ys) (opening.front_entries ready w) words

-- A sheet that was found was found before.
found_by_lem : (b : Bool) {before sheet : Opened} → timed_by b before ≡ Ok sheet → ◌≡◌ {A = Result Opened Cause} (Ok before) (Ok sheet)
unfolding timed_by
found_by_lem true h = h
found_by_lem false h = let z : ◌≡◌ {A = ℕ} 0 1 = cc in absurd (omega arith)

timed_found : (found : Result Opened Cause) (slots balance : List ℕ) {sheet : Opened} → timed_look found slots balance ≡ Ok sheet → found ≡ Ok sheet
unfolding timed_look
timed_found (Err cause) slots balance e = let z : ◌≡◌ {A = ℕ} 0 1 = cc in absurd (omega arith)
timed_found (Ok before) slots balance e = found_by_lem (timed_test before.m slots balance) e

pub found_timed : {found after : Result Opened Cause} (slots balance : List ℕ) → after ≡ timed_look found slots balance → {sheet : Opened} → after ≡ Ok sheet
    → found ≡ Ok sheet
found_timed {found} slots balance is e = timed_found found slots balance (sym is ∙ e)

module _ {cap : Capacity} (ready : CapacityReady cap) {slots counts tallies work : List ℕ} (balance : List ℕ) (number : length balance ≡ cap.counts) {found : Result Opened Cause}
    (w : Opening (plain_view cap) plain_numbers (plain_store_of slots counts tallies) found work) where
  abbrev store : TimedStore
  store = timed_store_of slots counts tallies balance

  plain : (sheet : Opened) → found ≡ Ok sheet → OpenedStore (plain_view cap) plain_numbers (plain_store_of slots counts tallies) sheet.n sheet.m work
  plain = opened_store (plain_view cap) plain_numbers _ w

  pub look_ready : LookReady found slots balance
  look_ready = record {
    most = λ sheet e. omega (arith, opening.size_small ready (plain_sheet (plain sheet e)));
    slots_room = λ sheet e. opening.slots_room ready (plain_sheet (plain sheet e));
    levels_room = λ sheet e. omega (arith, number, opening.levels_room ready (plain_sheet (plain sheet e)));
  }

  by_test : {sheet : Opened} → found ≡ Ok sheet → (b : Bool) → timed_test sheet.m slots balance ≡ b → Opening (timed_view cap) timed_numbers store (timed_by b sheet) work
  unfolding timed_by
  by_test {sheet} e true t =
      look_sheet (plain_view cap) (balance_slice cap) plain_numbers store work number (plain sheet e) (sym (test_is ready (plain_sheet (plain sheet e)) balance number) ∙ t)
  by_test {sheet} e false t =
      look_not (plain_view cap) (balance_slice cap) plain_numbers store work number (plain sheet e) (sym (test_is ready (plain_sheet (plain sheet e)) balance number) ∙ t)

  looks : (o : Result Opened Cause) → found ≡ o → Opening (timed_view cap) timed_numbers store (timed_look o slots balance) work
  unfolding timed_look
  looks (Ok sheet) e = by_test e (timed_test sheet.m slots balance) refl
  looks (Err cause) e = look_refused (plain_view cap) (balance_slice cap) plain_numbers store work number w e

  pub timed_opening : {answer : Result Opened Cause} → answer ≡ timed_look found slots balance → Opening (timed_view cap) timed_numbers store answer work
  timed_opening is = rw is (looks found refl)

-- The tallies by range number too.
pub timed_tallied : {cap : Capacity} → CapacityReady cap → {slots counts tallies work numbers : List ℕ} (balance : List ℕ) → length balance ≡ cap.counts
    → {found answer : Result Opened Cause} → PlainOpening cap (plain_store_of slots counts tallies) found work numbers → answer ≡ timed_look found slots balance
    → TimedOpening cap (timed_store_of slots counts tallies balance) answer work numbers
timed_tallied ready {slots} balance number w is = record {
  opening = timed_opening ready balance number w.opening is;
  tallied = λ e. w.tallied (found_timed slots balance is e);
}
