-- Counts and tallies of the clubs' sheets have 16 bits.
use Rattle.std.specs.Prelude.{Ok, ◌≡◌, List, [], ℕ, ◌^◌, ◌<◌, length}
use Rattle.std.proofs.Common.{sym, arith}
use Rattle.std.proofs.Math.Path.{subst}
use Rattle.base.specs.Lists.{Every}
use Rattle.tree_sizes.specs.Sizes.{height}
use Rattle.tree_rules.specs.declared.Change.{Change}
use Rattle.tree_rules.specs.Tree.{Shape}
use Rattle.tree_counts.specs.Counts.{shape_counts}
use Rattle.store_order.proofs.CountOrderLaws.{every_count_order}
use Rattle.store_layout.specs.Layout.{lay_counts, lay_out}
use Rattle.store_layout.specs.Decode.{Contents}
use Rattle.store_layout.specs.Sheet.{IsContents}
use Rattle.store_layout.proofs.SheetLaws.{length_slots, length_counts}
use Rattle.store_sums.specs.SumLaws.{length_additive}
use Rattle.store_sums.specs.SmallLaws.{numbers_small}
use Rattle.store_sums.specs.LaidLaws.{counts_laid}
use Rattle.store_tallies.specs.Tallies.{range_tallies, lay_tallies}
use Rattle.store_tallies.specs.AdditiveLaws.{tally_additive}
use Rattle.store_tallies.specs.LayLaws.{length_lay_tallies}
use Rattle.store_tallies.specs.LaidLaws.{tallies_laid}
use Rattle.call_outcomes.specs.declared.Answer.TheVariants.{Changed}
use Rattle.call_outcomes.specs.Causes.{accept, looked_at, argument_cause, decision}
use Rattle.call_outcomes.specs.DecisionLaws.{accepted, store_accepted}
use Rattle.call_outcomes.specs.Outcome.{outcome}
use Rattle.call_outcomes.specs.ChangeLaws.{change_made}
use Rattle.call_outcomes.specs.PlainCalls.{plain_change, changing}
use Rattle.call_outcomes.proofs.UntalliedLaws.{contents_of_lem}
use Rattle.call_outcomes.specs.Plain.{plain_view, plain, PlainStore, lay_plain, plain_store_of, plain_outcome_of}
use Rattle.call_outcomes.specs.Clubs.{clubs}
use Rattle.call_outcomes.proofs.ClubsLaws.{clubs_roomy, clubs_lawful}

-- The store has 256 counts and 256 tallies, of 16 bits.
pub record Small (store : PlainStore) : Type 0 where
  pub counts_number : length store.sheet.counts ≡ 256
  pub tallies_number : length store.slice ≡ 256
  pub counts : Every (λ c. c < 2 ^ 16) store.sheet.counts
  pub tallies : Every (λ c. c < 2 ^ 16) store.slice

module _ (list : List ℕ) (s : Shape) (w : IsContents clubs list s) where
  slots_few : length (lay_out clubs list s).slots < 2 ^ 16
  slots_few = omega (arith, length_slots clubs list s w clubs_roomy)

  pub sheet_small : Small (lay_plain clubs list s)
  unfolding lay_out lay_counts lay_tallies
  sheet_small = record {
    counts_number = length_counts clubs list s w;
    tallies_number = length_lay_tallies 256 list s;
    counts =
        every_count_order (height s.size) (shape_counts 256 (length list) s) (λ c. c < 2 ^ 16)
        (numbers_small length_additive (counts_laid clubs clubs_roomy list s w) (2 ^ 16) (omega (arith, w.room, w.shape.allowed.most)) slots_few) (omega arith);
    tallies =
        every_count_order (height s.size) (range_tallies 256 list s) (λ c. c < 2 ^ 16)
        (numbers_small tally_additive (tallies_laid clubs clubs_roomy list s w) (2 ^ 16) (omega arith) slots_few) (omega arith);
  }

-- So those of a store on which a change goes on, and those that it leaves.
module _ (change : Change) (e : ℕ) (tape : List ℕ) (store : PlainStore) (before : Contents)
    (decided : decision (plain clubs) (changing change e) store ≡ accept before) where
  pub before_small : Small store
  unfolding looked_at argument_cause
  before_small =
      let looked = accepted (plain clubs) (changing change e) store before decided in
      let old = clubs_lawful.view.sound store before (store_accepted (plain_view clubs) store before looked.0).1 in
      subst Small (sym old.2) (sheet_small before.list before.shape (contents_of_lem clubs _ _ old.0 old.1))

  pub changed_small : (n words : ℕ) {slots counts tallies : List ℕ}
      → plain_outcome_of (Ok (Changed n words)) slots counts tallies [] ≡ outcome (plain clubs) (changing change e) tape store [] → Small (plain_store_of slots counts tallies)
  changed_small n words is =
      let m = change_made (plain clubs) (plain_change change e) tape store before decided clubs_lawful n words _ is in
      subst Small (sym m.laid) (sheet_small _ m.shape (contents_of_lem clubs _ m.shape m.is_list m.is_shape))
