-- What single calls do to the clubs' sheets.
use Rattle.std.specs.Prelude.{Ok, Err, ◌≡◌, refl, List, [], ◌∷◌, ℕ, ◌<◌, length}
use Rattle.std.proofs.Common.{◌∙◌}
use Rattle.std.proofs.lemmas.Bool.{lt-leb}
use Rattle.tree_rules.specs.declared.Change.{Change}
use Rattle.tree_rules.specs.declared.Change.TheVariants.{Delete}
use Rattle.tree_rules.specs.ChangeList.{change_list}
use Rattle.store_layout.specs.EmptyLaws.{one_empty, empty_slots, empty_counts}
use Rattle.store_tallies.specs.LayLaws.{empty_tallies}
use Rattle.store_ties.specs.Ties.{placing_in}
use Rattle.call_outcomes.specs.declared.Cause.TheVariants.{NotASheet}
use Rattle.call_outcomes.specs.declared.Answer.TheVariants.{Checked, Changed}
use Rattle.call_outcomes.specs.Kind.{Found, holds, wrong, SheetOf}
use Rattle.call_outcomes.specs.KindLaws.{decoded_sheet}
use Rattle.call_outcomes.specs.Causes.{first_of, refuse, by_lengths, by_found, store_decision, looked_at, by_arguments, decision}
use Rattle.call_outcomes.specs.Outcome.{refused, outcome}
use Rattle.call_outcomes.specs.DecisionLaws.{outcome_refused}
use Rattle.call_outcomes.specs.PlainCalls.{place_of, count_of, question_cause, placed, reply_to, delete, place, check, changing, plain_change}
use Rattle.call_outcomes.specs.Plain.{plain_view, plain, PlainStore, PlainLengths, plain_store_of}
use Rattle.call_outcomes.specs.PlainCallLaws.{edit_list}
use Rattle.call_outcomes.proofs.PlainLaws.{plain_right, no_sheet}
use Rattle.call_outcomes.specs.Clubs.{clubs, zeros}
use Rattle.call_outcomes.proofs.ClubsLaws.{clubs_lawful}
use Rattle.call_history.proofs.SingleCalls.{answered_by_lem, changed_by_lem}

-- The store is a sheet of the list in the clubs' store: some size and balance entries lay it out.
abbrev pub ClubSheet : List ℕ → PlainStore → Type 0
ClubSheet = SheetOf (plain_view clubs)

-- ---- check

-- A check of a sheet answers with the length of its list.
pub check_sheet : (list : List ℕ) (store : PlainStore) → ClubSheet list store → (tape output : List ℕ)
    → (outcome (plain clubs) check tape store output).answer ≡ Ok (Checked (length list))
unfolding reply_to question_cause
check_sheet list store w = answered_by_lem (plain clubs) clubs_lawful list store w count_of refl

-- A store of the right lengths that is a sheet of no list is refused by cause 2; so is a check of it.
pub no_sheet_decided : (store : PlainStore) → PlainLengths clubs store → ((list : List ℕ) → ClubSheet list store → ⊥)
    → store_decision (plain_view clubs) store ≡ refuse NotASheet
unfolding store_decision by_lengths by_found
no_sheet_decided store right none_is = rw (plain_right clubs store right) (go ((plain_view clubs).decode store) refl)
  where
    go : (f : Found) → (plain_view clubs).decode store ≡ f → by_found ((plain_view clubs).decode store) ≡ refuse NotASheet
    go (wrong cause) e = rw (e, no_sheet clubs store e)
    go (holds c) e = absurd (none_is c.list (decoded_sheet (plain_view clubs) clubs_lawful.view store c e))

pub check_other : (store : PlainStore) → PlainLengths clubs store → ((list : List ℕ) → ClubSheet list store → ⊥) → (tape output : List ℕ)
    → (outcome (plain clubs) check tape store output).answer ≡ Err NotASheet
unfolding decision looked_at by_arguments refused
check_other store right none_is tape output =
    rw (outcome_refused (plain clubs) check store tape output NotASheet (rw (no_sheet_decided store right none_is)))

-- ---- place

-- A place of an entry is answered by the list: that of her tied group.
pub place_sheet : (list : List ℕ) (store : PlainStore) → ClubSheet list store → (i : ℕ) → i < length list → (tape output : List ℕ)
    → (outcome (plain clubs) (place i) tape store output).answer ≡ Ok (placed (placing_in list i))
unfolding reply_to question_cause first_of
place_sheet list store w i below = answered_by_lem (plain clubs) clubs_lawful list store w (place_of i) (rw (lt-leb (length list) i below))

-- ---- insert and delete

-- An accepted insert or delete on any sheet leaves a sheet of the changed list.
pub changed_sheet : (list : List ℕ) (store : PlainStore) → ClubSheet list store → (by : Change) (entry : ℕ) (tape output : List ℕ) (n words : ℕ)
    → (outcome (plain clubs) (changing by entry) tape store output).answer ≡ Ok (Changed n words)
    → ClubSheet (change_list by entry list) (outcome (plain clubs) (changing by entry) tape store output).store
changed_sheet list store w by entry tape output n words done =
    rw (← edit_list by entry list) (changed_by_lem (plain clubs) clubs_lawful list store w (plain_change by entry) tape output n words done)

-- A sheet of no entries is all zeros.
pub empty_zeros : (store : PlainStore) → ClubSheet [] store → store ≡ zeros
empty_zeros store w =
    w.laid
    ∙ rw (one_empty w.shape w.is_shape)
    (λ i. plain_store_of (empty_slots clubs i) (empty_counts clubs i) (empty_tallies clubs.counts i))

-- A delete of the last entry leaves zeros.
pub last_deleted : (e : ℕ) (store : PlainStore) → ClubSheet (e ∷ []) store → (tape output : List ℕ) (n words : ℕ)
    → (outcome (plain clubs) (delete 0) tape store output).answer ≡ Ok (Changed n words)
    → (outcome (plain clubs) (delete 0) tape store output).store ≡ zeros
unfolding change_list
last_deleted e store w tape output n words done = empty_zeros _ (changed_sheet (e ∷ []) store w (Delete 0) 0 tape output n words done)
