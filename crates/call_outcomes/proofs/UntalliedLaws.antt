-- Sheets without tallies are a kind of sheet, for every capacity with room enough.
use Rattle.std.specs.Prelude.{◌≡◌, true, List, ℕ, eqb, length}
use Rattle.std.proofs.Common.{ap₂, arith}
use Rattle.std.proofs.Math.Option.{Option, some, none}
use borrow.Author.Tests.{eq-eqb, eqb-true}
use Rattle.base.specs.Lists.{Every, equal_lists}
use Rattle.base.specs.BoolLaws.{and_both}
use Rattle.base.specs.ListLaws.{equal_itself, equal_sound}
use Rattle.draw_shares.specs.Apart.{EqualityTest}
use Rattle.tree_rules.specs.Tree.{Shape, IsShape}
use Rattle.tree_rules.specs.ChangeListLaws.{length_changed}
use Rattle.store_layout.specs.declared.Capacity.{Capacity}
use Rattle.store_layout.specs.Layout.{Store, lay_out}
use Rattle.store_layout.specs.Sheet.{IsContents}
use Rattle.store_layout.specs.Decode.{Contents, decode}
use Rattle.store_layout.specs.Room.{Roomy}
use Rattle.store_layout.proofs.SheetLaws.{decode_complete, decode_sound, length_slots, length_counts}
use Rattle.call_outcomes.specs.Kind.{holds, LawfulView, LawfulCalls, applied, Lawful}
use Rattle.call_outcomes.specs.PlainCalls.{edit_of, plain_calls}
use Rattle.call_outcomes.specs.PlainCallLaws.{change_within, entries_positive}
use Rattle.call_outcomes.specs.Untallied.{IsList, RightLengths, right_lengths, found_by, equal_stores, untallied_view, untallied}

-- ---- lengths

module _ (cap : Capacity) (store : Store) where
  pub lengths_right : RightLengths cap store → right_lengths cap store ≡ true
  unfolding right_lengths
  lengths_right w = rw (eq-eqb _ _ w.slots, eq-eqb _ _ w.counts)

  pub right_lengths_lem : right_lengths cap store ≡ true → RightLengths cap store
  unfolding right_lengths
  right_lengths_lem h =
      let both = and_both (eqb (length store.slots) cap.slots) _ h in
      record { slots = eqb-true _ _ both.0; counts = eqb-true _ _ both.1 }

-- ---- the store

found_some : (o : Option Contents) (c : Contents) → found_by o ≡ holds c → o ≡ some c
unfolding found_by
found_some (some d) c e = let same : d ≡ c = cc in rw same
found_some none c e = let z : ◌≡◌ {A = ℕ} 0 1 = cc in absurd (omega arith)

pub stores_test : EqualityTest equal_stores
unfolding equal_stores
stores_test = record {
  itself = λ a. rw (equal_itself a.slots, equal_itself a.counts);
  sound = λ a b e.
      let both = and_both (equal_lists a.slots b.slots) _ e in
      ap₂ {C = Store} (λ (xs ys : List ℕ). record { slots = xs; counts = ys })
      (equal_sound a.slots b.slots both.0) (equal_sound a.counts b.counts both.1);
}

module _ (cap : Capacity) where
  pub contents_of_lem : (list : List ℕ) (s : Shape) → IsList cap list → IsShape (length list) s → IsContents cap list s
  contents_of_lem list s w shape = record { room = w.room; entries = w.entries; shape = shape }

  pub found_decode : (store : Store) (c : Contents) → found_by (decode cap store) ≡ holds c → decode cap store ≡ some c
  found_decode store c e = found_some (decode cap store) c e

  pub untallied_view_lem : Roomy cap → LawfulView (untallied_view cap)
  unfolding Every found_by
  untallied_view_lem roomy = record {
    no_entry = record { room = omega arith; entries = tt };
    lengths = λ list s w shape.
        lengths_right cap (lay_out cap list s)
        record { slots = length_slots cap list s (contents_of_lem list s w shape) roomy; counts = length_counts cap list s (contents_of_lem list s w shape) };
    complete = λ list s w shape. rw (decode_complete cap list s (contents_of_lem list s w shape) roomy);
    sound = λ store c e.
        let w = decode_sound cap store c (found_decode store c e) in
        (record { room = w.0.room; entries = w.0.entries }, w.0.shape, w.1);
    test = stores_test;
  }

  -- ---- the calls

  pub plain_calls_lem : LawfulCalls (IsList cap) (plain_calls cap.entries)
  unfolding applied
  plain_calls_lem = record {
    reach = λ c list w free. (change_within cap c (length list) w.room free).0;
    keeps = λ c list w free.
        let within = change_within cap c (length list) w.room free in record {
          room = rw (length_changed (edit_of c).change (edit_of c).entry list within.0) within.1;
          entries = entries_positive cap c list w.entries free;
        };
  }

  pub untallied_lawful : Roomy cap → Lawful (untallied cap)
  untallied_lawful roomy = record { view = untallied_view_lem roomy; calls = plain_calls_lem }
