-- A timed sheet of any capacity that was found: what its slices hold.
use Rattle.std.specs.Prelude.{◌≡◌, List, ℕ}
use Rattle.std.proofs.Common.{◌∙◌}
use Rattle.std.proofs.Math.Path.{ap}
use Rattle.store_layout.specs.declared.Capacity.{Capacity}
use Rattle.store_layout.specs.Room.{CapacityReady}
use Rattle.store_layout.specs.Layout.{Store, lay_out}
use Rattle.store_layout.specs.Leaf.{nonzero}
use Rattle.store_layout.specs.Sheet.{IsContents}
use Rattle.store_layout.specs.Decode.{Contents, numbered}
use Rattle.store_layout.proofs.SheetLaws.{decode_sound, numbered_lay_out}
use Rattle.store_search.specs.Sought.{SearchReady}
use Rattle.call_outcomes.specs.Causes.{accept, store_decision}
use Rattle.call_outcomes.specs.Untallied.{store_of}
use Rattle.call_outcomes.specs.Plain.{plain_view, plain_store_of}
use Rattle.call_open.specs.Opening.{plain_numbers, OpenedStore}
use Rattle.call_questions.specs.StartLaws.{decoded_list}
use Rattle.call_timed.specs.Timed.{timed_view, timed_store_of, timed_numbers}
use Rattle.call_timed.proofs.RankedLaws.{HoldsTimed, timed_holds}

-- The list of a timed store that decides nothing is what stands in its slots.
pub timed_list : (cap : Capacity) (slots counts tallies balance : List ℕ) (c : Contents) → store_decision (timed_view cap) (timed_store_of slots counts tallies balance) ≡ accept c
    → c.list ≡ nonzero slots
timed_list cap slots counts tallies balance c h =
    decoded_list cap (store_of slots counts) c (timed_holds cap (timed_store_of slots counts tallies balance) c h).decoded

module _ {cap : Capacity} (ready : CapacityReady cap) {slots counts tallies balance work : List ℕ} {n m : ℕ} (w : OpenedStore (timed_view cap) timed_numbers (timed_store_of slots counts tallies balance) n m work) where
  pub held : HoldsTimed cap (timed_store_of slots counts tallies balance) w.contents
  held = timed_holds cap _ w.contents w.decided

  -- The plain sheet in it.
  abbrev pub plain_store_lem : OpenedStore (plain_view cap) plain_numbers (plain_store_of slots counts tallies) n m work
  plain_store_lem = record { contents = w.contents; decided = held.plain; count = w.count; size = w.size; copied = w.copied }

  pub list_is : w.contents.list ≡ nonzero slots
  list_is = timed_list cap slots counts tallies balance w.contents w.decided

  laid : IsContents cap w.contents.list w.contents.shape × (store_of slots counts ≡ lay_out cap w.contents.list w.contents.shape)
  laid = decode_sound cap (store_of slots counts) w.contents held.decoded

  pub search_ready : SearchReady m slots work balance
  unfolding lay_out
  search_ready = record {
    cap = cap;
    list = w.contents.list;
    shape = w.contents.shape;
    ready = ready;
    contents = laid.0;
    rising = held.rising;
    size = w.size;
    slots_are = ap (λ (t : Store). t.slots) laid.1;
    counts_are = w.copied ∙ ap numbered laid.1 ∙ numbered_lay_out cap w.contents.list w.contents.shape laid.0 ready.roomy;
    balance_are = held.third;
  }
