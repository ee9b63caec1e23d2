-- A place on a plain sheet: the slot of the entry of the rank and the number of scoring boats before her, found by the counts and the tallies on the
-- path down; and what is found there is the reply.
use Rattle.std.specs.Prelude.{Result, Ok, ◌≡◌, List, [], ◌++◌, ℕ, ◌+◌, ◌-◌, ◌*◌, ◌^◌, ◌≤◌, ◌<◌, length, take, drop}
use Rattle.std.proofs.Common.{sym, ◌∙◌, ap, length-append, length-drop}
use native.Mathlib.Omega.{arith}
use Rattle.std.proofs.Math.Seq.{take-append-add, take-append_seam}
use Rattle.tree_sizes.specs.Sizes.{height}
use Rattle.store_layout.specs.declared.Capacity.{Capacity}
use Rattle.store_layout.specs.Leaf.{nonzero}
use Rattle.store_layout.specs.Room.{CapacityReady}
use Rattle.store_slices.specs.Reading.{EntrySlot}
use Rattle.store_scoring.specs.Scoring.{tally}
use Rattle.store_scoring.specs.ScoringLaws.{tally_append}
use Rattle.store_sums.specs.Numbers.{number_before}
use Rattle.store_tallies.specs.TalliesIn.{tally_before}
use Rattle.store_rank.specs.declared.Start.{Start}
use Rattle.store_rank.specs.LeafOf.{leaf_of, start_of}
use Rattle.store_rank.specs.LeafOfLaws.{leaf_of_below}
use Rattle.store_ties.specs.declared.Placing.{Placing}
use Rattle.store_ties.specs.Ties.{placing_in}
use Rattle.store_ties.specs.Steps.{entries_before, InSlot}
use Rattle.store_ties.specs.BeforeLaws.{parted}
use Rattle.call_outcomes.specs.PlainCalls.{place_of, question_cause, placed, reply_to, written_for}
use Rattle.call_outcomes.specs.Untallied.{store_of}
use Rattle.call_outcomes.specs.declared.Cause.{Cause}
use Rattle.call_open.specs.declared.Opened.{Opened}
use Rattle.call_open.specs.Opening.{admitted, OpenedSheet}
use Rattle.call_questions.specs.Asked.{asked_by, asked}
use Rattle.call_questions.specs.StartLaws.{entries_number, from_start, start_place}

-- ---- the leaf that is found

module _ (m : ℕ) (work : List ℕ) (rank : ℕ) {start : Start} (is : start ≡ start_of m work rank) where
  pub leaf_from : 2 ^ height m ≤ start.leaf
  unfolding start_of
  leaf_from = rw is (omega (arith, (leaf_of_below (height m) work 1 rank).from))

  pub leaf_below : start.leaf < 2 * 2 ^ height m
  unfolding start_of
  leaf_below = rw is (omega (arith, (leaf_of_below (height m) work 1 rank).before))

  -- The scoring entries before the leaf are those in the slots before its first.
  leaf_before : (slots : List ℕ) → tally_before m slots 0 start.leaf ≡ tally (entries_before slots start.slot)
  unfolding start_of number_before
  leaf_before slots =
      let leaf = (leaf_of (height m) work 1 rank).leaf in
      let one : leaf * 2 ^ 0 - 2 ^ height m ≡ leaf - 2 ^ height m = omega arith in
      rw (is, one)

-- ---- the entry of the rank

module _ {cap : Capacity} {slots counts work : List ℕ} {n m : ℕ} (w : OpenedSheet cap (store_of slots counts) n m work) (ready : CapacityReady cap)
    {start : Start} (rank : ℕ) (is : start ≡ start_of m work rank) (below : rank < n) where
  -- The entries before that of the rank are those before her leaf and those before her in it.
  rank_parted : take rank (nonzero slots) ≡ entries_before slots start.slot ++ take start.rank (nonzero (drop start.slot slots))
  rank_parted =
      let front = entries_before slots start.slot in
      let rest = nonzero (drop start.slot slots) in
      let place = start_place w ready rank is (omega (arith, below, entries_number w)) in
      ap (take rank) (parted slots start.slot) ∙ ap (λ (k : ℕ). take k (front ++ rest)) place ∙ take-append-add front rest start.rank

  -- The number of scoring boats before her, found on the path down, is that of counting the full list.
  pub scoring_before : tally_before m slots 0 start.leaf + tally (take start.rank (nonzero (drop start.slot slots)))
      ≡ tally (take rank (nonzero slots))
  scoring_before =
      rw (leaf_before m work rank is slots, rank_parted)
      (sym (tally_append (entries_before slots start.slot) (take start.rank (nonzero (drop start.slot slots)))))

  -- Her slot.
  module _ (slot : ℕ) (held : EntrySlot slots start.slot start.rank slot) where
    pub rank_slot : InSlot slots slot
    rank_slot = record { inside = held.inside; entry = held.entry }

    pub rank_number : length (entries_before slots slot) ≡ rank
    rank_number =
        omega (
          arith,
          ap length (parted slots slot),
          length-append (entries_before slots slot) (nonzero (drop slot slots)),
          ap length (sym held.rest ∙ from_start w ready rank is),
          length-drop rank (nonzero slots),
          entries_number w,
          below,
        )

    pub rank_before : take rank (nonzero slots) ≡ entries_before slots slot
    rank_before =
        rw (← rank_number)
        (ap (take (length (entries_before slots slot))) (parted slots slot)
        ∙ take-append_seam (entries_before slots slot) (nonzero (drop slot slots)))

-- ---- the reply

pub place_reply_lem : (found : Result Opened Cause) (rank : ℕ) (list : List ℕ) {sheet : Opened} {p : Placing} → admitted (question_cause (place_of rank)) found ≡ Ok sheet
    → p ≡ placing_in list rank → record { answer = Ok (placed p); output = [] } ≡ asked (place_of rank) found list []
unfolding asked asked_by reply_to written_for
place_reply_lem found rank list is value = rw (is, value)
