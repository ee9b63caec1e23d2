-- `copy_entries` meets its contract. The loop's invariant: the entries at the first k ranks are copied; the slots from `at` on, which is not
-- before `start`, have the entries behind the first `seen`; and the ranks from k on do not fall, from `seen` on.
use mathlib.Core.Path.{◌≡◌, sym, ◌∙◌, ap}
use mathlib.Core.Bool.{false}
use mathlib.Core.List.{List}
use Prim.Native.Nat.{ℕ, ◌+◌, ◌-◌, ◌≤◌, ◌<◌}
use native.Mathlib.Omega.{arith}
use lib.ListN.{length, get_or, drop, length-drop, length-map}
use lib.Seq.{drop-drop, get_or-drop, take_all}
use Rattle.store_layout.specs.Leaf.{nonzero}
use Rattle.store_slices.specs.ReadLaws.{slot_entry, reading_none, reading_next, reading_all}
use Rattle.store_board.specs.Board.{falls_below, entries_at}
use Rattle.store_board.specs.BoardLaws.{next_rank, rank_inside, entry_next}
use Rattle.store_board.proofs.copy_entries.Goals.{In-loop-k}
use Rattle.store_board.proofs.copy_entries.Goals as goal

-- The next rank is that of an entry, and not below the one before it; and the ranks behind it do not fall, from it on.
abbrev ranks : In-loop-k → List ℕ
ranks c = c.args.ranks.now

abbrev slots : In-loop-k → List ℕ
slots c = c.args.slots.now

abbrev rank : In-loop-k → ℕ
rank c = get_or (ranks c) c.loop-k.k 0

inside : (c : In-loop-k) → rank c < length (nonzero (slots c))
inside c = rank_inside _ (ranks c) c.loop-k.k (omega arith) c.requires.entries

in_order : (c : In-loop-k) → (c.loop-k.seen ≤ rank c) × (falls_below (rank c) (drop (c.loop-k.k + 1) (ranks c)) ≡ false)
in_order c = next_rank (ranks c) c.loop-k.k (omega arith) c.loop-k.seen c.loop-k.invariant.2

-- Its entry is one of those from `at` on.
among : (c : In-loop-k) → rank c - c.loop-k.seen < length (nonzero (drop c.loop-k.at (slots c)))
among c =
    omega (arith, inside c, (in_order c).0, ap length c.loop-k.invariant.1, length-drop c.loop-k.seen (nonzero (slots c)))

pub loop-k-init : goal.loop-k-init
loop-k-init c = (omega arith, c.requires.from, c.requires.order, reading_none (omega arith))

pub overflow_sub-rank : goal.overflow_sub-rank
overflow_sub-rank c = (in_order (goal.at.overflow_sub-rank c).In-loop-k).0

pub entry_slot-at-requires : goal.entry_slot-at-requires
entry_slot-at-requires c =
    record { entries = among (goal.at.entry_slot-at-requires c).In-loop-k }

pub offset_bounds-slots-at : goal.offset_bounds-slots-at
offset_bounds-slots-at c = omega (arith, c.entry_slot-at.ensures.inside)

pub bounds-slots-at : goal.bounds-slots-at
bounds-slots-at c = c.entry_slot-at.ensures.inside

pub bounds-output-k : goal.bounds-output-k
bounds-output-k c = omega (arith, c.loop-k.invariant.3.kept, c.requires.room)

pub loop-k-preserved : goal.loop-k-preserved
loop-k-preserved c =
    let E = nonzero (slots (goal.at.loop-k-preserved c).In-loop-k) in
    let reached : c.loop-k.seen + (rank (goal.at.loop-k-preserved c).In-loop-k - c.loop-k.seen) ≡ rank (goal.at.loop-k-preserved c).In-loop-k = omega (arith, (in_order (goal.at.loop-k-preserved c).In-loop-k).0) in
    let rest : nonzero (drop c.entry_slot-at.result (slots (goal.at.loop-k-preserved c).In-loop-k)) ≡ drop (rank (goal.at.loop-k-preserved c).In-loop-k) E
    = sym c.entry_slot-at.ensures.rest
    ∙ ap (drop (rank (goal.at.loop-k-preserved c).In-loop-k - c.loop-k.seen)) c.loop-k.invariant.1
    ∙ drop-drop (rank (goal.at.loop-k-preserved c).In-loop-k - c.loop-k.seen) c.loop-k.seen E
    ∙ ap (λ (n : ℕ). drop n E) reached in
    let entry : get_or (slots (goal.at.loop-k-preserved c).In-loop-k) c.entry_slot-at.result 0 ≡ get_or (entries_at E (ranks (goal.at.loop-k-preserved c).In-loop-k)) c.loop-k.k 0
    = slot_entry c.entry_slot-at.ensures (among (goal.at.loop-k-preserved c).In-loop-k)
    ∙ ap (λ (es : List ℕ). get_or es (rank (goal.at.loop-k-preserved c).In-loop-k - c.loop-k.seen) 0) c.loop-k.invariant.1
    ∙ get_or-drop c.loop-k.seen E (rank (goal.at.loop-k-preserved c).In-loop-k - c.loop-k.seen) 0
    ∙ ap (λ (n : ℕ). get_or E n 0) reached
    ∙ sym (entry_next E (ranks (goal.at.loop-k-preserved c).In-loop-k) c.loop-k.k (omega arith)) in (
      omega (arith, c.entry_slot-at.ensures.forward, c.loop-k.invariant.0),
      rest,
      (in_order (goal.at.loop-k-preserved c).In-loop-k).1,
      reading_next c.loop-k.invariant.3 _ (omega arith) c.requires.room (omega (arith, length-map (ranks (goal.at.loop-k-preserved c).In-loop-k) (λ rank. get_or E rank 0))) entry,
    )

pub returns : goal.returns
returns c =
    let E = nonzero c.args.slots.now in
    let all = take_all (length c.args.ranks.now) (entries_at E c.args.ranks.now) (omega (arith, length-map c.args.ranks.now (λ rank. get_or E rank 0))) in
    (c.loop-k.invariant.0, reading_all c.loop-k.invariant.3 (omega arith) ∙ rw all)
