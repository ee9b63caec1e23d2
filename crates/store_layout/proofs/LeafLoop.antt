-- The loop over the slots of a leaf, from left to right, by any positions of its entries: which entries are behind after some slots, and
-- what is written by then.
use Rattle.std.specs.Prelude.{◌≡◌, refl, ℕ, ◌+◌, ◌-◌, ◌≤◌, ◌<◌, length, get_or, take, drop}
use Rattle.std.proofs.Common.{sym, ◌∙◌, ⊎_elim, length-take-le, take_at, drop-drop, eq-or-lt_of_le, le_of_eq, le_refl, not-suc-le-zero, arith, below_more}
use Rattle.std.proofs.Math.Path.{ap}
use mathlib.Core.List.{List, ◌++◌, append_assoc}
use Rattle.std.proofs.Math.ListN.{set}
use Rattle.std.proofs.Math.Seq.{paste, paste-zero, paste-suc, length-paste, take_all}
use Rattle.std.proofs.lemmas.List.Edits.{drop-paste}
use Rattle.std.proofs.Math.Numerals.{add-one}
use Rattle.base.specs.CaseLaws.{lt_or_ge}
use Rattle.base.specs.ListLaws.{length_part, part_at}
use Rattle.store_layout.specs.declared.Leaf.{Leaf}
use Rattle.store_layout.specs.declared.Next.{Next}
use Rattle.store_layout.specs.declared.Quotient.{Quotient}
use Rattle.store_layout.specs.Leaf.{slot_of, Positions, spread}
use Rattle.store_layout.specs.Quotient.{Stands}
use Rattle.store_layout.proofs.QuotientLaws.{stands_slot, stands_end}
use Rattle.store_layout.specs.Ready.{LeafReady}
use Rattle.store_layout.specs.Pass.{rule_of, written_to, Passed, InFront, SoFar}
use Rattle.store_layout.proofs.LeafLaws.{slot_of_positions, length_spread, spread_entry, spread_gap}

module _ {position : ℕ → ℕ} {n s : ℕ} where
  pub passed_none : {next : ℕ} → (0 < n → next ≡ position 0) → (n ≤ 0 → s ≤ next) → Passed position n s 0 0 next
  passed_none e past = record {
    inside = omega arith;
    used = omega arith;
    behind = λ j h. absurd (not-suc-le-zero h);
    ahead = λ h. omega arith;
    next_is = e;
    past = past;
  }

  module _ {i k next : ℕ} (w : Passed position n s i k next) (more : i < s) where
    -- The next entry's slot is reached.
    pub entry_left : i ≡ next → k < n
    entry_left e = ⊎_elim (λ h. h) (λ (h : n ≤ k). omega (arith, w.past h)) (lt_or_ge k n)

    pub entry_here : i ≡ next → i ≡ position k
    entry_here e = e ∙ w.next_is (entry_left e)

    module _ (rule : Positions n s position) where
      pub passed_entry : i ≡ next → {later : ℕ} → (k + 1 < n → later ≡ position (k + 1)) → (n ≤ k + 1 → s ≤ later)
          → Passed position n s (i + 1) (k + 1) later
      passed_entry e le past = record {
        inside = omega arith;
        used = omega (arith, entry_left e);
        behind = below_more (λ j. position j < i + 1) k (λ j h. omega (arith, w.behind j h)) (omega (arith, entry_here e));
        ahead = λ h. omega (arith, entry_here e, rule.rises k (k + 1) (omega arith) h);
        next_is = le;
        past = past;
      }

      pub passed_gap : (i ≡ next → ⊥) → Passed position n s (i + 1) k next
      passed_gap ne = record {
        inside = omega arith;
        used = w.used;
        behind = λ j h. omega (arith, w.behind j h);
        ahead = λ h. omega (arith, w.ahead h, w.next_is h);
        next_is = w.next_is;
        past = w.past;
      }

      -- A slot that is not the next entry's is no entry's.
      pub gap_here : (i ≡ next → ⊥) → (j : ℕ) → j < n → (i ≡ position j → ⊥)
      gap_here ne j h e =
          ⊎_elim
          (λ (l : j < k). omega (arith, w.behind j l))
          (λ (l : k ≤ j).
          let beyond : i < position k = omega (arith, (passed_gap ne).ahead (omega arith)) in
          ⊎_elim
          (λ (q : k ≡ j). omega (arith, ap position q))
          (λ (q : k < j). omega (arith, rule.rises k j q h))
          (eq-or-lt_of_le l))
          (lt_or_ge j k)

-- ---- writing a leaf

-- What is written up to i is written up to j with more of the same.
paste_again : (d : List ℕ) (at : ℕ) (leaf : List ℕ) (i j : ℕ) → i ≤ j → j ≤ length leaf → at + j ≤ length d
    → paste (paste d at leaf i) at leaf j ≡ paste d at leaf j
paste_again d at leaf i j l m room =
    let front : length (take at d) ≡ at = length-take-le at d (omega arith) in
    let before : take at (paste d at leaf i) ≡ take at d
    = ap (take at) (append_assoc (take at d) (take i leaf) (drop (at + i) d)) ∙ take_at (take at d) (take i leaf ++ drop (at + i) d) at front in
    let behind : drop (at + i) (paste d at leaf i) ≡ drop (at + i) d = drop-paste d at leaf i (omega arith) (omega arith) in
    let sum : at + j ≡ (at + i) + (j - i) = omega arith in
    let after : drop (at + j) (paste d at leaf i) ≡ drop (at + j) d
    = rw (sum, ← drop-drop (j - i) (at + i) (paste d at leaf i), behind) (drop-drop (j - i) (at + i) d) in
    rw (before, after)

module _ (leaf : Leaf) (list : List ℕ) where
  abbrev s : ℕ
  s = leaf.slots

  abbrev n : ℕ
  n = leaf.entries

  abbrev entries : List ℕ
  entries = take n (drop leaf.at list)

  rule_length : length (rule_of leaf list) ≡ s
  unfolding rule_of
  rule_length = length_spread s entries

  -- What the first i slots have and then the first j is what the first j have.
  pub written_on : {old slots slots' : List ℕ} {i j : ℕ} → LeafReady leaf old list → i ≤ j → j ≤ s → slots ≡ written_to leaf list i old
      → slots' ≡ written_to leaf list j slots → slots' ≡ written_to leaf list j old
  unfolding written_to
  written_on {old} {i = i} {j = j} ready l m e e' =
      e' ∙ rw e (paste_again old leaf.from (rule_of leaf list) i j l (omega (arith, rule_length)) (omega (arith, ready.slots_room)))

  pub written_length : {slots : List ℕ} (i : ℕ) → LeafReady leaf slots list → i ≤ s → length (written_to leaf list i slots) ≡ length slots
  unfolding written_to
  written_length {slots} i ready l =
      length-paste slots leaf.from (rule_of leaf list) i (omega (arith, ready.slots_room)) (omega (arith, rule_length))

  pub written_none : (slots : List ℕ) → slots ≡ written_to leaf list 0 slots
  unfolding written_to
  written_none slots = paste-zero slots leaf.from (rule_of leaf list)

  pub front_none : {slots : List ℕ} {position : Quotient} → LeafReady leaf slots list → Stands s n 0 position
      → InFront leaf list 0 (record { k = 0; position = position }) slots
  front_none {slots} ready here = record {
    ready = ready;
    written = written_none slots;
    passed = passed_none (stands_slot here) (stands_end here (omega arith));
    stands = here;
  }

  -- Slot i is written.
  pub slot_written : {slots : List ℕ} {i : ℕ} → LeafReady leaf slots list → slots ≡ written_to leaf list i slots → i < s
      → (v : ℕ) → v ≡ get_or (rule_of leaf list) i 0 → set slots (leaf.from + i) v ≡ written_to leaf list (i + 1) slots
  unfolding written_to
  slot_written {slots} {i} ready written more v e =
      ap (λ (x : List ℕ). set x (leaf.from + i) v) written
      ∙ rw (e, add-one i)
      (paste-suc slots leaf.from (rule_of leaf list) i 0 (omega (arith, ready.slots_room)) (omega (arith, rule_length)))

  pub written_all : (old : List ℕ) {slots : List ℕ} {i : ℕ} → i ≡ s → slots ≡ written_to leaf list i old
      → slots ≡ take leaf.from old ++ spread s entries ++ drop (leaf.from + s) old
  unfolding written_to rule_of
  written_all old e written = written ∙ rw (e, take_all s (spread s entries) (le_of_eq (length_spread s entries)))

  -- What is written stays written.
  pub written_again : {slots slots' : List ℕ} {i : ℕ} → LeafReady leaf slots list → i ≤ s → slots' ≡ written_to leaf list i slots
      → slots' ≡ written_to leaf list i slots'
  written_again {i = i} ready l e = e ∙ sym (written_on ready (le_refl i) l e refl)

  module _ {slots : List ℕ} {i : ℕ} {next : Next} (w : InFront leaf list i next slots) (more : i < s) where
    -- the pass is in front of the next slot
    further : {slots' : List ℕ} {later : Next} → slots' ≡ written_to leaf list (i + 1) slots
        → Passed (slot_of s n) n s (i + 1) later.k later.position.whole → Stands s n later.k later.position
        → (slots' ≡ written_to leaf list (i + 1) slots) × InFront leaf list (i + 1) later slots'
    further {slots'} e passed there =
        let size : length slots' ≡ length slots = ap length e ∙ written_length (i + 1) w.ready (omega arith) in
        let ready : LeafReady leaf slots' list = record {
          slots_room = omega (arith, w.ready.slots_room, size);
          list_room = w.ready.list_room;
          fit = w.ready.fit;
          small = w.ready.small;
        } in
        let written : slots' ≡ written_to leaf list (i + 1) slots' = written_again w.ready (omega arith) e in
        (e, record { ready = ready; written = written; passed = passed; stands = there })

    pub entry_written : i ≡ next.position.whole → {later : Quotient} → Stands s n (next.k + 1) later
        → (set slots (leaf.from + i) (get_or list (leaf.at + next.k) 0) ≡ written_to leaf list (i + 1) slots)
        × InFront leaf list (i + 1) (record { k = next.k + 1; position = later }) (set slots (leaf.from + i) (get_or list (leaf.at + next.k) 0))
    unfolding rule_of
    entry_written e there =
        let left = entry_left w.passed more e in
        let rule = slot_of_positions s n w.ready.fit in
        further
        (slot_written w.ready w.written more (get_or list (leaf.at + next.k) 0)
        (sym (rw (entry_here w.passed more e)
        (spread_entry s n entries (length_part list leaf.at n w.ready.list_room) w.ready.fit next.k left ∙ part_at list leaf.at n next.k 0 left))))
        (passed_entry w.passed more rule e (stands_slot there) (stands_end there (omega (arith, left))))
        there

    pub gap_written : (i ≡ next.position.whole → ⊥)
        → (set slots (leaf.from + i) 0 ≡ written_to leaf list (i + 1) slots) × InFront leaf list (i + 1) next (set slots (leaf.from + i) 0)
    unfolding rule_of
    gap_written ne =
        let rule = slot_of_positions s n w.ready.fit in
        further
        (slot_written w.ready w.written more 0 (sym (spread_gap s n entries (length_part list leaf.at n w.ready.list_room) i more (gap_here w.passed more rule ne))))
        (passed_gap w.passed more rule ne)
        w.stands

  -- ---- the loop

  pub so_far_none : {slots : List ℕ} {position : Quotient} → LeafReady leaf slots list → Stands s n 0 position
      → SoFar leaf list slots 0 (record { k = 0; position = position }) slots
  so_far_none ready here = let front = front_none ready here in record { front = front; written = front.written; start = ready }

  pub so_far_more : {old slots slots' : List ℕ} {i : ℕ} {next later : Next} → SoFar leaf list old i next slots → i < s
      → slots' ≡ written_to leaf list (i + 1) slots → InFront leaf list (i + 1) later slots' → SoFar leaf list old (i + 1) later slots'
  so_far_more w more e front = record {
    front = front;
    written = written_on w.start (omega arith) (omega arith) w.written e;
    start = w.start;
  }

  pub so_far_all : {old slots : List ℕ} {i : ℕ} {next : Next} → SoFar leaf list old i next slots → s ≤ i
      → slots ≡ take leaf.from old ++ spread s entries ++ drop (leaf.from + s) old
  so_far_all {old} w all = written_all old (omega (arith, w.front.passed.inside)) w.written
