-- An insert or delete that no cause before 7 refuses: what its steps ask, and what it comes to.
use Rattle.std.specs.Prelude.{◌≡◌, refl, ◌≢◌, ℕ, ◌+◌, ◌*◌, ◌^◌, ◌≤◌, ◌<◌, length, take, drop, Option, Some, None, Ok, Err}
use Rattle.std.proofs.Math.Path.{sym, ap, ap₂}
use Rattle.std.proofs.Common.{◌∙◌, subst, arith}
use Rattle.std.proofs.Math.Logic.{⊎_elim}
use mathlib.Core.List.{List, []}
use Rattle.std.proofs.Math.Option.{none}
use Rattle.std.proofs.Math.ListN.{get_or}
use Rattle.draw_shares.specs.Tape.{Ran, ran, ended, run_at}
use Rattle.draw_shares.proofs.TapeLaws.{run_ends}
use Rattle.tree_sizes.specs.Sizes.{height}
use Rattle.tree_rules.specs.declared.Change.{Change}
use Rattle.tree_rules.specs.Tree.{Shape, IsShape}
use Rattle.tree_rules.specs.Compare.{count_after}
use Rattle.tree_rules.specs.Rules.{rank_of, InReach, update}
use Rattle.tree_rules.specs.ChangeList.{change_list}
use Rattle.tree_rules.specs.ChangeListLaws.{length_changed}
use Rattle.tree_rules.proofs.ShapeLaws.{update_ends}
use Rattle.tree_counts.specs.declared.Part.{Part}
use Rattle.tree_counts.specs.Ranges.{Perfect}
use Rattle.tree_counts.specs.Counts.{shape_counts, shape_in}
use Rattle.tree_counts.specs.RangeLaws.{balanced_perfect}
use Rattle.tree_counts.specs.ShapeCountLaws.{length_shape_counts, shape_counts_size, shape_in_shape_counts}
use Rattle.tree_counts.specs.Confined.{Within, Confined}
use Rattle.tree_walk.specs.declared.Updated.{Updated}
use Rattle.tree_walk.specs.Updated.{UpdatedAs}
use Rattle.tree_update.specs.Update.{UpdateReady}
use Rattle.store_layout.specs.declared.Capacity.{Capacity}
use Rattle.store_layout.specs.Layout.{Store, lay_slots, lay_counts, lay_out}
use Rattle.store_order.specs.CountOrder.{count_order, number_order}
use Rattle.store_order.proofs.CountOrderLaws.{count_order_size, number_count}
use Rattle.store_layout.specs.Sheet.{IsContents}
use Rattle.store_layout.specs.Decode.{Contents, numbered}
use Rattle.store_layout.specs.Room.{Roomy, CapacityReady}
use Rattle.store_layout.proofs.SheetLaws.{decode_sound, length_slots, length_counts, numbered_lay_out}
use Rattle.store_rows.specs.Above.{PlacedBut}
use Rattle.store_sums.specs.Numbers.{NumbersBut, NumbersIn}
use Rattle.store_sums.specs.LaidLaws.{counts_laid}
use Rattle.store_sums.specs.PlacedLaws.{placed_but}
use Rattle.store_part.specs.LeavesLaws.{kept_numbers}
use Rattle.store_part.specs.Plan.{part_from, part_length, first_leaf, last_leaf, PartIn, Plan}
use Rattle.store_part.specs.PlanLaws.{plan}
use Rattle.store_part.specs.LayPart.{part_entries, lay_entries, lay_part, LayReady}
use Rattle.store_part.specs.KeepLaws.{slots_before, slots_behind}
use Rattle.call_outcomes.specs.declared.Cause.TheVariants.{TapeEnded}
use Rattle.call_outcomes.specs.declared.Answer.TheVariants.{Changed}
use Rattle.call_outcomes.specs.Kind.{applied}
use Rattle.call_outcomes.specs.Outcome.{refused, outcome}
use Rattle.call_outcomes.specs.ChangeLaws.{outcome_drawn, outcome_ended}
use Rattle.call_outcomes.specs.PlainCalls.{plain_change, change_cause, edit_of, changing}
use Rattle.call_outcomes.specs.Untallied.{IsList, untallied, store_of, outcome_of}
use Rattle.call_outcomes.proofs.UntalliedLaws.{contents_of_lem, plain_calls_lem}
use Rattle.call_outcomes.specs.PlainCallLaws.{change_within, edit_change, edit_list}
use Rattle.call_open.specs.AdmittedLaws.{change_decoded, change_free}
use Rattle.call_change.specs.declared.DrawnChange.{DrawnChange}
use Rattle.call_change.specs.SheetChange.{ChangeReady, entries_before, WriteReady, written}

-- ---- the answer of the update of the counts

pub record Drawn (change : Change) (n : ℕ) (s : Shape) (run : Ran Shape) (room m : ℕ) (part : Part) (next : ℕ) (counts : List ℕ) : Type 0 where
  pub shape : Shape
  pub run_is : run ≡ ran shape next
  pub size_is : shape.size ≡ m
  pub counts_are : counts ≡ shape_counts room (count_after change n) shape
  pub confined : Confined change s shape part

answer_done : (change : Change) (n : ℕ) (s : Shape) (run : Ran Shape) (answer : Option Updated) (room : ℕ) (counts : List ℕ) (m : ℕ) (part : Part) (next : ℕ)
    → UpdatedAs change n s run answer room counts → answer ≡ Some (record { m = m; part = part; next = next }) → Drawn change n s run room m part next counts
unfolding UpdatedAs
answer_done change n s (ran shape next') answer room counts m part next w e =
    let both : Some (record { m = shape.size; part = w.0; next = next' }) ≡ Some (record { m = m; part = part; next = next }) = sym w.1 ∙ e in
    let same : ◌≡◌ {A = Updated} (record { m = shape.size; part = w.0; next = next' }) (record { m = m; part = part; next = next }) = cc in
    let next_is : next' ≡ next = ap (λ u. u.next) same in
    let part_is : w.0 ≡ part = ap (λ u. u.part) same in
    record {
      shape = shape;
      run_is = rw next_is;
      size_is = ap (λ u. u.m) same;
      counts_are = w.2;
      confined = subst (Confined change s shape) part_is w.3;
    }
answer_done change n s ended answer room counts m part next w e = let z : ◌≡◌ {A = ℕ} 0 1 = cc in absurd (omega arith)

answer_ended : (change : Change) (n : ℕ) (s : Shape) (run : Ran Shape) (answer : Option Updated) (room : ℕ) (counts : List ℕ)
    → UpdatedAs change n s run answer room counts → answer ≡ None → run ≡ ended
unfolding UpdatedAs
answer_ended change n s (ran shape next) answer room counts w e = let z : ◌≡◌ {A = ℕ} 0 1 = cc w.1 in absurd (omega arith)
answer_ended change n s ended answer room counts w e = refl

-- ---- the counts of a sheet, by its slots

counts_of : (cap : Capacity) (roomy : Roomy cap) (list : List ℕ) (s : Shape) → IsContents cap list s → {M : ℕ} {slots work : List ℕ} → s.size ≡ M
    → slots ≡ lay_slots cap.slots list s → work ≡ shape_counts cap.counts (length list) s → NumbersIn length M M slots work
counts_of cap roomy list s w size slots_are work_are = rw (slots_are, work_are, ← size) (counts_laid cap roomy list s w)

-- ---- the part laid out anew, by the code's numbers

module _ (cap : Capacity) (list : List ℕ) (s s' : Shape) (change : Change) (e : ℕ) (part : Part)
    (P : Plan cap.slots cap.counts list s s' change e part) (M M' : ℕ) (slots work : List ℕ)
    (size : s.size ≡ M) (size' : s'.size ≡ M') (slots_are : slots ≡ lay_slots cap.slots list s)
    (work_are : work ≡ shape_counts cap.counts (count_after change (length list)) s') where
  part_entries_lem : part_entries M part slots ≡ P.entries
  unfolding part_entries
  part_entries_lem = rw (slots_are, ← size) P.gathered

  part_ready : M < 2 ^ 32 → M' < 2 ^ 32 → length slots ≡ cap.slots → length work ≡ cap.counts → LayReady M M' part change work slots
  part_ready small small' slots_length work_length = record {
    old_part = record { most = small; inside = rw (← size) P.old_part };
    new_part = record { most = small'; inside = rw (← size') P.new_part };
    old_room = rw (slots_length, ← size) P.old_room;
    new_room = rw (slots_length, ← size') P.new_room;
    counts_room = rw (work_length, ← size') P.counts_room;
    reach = rw part_entries_lem P.reach;
    counts_total = rw (part_entries_lem, work_are, ← size') P.counts_total;
    counts_fit = rw (work_are, ← size') P.counts_fit;
  }

  part_count : get_or work part.range 0 ≡ count_after change (length (part_entries M part slots))
  part_count = rw (part_entries_lem, work_are) P.count

  part_few : length (part_entries M part slots) ≤ length list
  part_few = rw part_entries_lem P.few

  part_laid : lay_part M M' part change e work slots ≡ lay_slots cap.slots (change_list change e list) s'
  unfolding lay_part lay_entries
  part_laid = rw (part_entries_lem, work_are, slots_are, ← size, ← size') P.laid

module _ {cap : Capacity} (ready : CapacityReady cap) {change : Change} {e n m : ℕ} {slots counts work : List ℕ}
    (p : ChangeReady cap change e n m (store_of slots counts) work) where
  abbrev c : Contents
  c = p.admitted.contents

  -- ---- what is known of the store

  pub sound : IsContents cap c.list c.shape × (store_of slots counts ≡ lay_out cap c.list c.shape)
  sound = decode_sound cap (store_of slots counts) c (change_decoded p.admitted)

  pub few : n ≤ cap.entries
  few = omega (arith, p.admitted.count, sound.0.room)

  within : InReach change n × (count_after change n ≤ cap.entries)
  within = rw (edit_change change e) at (change_within cap (plain_change change e) n few (change_free p.admitted))

  pub in_reach : InReach change n
  in_reach = within.0

  shape_n : IsShape n c.shape
  shape_n = subst (λ (k : ℕ). IsShape k c.shape) p.admitted.count sound.0.shape

  tree_perfect : Perfect (height c.shape.size) c.shape.tree
  tree_perfect = balanced_perfect c.shape.size (height c.shape.size) 0 n c.shape.tree shape_n.balanced

  counts_fit : 2 * 2 ^ height c.shape.size ≤ cap.counts
  counts_fit = ready.roomy.counts_fit n c.shape.size few shape_n.allowed

  pub slots_are : slots ≡ lay_slots cap.slots c.list c.shape
  unfolding lay_out
  slots_are = ap (λ (t : Store). t.slots) sound.1

  work_list : work ≡ shape_counts cap.counts (length c.list) c.shape
  work_list = p.copied ∙ ap numbered sound.1 ∙ numbered_lay_out cap c.list c.shape sound.0 ready.roomy

  work_are : work ≡ shape_counts cap.counts n c.shape
  work_are = work_list ∙ ap (λ (k : ℕ). shape_counts cap.counts k c.shape) p.admitted.count

  -- The counts are the numbers of entries in the slots, in the order of the store.
  counts_in : NumbersIn length m m slots work
  counts_in = counts_of cap ready.roomy c.list c.shape sound.0 p.admitted.size slots_are work_list

  counts_order : counts ≡ count_order (height m) work
  unfolding lay_out lay_counts
  counts_order = ap (λ (t : Store). t.counts) sound.1 ∙ ap₂ (λ (M : ℕ) (xs : List ℕ). count_order (height M) xs) p.admitted.size (sym work_list)

  pub work_length : length work ≡ cap.counts
  work_length = rw work_are (length_shape_counts cap.counts n c.shape)

  slots_length : length slots ≡ cap.slots
  unfolding lay_out
  slots_length = rw slots_are (length_slots cap c.list c.shape sound.0 ready.roomy)

  counts_length : length counts ≡ cap.counts
  counts_length = ap (λ (t : Store). length t.counts) sound.1 ∙ length_counts cap c.list c.shape sound.0

  shape_in_lem : shape_in work ≡ c.shape
  shape_in_lem = ap shape_in work_are ∙ shape_in_shape_counts cap.counts n c.shape tree_perfect counts_fit

  -- ---- the counts are updated

  pub update_ready : UpdateReady change n m work
  update_ready = record {
    few = omega (arith, few, ready.few);
    size =
        ap (λ (xs : List ℕ). get_or xs 0 0) work_are
        ∙ shape_counts_size (height c.shape.size) cap.counts n c.shape tree_perfect counts_fit
        ∙ p.admitted.size;
    shape = rw shape_in_lem shape_n;
    held = rw (shape_in_lem, work_length) work_are;
    reach = in_reach;
    new_room = λ M a. rw work_length (ready.roomy.counts_fit (count_after change n) M within.1 a);
  }

  module _ (tape : List ℕ) (answer : Option Updated) (work' : List ℕ)
      (w : UpdatedAs change n (shape_in work) (run_at (update change n (shape_in work)) tape 0) answer (length work) work') where
    updated_as : UpdatedAs change n c.shape (run_at (update change n c.shape) tape 0) answer cap.counts work'
    updated_as = rw (shape_in_lem, work_length) at w

    -- the run as the outcome has it
    run_is : run_at (update (edit_of (plain_change change e)).change (length c.list) c.shape) tape 0 ≡ run_at (update change n c.shape) tape 0
    run_is = rw (edit_change change e, p.admitted.count)

    -- ---- the tape ended

    pub change_ended : answer ≡ None
        → outcome_of (Err TapeEnded) slots counts [] ≡ outcome (untallied cap) (changing change e) tape (store_of slots counts) []
    unfolding refused
    change_ended h =
        sym
        (outcome_ended (untallied cap) (plain_change change e) tape (store_of slots counts) c p.admitted.decided
        (run_is ∙ answer_ended change n c.shape (run_at (update change n c.shape) tape 0) answer cap.counts work' updated_as h))

    -- ---- everything was drawn

    module _ (m' : ℕ) (part : Part) (next : ℕ) (done : answer ≡ Some (record { m = m'; part = part; next = next })) where
      drawn : Drawn change n c.shape (run_at (update change n c.shape) tape 0) cap.counts m' part next work'
      drawn = answer_done change n c.shape (run_at (update change n c.shape) tape 0) answer cap.counts work' m' part next updated_as done

      new_shape : IsShape (count_after change n) drawn.shape
      new_shape =
          run_ends (IsShape (count_after change n)) (update change n c.shape) tape 0 drawn.shape next
          (update_ends change n c.shape in_reach shape_n) drawn.run_is

      -- by the number of entries of the list
      by_list : (P : ℕ → Type 0) → P n → P (length c.list)
      by_list P h = subst P (sym p.admitted.count) h

      planned : Plan cap.slots cap.counts c.list c.shape drawn.shape change e part
      planned =
          plan cap ready.roomy c.list c.shape drawn.shape change e part sound.0 (by_list (InReach change) in_reach)
          (by_list (λ k. IsShape (count_after change k) drawn.shape) new_shape) (by_list (λ k. count_after change k ≤ cap.entries) within.1)
          drawn.confined

      work'-are : work' ≡ shape_counts cap.counts (count_after change (length c.list)) drawn.shape
      work'-are = drawn.counts_are ∙ ap (λ (k : ℕ). shape_counts cap.counts (count_after change k) drawn.shape) (sym p.admitted.count)

      work'-length : length work' ≡ cap.counts
      work'-length = ap length work'-are ∙ length_shape_counts cap.counts _ drawn.shape

      sizes_most : (m ≤ 2 * cap.entries) × (m' ≤ 2 * cap.entries)
      sizes_most = (
        omega (arith, p.admitted.size, shape_n.allowed.most, few),
        omega (arith, drawn.size_is, new_shape.allowed.most, within.1),
      )

      new_fit : 2 * 2 ^ height drawn.shape.size ≤ cap.counts
      new_fit = ready.roomy.counts_fit (count_after change n) drawn.shape.size within.1 new_shape.allowed

      new_size_lem : get_or work' 0 0 ≡ drawn.shape.size
      new_size_lem =
          ap (λ (xs : List ℕ). get_or xs 0 0) drawn.counts_are
          ∙ shape_counts_size (height drawn.shape.size) cap.counts (count_after change n) drawn.shape
          (balanced_perfect drawn.shape.size (height drawn.shape.size) 0 (count_after change n) drawn.shape.tree new_shape.balanced) new_fit

      abbrev d : DrawnChange
      d = record { old = m; new = m'; part = part; change = change; entry = e }

      -- what laying the part out asks
      lay_part_ready : LayReady m m' part change work' slots
      lay_part_ready =
          part_ready cap c.list c.shape drawn.shape change e part planned m m' slots work' p.admitted.size drawn.size_is slots_are work'-are
          (omega (arith, sizes_most.0, ready.few)) (omega (arith, sizes_most.1, ready.few)) slots_length work'-length

      -- what is known of the part
      pub part_inside : PartIn m' part
      part_inside = rw (← drawn.size_is) planned.new_part

      pub size_kept : part.range ≢ 1 → m' ≡ m
      unfolding Confined
      size_kept other =
          ⊎_elim (λ (whole : part ≡ record { range = 1; depth = 0; rank = rank_of change }). absurd (other (ap (λ (x : Part). x.range) whole)))
          (λ (w : (drawn.shape.size ≡ c.shape.size) × Within 1 0 change c.shape.tree drawn.shape.tree part).
          sym drawn.size_is ∙ w.0 ∙ p.admitted.size)
          drawn.confined

      pub before_few : length (entries_before d slots) ≤ cap.entries
      before_few =
          omega (
            arith,
            part_few cap c.list c.shape drawn.shape change e part planned m m' slots work' p.admitted.size drawn.size_is slots_are work'-are,
            sound.0.room,
          )

      -- the new size parameter stands at number 0
      pub size_written : {slots' counts' : List ℕ} → store_of slots' counts' ≡ written d work' (store_of slots counts) → get_or counts' 0 0 ≡ m'
      unfolding written
      size_written Store-is =
          ap (λ (t : Store). get_or t.counts 0 0) Store-is ∙ count_order_size (height m') work' ∙ new_size_lem ∙ drawn.size_is

      -- the work array has the new counts by range number
      pub work_numbered : {slots' counts' : List ℕ} → store_of slots' counts' ≡ written d work' (store_of slots counts) → work' ≡ numbered (store_of slots' counts')
      unfolding written numbered
      work_numbered Store-is =
          let h = height m' in
          sym (ap numbered Store-is
          ∙ ap (λ (k : ℕ). number_order (height k) (count_order h work')) (count_order_size h work' ∙ new_size_lem ∙ drawn.size_is)
          ∙ number_count h work' (rw (← drawn.size_is, work'-length) new_fit))

      -- where it is a part of the sheet, the slots before it and behind it stay
      module _ (other : part.range ≢ 1) {slots' : List ℕ} (laid : slots' ≡ lay_part m m' part change e work' slots) where
        lay_ready : LayReady m' m' part change work' slots
        lay_ready = subst (λ (k : ℕ). LayReady k m' part change work' slots) (sym (size_kept other)) lay_part_ready

        new_slots_are : slots' ≡ lay_part m' m' part change e work' slots
        new_slots_are = laid ∙ ap (λ (k : ℕ). lay_part k m' part change e work' slots) (sym (size_kept other))

        pub kept_before : take (part_from m' part) slots ≡ take (part_from m' part) slots'
        kept_before = rw new_slots_are (sym (slots_before lay_ready e))

        pub kept_behind : drop (part_from m' part + part_length m' part) slots ≡ drop (part_from m' part + part_length m' part) slots'
        kept_behind = rw new_slots_are (sym (slots_behind lay_ready e))

      -- the new counts are the numbers of entries in the new slots
      new_list : IsList cap (change_list change e c.list)
      new_list =
          subst (IsList cap) (edit_list change e c.list)
          ((plain_calls_lem cap).keeps (plain_change change e) c.list (record { room = sound.0.room; entries = sound.0.entries })
          (by_list (λ k. change_cause cap.entries (plain_change change e) k ≡ none) (change_free p.admitted)))

      entries : count_after change (length c.list) ≡ length (change_list change e c.list)
      entries = sym (length_changed change e c.list (by_list (InReach change) in_reach))

      new_contents : IsContents cap (change_list change e c.list) drawn.shape
      new_contents =
          contents_of_lem cap _ _ new_list (subst (λ (k : ℕ). IsShape k drawn.shape) entries (by_list (λ k. IsShape (count_after change k) drawn.shape) new_shape))

      new_counts_in : NumbersIn length m' m' (lay_part m m' part change e work' slots) work'
      new_counts_in =
          counts_of cap ready.roomy (change_list change e c.list) drawn.shape new_contents drawn.size_is
          (part_laid cap c.list c.shape drawn.shape change e part planned m m' slots work' p.admitted.size drawn.size_is slots_are work'-are)
          (work'-are ∙ ap (λ (k : ℕ). shape_counts cap.counts k drawn.shape) entries)

      -- so the counts of the ranges that have no leaf of it stay
      placed : part.range ≢ 1 → PlacedBut (height m') (first_leaf m' part) (last_leaf m' part) work' counts
      placed other =
          let slots' = lay_part m m' part change e work' slots in
          let size : m ≡ m' = sym (size_kept other) in
          let but : NumbersBut length m' m' slots' (first_leaf m' part) (last_leaf m' part + 1) work
          = kept_numbers part_inside length m' (kept_before other refl) (kept_behind other refl) (subst (λ (M : ℕ). NumbersIn length M M slots work) size counts_in) in
          placed_but but new_counts_in (counts_order ∙ ap (λ (M : ℕ). count_order (height M) work) size) (work_length ∙ sym work'-length) (rw (← drawn.size_is, work_length) new_fit)

      -- what writing the change asks
      pub write_ready : WriteReady d (store_of slots counts) work'
      write_ready = record {
        part_ready = lay_part_ready;
        count =
            part_count cap c.list c.shape drawn.shape change e part planned m m' slots work' p.admitted.size drawn.size_is slots_are work'-are;
        lengths = counts_length ∙ sym work'-length;
        few = omega (arith, sizes_most.1, ready.few);
        room = rw (← drawn.size_is, work'-length) new_fit;
        placed = placed;
      }

      pub change_done : (after : ℕ) (slots' counts' : List ℕ) → after ≡ count_after change n
          → store_of slots' counts' ≡ written d work' (store_of slots counts)
          → outcome_of (Ok (Changed after next)) slots' counts' [] ≡ outcome (untallied cap) (changing change e) tape (store_of slots counts) []
      unfolding lay_out lay_counts written
      change_done after slots' counts' a Store-is =
          laid ∙ sym (outcome_drawn (untallied cap) (plain_change change e) tape (store_of slots counts) c p.admitted.decided drawn.shape next (run_is ∙ drawn.run_is))
        where
          number : after ≡ count_after (edit_of (plain_change change e)).change (length c.list)
          number = a ∙ rw (edit_change change e, p.admitted.count)

          new_slots : slots' ≡ lay_slots cap.slots (applied (edit_of (plain_change change e)) c.list) drawn.shape
          new_slots =
              ap (λ (t : Store). t.slots) Store-is
              ∙ part_laid cap c.list c.shape drawn.shape change e part planned m m' slots work' p.admitted.size drawn.size_is slots_are work'-are
              ∙ rw (edit_list change e c.list)

          number_after : count_after change (length c.list) ≡ length (applied (edit_of (plain_change change e)) c.list)
          number_after = entries ∙ ap length (sym (edit_list change e c.list))

          new_counts : counts' ≡ lay_counts cap.counts (length (applied (edit_of (plain_change change e)) c.list)) drawn.shape
          new_counts =
              ap (λ (t : Store). t.counts) Store-is
              ∙ ap₂ (λ (M : ℕ) (xs : List ℕ). count_order (height M) xs) (sym drawn.size_is)
              (work'-are ∙ ap (λ (j : ℕ). shape_counts cap.counts j drawn.shape) number_after)

          laid : outcome_of (Ok (Changed after next)) slots' counts' []
              ≡ record {
                answer = Ok (Changed (count_after (edit_of (plain_change change e)).change (length c.list)) next);
                store = lay_out cap (applied (edit_of (plain_change change e)) c.list) drawn.shape;
                output = [];
              }
          laid = λ i. outcome_of (Ok (Changed (number i) next)) (new_slots i) (new_counts i) []
