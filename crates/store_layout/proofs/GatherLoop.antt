-- The loop that gathers the entries of some slots: what the list holds after i slots.
use Rattle.std.specs.Prelude.{◌≡◌, refl, List, [], ◌∷◌, ◌++◌, ℕ, ◌+◌, ◌≤◌, ◌<◌, length, get_or, set, take, drop}
use Rattle.std.proofs.Common.{ap, ◌∙◌, append-nil, length-append, length-set, take-append-drop, take-suc, take_all, take-suc-set, add-one, arith}
use Rattle.std.proofs.lemmas.List.{take-set-le}
use Rattle.base.specs.ListLaws.{length_part, part_at}
use Rattle.store_layout.specs.Leaf.{nonzero}
use Rattle.store_layout.specs.Ready.{GatherReady, Gathered}
use Rattle.store_layout.proofs.LeafLaws.{nonzero_append, nonzero_zero, nonzero_entry}

nonzero_nil : nonzero [] ≡ []
unfolding nonzero
nonzero_nil = refl

-- The entries of a front part are no more than those of the whole.
nonzero_front : (i : ℕ) (xs : List ℕ) → length (nonzero (take i xs)) ≤ length (nonzero xs)
nonzero_front i xs =
    let split : length (nonzero (take i xs ++ drop i xs)) ≡ length (nonzero (take i xs)) + length (nonzero (drop i xs))
    = ap length (nonzero_append (take i xs) (drop i xs)) ∙ length-append (nonzero (take i xs)) (nonzero (drop i xs)) in
    omega (arith, rw (take-append-drop i xs) at split)

-- One slot more.
next_slot : (slots : List ℕ) (from len : ℕ) → from + len ≤ length slots → (i : ℕ) → i < len
    → nonzero (take (i + 1) (take len (drop from slots))) ≡ nonzero (take i (take len (drop from slots))) ++ nonzero (get_or slots (from + i) 0 ∷ [])
next_slot slots from len room i more =
    let part = take len (drop from slots) in
    rw (
      add-one i,
      take-suc part i 0 (omega (arith, length_part slots from len room)),
      part_at slots from len i 0 more,
      nonzero_append (take i part),
    )

-- ---- their number

module _ (slots : List ℕ) (from len : ℕ) (room : from + len ≤ length slots) where
  abbrev counted : List ℕ
  counted = take len (drop from slots)

  pub number_none : 0 ≡ length (nonzero (take 0 counted))
  number_none = rw nonzero_nil

  module _ (i : ℕ) (more : i < len) (n : ℕ) (w : n ≡ length (nonzero (take i counted))) where
    pub number_zero : get_or slots (from + i) 0 ≡ 0 → n ≡ length (nonzero (take (i + 1) counted))
    number_zero e =
        rw (next_slot slots from len room i more, nonzero_zero (get_or slots (from + i) 0) [] e, nonzero_nil, append-nil (nonzero (take i counted))) w

    pub number_entry : (get_or slots (from + i) 0 ≡ 0 → ⊥) → n + 1 ≡ length (nonzero (take (i + 1) counted))
    number_entry ne =
        rw (
          next_slot slots from len room i more,
          nonzero_entry (get_or slots (from + i) 0) [] (omega arith),
          nonzero_nil,
          length-append (nonzero (take i counted)) (get_or slots (from + i) 0 ∷ []),
        )
        (omega (arith, w))

  pub number_all : (i : ℕ) → len ≤ i → {n : ℕ} → n ≡ length (nonzero (take i counted)) → n ≡ length (nonzero counted)
  number_all i h w = rw (take_all i counted (omega (arith, length_part slots from len room))) at w

-- ---- the entries themselves

module _ {slots : List ℕ} {from len : ℕ} {old : List ℕ} (ready : GatherReady slots from len old) where
  abbrev part : List ℕ
  part = take len (drop from slots)

  pub gathered_none : Gathered (nonzero (take 0 part)) old 0 old
  gathered_none = record { number = rw nonzero_nil; front = rw nonzero_nil; kept = refl }

  module _ (i : ℕ) {list : List ℕ} {n : ℕ} (w : Gathered (nonzero (take i part)) old n list) where
    pub gather_room : n < length list
    gather_room = omega (arith, w.number, w.kept, nonzero_front i part, ready.list_room)

    module _ (more : i < len) where
      abbrev held : ℕ
      held = get_or slots (from + i) 0

      one_more : nonzero (take (i + 1) part) ≡ nonzero (take i part) ++ nonzero (held ∷ [])
      one_more = next_slot slots from len ready.slots_room i more

      pub gathered_zero : held ≡ 0 → Gathered (nonzero (take (i + 1) part)) old n (set list n held)
      gathered_zero e =
          rw (one_more, nonzero_zero held [] e, nonzero_nil, append-nil (nonzero (take i part)))
          record {
            number = w.number;
            front = take-set-le n list n held (omega arith) ∙ w.front;
            kept = length-set list n held ∙ w.kept;
          }

      pub gathered_entry : (held ≡ 0 → ⊥) → Gathered (nonzero (take (i + 1) part)) old (n + 1) (set list n held)
      gathered_entry ne =
          rw (one_more, nonzero_entry held [] (omega arith), nonzero_nil)
          record {
            number = rw (length-append (nonzero (take i part)) (held ∷ [])) (omega (arith, w.number));
            front = rw (add-one n, take-suc-set list n held gather_room, w.front);
            kept = length-set list n held ∙ w.kept;
          }

  pub gathered_all : {list : List ℕ} {n : ℕ} (i : ℕ) → len ≤ i → Gathered (nonzero (take i part)) old n list
      → Gathered (nonzero part) old n list
  gathered_all i h w = rw (take_all i part (omega (arith, length_part slots from len ready.slots_room))) at w
