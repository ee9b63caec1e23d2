-- Laws of keys: the test that a list rises, parts of a list that rises, ranks and presence in lists put together, and one entry more or less.
use Rattle.std.specs.Prelude.{◌≡◌, true, false, ◌||◌, ◌≢◌, eqb, ltb, length, get_or, take}
use Rattle.std.proofs.Math.Path.{refl, ap}
use Rattle.std.proofs.Common.{sym, ◌∙◌, add-zero, eq-or-lt_of_le, le_of_suc-le-suc, mod-eq_of_lt, not-suc-le-zero, take-append-drop, eq-eqb, lt-ltb, ltb-true, ne_eqb}
use Rattle.std.proofs.Math.Bool.{or_assoc, or-false, or-true}
use mathlib.Core.List.{List, [], ◌∷◌, ◌++◌}
use Rattle.std.proofs.Math.Logic.{⊎_elim}
use Prim.Native.Nat.{ℕ, zero, suc, ◌+◌, ◌*◌, ◌^◌, ◌≤◌, ◌<◌}
use Rattle.std.proofs.Math.Nat.{mul-add-mod_self_right, mod-le}
use native.Mathlib.Omega.{arith}
use Rattle.std.proofs.Math.ListN.{drop}
use Rattle.std.proofs.lemmas.Bool.{eqb-false}
use Rattle.base.specs.CaseLaws.{by_lt, if_lt_yes, if_lt_no, lt_or_ge}
use Rattle.base.specs.BoolLaws.{and_both, neither}
use Rattle.base.specs.ListLaws.{every_get_d}
use Rattle.base.specs.Lists.{Every}
use Rattle.store_keys.specs.Key.{key, RiseFrom, rise_from, Rises, rank_of, present, KeysBelow, KeysAbove}

-- ---- the test

pub rises_true : (low : ℕ) (list : List ℕ) → RiseFrom low list → rise_from low list ≡ true
unfolding RiseFrom rise_from
rises_true low [] w = refl
rises_true low (e ∷ list) w = rw (lt-ltb low (key e) w.0, rises_true (key e) list w.1)

pub true_rises : (low : ℕ) (list : List ℕ) → rise_from low list ≡ true → RiseFrom low list
unfolding RiseFrom rise_from
true_rises low [] h = tt
true_rises low (e ∷ list) h =
    let both = and_both (ltb low (key e)) (rise_from (key e) list) h in (ltb-true low (key e) both.0, true_rises (key e) list both.1)

-- ---- parts of a list that rises

pub rise_lower : (low high : ℕ) (list : List ℕ) → low ≤ high → RiseFrom high list → RiseFrom low list
unfolding RiseFrom
rise_lower low high [] h w = tt
rise_lower low high (e ∷ list) h w = (omega (arith, w.0), w.1)

pub rise_above : (k low : ℕ) (list : List ℕ) → k ≤ low → RiseFrom low list → KeysAbove k list
unfolding RiseFrom Every
rise_above k low [] h w = tt
rise_above k low (e ∷ list) h w = (omega (arith, w.0), rise_above k (key e) list (omega (arith, w.0)) w.1)

pub rise_take : (low i : ℕ) (list : List ℕ) → RiseFrom low list → RiseFrom low (take i list)
unfolding RiseFrom
rise_take low zero list w = tt
rise_take low (suc i) [] w = tt
rise_take low (suc i) (e ∷ list) w = (w.0, rise_take (key e) i list w.1)

pub rise_drop : (low i : ℕ) (list : List ℕ) → RiseFrom low list → RiseFrom low (drop i list)
unfolding RiseFrom
rise_drop low zero list w = w
rise_drop low (suc i) [] w = tt
rise_drop low (suc i) (e ∷ list) w = rise_lower low (key e) (drop i list) (omega (arith, w.0)) (rise_drop (key e) i list w.1)

-- In a list that rises a key that is not below that of the entry of rank r is above those of all entries before it, and a key that is below
-- it is below those of all entries from it on.
pub keys_before : (low k r : ℕ) (list : List ℕ) → RiseFrom low list → r < length list → key (get_or list r 0) ≤ k → KeysBelow k (take r list)
unfolding RiseFrom Every
keys_before low k zero list w h l = tt
keys_before low k (suc r) [] w h l = tt
keys_before low k (suc r) (e ∷ list) w h l =
    let inside = le_of_suc-le-suc h in (
      omega (arith, every_get_d (λ x. key e < key x) list r 0 (rise_above (key e) (key e) list (omega arith) w.1) inside),
      keys_before (key e) k r list w.1 inside l,
    )

pub keys_from : (low k r : ℕ) (list : List ℕ) → RiseFrom low list → r < length list → k < key (get_or list r 0) → KeysAbove k (drop r list)
unfolding RiseFrom Every
keys_from low k r [] w h l = absurd (not-suc-le-zero h)
keys_from low k zero (e ∷ list) w h l = (l, rise_above k (key e) list (omega arith) w.1)
keys_from low k (suc r) (e ∷ list) w h l = keys_from (key e) k r list w.1 (le_of_suc-le-suc h) l

-- ---- ranks, and keys that are present

module _ (k : ℕ) where
  module _ (e : ℕ) (list : List ℕ) where
    rank_yes : key e < k → rank_of k (e ∷ list) ≡ suc (rank_of k list)
    unfolding rank_of
    rank_yes h = if_lt_yes (key e) k _ _ h

    rank_no : k ≤ key e → rank_of k (e ∷ list) ≡ rank_of k list
    unfolding rank_of
    rank_no h = if_lt_no (key e) k _ _ h

  pub rank_most : (list : List ℕ) → rank_of k list ≤ length list
  unfolding rank_of
  rank_most [] = omega arith
  rank_most (e ∷ list) =
      by_lt (λ (r : ℕ). r ≤ suc (length list)) (key e) k _ _ (λ h. omega (arith, rank_most list)) (λ h. omega (arith, rank_most list))

  pub rank_append : (xs ys : List ℕ) → rank_of k (xs ++ ys) ≡ rank_of k xs + rank_of k ys
  unfolding rank_of
  rank_append [] ys = omega arith
  rank_append (e ∷ xs) ys =
      ⊎_elim
      (λ h. omega (arith, rank_yes e (xs ++ ys) h, rank_yes e xs h, rank_append xs ys))
      (λ h. omega (arith, rank_no e (xs ++ ys) h, rank_no e xs h, rank_append xs ys))
      (lt_or_ge (key e) k)

  pub present_append : (xs ys : List ℕ) → present k (xs ++ ys) ≡ (present k xs || present k ys)
  unfolding present
  present_append [] ys = refl
  present_append (e ∷ xs) ys = rw (present_append xs ys) (sym (or_assoc (eqb (key e) k) (present k xs) (present k ys)))

  pub rank_below : (list : List ℕ) → KeysBelow k list → rank_of k list ≡ length list
  unfolding Every rank_of
  rank_below [] w = refl
  rank_below (e ∷ list) w = rank_yes e list w.0 ∙ ap suc (rank_below list w.1)

  pub rank_above : (list : List ℕ) → KeysAbove k list → rank_of k list ≡ 0
  unfolding Every rank_of
  rank_above [] w = refl
  rank_above (e ∷ list) w = rank_no e list (omega (arith, w.0)) ∙ rank_above list w.1

  pub present_below : (list : List ℕ) → KeysBelow k list → present k list ≡ false
  unfolding Every present
  present_below [] w = refl
  present_below (e ∷ list) w = rw (ne_eqb (key e) k (λ same. omega (arith, w.0)), present_below list w.1)

  pub present_above : (list : List ℕ) → KeysAbove k list → present k list ≡ false
  unfolding Every present
  present_above [] w = refl
  present_above (e ∷ list) w = rw (ne_eqb (key e) k (λ same. omega (arith, w.0)), present_above list w.1)

  -- Behind entries whose keys are below k, and before entries whose keys are above it.
  module _ (xs ys : List ℕ) where
    pub rank_behind : KeysBelow k xs → rank_of k (xs ++ ys) ≡ length xs + rank_of k ys
    rank_behind w = rank_append xs ys ∙ rw (rank_below xs w)

    pub present_behind : KeysBelow k xs → present k (xs ++ ys) ≡ present k ys
    present_behind w = present_append xs ys ∙ rw (present_below xs w)

    pub rank_before : KeysAbove k ys → rank_of k (xs ++ ys) ≡ rank_of k xs
    rank_before w = rank_append xs ys ∙ rw (rank_above ys w) (add-zero (rank_of k xs))

    pub present_before : KeysAbove k ys → present k (xs ++ ys) ≡ present k xs
    present_before w = present_append xs ys ∙ rw (present_above ys w) (or-false (present k xs))

-- A lower key has no higher rank.
pub rank_rises : (k k' : ℕ) (list : List ℕ) → k ≤ k' → rank_of k list ≤ rank_of k' list
unfolding rank_of
rank_rises k k' [] h = omega arith
rank_rises k k' (e ∷ list) h =
    by_lt (λ (r : ℕ). r ≤ rank_of k' (e ∷ list)) (key e) k _ _
    (λ less. omega (arith, rank_yes k' e list (omega arith), rank_rises k k' list h))
    (λ least. by_lt (λ (r : ℕ). rank_of k list ≤ r) (key e) k' _ _ (λ less. omega (arith, rank_rises k k' list h)) (λ more. rank_rises k k' list h))

-- ---- one entry more, and one less

-- With an entry more, wherever it stands: the rank of a key above its key is one higher, that of any other key is the same, and a key other
-- than its key is absent where it was.
module _ (k e i : ℕ) (list : List ℕ) where
  parts : rank_of k list ≡ rank_of k (take i list) + rank_of k (drop i list)
  parts = ap (rank_of k) (sym (take-append-drop i list)) ∙ rank_append k (take i list) (drop i list)

  pub rank_inserted_lower : key e < k → rank_of k (take i list ++ (e ∷ drop i list)) ≡ suc (rank_of k list)
  rank_inserted_lower h = omega (arith, rank_append k (take i list) (e ∷ drop i list), rank_yes k e (drop i list) h, parts)

  pub rank_inserted_other : k ≤ key e → rank_of k (take i list ++ (e ∷ drop i list)) ≡ rank_of k list
  rank_inserted_other h = omega (arith, rank_append k (take i list) (e ∷ drop i list), rank_no k e (drop i list) h, parts)

  pub present_inserted_other : key e ≢ k → present k list ≡ false → present k (take i list ++ (e ∷ drop i list)) ≡ false
  unfolding present
  present_inserted_other other absent =
      present_append k (take i list) (e ∷ drop i list)
      ∙ rw (ne_eqb (key e) k other)
      (sym (present_append k (take i list) (drop i list)) ∙ ap (present k) (take-append-drop i list) ∙ absent)

insert_from : (low e : ℕ) (list : List ℕ) → RiseFrom low list → low < key e → present (key e) list ≡ false
    → RiseFrom low (take (rank_of (key e) list) list ++ (e ∷ drop (rank_of (key e) list) list))
unfolding RiseFrom rank_of present
insert_from low e [] w h absent = (h, tt)
insert_from low e (x ∷ list) w h absent =
    let apart = neither (eqb (key x) (key e)) (present (key e) list) absent in
    by_lt (λ (r : ℕ). RiseFrom low (take r (x ∷ list) ++ (e ∷ drop r (x ∷ list)))) (key x) (key e) _ _
    (λ l. (w.0, insert_from (key x) e list w.1 l apart.1))
    (λ l.
    let other = eqb-false (key x) (key e) apart.0 in
    let less : key e < key x = omega arith in
    rw (rank_above (key e) list (rise_above (key e) (key x) list l w.1)) (h, (less, w.1)))

pub insert_rises : (e : ℕ) (list : List ℕ) → Rises list → 0 < key e → present (key e) list ≡ false
    → Rises (take (rank_of (key e) list) list ++ (e ∷ drop (rank_of (key e) list) list))
insert_rises e list = insert_from 0 e list

delete_from : (low i : ℕ) (list : List ℕ) → RiseFrom low list → RiseFrom low (take i list ++ drop (suc i) list)
unfolding RiseFrom
delete_from low zero [] w = tt
delete_from low zero (e ∷ list) w = rise_lower low (key e) list (omega (arith, w.0)) w.1
delete_from low (suc i) [] w = tt
delete_from low (suc i) (e ∷ list) w = (w.0, delete_from (key e) i list w.1)

pub delete_rises : (i : ℕ) (list : List ℕ) → Rises list → Rises (take i list ++ drop (suc i) list)
delete_rises i list = delete_from 0 i list

-- An entry whose key is not 0 is not 0.
pub key_entry : (e : ℕ) → 0 < key e → 0 < e
unfolding key
key_entry e h = omega (arith, mod-le e (2 ^ 62))

-- The bits 62 and 63 change nothing of a key: 1 stands for bit 62, 2 for bit 63, and 3 for both.
pub key_without_bits : (bits e : ℕ) → e < 2 ^ 62 → key (bits * 2 ^ 62 + e) ≡ e
unfolding key
key_without_bits bits e h = mul-add-mod_self_right bits (2 ^ 62) e ∙ mod-eq_of_lt h

-- ---- what is found in a list that rises

rank_from : (low r : ℕ) (list : List ℕ) → RiseFrom low list → r < length list
    → (present (key (get_or list r 0)) list ≡ true) × (rank_of (key (get_or list r 0)) list ≡ r)
unfolding RiseFrom present
rank_from low r [] w below = absurd (not-suc-le-zero below)
rank_from low zero (e ∷ list) w below = (
  rw (eq-eqb (key e) (key e) refl),
  rank_no (key e) e list (omega arith) ∙ rank_above (key e) list (rise_above (key e) (key e) list (omega arith) w.1),
)
rank_from low (suc r) (e ∷ list) w below =
    let k = key (get_or list r 0) in
    let more : r < length list = le_of_suc-le-suc below in
    let less : key e < k = every_get_d (λ x. key e < key x) list r 0 (rise_above (key e) (key e) list (omega arith) w.1) more in
    let behind = rank_from (key e) r list w.1 more in
    (rw behind.0 (or-true (eqb (key e) k)), rank_yes k e list less ∙ ap suc behind.1)

-- The entry at a rank is present, and its rank is that of its key.
pub rank_is : (r : ℕ) (list : List ℕ) → Rises list → r < length list
    → (present (key (get_or list r 0)) list ≡ true) × (rank_of (key (get_or list r 0)) list ≡ r)
rank_is r list w below = rank_from 0 r list w below

entry_from_lem : (low k : ℕ) (list : List ℕ) → RiseFrom low list → present k list ≡ true
    → (rank_of k list < length list) × (key (get_or list (rank_of k list) 0) ≡ k)
unfolding RiseFrom present Every
entry_from_lem low k [] w there = let z : ◌≡◌ {A = ℕ} 0 1 = cc in absurd (omega arith)
entry_from_lem low k (e ∷ list) w there =
    ⊎_elim
    (λ (less : key e < k).
    let behind = entry_from_lem (key e) k list w.1 (rw (ne_eqb (key e) k (λ same. omega (arith, same, less))) at there) in
    rw (rank_yes k e list less) (omega (arith, behind.0), behind.1))
    (λ (least : k ≤ key e).
    ⊎_elim
    (λ (same : k ≡ key e).
    rw (rank_no k e list least ∙ rank_above k list (rise_above k (key e) list least w.1)) (omega arith, sym same))
    (λ (above : k < key e).
    let none = present_above k (e ∷ list) (above, rise_above k (key e) list least w.1) in
    let z : ◌≡◌ {A = ℕ} 0 1 = cc in absurd (omega arith))
    (eq-or-lt_of_le least))
    (lt_or_ge (key e) k)

-- A key that is present is that of the entry at its rank.
pub entry_at : (k : ℕ) (list : List ℕ) → Rises list → present k list ≡ true → (rank_of k list < length list) × (key (get_or list (rank_of k list) 0) ≡ k)
entry_at k list w there = entry_from_lem 0 k list w there
