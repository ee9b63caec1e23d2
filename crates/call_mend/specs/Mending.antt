-- Mending (document 02, F-13): of a store with the right lengths, the sheet that has its slots and its size parameter, if there is one. Somebody else
-- wrote the rest of the store, so mending is no call of a history: a history's store is written by its calls alone. What it leaves is a sheet, and
-- everything that holds of sheets holds of it again. Definitions only.
use Rattle.std.specs.Prelude.{Ok, Bool, true, false, ◌&&◌, List, [], ◌≡◌, ℕ, eqb, length, get_or}
use Rattle.base.specs.Lists.{equal_lists}
use Rattle.tree_rules.specs.Tree.{Shape, IsShape}
use Rattle.store_layout.specs.declared.Capacity.{Capacity}
use Rattle.store_layout.specs.Layout.{Store, lay_out}
use Rattle.store_layout.specs.Decode.{Contents}
use Rattle.store_sums.specs.TreeIn.{contents_in}
use Rattle.call_outcomes.specs.declared.Cause.TheVariants.{Lengths, NotMendable}
use Rattle.call_outcomes.specs.declared.Answer.TheVariants.{Mended}
use Rattle.call_outcomes.specs.Kind.{Found, holds, wrong, View}
use Rattle.call_outcomes.specs.Outcome.{Outcome, refused}
use Rattle.call_outcomes.specs.Untallied.{IsList}

-- ---- what is kept

-- The size parameter of a store: count 0.
abbrev pub size_of : Store → ℕ
size_of store = get_or store.counts 0 0

-- The store has the slots and the size parameter of the other one, and the test of that.
pub record SameKept (a b : Store) : Type 0 where
  pub slots : a.slots ≡ b.slots
  pub size : size_of a ≡ size_of b

unfoldable pub same_kept : Store → Store → Bool
same_kept a b = equal_lists a.slots b.slots && eqb (size_of a) (size_of b)

-- ---- a view of sheets whose stores have slots and counts

-- Where the slots and counts of a store are, those of a sheet being laid out by the rules; its lists are lists of plain sheets.
pub record HasStore (cap : Capacity) (view : View) : Type 0 where
  pub within : view.Store → Store
  pub laid : (list : List ℕ) (s : Shape) → within (view.lay list s) ≡ lay_out cap list s
  pub narrower : (list : List ℕ) → view.IsList list → IsList cap list

-- The store was found to be a sheet.
unfoldable pub is_held : Found → Bool
is_held (holds c) = true
is_held (wrong cause) = false

-- Cause 1 where the lengths are wrong, then 18 where no sheet was found; otherwise the new store, with the number of its entries.
unfoldable pub mended_by : {S : Type 0} → Bool → Bool → ℕ → S → S → Outcome S
mended_by false found n new old = refused Lengths old []
mended_by true false n new old = refused NotMendable old []
mended_by true true n new old = record { answer = Ok (Mended n); store = new; output = [] }

module _ {cap : Capacity} (view : View) (has : HasStore cap view) where
  -- Some sheet has the slots and the size parameter of the store.
  pub record Mendable (store : view.Store) : Type 0 where
    pub list : List ℕ
    pub shape : Shape
    pub is_list : view.IsList list
    pub is_shape : IsShape (length list) shape
    pub same : SameKept (has.within (view.lay list shape)) (has.within store)

  -- The contents that slots and size parameter give, and the store that they lay out.
  abbrev pub contents_of : view.Store → Contents
  contents_of store = contents_in (has.within store).slots (size_of (has.within store))

  unfoldable pub restored : view.Store → view.Store
  restored store = view.lay (contents_of store).list (contents_of store).shape

  -- It is a sheet, and has the same slots and size parameter.
  unfoldable pub is_restored : view.Store → Bool
  is_restored store = is_held (view.decode (restored store)) && same_kept (has.within (restored store)) (has.within store)

  -- What mending comes to.
  unfoldable pub mended : view.Store → Outcome view.Store
  mended store = mended_by (view.right_lengths store) (is_restored store) (length (contents_of store).list) (restored store) store
