-- What the look for a sheet with given slots and size parameter finds, and its tallies. Definitions only.
use Rattle.std.specs.Prelude.{Result, Ok, Err, List, ◌≡◌, ℕ}
use Rattle.std.proofs.Math.Option.{some}
use Rattle.tree_rules.specs.Tree.{Shape}
use Rattle.store_layout.specs.declared.Capacity.{Capacity}
use Rattle.store_layout.specs.Layout.{lay_slots}
use Rattle.store_layout.specs.Sheet.{IsContents}
use Rattle.store_layout.specs.Decode.{Contents, decode}
use Rattle.store_tallies.specs.Tallies.{lay_tallies}
use Rattle.call_outcomes.specs.declared.Cause.{Cause}
use Rattle.call_outcomes.specs.declared.Cause.TheVariants.{NotMendable}
use Rattle.call_outcomes.specs.Untallied.{store_of}
use Rattle.call_open.specs.declared.Opened.{Opened}
use Rattle.call_open.specs.Opening.{OpenedSheet}

-- No sheet has these slots and this size parameter.
abbrev pub NoSheet : Capacity → List ℕ → ℕ → Type 0
NoSheet cap slots m = (list : List ℕ) (s : Shape) → IsContents cap list s → lay_slots cap.slots list s ≡ slots → s.size ≡ m → ⊥

-- The sheet with these slots and this size parameter, whose counts are the fresh ones; or cause 18, and there is none.
pub record Recounted (cap : Capacity) (slots : List ℕ) (m : ℕ) (answer : Result Opened Cause) (work fresh : List ℕ) : Type 0 where
  pub found : (sheet : Opened) → answer ≡ Ok sheet → OpenedSheet cap (store_of slots fresh) sheet.n sheet.m work × (sheet.m ≡ m)
  pub none : (cause : Cause) → answer ≡ Err cause → (cause ≡ NotMendable) × NoSheet cap slots m

-- The tallies are those of the sheet with the fresh counts.
pub record TalliesOf (cap : Capacity) (slots fresh tallies : List ℕ) : Type 0 where
  pub tallies_are : (c : Contents) → decode cap (store_of slots fresh) ≡ some c → tallies ≡ lay_tallies cap.counts c.list c.shape
