-- `write_tallies` meets its contract.
use mathlib.Core.Path.{◌≡◌, sym, ap, ◌∙◌}
use mathlib.Core.List.{List}
use Prim.Native.Nat.{ℕ}
use lib.ListN.{length}
use Rattle.tree_sizes.specs.Sizes.{height}
use Rattle.store_order.specs.CountOrder.{count_order}
use Rattle.store_order.proofs.CountOrderLaws.{length_number_order}
use Rattle.store_tallies.specs.TalliesIn.{TalliesIn}
use Rattle.sheet_clubs_change.specs.NarrowLaws.{left_tallies, left_tallies_number}
use Rattle.sheet_clubs_change.proofs.write_tallies.Goals.{After-write_tallies}
use Rattle.sheet_clubs_change.proofs.write_tallies.Goals as goal

-- What is written with 32 bits are the tallies that the slots give.
written : (c : After-write_tallies) → let a = c.args in
    (words : List ℕ) → TalliesIn a.drawn.new a.slots.now words → length words ≡ length a.tallies.now
    → c.write_tallies.new.tallies ≡ count_order (height a.drawn.new) words
written c words found size = c.write_tallies.ensures words found (size ∙ ap length (sym c.widen.ensures))

pub write_tallies-requires : goal.write_tallies-requires
write_tallies-requires c =
    let ready = c.requires.ready in
    rw (c.read_counts.ensures, c.widen.ensures) record { ready = ready.ready; lengths = length_number_order _ _; part = ready.part; counted = ready.counted }

pub narrow-requires : goal.narrow-requires
narrow-requires c =
    record { lengths = c.requires.tallies ∙ sym (left_tallies_number c.requires.left (written (goal.at.narrow-requires c).After-write_tallies)); fit = left_tallies c.requires.left (written (goal.at.narrow-requires c).After-write_tallies) }

pub returns : goal.returns
returns c = λ words found size. c.narrow.ensures ∙ written (goal.at.returns c).After-write_tallies words found size
