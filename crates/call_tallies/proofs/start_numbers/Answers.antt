-- `start_numbers` meets its contract.
use mathlib.Core.Path.{refl}
use Rattle.call_tallies.proofs.start_numbers.Goals as goal

pub returns-then-range-eq1 : goal.returns-then-range-eq1
returns-then-range-eq1 c =
    record { whole = λ one. c.zero_counts.ensures; other = λ other. absurd (other c.if-range-eq1.true) }

pub returns-else-range-eq1 : goal.returns-else-range-eq1
returns-else-range-eq1 c = record { whole = λ one. absurd (c.if-range-eq1.false one); other = λ other. refl }
