-- The slots and counts in the stores of plain and of timed sheets. Definitions only.
use Rattle.std.specs.Prelude.{refl}
use Rattle.store_layout.specs.declared.Capacity.{Capacity}
use Rattle.call_outcomes.specs.Plain.{plain_view}
use Rattle.call_timed.specs.Timed.{timed_view}
use Rattle.call_mend.specs.Mending.{HasStore}

abbrev pub plain_store : (cap : Capacity) → HasStore cap (plain_view cap)
plain_store cap = record { within = λ store. store.sheet; laid = λ list s. refl; narrower = λ list is. is }

abbrev pub timed_store : (cap : Capacity) → HasStore cap (timed_view cap)
timed_store cap = record { within = λ store. store.sheet.sheet; laid = λ list s. refl; narrower = λ list is. is.plain }
