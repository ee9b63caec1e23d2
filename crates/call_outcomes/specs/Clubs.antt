-- The clubs' store (document 01, "What the sheet is"). Definitions only.
use Rattle.std.specs.Prelude.{replicate}
use Rattle.store_layout.specs.declared.Capacity.{Capacity}
use Rattle.call_outcomes.specs.Plain.{PlainStore, plain_store_of}

-- At most 1,024 entries, 4,224 slots and 256 counts.
abbrev pub clubs : Capacity
clubs = record { entries = 1024; slots = 4224; counts = 256 }

-- Every slot, every count and every tally 0: the empty sheet.
abbrev pub zeros : PlainStore
zeros = plain_store_of (replicate clubs.slots 0) (replicate clubs.counts 0) (replicate clubs.counts 0)
