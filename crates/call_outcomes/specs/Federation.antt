-- The federation's store (document 02, F-14). Definitions only.
use Rattle.store_layout.specs.declared.Capacity.{Capacity}

-- At most 65,536 entries, 208,896 slots and 8,192 counts.
abbrev pub federation : Capacity
federation = record { entries = 65536; slots = 208896; counts = 8192 }
