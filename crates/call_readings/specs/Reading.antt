-- What a read of ranks, and a board of them, comes to, of plain sheets and of timed ones. Definitions only.
use Rattle.std.specs.Prelude.{List, ℕ, ◌+◌, ◌-◌, length}
use Rattle.store_layout.specs.declared.Capacity.{Capacity}
use Rattle.call_outcomes.specs.Outcome.{Outcome, outcome}
use Rattle.call_outcomes.specs.PlainCalls.{read, board}
use Rattle.call_outcomes.specs.Plain.{PlainStore, plain}
use Rattle.call_timed.specs.Timed as timed_calls_lem
use Rattle.call_timed.specs.Timed.{TimedStore, timed}

-- The number of ranks from first to last.
abbrev pub rank_count : ℕ → ℕ → ℕ
rank_count first last = last - first + 1

-- A read of the ranks first to last that is lent this output: of a plain sheet, and of a timed one.
abbrev pub plain_reading : (cap : Capacity) (store : PlainStore) (first last : ℕ) (tape output : List ℕ) → Outcome PlainStore
plain_reading cap store first last tape output = outcome (plain cap) (read first last (length output)) tape store output

abbrev pub timed_reading : (cap : Capacity) (store : TimedStore) (first last : ℕ) (tape output : List ℕ) → Outcome TimedStore
timed_reading cap store first last tape output = outcome (timed cap) (timed_calls_lem.read first last (length output)) tape store output

-- A board of ranks that is lent this output.
abbrev pub plain_board : (cap : Capacity) (store : PlainStore) (ranks tape output : List ℕ) → Outcome PlainStore
plain_board cap store ranks tape output = outcome (plain cap) (board ranks (length output)) tape store output

abbrev pub timed_board : (cap : Capacity) (store : TimedStore) (ranks tape output : List ℕ) → Outcome TimedStore
timed_board cap store ranks tape output = outcome (timed cap) (timed_calls_lem.board ranks (length output)) tape store output
