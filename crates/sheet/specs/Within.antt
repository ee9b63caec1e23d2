-- What the program holds between two chunks lies within its buffers. Definitions only.
use Rattle.std.specs.Prelude.{ℕ, ◌≤◌}
use Rattle.frame_tape.specs.Tape.{most_waiting}
use Rattle.sheet.specs.declared.State.{State}

-- The bytes that the line buffer has room for.
abbrev pub line_room : ℕ
line_room = 256

-- Bytes of a line that is still open, and words of the tape: no more than the line buffer and the tape hold.
abbrev pub Within : State → Type 0
Within state = (state.have ≤ line_room) × (state.waiting ≤ most_waiting)
