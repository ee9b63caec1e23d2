-- The words of the tape that wait (document 01, "Frames"). Definitions only.
use Rattle.std.specs.Prelude.{List, [], ◌∷◌, ◌++◌, ℕ, zero, suc, drop, replicate}
use Rattle.frame_lines.specs.Frame.{word_at}

-- At most so many words wait.
abbrev pub most_waiting : ℕ
most_waiting = 1024

-- The tape after a number of its words are read: these leave it, the others move to its front, and zeros follow them.
unfoldable pub read_off : ℕ → List ℕ → List ℕ
read_off words tape = drop words tape ++ replicate words 0

-- The words k to k + c - 1 of a tape line.
unfoldable pub line_words : List ℕ → ℕ → ℕ → List ℕ
line_words line k zero = []
line_words line k (suc c) = word_at line k ∷ line_words line (suc k) c
