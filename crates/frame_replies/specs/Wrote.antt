-- Bytes written into an output from a place on. Definitions only.
use Rattle.std.specs.Prelude.{◌≡◌, List, ◌++◌, ℕ, ◌+◌, ◌≤◌, length, take, drop}
use Rattle.frame_replies.specs.Reply.{digits, entry_digits}

-- `new` is `old` with the bytes in the place of those from `at` on; `next` is the place behind them.
pub record Wrote (old : List ℕ) (at : ℕ) (bytes new : List ℕ) (next : ℕ) : Type 0 where
  pub is : new ≡ take at old ++ (bytes ++ drop next old)
  pub end : next ≡ at + length bytes
  pub room : next ≤ length old

-- A part of `total` is written, up to the place `next`; `rest` is left to write.
pub record Writing (old : List ℕ) (at : ℕ) (total rest new : List ℕ) (next : ℕ) : Type 0 where
  pub done : List ℕ
  pub all : total ≡ done ++ rest
  pub wrote : Wrote old at done new next

-- The digits of v are written from the right: `left` of the c digits, those of `rest`, are to be written yet.
pub record DigitsWritten (old : List ℕ) (at c v left rest : ℕ) (new : List ℕ) : Type 0 where
  pub done : List ℕ
  pub all : digits c v ≡ digits left rest ++ done
  pub is : new ≡ take (at + left) old ++ (done ++ drop (at + c) old)
  pub most : left ≤ c
  pub kept : length new ≡ length old

-- The first i entries of the list are written.
pub record EntriesWritten (old : List ℕ) (at : ℕ) (list : List ℕ) (i : ℕ) (new : List ℕ) (next : ℕ) : Type 0 where
  pub writing : Writing old at (entry_digits list) (entry_digits (drop i list)) new next
