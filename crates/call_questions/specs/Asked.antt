-- What a question comes to, by what its store was found to hold. Definitions only.
use Rattle.std.specs.Prelude.{Result, Ok, Err, List, [], ◌++◌, ◌≡◌, ℕ, length, drop}
use Rattle.store_layout.specs.declared.Capacity.{Capacity}
use Rattle.store_layout.specs.Room.{CapacityReady}
use Rattle.store_tallies.specs.Tallies.{range_tallies}
use Rattle.call_outcomes.specs.declared.Answer.{Answer}
use Rattle.call_outcomes.specs.PlainCalls.{Question, question_cause, reply_to, written_for}
use Rattle.call_outcomes.specs.Untallied.{store_of}
use Rattle.call_outcomes.specs.declared.Cause.{Cause}
use Rattle.call_open.specs.declared.Opened.{Opened}
use Rattle.call_open.specs.Opening.{admitted, OpenedSheet}

-- An answer, or the cause that refuses the question; and the output after it.
pub record Reply : Type 0 where
  pub answer : Result Answer Cause
  pub output : List ℕ

unfoldable pub asked_by : Question → List ℕ → List ℕ → Result Opened Cause → Reply
asked_by q list output (Err cause) = record { answer = Err cause; output = output }
asked_by q list output (Ok sheet) = record {
  answer = Ok (reply_to q list);
  output = written_for q list ++ drop (length (written_for q list)) output;
}

-- The question about a store that was found to hold this, where it is a sheet of this list: refused, or answered by the list.
unfoldable pub asked : Question → Result Opened Cause → List ℕ → List ℕ → Reply
asked q found list output = asked_by q list output (admitted (question_cause q) found)

-- A list of as many entries as were found.
abbrev pub HasNumber : Result Opened Cause → List ℕ → Type 0
HasNumber found list = (sheet : Opened) → found ≡ Ok sheet → length list ≡ sheet.n

-- The answer to a question that goes by the number of entries alone.
unfoldable pub Answers : Question → Result Opened Cause → Result Answer Cause → Type 0
Answers q found answer = (list : List ℕ) → HasNumber found list → answer ≡ (asked q found list []).answer

-- Where a sheet was found, these slots are those of a plain one, and the work array has its counts by range number.
pub record Readable (found : Result Opened Cause) (slots work : List ℕ) : Type 0 where
  pub cap : Capacity
  pub counts : List ℕ
  pub ready : CapacityReady cap
  pub sheet : (sheet : Opened) → found ≡ Ok sheet → OpenedSheet cap (store_of slots counts) sheet.n sheet.m work

-- And these words are its tallies by range number.
pub record Tallied (found : Result Opened Cause) (slots work words : List ℕ) : Type 0 where
  pub readable : Readable found slots work
  pub tallies : (sheet : Opened) (e : found ≡ Ok sheet) → let c = (readable.sheet sheet e).contents in
      words ≡ range_tallies readable.cap.counts c.list c.shape

-- These slots are those of a plain sheet with the size parameter m; the work array has its counts, and these words are its tallies, by range number.
pub record ByNumber (m : ℕ) (slots work words : List ℕ) : Type 0 where
  pub cap : Capacity
  pub counts : List ℕ
  pub entries : ℕ
  pub ready : CapacityReady cap
  pub sheet : OpenedSheet cap (store_of slots counts) entries m work
  pub tallies : words ≡ range_tallies cap.counts sheet.contents.list sheet.contents.shape
