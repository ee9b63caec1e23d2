-- `answer_lines` meets its contract. The loop's invariant: lines of the chunk are answered from the start to here.
use mathlib.Core.Path.{◌≡◌}
use Prim.Native.Nat.{◌-◌}
use lib.ListN.{length}
use Rattle.call_outcomes.specs.Plain.{plain_store_of}
use Rattle.frame_answers.specs.Gives.{kept_of}
use Rattle.frame_chunks.specs.Chunk.{standing}
use Rattle.frame_chunks.specs.ChunkLaws.{Reached}
use Rattle.frame_chunks.proofs.answer_lines.Given as goal

abbrev pub invariant-loop-reached : goal.invariant-loop-reached
invariant-loop-reached l =
    Reached l.chunk (standing l.from l.initial.line l.have (kept_of (plain_store_of l.initial.slots l.initial.counts l.initial.tallies) l.initial.tape l.waiting)) l.initial.output
    (standing l.reached.next l.line l.reached.have (kept_of (plain_store_of l.slots l.counts l.tallies) l.tape l.reached.waiting)) l.output l.reached.bytes
    × (length l.line ≡ length l.initial.line) × (length l.slots ≡ length l.initial.slots) × (length l.counts ≡ length l.initial.counts)
    × (length l.tallies ≡ length l.initial.tallies)

abbrev pub decreases-loop-reached : goal.decreases-loop-reached
decreases-loop-reached l = length l.chunk - l.reached.next
