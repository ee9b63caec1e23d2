-- What two adjacent reads write, one behind the other.
use Rattle.std.specs.Prelude.{◌≡◌, List, ◌++◌, ℕ, suc, ◌+◌, ◌≤◌, ◌<◌, drop}
use Rattle.std.proofs.Common.{arith, take-add, drop-drop}
use Rattle.call_outcomes.specs.PlainCalls.{read_ranks, written_for}
use Rattle.call_readings.specs.Reading.{rank_count}

-- What a read of first to mid writes, and then what a read of mid + 1 to last writes, is what a read of first to last writes.
pub written_joined : (list : List ℕ) (first mid last room room₁ room₂ : ℕ) → first ≤ mid → mid < last
    → written_for (read_ranks first last room) list ≡ written_for (read_ranks first mid room₁) list ++ written_for (read_ranks (suc mid) last room₂) list
unfolding written_for
written_joined list first mid last room room₁ room₂ before behind =
    let both : rank_count first last ≡ rank_count first mid + rank_count (suc mid) last = omega arith in
    let next : first + rank_count first mid ≡ suc mid = omega arith in
    rw (both, take-add (rank_count first mid) (rank_count (suc mid) last) (drop first list), drop-drop (rank_count first mid) first list, next)
