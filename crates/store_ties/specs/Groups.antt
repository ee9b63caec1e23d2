-- Tied groups and the places that they share (document 02, F-3; Racing Rules of Sailing 2021–2024, rule A7). Definitions only.
-- N boats have the ranks from 0 on, and `tied i` tells whether the boat at rank i tied with the boat before her.
use Rattle.std.specs.Prelude.{Bool, true, false, ◌≡◌, ℕ, zero, suc, ◌+◌, ◌-◌, ◌≤◌, ◌<◌}
use Rattle.base.specs.Cases.{if_eq}
use Rattle.store_ties.specs.declared.Placing.{Placing}

-- A run: the boats of the ranks from `first` up to, not including, `end`, each but the first tied with the boat before her.
pub record Run (tied : ℕ → Bool) (N first end : ℕ) : Type 0 where
  pub some : first < end
  pub within : end ≤ N
  pub linked : (i : ℕ) → first < i → i < end → tied i ≡ true

-- A tied group is a longest run: no other run has all its boats.
pub record Group (tied : ℕ → Bool) (N first end : ℕ) : Type 0 where
  pub run : Run tied N first end
  pub longest : (first' end' : ℕ) → Run tied N first' end' → first' ≤ first → end ≤ end' → (first' ≡ first) × (end' ≡ end)

-- The rank of the first boat in the group of rank i: her own where she did not tie with the boat before her, or else that of the boat before.
unfoldable pub group_first : (ℕ → Bool) → ℕ → ℕ
group_first tied zero = 0
group_first tied (suc i) = elim (tied (suc i)) [ true ↦ group_first tied i | false ↦ suc i ]

-- How many boats tied with the boat before them, one after the other, from rank i on and among the next k.
unfoldable pub tied_from : (ℕ → Bool) → ℕ → ℕ → ℕ
tied_from tied zero i = 0
tied_from tied (suc k) i = elim (tied i) [ true ↦ suc (tied_from tied k (suc i)) | false ↦ 0 ]

-- The rank behind the last boat in the group of rank i.
unfoldable pub group_end : (ℕ → Bool) → ℕ → ℕ → ℕ
group_end tied N i = suc i + tied_from tied (N - suc i) (suc i)

-- The sum of t places, p and those after it: p + (p + 1) + … + (p + t − 1).
unfoldable pub places_sum : ℕ → ℕ → ℕ
places_sum p zero = 0
places_sum p (suc t) = p + places_sum (suc p) t

-- What every boat has of the group of the ranks from `first` up to, not including, `end`: its first place p, the sum of the places p to
-- p + t − 1, and t, the number of its boats. The points are that sum over t (rule A7).
unfoldable pub placing : ℕ → ℕ → Placing
placing first end = record { place = suc first; sum = places_sum (suc first) (end - first); boats = end - first }

-- What the boat at rank i has.
unfoldable pub placing_of : (ℕ → Bool) → ℕ → ℕ → Placing
placing_of tied N i = placing (group_first tied i) (group_end tied N i)

-- The rule of document 01: rank i has place i + 1 and as many points as its place.
abbrev pub single : ℕ → Placing
single i = record { place = i + 1; sum = i + 1; boats = 1 }

-- The sums of the groups whose first boats are among the k boats from rank i on, added up; and of all groups.
unfoldable pub sums_from : (ℕ → Bool) → ℕ → ℕ → ℕ → ℕ
sums_from tied N zero i = 0
sums_from tied N (suc k) i = if_eq (group_first tied i) i (placing_of tied N i).sum 0 + sums_from tied N k (suc i)

unfoldable pub group_sums : (ℕ → Bool) → ℕ → ℕ
group_sums tied N = sums_from tied N N 0
