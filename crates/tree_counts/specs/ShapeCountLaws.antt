-- Laws of the counts of a shape: what stands at each range number, and that no other counts hold the same.
use Rattle.std.specs.Prelude.{◌≡◌, List, ℕ, zero, suc, ◌*◌, ◌^◌, ◌≤◌, ◌<◌, length, get_or, set, replicate}
use Rattle.std.proofs.Common.{sym, ◌∙◌, ⊎_elim, ext_get_or, arith}
use Rattle.std.proofs.Math.ListN.{length-set, length-replicate}
use Rattle.std.proofs.Math.Pow.{pow_pos, pow_mono}
use Rattle.std.proofs.Math.Seq.{get_or-set_same, get_or-set_other}
use Rattle.base.specs.CaseLaws.{lt_or_ge}
use Rattle.base.specs.ListLaws.{replicate_at}
use Rattle.tree_sizes.specs.Sizes.{height}
use Rattle.tree_rules.specs.Tree.{Shape}
use Rattle.tree_counts.specs.Ranges.{Perfect}
use Rattle.tree_counts.specs.Counts.{read_tree, shape_counts, shape_in, Holds}
use Rattle.tree_counts.specs.RangeLaws.{below_least, below_root}
use Rattle.tree_counts.specs.CountLaws.{holds_count, holds_read, holds_agree, length_write, write_other, write_holds}

module _ (room N : ℕ) (s : Shape) where
  pub length_shape_counts : length (shape_counts room N s) ≡ room
  unfolding shape_counts
  length_shape_counts =
      length_write (set (replicate room 0) 0 s.size) 1 N s.tree ∙ length-set (replicate room 0) 0 s.size ∙ length-replicate room 0

module _ (levels room N : ℕ) (s : Shape) (has : Perfect levels s.tree) (fits : 2 * 2 ^ levels ≤ room) where
  empty_length : length (set (replicate room 0) 0 s.size) ≡ room
  empty_length = length-set (replicate room 0) 0 s.size ∙ length-replicate room 0

  pub shape_counts_holds : Holds (shape_counts room N s) 1 N s.tree
  unfolding shape_counts
  shape_counts_holds = write_holds levels (set (replicate room 0) 0 s.size) 1 N s.tree has (omega arith) (omega (arith, empty_length))

  pub shape_counts_read : read_tree levels (shape_counts room N s) 1 ≡ s.tree
  shape_counts_read = holds_read levels (shape_counts room N s) 1 N s.tree has shape_counts_holds

  pub shape_counts_total : get_or (shape_counts room N s) 1 0 ≡ N
  shape_counts_total = holds_count (shape_counts room N s) 1 N s.tree shape_counts_holds

  pub shape_counts_size : get_or (shape_counts room N s) 0 0 ≡ s.size
  unfolding shape_counts
  shape_counts_size =
      write_other levels (set (replicate room 0) 0 s.size) 1 N s.tree 0 has (λ d h u. omega (arith, below_least 1 d 0 u))
      ∙ get_or-set_same (replicate room 0) 0 s.size 0 (omega (arith, length-replicate {A = ℕ} room 0, pow_pos levels))

  -- 0 at every number that is not in use
  pub shape_counts_unused : (j : ℕ) → 2 * 2 ^ levels ≤ j → get_or (shape_counts room N s) j 0 ≡ 0
  unfolding shape_counts
  shape_counts_unused j h =
      write_other levels (set (replicate room 0) 0 s.size) 1 N s.tree j has
      (λ d l u. omega (arith, u.before, pow_mono l))
      ∙ get_or-set_other (replicate room 0) 0 j s.size 0 (λ e. omega (arith, pow_pos levels))
      ∙ replicate_at 0 room j

  -- A list of counts that holds the same, with 0 at every number not in use, is this one.
  pub shape_counts_only : (counts : List ℕ) → length counts ≡ room → get_or counts 0 0 ≡ s.size → Holds counts 1 N s.tree
      → ((j : ℕ) → 2 * 2 ^ levels ≤ j → get_or counts j 0 ≡ 0) → counts ≡ shape_counts room N s
  shape_counts_only counts same_length size holds unused =
      ext_get_or 0 counts (shape_counts room N s) (same_length ∙ sym (length_shape_counts room N s)) (λ j h. at j)
    where
      at : (j : ℕ) → get_or counts j 0 ≡ get_or (shape_counts room N s) j 0
      at zero = size ∙ sym shape_counts_size
      at (suc j) =
          ⊎_elim
          (λ (l : suc j < 2 * 2 ^ levels).
          let w = below_root levels (suc j) (omega arith) l in
          holds_agree levels counts (shape_counts room N s) 1 N s.tree has holds shape_counts_holds w.0 (suc j) w.1 w.2)
          (λ (l : 2 * 2 ^ levels ≤ suc j). unused (suc j) l ∙ sym (shape_counts_unused (suc j) l))
          (lt_or_ge (suc j) (2 * 2 ^ levels))

-- The shape is the one that its counts hold.
module _ (room N : ℕ) (s : Shape) (has : Perfect (height s.size) s.tree) (fits : 2 * 2 ^ height s.size ≤ room) where
  pub shape_in_shape_counts : shape_in (shape_counts room N s) ≡ s
  unfolding shape_in
  shape_in_shape_counts =
      rw (shape_counts_size (height s.size) room N s has fits, shape_counts_read (height s.size) room N s has fits)
