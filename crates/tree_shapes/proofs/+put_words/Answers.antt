-- `put_words` meets its contract; the levels above the leaves fall from call to call.
use mathlib.Core.Path.{◌≡◌, refl, sym, subst}
use Prim.Native.Nat.{ℕ, suc, ◌+◌, ◌-◌, ◌^◌, ◌≤◌}
use native.Mathlib.Omega.{arith}
use native.Mathlib.Nat.{mul-pos}
use lib.ListN.{length}
use Rattle.tree_shapes.specs.Words.{tree_words, IsNumber, Put}
use Rattle.tree_shapes.specs.WordsLaws.{put_none, NodeReady, node_ready, left_room, right_room, put_node, put_length}
use Rattle.tree_shapes.proofs.+put_words.Goals.{After-tree_count-count, Else-levels-eq0}
use Rattle.tree_shapes.proofs.+put_words.Goals as goal

-- the levels and the room of a range above the leaves
one_more : (t : ℕ) (c : Else-levels-eq0 t)
    → c.args.levels ≡ suc (c.args.levels - 1)
one_more t c = omega arith

number : (t : ℕ) (c : Else-levels-eq0 t)
    → IsNumber c.args.c (suc (c.args.levels - 1)) c.args.k
number t c = let a = c.args in subst (λ (x : ℕ). IsNumber a.c x a.k) (one_more t c) c.requires.number

room : (t : ℕ) (c : Else-levels-eq0 t)
    → c.args.at + 2 ^ suc (c.args.levels - 1) ≤ length c.args.words.now
room t c =
    let a = c.args in
    subst (λ (x : ℕ). a.at + 2 ^ x ≤ length a.words.now) (one_more t c) c.requires.room

-- once the trees of a half are counted
ready : (t : ℕ) (c : After-tree_count-count t) →
    let a = c.args in
    NodeReady a.c (a.levels - 1) a.k c.half_candidates-half.result c.tree_count-count.result
ready t c = node_ready (number t (goal.at.After-tree_count-count t c).Else-levels-eq0) c.half_candidates-half.ensures c.tree_count-count.ensures

pub returns-then-levels-eq0 : goal.returns-then-levels-eq0
returns-then-levels-eq0 t c = put_none _ _ _ _ _ c.if-levels-eq0.true

pub tree_count-count-requires : goal.tree_count-count-requires
tree_count-count-requires t c =
    let w = node_ready (number t (goal.at.tree_count-count-requires t c).Else-levels-eq0) c.half_candidates-half.ensures refl in
    let count = w.above in
    record { some = w.left.some; few = omega (arith, count.count_is, count.half_most, count.both_most, (number t (goal.at.tree_count-count-requires t c).Else-levels-eq0).few) }

pub overflow_mul-both : goal.overflow_mul-both
overflow_mul-both t c = let w = (ready t c).above in omega (arith, w.count_is, w.both_most, (number t (goal.at.overflow_mul-both t c).Else-levels-eq0).few)

pub nonzero_rem-rest : goal.nonzero_rem-rest
nonzero_rem-rest t c = mul-pos (ready t c).above.some (ready t c).above.some

pub nonzero_div-k : goal.nonzero_div-k
nonzero_div-k t c = mul-pos (ready t c).above.some (ready t c).above.some

pub nonzero_div-first : goal.nonzero_div-first
nonzero_div-first t c = (ready t c).above.some

pub put_words-right-requires : goal.put_words-right-requires
put_words-right-requires t c = (
  omega (arith, c.decreases),
  (
    (ready t (goal.at.put_words-right-requires t c).After-tree_count-count).left,
    left_room (ready t (goal.at.put_words-right-requires t c).After-tree_count-count) c.put_face-left.ensures (rw (put_length c.put_face-left.ensures) (room t (goal.at.put_words-right-requires t c).Else-levels-eq0)),
  ),
)

pub nonzero_rem-second : goal.nonzero_rem-second
nonzero_rem-second t c = (ready t c).above.some

pub put_words-requires : goal.put_words-requires
put_words-requires t c = (
  omega (arith, c.decreases),
  (
    (ready t (goal.at.put_words-requires t c).After-tree_count-count).right,
    right_room (ready t (goal.at.put_words-requires t c).After-tree_count-count) c.put_face-left.ensures
        (rw (put_length c.put_words-right.ensures, put_length c.put_face-left.ensures) (room t (goal.at.put_words-requires t c).Else-levels-eq0)) c.put_words-right.ensures,
  ),
)

pub returns : goal.returns
returns t c =
    let a = c.args in
    subst (λ (x : ℕ). Put a.words.now a.at (tree_words a.c x a.k) c.put_words.new.words c.put_words.result) (sym (one_more t (goal.at.returns t c).Else-levels-eq0))
    (put_node (ready t (goal.at.returns t c).After-tree_count-count) c.put_face-left.ensures (room t (goal.at.returns t c).Else-levels-eq0) c.put_words-right.ensures c.put_words.ensures)
