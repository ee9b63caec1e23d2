-- The words on which a rebuilt range comes out with a given tree, that of number k among the trees of the range. Definitions only.
use Rattle.std.specs.Prelude.{◌≡◌, List, [], ◌∷◌, ◌++◌, ℕ, zero, suc, ◌+◌, ◌*◌, ◌/◌, ◌%◌, ◌^◌, ◌≤◌, ◌<◌, length}
use Rattle.std.proofs.lemmas.List.Edits.{sets}
use Rattle.base.specs.Cases.{if_eq}
use Rattle.tree_sizes.specs.Sizes.{Allowed, height, candidates, half_candidates}
use Rattle.tree_shapes.specs.Shapes.{tree_count, shape_count}

-- The word that decides a face of a draw among c: the face itself, and none where c is 1.
unfoldable pub face_words : ℕ → ℕ → List ℕ
face_words c face = if_eq c 1 [] (face ∷ [])

-- The words of tree k, from 0, of a range with c candidates, `levels` above the leaves: those of its balance entry, of its left half and of
-- its right half.
unfoldable pub tree_words : ℕ → ℕ → ℕ → List ℕ
tree_words c zero k = []
tree_words c (suc levels) k =
    let half = tree_count (half_candidates c) levels in
    face_words c (k / (half * half))
    ++ (tree_words (half_candidates c) levels (k % (half * half) / half) ++ tree_words (half_candidates c) levels (k % (half * half) % half))

-- The number of candidates of the root; 1 where it is a leaf.
unfoldable pub root_candidates : ℕ → ℕ
root_candidates M = if_eq (height M) 0 1 (candidates M 0)

-- There are candidates, the trees can be counted, and there is one of number k.
pub record IsNumber (c levels k : ℕ) : Type 0 where
  pub some : 0 < c
  pub few : tree_count c levels < 2 ^ 32
  pub below : k < tree_count c levels

-- `new` is `old` with these words put in from `at` on; `next` is the place behind them.
pub record Put (old : List ℕ) (at : ℕ) (words new : List ℕ) (next : ℕ) : Type 0 where
  pub is : new ≡ sets old at words
  pub end : next ≡ at + length words

-- N entries can have the size parameter M, there is a shape of number k, and `room` counts hold its ranges.
pub record ShapeReady (M N k room : ℕ) : Type 0 where
  pub allowed : Allowed N M
  pub few : shape_count M < 2 ^ 32
  pub below : k < shape_count M
  pub shallow : height M ≤ 7
  pub inside : 2 * 2 ^ height M ≤ room
  pub small : M < 2 ^ 32
