-- On the words of tree k the range comes out with tree k; and the words put into a slice stand there.
use Rattle.std.specs.Prelude.{◌≡◌, refl, ◌≢◌, List, [], ◌∷◌, ◌++◌, ℕ, zero, suc, ◌+◌, ◌-◌, ◌*◌, ◌/◌, ◌%◌, ◌^◌, ◌≤◌, ◌<◌, length, take, drop, set, get_or}
use Rattle.std.proofs.Common.{sym, ap, ◌∙◌, ⊎_elim, append_assoc, arith, add-one, mul-pos, mod-lt, div-lt_iff_lt-mul, add-zero, zero-add, length-append, length-drop, take-append-drop, length-take-le, drop-drop, pow_pos}
use Rattle.std.proofs.Math.Nat.{pow-succ', le-mul_of_pos_right}
use Rattle.std.proofs.Math.Seq.{drop-append_seam, length-sets}
use Rattle.std.proofs.lemmas.List.Edits.{sets, sets-eq}
use Rattle.base.specs.CaseLaws.{eq_or_ne, if_eq_yes, if_eq_no}
use Rattle.draw.specs.Draw.{face_at, draw_at}
use Rattle.draw.specs.DrawLaws.{draw_one}
use Rattle.draw.specs.WordLaws.{word_decides}
use Rattle.draw_shares.specs.Program.{Program, done}
use Rattle.draw_shares.specs.Tape.{ran, run_at, after_run}
use Rattle.draw_shares.proofs.TapeLaws.{run_face, run_bind}
use Rattle.tree_sizes.specs.Sizes.{candidates, half_candidates, window_start}
use Rattle.tree_sizes.proofs.SizeLaws.{candidates_half}
use Rattle.tree_rules.specs.Tree.{Tree, leaf, node}
use Rattle.tree_rules.specs.Rules.{rebuild, join}
use Rattle.tree_shapes.specs.Shapes.{trees, tree_count}
use Rattle.tree_shapes.specs.Words.{face_words, tree_words, IsNumber, Put}
use Rattle.tree_shapes.specs.CountLaws.{half_pos, count_pos, AboveLeaves, above_leaves}
use Rattle.tree_shapes.specs.MemberLaws.{tree_member}

-- ---- the numbers of the halves

module _ {c levels k : ℕ} (w : IsNumber c (suc levels) k) where
  -- how many trees a half has
  abbrev half : ℕ
  half = tree_count (half_candidates c) levels

  pub half_some : 0 < half
  half_some = count_pos (half_candidates c) levels (half_pos c w.some)

  pub half_few : half < 2 ^ 32
  unfolding tree_count
  half_few = omega (arith, w.few, le-mul_of_pos_right half half_some, le-mul_of_pos_right (half * half) w.some)

  pub half_number : (j : ℕ) → j < half → IsNumber (half_candidates c) levels j
  half_number j l = record { some = half_pos c w.some; few = half_few; below = l }

  pub face_below : k / (half * half) < c
  unfolding tree_count
  face_below = (div-lt_iff_lt-mul (mul-pos half_some half_some)).1 w.below

  pub left_number : IsNumber (half_candidates c) levels (k % (half * half) / half)
  left_number = half_number _ ((div-lt_iff_lt-mul half_some).1 (mod-lt k (mul-pos half_some half_some)))

  pub right_number : IsNumber (half_candidates c) levels (k % (half * half) % half)
  right_number = half_number _ (mod-lt (k % (half * half)) half_some)

-- ---- read

-- what stands behind words that were read
behind : (tape words rest : List ℕ) (at : ℕ) → drop at tape ≡ words ++ rest → drop (at + length words) tape ≡ rest
behind tape words rest at e = sym (drop-drop (length words) at tape) ∙ rw e (drop-append_seam words rest)

word_read : (m f : ℕ) (tape rest : List ℕ) (at : ℕ) → m ≢ 1 → f < m → m ≤ 2 ^ 32 → drop at tape ≡ f ∷ rest → draw_at m tape at ≡ face_at f (suc at)
word_read m f tape rest at many below few e =
    let whole : take at tape ++ f ∷ rest ≡ tape = ap (λ (l : List ℕ). take at tape ++ l) (sym e) ∙ take-append-drop at tape in
    let front : length (take at tape) ≡ at = length-take-le at tape (omega (arith, length-drop at tape, ap length e)) in
    rw (whole, front) at (word_decides m f (take at tape) rest many below few)

face_read : (c f : ℕ) (tape rest : List ℕ) (at : ℕ) → f < c → c ≤ 2 ^ 32 → drop at tape ≡ face_words c f ++ rest
    → draw_at c tape at ≡ face_at f (at + length (face_words c f))
unfolding face_words draw_at
face_read c f tape rest at below few e =
    ⊎_elim
    (λ (one : c ≡ 1).
    let first : f ≡ 0 = omega arith in
    rw (if_eq_yes c 1 _ _ one, add-zero at, one, first) (draw_one (2 ^ 32) tape at))
    (λ (many : c ≢ 1).
    rw (if_eq_no c 1 _ _ many, add-one at) (word_read c f tape rest at many below few (rw (if_eq_no c 1 _ _ many) at e)))
    (eq_or_ne c 1)

few_faces : (c levels : ℕ) → 0 < c → tree_count c (suc levels) < 2 ^ 32 → c ≤ 2 ^ 32
unfolding tree_count
few_faces c levels some few =
    let pos = count_pos (half_candidates c) levels (half_pos c some) in
    omega (arith, few, le-mul_of_pos_right c (mul-pos pos pos))

join_run : (b : ℕ) (left right : Program Tree) (tape : List ℕ) (at mid next : ℕ) (l r : Tree) → run_at left tape at ≡ ran l mid → run_at right tape mid ≡ ran r next
    → run_at (join b left right) tape at ≡ ran (node b l r) next
unfolding join run_at after_run
join_run b left right tape at mid next l r p q =
    run_bind left _ tape at ∙ rw p (run_bind right (λ r. done (node b l r)) tape mid ∙ rw q)

-- The run of a range of `levels` on the words of its tree k.
abbrev RunsAs : ℕ → ℕ → ℕ → ℕ → List ℕ → Type 0
RunsAs M levels d c tape =
    (n k at : ℕ) (rest : List ℕ) → IsNumber c levels k → drop at tape ≡ tree_words c levels k ++ rest
    → run_at (rebuild M levels d n) tape at ≡ ran (get_or (trees M levels d n) k leaf) (at + length (tree_words c levels k))

node_run : (M levels d : ℕ) (tape : List ℕ) → RunsAs M levels (suc d) (half_candidates (candidates M d)) tape → RunsAs M (suc levels) d (candidates M d) tape
unfolding rebuild tree_words
node_run M levels d tape halves n k at rest w e =
    let c = candidates M d in
    let h = tree_count (half_candidates c) levels in
    let f = k / (h * h) in
    let b = window_start n c + f in
    let first = face_words c f in
    let left = tree_words (half_candidates c) levels (k % (h * h) / h) in
    let right = tree_words (half_candidates c) levels (k % (h * h) % h) in
    let e₁ : drop at tape ≡ first ++ (left ++ (right ++ rest)) = e ∙ append_assoc first (left ++ right) rest ∙ rw (append_assoc left right rest) in
    let e₂ = behind tape first (left ++ (right ++ rest)) at e₁ in
    let e₃ = behind tape left (right ++ rest) (at + length first) e₂ in
    let sum : at + length first + length left + length right ≡ at + length (first ++ (left ++ right))
    = rw (length-append first (left ++ right), length-append left right) (omega arith) in
    run_face c _ tape at f (at + length first) (face_read c f tape (left ++ (right ++ rest)) at (face_below w) (few_faces c levels w.some w.few) e₁)
    ∙ join_run b (rebuild M levels (suc d) b) (rebuild M levels (suc d) (n - b)) tape (at + length first) (at + length first + length left)
    (at + length first + length left + length right) _ _ (halves b _ _ _ (left_number w) e₂) (halves (n - b) _ _ _ (right_number w) e₃)
    ∙ rw sum (ap (λ (t : Tree). ran t (at + length (first ++ (left ++ right)))) (sym (rw (candidates_half M d) at (tree_member M levels d n k (rw (candidates_half M d) (half_some w)) w.below))))

-- The range comes out with tree k.
pub tree_run : (M levels d : ℕ) (tape : List ℕ) → RunsAs M levels d (candidates M d) tape
unfolding rebuild run_at tree_words trees tree_count
tree_run M zero d tape n zero at rest w e = rw (add-zero at)
tree_run M zero d tape n (suc k) at rest w e = absurd (omega (arith, w.below))
tree_run M (suc levels) d tape n k at rest w e = node_run M levels d tape (rw (candidates_half M d) at (tree_run M levels (suc d) tape)) n k at rest w e

-- ---- put into a slice

sets_append : (old xs ys : List ℕ) (at : ℕ) → sets old at (xs ++ ys) ≡ sets (sets old at xs) (at + length xs) ys
sets_append old [] ys at = rw (add-zero at)
sets_append old (x ∷ xs) ys at =
    let e : at + suc (length xs) ≡ suc at + length xs = omega arith in
    sets_append (set old at x) xs ys (suc at) ∙ rw e

face_length : (c f : ℕ) → length (face_words c f) ≤ 1
unfolding face_words
face_length c f =
    ⊎_elim (λ (one : c ≡ 1). rw (if_eq_yes c 1 _ _ one) (omega arith)) (λ (many : c ≢ 1). rw (if_eq_no c 1 _ _ many) (omega arith)) (eq_or_ne c 1)

-- A tree has at most as many words as ranges above the leaves.
pub words_few : (c levels k : ℕ) → length (tree_words c levels k) < 2 ^ levels
unfolding tree_words
words_few c zero k = omega arith
words_few c (suc levels) k =
    let h = tree_count (half_candidates c) levels in
    let first = face_words c (k / (h * h)) in
    let left = tree_words (half_candidates c) levels (k % (h * h) / h) in
    let right = tree_words (half_candidates c) levels (k % (h * h) % h) in
    rw (length-append first (left ++ right), length-append left right)
    (omega (arith, pow-succ' 2 levels, face_length c (k / (h * h)), words_few (half_candidates c) levels (k % (h * h) / h), words_few (half_candidates c) levels (k % (h * h) % h)))

pub face_none : (old : List ℕ) (c face at : ℕ) → c ≡ 1 → Put old at (face_words c face) old at
unfolding face_words
face_none old c face at one = rw (if_eq_yes c 1 _ _ one) (record { is = refl; end = omega arith })

pub face_one : (old : List ℕ) (c face at : ℕ) → c ≢ 1 → Put old at (face_words c face) (set old at face) (at + 1)
unfolding face_words
face_one old c face at many = rw (if_eq_no c 1 _ _ many) (record { is = refl; end = omega arith })

pub put_none : (old : List ℕ) (c levels k at : ℕ) → levels ≡ 0 → Put old at (tree_words c levels k) old at
unfolding tree_words
put_none old c levels k at e = rw e (record { is = refl; end = omega arith })

-- Words put in one after the other.
put_append : {old mid new : List ℕ} {at next end : ℕ} (xs ys : List ℕ) → Put old at xs mid next → Put mid next ys new end → Put old at (xs ++ ys) new end
put_append {old} {at} xs ys p q = record {
  is = q.is ∙ rw (p.is, p.end) (sym (sets_append old xs ys at));
  end = omega (arith, q.end, p.end, length-append xs ys);
}

-- What the code knows of tree k of a range above the leaves, whose halves have `half` candidates and T trees each.
pub record NodeReady (c lower k half T : ℕ) : Type 0 where
  pub above : AboveLeaves c (suc lower) T
  pub face_small : k / (T * T) < 2 ^ 32
  pub left : IsNumber half lower (k % (T * T) / T)
  pub right : IsNumber half lower (k % (T * T) % T)
  pub words_are : tree_words c (suc lower) k
      ≡ face_words c (k / (T * T)) ++ (tree_words half lower (k % (T * T) / T) ++ tree_words half lower (k % (T * T) % T))

pub node_ready : {c lower k half T : ℕ} → IsNumber c (suc lower) k → half ≡ half_candidates c → T ≡ tree_count half lower → NodeReady c lower k half T
unfolding tree_words
node_ready {c} {lower} {k} w e t =
    rw (t, e)
    (record {
      above = above_leaves c (suc lower) (λ z. omega arith) w.some refl (rw less);
      face_small = omega (arith, face_below w, few_faces c lower w.some w.few);
      left = left_number w;
      right = right_number w;
      words_are = refl;
    })
  where
    less : suc lower - 1 ≡ lower
    less = omega arith

module _ {c lower k half T : ℕ} (w : NodeReady c lower k half T) {old mid : List ℕ} {at next room : ℕ} (first : Put old at (face_words c (k / (T * T))) mid next)
    (fits : at + 2 ^ suc lower ≤ room) where
  -- There is room for the words of the left half,
  pub left_room : next + 2 ^ lower ≤ room
  left_room = omega (arith, first.end, face_length c (k / (T * T)), pow-succ' 2 lower, pow_pos lower)

  module _ {later : List ℕ} {after : ℕ} (second : Put mid next (tree_words half lower (k % (T * T) / T)) later after) where
    -- and then for those of the right half.
    pub right_room : after + 2 ^ lower ≤ room
    right_room = omega (arith, first.end, second.end, face_length c (k / (T * T)), words_few half lower (k % (T * T) / T), pow-succ' 2 lower)

    pub put_node : {new : List ℕ} {end : ℕ} → Put later after (tree_words half lower (k % (T * T) % T)) new end → Put old at (tree_words c (suc lower) k) new end
    put_node third = rw w.words_are (put_append _ _ first (put_append _ _ second third))

pub put_length : {old words new : List ℕ} {at next : ℕ} → Put old at words new next → length new ≡ length old
put_length {old} {words} {at} p = ap length p.is ∙ length-sets old at words

-- They stand there.
pub put_there : {old words new : List ℕ} {next : ℕ} → Put old 0 words new next → length words ≤ length old → drop 0 new ≡ words ++ drop (length words) old
put_there {old} {words} p room = p.is ∙ sets-eq words old 0 (omega arith) ∙ rw (zero-add (length words))
