-- Programs that rebuild ranges: they always have a face to draw, and what was rebuilt before a visit is only seen below it.
use Rattle.std.specs.Prelude.{◌≡◌, ◌≢◌, ℕ, zero, suc, ◌+◌}
use Rattle.std.proofs.Common.{◌∙◌, ⊎_elim}
use Rattle.base.specs.Cases.{if_eq}
use Rattle.base.specs.CaseLaws.{if_eq_yes, if_eq_no, eq_or_ne}
use Rattle.draw_shares.specs.Program.{Program, done, draw, ◌>>=◌, Live, Draws}
use Rattle.draw_shares.specs.ProgramLaws.{done_bind, bind_bind, draws_bind, draws_done}
use Rattle.draw_shares.specs.Same.{◌≈◌}
use Rattle.draw_shares.specs.SameLaws.{≈_refl, ≈_trans, ≈_sym, ≈_path, bind_cong_left, bind_cong_right, bind_const, bind_swap, draw_cong, draw_commutes}
use Rattle.tree_sizes.specs.Sizes.{candidates, window_start, Fits}
use Rattle.tree_sizes.proofs.SizeLaws.{candidate_face}
use Rattle.tree_sizes.proofs.Fit.{fits_pos, fits_halves}
use Rattle.tree_rules.specs.declared.Comparison.{Comparison}
use Rattle.tree_rules.specs.declared.Comparison.TheVariants.{Unchanged, Swapped}
use Rattle.tree_rules.specs.Tree.{Tree, node}
use Rattle.tree_rules.specs.Rules.{join, rebuild, visit}

-- ---- both halves

pub join_cong : (b : ℕ) {p p' q q' : Program Tree} → p ≈ p' → q ≈ q' → join b p q ≈ join b p' q'
unfolding join
join_cong b {p' = p'} e d = ≈_trans (bind_cong_left _ e) (bind_cong_right p' (λ l. bind_cong_left _ d))

-- what follows on the left half does not look at the right half, which is rebuilt before it
pub join_left : (b : ℕ) (p q : Program Tree) (k : Tree → Program Tree)
    → (p >>= λ l. q >>= λ r. k l >>= λ t. done (node b t r)) ≈ join b (p >>= k) q
unfolding join
join_left b p q k =
    ≈_trans (bind_cong_right p (λ l. bind_swap q (k l) (λ r t. done (node b t r))))
    (≈_sym (≈_path (bind_bind p k (λ t. q >>= λ r. done (node b t r)))))

pub join_right : (b : ℕ) (p q : Program Tree) (k : Tree → Program Tree)
    → (p >>= λ l. q >>= λ r. k r >>= λ t. done (node b l t)) ≈ join b p (q >>= k)
unfolding join
join_right b p q k = bind_cong_right p (λ l. ≈_sym (≈_path (bind_bind q k (λ t. done (node b l t)))))

pub live_join : (b : ℕ) (p q : Program Tree) → Live p → Live q → Live (join b p q)
unfolding join
live_join b p q l h = draws_bind _ p _ l (λ t. draws_bind _ q _ h (λ r. draws_done _ (node b t r)))

pub live_rebuild : (M levels d n : ℕ) → Fits M levels d n → Live (rebuild M levels d n)
unfolding rebuild Draws
live_rebuild M zero d n fits = tt
live_rebuild M (suc levels) d n fits = (
  fits_pos M levels d n fits,
  λ face l.
      let halves = fits_halves M levels d n fits (window_start n (candidates M d) + face) (candidate_face n (candidates M d) face l) in
      live_join _ _ _ (live_rebuild M levels (suc d) _ halves.0) (live_rebuild M levels (suc d) _ halves.1),
)

-- ---- a visit

-- What a live program does before a visit that does not look at it is only seen below it.
pub bind_visit : {A : Type 0} (p : Program A) (comparison : Comparison) (c b : ℕ) (rebuilt : Program Tree) (halves : ℕ → Program Tree) (below : A → Program Tree)
    → Live p → (p >>= λ a. visit comparison c b rebuilt halves (below a)) ≈ visit comparison c b rebuilt halves (p >>= below)
unfolding visit
bind_visit p Unchanged c b rebuilt halves below l = ≈_refl (p >>= below)
bind_visit {A} p (Swapped out into) c b rebuilt halves below l =
    choose b out rebuilt (λ a. draw c (λ face. if_eq face 0 (halves into) (below a))) (draw c (λ face. if_eq face 0 (halves into) (p >>= below)))
    (≈_trans (draw_commutes c p (λ face a. if_eq face 0 (halves into) (below a)))
    (draw_cong c (λ face _. choose face 0 (halves into) below (p >>= below) (≈_refl (p >>= below)))))
  where
    choose : (m n : ℕ) (x : Program Tree) (y : A → Program Tree) (z : Program Tree) → (p >>= y) ≈ z → (p >>= λ a. if_eq m n x (y a)) ≈ if_eq m n x z
    choose m n x y z e =
        ⊎_elim
        (λ (h : m ≡ n). rw (if_eq_yes m n x z h) (≈_trans (bind_cong_right p (λ a. ≈_path (if_eq_yes m n x (y a) h))) (bind_const p x l)))
        (λ (h : m ≢ n). rw (if_eq_no m n x z h) (≈_trans (bind_cong_right p (λ a. ≈_path (if_eq_no m n x (y a) h))) e))
        (eq_or_ne m n)

-- A visit at the root of a range whose halves were rebuilt.
pub join_visit : (b : ℕ) (p q : Program Tree) (k : Tree → Program Tree)
    (comparison : Comparison) (c : ℕ) (rebuilt : Program Tree) (halves : ℕ → Program Tree) (below : Tree → Tree → Program Tree)
    → Live p → Live q
    → ((l r : Tree) → k (node b l r) ≡ visit comparison c b rebuilt halves (below l r))
    → (join b p q >>= k) ≈ visit comparison c b rebuilt halves (p >>= λ l. q >>= λ r. below l r)
unfolding join
join_visit b p q k comparison c rebuilt halves below lp lq h =
    ≈_trans (≈_path (bind_bind p (λ l. q >>= λ r. done (node b l r)) k))
    (≈_trans
    (bind_cong_right p (λ l.
    ≈_trans (≈_path (bind_bind q (λ r. done (node b l r)) k))
    (≈_trans (bind_cong_right q (λ r. ≈_path (done_bind (node b l r) k ∙ h l r)))
    (bind_visit q comparison c b rebuilt halves (below l) lq))))
    (bind_visit p comparison c b rebuilt halves (λ l. q >>= below l) lp))
