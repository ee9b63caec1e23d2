-- The table of shares of a history, for any kind of sheet, is not empty: its shares sum to 1, every sheet of its list has the share 1 / N
-- times 1 / c for each range above the leaves, and every store with a share is a sheet of its list.
use Rattle.std.specs.Prelude.{◌≡◌, ◌↔◌, true, List, [], ◌∷◌, ℕ, zero, suc, ◌<◌, length}
use Rattle.std.proofs.Common.{sym, ◌∙◌, arith}
use Rattle.std.proofs.Math.Path.{ap}
use Rattle.base.specs.BoolLaws.{tests_agree}
use Rattle.draw_shares.specs.Program.{done}
use Rattle.draw_shares.specs.Fraction.{Fraction, ◌≐◌, whole, unit}
use Rattle.draw_shares.specs.Rational.{inv, crosswise, ≐_trans}
use Rattle.draw_shares.specs.Course.{Follows, Course, courses, sum_shares, share}
use Rattle.draw_shares.specs.Same.{expect}
use Rattle.draw_shares.specs.SameLaws.{expect_bind, expect_done, expect_ends}
use Rattle.draw_shares.proofs.ShareLaws.{indicator, share_expect, same_shares, total_share}
use Rattle.draw_shares.proofs.Apart.{share_found, follows_share}
use Rattle.tree_rules.specs.Tree.{Shape, IsShape}
use Rattle.tree_canonical.specs.Canonical.{canonical}
use Rattle.tree_canonical.specs.ShapeLaws.{canonical_ends}
use Rattle.tree_canonical.specs.ShapeShare.{equal_shapes, shape_product, canonical_share, shape_product_pos}
use Rattle.tree_canonical.specs.ShapeTest.{shapes_test}
use Rattle.call_outcomes.specs.Kind.{View, LawfulView, SheetOf, Kind, Lawful, CallFor, StoreFor}
use Rattle.call_outcomes.specs.KindLaws.{lay_injective}
use Rattle.call_outcomes.specs.Causes.{argument_cause, decision}
use Rattle.call_history.specs.History.{history, list_at_end, refusal_of, SentTo, clearing, last_store, NoneEnds, calls_of}
use Rattle.call_history.specs.Words.{words_decide}
use Rattle.call_history.specs.CallKeeps.{sheets_of, sheets_end, sheets_live, sheet_refusal}
use Rattle.call_history.proofs.Independence.{end_list, history_sheets}

-- no courses, no shares
no_sum : {S : Type 0} (cs : List (Course S)) → cs ≡ [] → sum_shares (λ _. true) cs ≐ whole 1 → ⊥
unfolding sum_shares
no_sum [] e h = omega (arith, h)
no_sum (c ∷ cs) e h = let z : ◌≡◌ {A = ℕ} 0 1 = cc in omega arith

unit_above : (m : ℕ) → 0 < m → ¬ (unit m ≐ whole 0)
unfolding unit
unit_above zero pos e = omega arith
unit_above (suc m) pos e = omega (arith, e)

module _ (view : View) (laws : LawfulView view) (list : List ℕ) (w : view.IsList list) where
  -- The tests of equality agree on stores laid out and their shapes.
  pub same_test : (s t : Shape) → IsShape (length list) s → IsShape (length list) t → view.equal (view.lay list s) (view.lay list t) ≡ equal_shapes s t
  same_test s t hs ht =
      tests_agree _ _
      (λ e. rw (lay_injective view laws list list s t w w hs ht (laws.test.sound _ _ e)).1 (shapes_test.itself t))
      (λ e. rw (shapes_test.sound s t e) (laws.test.itself (view.lay list t)))

  sheets_share : (s : Shape) → IsShape (length list) s
      → expect (sheets_of view list) (λ store. indicator (view.equal (view.lay list s) store)) ≡ inv (shape_product (length list) s)
  unfolding sheets_of
  sheets_share s shape =
      expect_bind (canonical (length list)) (λ t. done (view.lay list t)) (λ store. indicator (view.equal (view.lay list s) store))
      ∙ expect_ends (IsShape (length list)) (canonical (length list)) (canonical_ends (length list))
      (λ t shape'. expect_done (view.lay list t) _ ∙ ap indicator (same_test s t shape shape'))
      ∙ canonical_share (length list) s shape

module _ (kind : Kind) (lawful : Lawful kind) (calls : List (CallFor kind)) (store : StoreFor kind) (right : kind.view.right_lengths store ≡ true) where
  abbrev end : List ℕ
  end = list_at_end kind calls

  -- The share of each sheet of the list.
  pub sheet_share : (s : Shape) → IsShape (length end) s
      → share (kind.view.equal (kind.view.lay end s)) (history kind calls store) ≐ unit (shape_product (length end) s)
  unfolding inv
  sheet_share s shape =
      let test = kind.view.equal (kind.view.lay end s) in
      crosswise (share test (history kind calls store)) (unit (shape_product (length end) s))
      (share_expect test (history kind calls store)
      ∙ (history_sheets kind lawful calls store right).means (λ v. indicator (test v))
      ∙ sheets_share kind.view lawful.view end (end_list kind lawful calls) s shape)

  -- The shares of all courses sum to 1.
  pub shares_sum : share (λ _. true) (history kind calls store) ≐ whole 1
  shares_sum =
      ≐_trans (share (λ _. true) (history kind calls store)) (share (λ _. true) (sheets_of kind.view end)) (whole 1)
      (same_shares (history_sheets kind lawful calls store right) (λ _. true))
      (total_share (sheets_of kind.view end) (sheets_live kind.view end))

  -- There is a course.
  pub some_course : courses (history kind calls store) ≡ [] → ⊥
  unfolding share
  some_course e = no_sum (courses (history kind calls store)) e shares_sum

  -- A store whose share is not 0 is a sheet of the list.
  pub share_is_sheet : (v : StoreFor kind) → ¬ (share (kind.view.equal v) (history kind calls store) ≐ whole 0) → SheetOf kind.view end v
  share_is_sheet v positive =
      let test = kind.view.equal v in
      let found = share_found (SheetOf kind.view end) test (sheets_of kind.view end) (sheets_end kind.view end (end_list kind lawful calls))
      (λ z. positive
      (≐_trans (share test (history kind calls store)) (share test (sheets_of kind.view end)) (whole 0)
      (same_shares (history_sheets kind lawful calls store right) test) z)) in
      rw (lawful.view.test.sound v found.0 found.2) found.1

  -- A store has a share above 0 exactly when it is a sheet of the list.
  pub positive_sheets : (v : StoreFor kind) → (¬ (share (kind.view.equal v) (history kind calls store) ≐ whole 0)) ↔ SheetOf kind.view end v
  positive_sheets v = (share_is_sheet v, λ w zero_is. none w.shape w.is_shape (rw w.laid at zero_is))
    where
      none : (s : Shape) → IsShape (length end) s → ¬ (share (kind.view.equal (kind.view.lay end s)) (history kind calls store) ≐ whole 0)
      none s shape z =
          unit_above (shape_product (length end) s) (shape_product_pos (length end) s shape)
          (≐_trans (unit (shape_product (length end) s)) (share (kind.view.equal (kind.view.lay end s)) (history kind calls store)) (whole 0)
          (sym (sheet_share s shape)) z)

  -- Every course ends with a sheet of the list.
  pub course_sheet : (faces : List ℕ) (v : StoreFor kind) → Follows (history kind calls store) faces v → SheetOf kind.view end v
  course_sheet faces v follows =
      share_is_sheet v (follows_share (kind.view.equal v) (history kind calls store) faces v follows (lawful.view.test.itself v))

  -- Whether the next call is refused by a cause before 7, and by which, follows from the arguments alone.
  pub refusals : (faces : List ℕ) (v : StoreFor kind) → Follows (history kind calls store) faces v → (call : CallFor kind)
      → refusal_of (decision kind call v) ≡ argument_cause kind call end
  refusals faces v follows call =
      let w = course_sheet faces v follows in
      rw w.laid (sheet_refusal kind lawful end w.shape w.is_list w.is_shape call)

-- The share of a sheet goes by its shape and the number of its entries alone, whatever these are.
pub shape_shares : (kind : Kind) (lawful : Lawful kind) (calls calls' : List (CallFor kind)) (store store' : StoreFor kind)
    → kind.view.right_lengths store ≡ true → kind.view.right_lengths store' ≡ true
    → length (list_at_end kind calls) ≡ length (list_at_end kind calls') → (s : Shape) → IsShape (length (list_at_end kind calls)) s
    → share (kind.view.equal (kind.view.lay (list_at_end kind calls) s)) (history kind calls store)
    ≐ share (kind.view.equal (kind.view.lay (list_at_end kind calls') s)) (history kind calls' store')
shape_shares kind lawful calls calls' store store' right right' number s shape =
    let of : List (CallFor kind) → StoreFor kind → Fraction = λ calls store. share (kind.view.equal (kind.view.lay (list_at_end kind calls) s)) (history kind calls store) in
    ≐_trans (of calls store) (unit (shape_product (length (list_at_end kind calls)) s)) (of calls' store') (sheet_share kind lawful calls store right s shape)
    (sym (rw number (sheet_share kind lawful calls' store' right' s (rw (← number) shape))))

-- Whatever words the tapes hold, if no call returns 7, the last store is a sheet of the list at the end.
pub last_sheet : (kind : Kind) (lawful : Lawful kind) (sent : List (SentTo kind)) (store : StoreFor kind) → kind.view.right_lengths store ≡ true
    → NoneEnds kind (clearing kind ∷ sent) store
    → SheetOf kind.view (list_at_end kind (calls_of sent)) (last_store kind (clearing kind ∷ sent) store)
unfolding history calls_of clearing
last_sheet kind lawful sent store right none =
    course_sheet kind lawful (calls_of sent) store right _ _ (words_decide kind (clearing kind ∷ sent) store none)
