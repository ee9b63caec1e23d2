-- The sheets of a list are those of every history that ends with it: each sheet of positive share is listed exactly one time, and no other; its
-- share is 1 over its whole number; and these shares sum to 1.
use Rattle.std.specs.Prelude.{◌≡◌, ◌↔◌, ◌⊎◌, true, List, ℕ, ◌<◌}
use Rattle.std.proofs.Common.{◌∙◌, arith}
use Rattle.std.proofs.Math.Logic.{⊎_elim}
use Rattle.std.proofs.Math.Bool.{false}
use Rattle.std.proofs.Math.ListN.{length, get_or}
use Rattle.std.proofs.lemmas.List.{length-map}
use Rattle.base.specs.BoolLaws.{true_or_false}
use Rattle.base.specs.ListLaws.{every_get_d}
use Rattle.draw_shares.specs.Fraction.{◌≐◌, whole, unit}
use Rattle.draw_shares.specs.Course.{share}
use Rattle.tree_rules.specs.Tree.{Shape, IsShape}
use Rattle.tree_canonical.specs.ShapeShare.{shape_product}
use Rattle.tree_canonical.specs.ShapeShare.{equal_shapes}
use Rattle.tree_shapes.specs.Shapes.{shapes, sum_of_units}
use Rattle.tree_shapes.specs.HowMany.{how_many}
use Rattle.tree_shapes.specs.HowManyLaws.{many_map, many_cong, many_none}
use Rattle.tree_shapes.specs.ShapesLaws.{shapes_are, shape_once}
use Rattle.tree_shapes.specs.MemberLaws.{map_member}
use Rattle.tree_shapes.specs.SumLaws.{shares_sum}
use Rattle.call_outcomes.specs.Kind.{View, empty, LawfulView, SheetOf, Kind, Lawful, CallFor, StoreFor}
use Rattle.call_history.specs.History.{history, list_at_end}
use Rattle.call_history.proofs.Independence.{end_list}
use Rattle.call_history.proofs.Shares.{same_test, sheet_share, positive_sheets}
use Rattle.call_sheets.specs.Sheets.{sheets, whole_numbers}

module _ (view : View) (laws : LawfulView view) (list : List ℕ) (w : view.IsList list) where
  -- A sheet of the list is listed exactly one time.
  pub sheet_once : (v : view.Store) → SheetOf view list v → how_many (view.equal v) (sheets view list) ≡ 1
  unfolding sheets
  sheet_once v is =
      let s = is.shape in
      rw is.laid
      (many_map (view.equal (view.lay list s)) (view.lay list) (shapes (length list))
      ∙ many_cong (IsShape (length list)) (λ t. view.equal (view.lay list s) (view.lay list t)) (equal_shapes s)
      (λ t shape. same_test view laws list w s t is.is_shape shape) (shapes (length list)) (shapes_are (length list))
      ∙ shape_once (length list) s is.is_shape)

  -- Nothing else is listed.
  pub sheet_other : (v : view.Store) → ¬ SheetOf view list v → how_many (view.equal v) (sheets view list) ≡ 0
  unfolding sheets
  sheet_other v no_sheet =
      many_map (view.equal v) (view.lay list) (shapes (length list))
      ∙ many_none (IsShape (length list)) (λ t. view.equal v (view.lay list t)) (λ t shape. other t shape (true_or_false (view.equal v (view.lay list t)))) (shapes (length list)) (shapes_are (length list))
    where
      other : (t : Shape) → IsShape (length list) t → (view.equal v (view.lay list t) ≡ true) ⊎ (view.equal v (view.lay list t) ≡ false)
          → view.equal v (view.lay list t) ≡ false
      other t shape =
          ⊎_elim
          (λ yes. absurd (no_sheet (record { shape = t; is_list = w; is_shape = shape; laid = laws.test.sound _ _ yes })))
          (λ no. no)

-- The shares sum to 1.
pub all_shares : (list : List ℕ) → sum_of_units (whole_numbers list) ≐ whole 1
unfolding whole_numbers
all_shares list = shares_sum (length list)

module _ (kind : Kind) (lawful : Lawful kind) (calls : List (CallFor kind)) (store : StoreFor kind) (right : kind.view.right_lengths store ≡ true) where
  abbrev end : List ℕ
  end = list_at_end kind calls

  -- A store without a share in the history is not listed.
  pub zero_unlisted : (v : StoreFor kind) → share (kind.view.equal v) (history kind calls store) ≐ whole 0
      → how_many (kind.view.equal v) (sheets kind.view end) ≡ 0
  zero_unlisted v z =
      sheet_other kind.view lawful.view end (end_list kind lawful calls) v (λ is. (positive_sheets kind lawful calls store right v).1 is z)

  -- A store has a share above 0 in the history exactly when it is listed one time.
  pub positive_listed : (v : StoreFor kind)
      → (¬ (share (kind.view.equal v) (history kind calls store) ≐ whole 0)) ↔ (how_many (kind.view.equal v) (sheets kind.view end) ≡ 1)
  positive_listed v = (
    λ positive. sheet_once kind.view lawful.view end (end_list kind lawful calls) v ((positive_sheets kind lawful calls store right v).0 positive),
    λ once z. let none = zero_unlisted v z in omega arith,
  )

  -- Sheet k has the share 1 over whole number k.
  pub listed_share : (k : ℕ) → k < length (sheets kind.view end) → (v : StoreFor kind) (n : ℕ)
      → share (kind.view.equal (get_or (sheets kind.view end) k v)) (history kind calls store) ≐ unit (get_or (whole_numbers end) k n)
  unfolding sheets whole_numbers
  listed_share k l v n =
      let ss = shapes (length end) in
      let within : k < length ss = rw (length-map ss (kind.view.lay end)) at l in
      let s = get_or ss k empty.shape in
      rw (map_member (kind.view.lay end) ss k empty.shape v within, map_member (shape_product (length end)) ss k empty.shape n within)
      (sheet_share kind lawful calls store right s (every_get_d (IsShape (length end)) ss k empty.shape (shapes_are (length end)) within))
