-- A sheet has one list and one shape.
use Rattle.std.specs.Prelude.{◌≡◌, List, ℕ, length}
use Rattle.std.proofs.Common.{sym, ap, ◌∙◌}
use Rattle.tree_rules.specs.Tree.{Shape, IsShape}
use Rattle.store_layout.specs.Decode.{Contents}
use Rattle.call_outcomes.specs.Kind.{holds, View, LawfulView, SheetOf}

module _ (view : View) (laws : LawfulView view) where
  pub lay_injective : (xs ys : List ℕ) (s t : Shape) → view.IsList xs → view.IsList ys → IsShape (length xs) s → IsShape (length ys) t
      → view.lay xs s ≡ view.lay ys t → (xs ≡ ys) × (s ≡ t)
  lay_injective xs ys s t hx hy hs ht e =
      let same : holds (record { list = xs; shape = s }) ≡ holds (record { list = ys; shape = t })
      = sym (laws.complete xs s hx hs) ∙ ap view.decode e ∙ laws.complete ys t hy ht in
      let contents : ◌≡◌ {A = Contents} (record { list = xs; shape = s }) (record { list = ys; shape = t }) = cc in
      (ap (λ (c : Contents). c.list) contents, ap (λ (c : Contents). c.shape) contents)

  pub one_list : (xs ys : List ℕ) (store : view.Store) → SheetOf view xs store → SheetOf view ys store → xs ≡ ys
  one_list xs ys store v w =
      (lay_injective xs ys v.shape w.shape v.is_list w.is_list v.is_shape w.is_shape (sym v.laid ∙ w.laid)).0

  -- What decodes is a sheet of its list.
  pub decoded_sheet : (store : view.Store) (c : Contents) → view.decode store ≡ holds c → SheetOf view c.list store
  decoded_sheet store c e =
      let w = laws.sound store c e in record { shape = c.shape; is_list = w.0; is_shape = w.1; laid = w.2 }
