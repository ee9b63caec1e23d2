-- The shapes of 33 entries (document 02, F-12), computed: M from 33 to 64 has one each with share 1/33, and M = 65 has twelve with share
-- 1/396 each.
use Rattle.std.specs.Prelude.{◌≡◌, refl, [], ◌∷◌, ◌++◌, map, replicate}
use Rattle.base.specs.Cases as cases
use Rattle.base.specs.Lists.{tabulate}
use Rattle.draw_shares.specs.Course.{concat_below}
use Rattle.tree_sizes.specs.Sizes as sizes
use Rattle.tree_rules.specs.Tree.{leaf, Shape}
use Rattle.tree_canonical.specs.Canonical.{candidates_product}
use Rattle.tree_canonical.specs.ShapeShare.{shape_product}
use Rattle.tree_shapes.specs.Shapes.{with_halves, trees, shapes_of_size, size_count, shapes}

sizes_of_33 : map (λ (s : Shape). s.size) (shapes 33) ≡ tabulate (λ M. M) 33 32 ++ replicate 12 65
unfolding tabulate shapes concat_below size_count shapes_of_size trees with_halves cases.if_le sizes.height sizes.doublings sizes.digits sizes.candidates sizes.ceil_div
sizes_of_33 = refl

numbers_of_33 : map (shape_product 33) (shapes 33) ≡ replicate 32 33 ++ replicate 12 396
unfolding shapes concat_below size_count shapes_of_size trees with_halves shape_product candidates_product cases.if_le sizes.height sizes.doublings sizes.digits sizes.candidates sizes.ceil_div
numbers_of_33 = refl

no_entries : shapes 0 ≡ record { size = 0; tree = leaf } ∷ []
unfolding shapes concat_below size_count shapes_of_size trees cases.if_le sizes.height
no_entries = refl
