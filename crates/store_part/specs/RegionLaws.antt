-- Laws of the place of a range's leaves.
use Rattle.std.specs.Prelude.{◌≡◌, ℕ, ◌+◌, ◌-◌, ◌*◌, ◌^◌, ◌≤◌, ◌<◌}
use Rattle.std.proofs.Common.{sym, ◌∙◌, ap, pow-add, pow_mono, pow_pos, le_trans, mul-le-mul_right, arith}
use Rattle.tree_sizes.specs.Sizes.{height}
use Rattle.tree_sizes.proofs.SizeLaws.{height_most}
use Rattle.store_part.specs.Region.{leaves_of, leaves_before}

-- The leaves of a range stand among those of the sheet.
pub leaves_within : (M range d : ℕ) → d ≤ height M → range < 2 * 2 ^ d → leaves_before M range d + leaves_of M d ≤ 2 ^ height M
unfolding leaves_before leaves_of
leaves_within M range d deep last =
    let all : d + (height M - d) ≡ height M = omega arith in
    let inside : range - 2 ^ d + 1 ≤ 2 ^ d = omega (arith, pow_pos d) in
    omega (
      arith,
      mul-le-mul_right (2 ^ (height M - d)) inside,
      sym (pow-add 2 d (height M - d)) ∙ ap (λ (k : ℕ). 2 ^ k) all,
    )

pub leaves_before_small : (M range d : ℕ) → M < 2 ^ 32 → d ≤ height M → range < 2 * 2 ^ d → leaves_before M range d ≤ 2 ^ 32
leaves_before_small M range d most deep last =
    le_trans (omega (arith, leaves_within M range d deep last)) (pow_mono (height_most M 32 (omega arith) (omega arith)))
