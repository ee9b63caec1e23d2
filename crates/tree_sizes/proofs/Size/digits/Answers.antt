-- `Size::digits` meets its contract: 64 less the leading zeros of M - 1.
use native.Mathlib.Omega.{arith}
use borrow.Author.Rules.{rules}
use Rattle.tree_sizes.proofs.SizeLaws.{digits_leading}
use Rattle.tree_sizes.proofs.Size.digits.Goals as goal

pub returns : goal.returns
returns c = digits_leading 64 c.args.self.m (search rules) (omega arith)
