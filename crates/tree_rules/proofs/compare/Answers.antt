-- `tree_rules::compare` meets its contract: the closed form is the comparison by identity.
use mathlib.Core.Path.{◌≡◌, sym, ◌∙◌}
use Prim.Native.Nat.{ℕ, ◌+◌, ◌-◌, ◌^◌, ◌≤◌, ◌<◌}
use native.Mathlib.Omega.{arith}
use native.Mathlib.Numerals.{add-one}
use Rattle.tree_sizes.specs.Sizes.{window_start}
use Rattle.tree_sizes.proofs.SizeLaws.{window_fits}
use Rattle.tree_rules.specs.Compare.{count_after, compare}
use Rattle.tree_rules.specs.Swap.{swap_of}
use Rattle.tree_rules.proofs.CompareLaws.{compare_closed}
use Rattle.tree_rules.proofs.compare.Goals.{Start}
use Rattle.tree_rules.proofs.compare.Goals as goal

-- the place past the last candidate
end_small : (first n c : ℕ) → first ≡ window_start n c → c ≤ n → n < 2 ^ 62 → first + c < 2 ^ 64
end_small first n c e fit most = omega (arith, window_fits n c fit)

closed : (c : Start)
    → compare c.args.change c.args.n c.args.c ≡ swap_of c.args.change c.args.n c.args.c
closed c = compare_closed c.args.change c.args.n c.args.c c.requires.some c.requires.before c.requires.after

pub insert_swap-requires : goal.insert_swap-requires
insert_swap-requires c =
    record { some = c.requires.some; fits = end_small _ c.args.n _ c.window_start-before.ensures c.requires.before c.requires.most }

pub window_start-after-requires-in-Delete : goal.window_start-after-requires-in-Delete
unfolding count_after
window_start-after-requires-in-Delete c =
    record { fit = rw c.in-Delete.is at c.requires.after }

pub insert_swap-requires-in-Delete : goal.insert_swap-requires-in-Delete
unfolding count_after
insert_swap-requires-in-Delete c =
    record { some = c.requires.some; fits = end_small _ (c.args.n - 1) _ c.window_start-after-in-Delete.ensures (rw c.in-Delete.is at c.requires.after) (omega (arith, c.requires.most)) }

pub returns-in-Insert : goal.returns-in-Insert
unfolding swap_of
returns-in-Insert c =
    c.insert_swap.ensures
    ∙ rw (c.window_start-before.ensures, c.window_start-after.ensures, add-one)
    (sym (closed (goal.at.returns-in-Insert c).Start ∙ rw c.in-Insert.is))

pub returns-in-Delete : goal.returns-in-Delete
unfolding swap_of
returns-in-Delete c =
    c.reverse.ensures
    ∙ rw (
      c.insert_swap-in-Delete.ensures,
      c.window_start-before-in-Delete.ensures,
      c.window_start-after-in-Delete.ensures,
    )
    (sym
    (closed (goal.at.returns-in-Delete c).Start
    ∙ rw c.in-Delete.is))
