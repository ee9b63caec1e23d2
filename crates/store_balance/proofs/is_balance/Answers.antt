-- `is_balance` meets its contract.
use mathlib.Core.Path.{◌≡◌, ap, ◌∙◌}
use Prim.Native.Nat.{ℕ}
use lib.ListN.{length}
use Rattle.base.specs.Lists.{equal_lists}
use Rattle.store_balance.specs.BalanceIn.{balance_in}
use Rattle.store_balance.proofs.is_balance.Goals as goal

pub returns : goal.returns
returns c =
    let a = c.args in
    let words : length a.work.now ≡ length a.balance.now = c.requires.work in
    c.same_words.ensures
    ∙ ap (equal_lists a.balance.now) (c.write_balance.ensures ∙ ap (λ (n : ℕ). balance_in a.size.m n a.slots.now) words)
