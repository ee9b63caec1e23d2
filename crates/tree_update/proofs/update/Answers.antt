-- `tree_update::update` meets its contract.
use Rattle.std.proofs.Common.{rules, ◌≡◌, refl, ap, ◌∙◌, Some, None}
use Rattle.tree_walk.specs.Updated.{rebuilt_to}
use Rattle.tree_update.specs.UpdateLaws.{kept_can, kept_run, anew_can, anew_updated, ended_updated}
use Rattle.tree_update.proofs.update.Goals as goal

pub walk-requires : goal.walk-requires
walk-requires c =
    kept_can c.requires _ _ c.size_step.ensures _ (c.in_ok-stepped.was ∙ ap Some c.in-Kept.is)

pub fresh-requires : goal.fresh-requires
fresh-requires c =
    anew_can c.requires _ _ c.size_step.ensures _ _ (c.in_ok-stepped.was ∙ ap Some c.in-Anew.is) _ c.count_after-after.ensures

pub returns-in-Kept : goal.returns-in-Kept
returns-in-Kept c =
    rw (kept_run c.requires _ _ c.size_step.ensures _ (c.in_ok-stepped.was ∙ ap Some c.in-Kept.is)) c.walk.ensures

pub returns-in_ok-next-in-Anew : goal.returns-in_ok-next-in-Anew
unfolding rebuilt_to
returns-in_ok-next-in-Anew c =
    let rebuilt : c.fresh.result ≡ Some c.in_ok-next-in-Anew.next = search rules in
    anew_updated c.requires _ _ c.size_step.ensures _ _ (c.in_ok-stepped.was ∙ ap Some c.in-Anew.is) _ c.count_after-after.ensures
    _ _ _ _ c.rank.ensures c.fresh.ensures (rw rebuilt)

pub returns-in_err-next-in-Anew : goal.returns-in_err-next-in-Anew
unfolding rebuilt_to
returns-in_err-next-in-Anew c =
    let ended : c.fresh.result ≡ None = search rules in
    anew_updated c.requires _ _ c.size_step.ensures _ _ (c.in_ok-stepped.was ∙ ap Some c.in-Anew.is) _ c.count_after-after.ensures
    _ _ _ _ refl c.fresh.ensures (rw (c.from_residual-in_err-next-in-Anew.ensures, ended))

pub returns-in_err-stepped : goal.returns-in_err-stepped
returns-in_err-stepped c =
    rw c.from_residual.ensures (ended_updated c.requires _ _ c.size_step.ensures _ c.in_err-stepped.was)
