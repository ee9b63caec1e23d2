-- An entry put in or taken out in place changes the list as the change says.
use Rattle.std.specs.Prelude.{◌≡◌, List, ◌∷◌, ◌++◌, ℕ, suc, ◌+◌, ◌-◌, ◌≤◌, ◌<◌, length, drop}
use Rattle.std.proofs.Common.{◌∙◌, arith, take_at}
use Rattle.std.proofs.Math.Numerals.{add-one}
use Rattle.std.proofs.Math.ListN.{take}
use Rattle.std.proofs.Math.Seq.{take-take}
use Rattle.base.specs.ListLaws.{drop_take, length_part, length_joined}
use Rattle.tree_rules.specs.declared.Change.{Change}
use Rattle.tree_rules.specs.declared.Change.TheVariants.{Insert, Delete}
use Rattle.tree_rules.specs.Compare.{count_after}
use Rattle.tree_rules.specs.Rules.{InReach}
use Rattle.tree_rules.specs.ChangeList.{change_list}
use Rattle.store_slices.specs.Changed.{Changed}

module _ {change : Change} {i : ℕ} (n : ℕ) (reach : InReach change n) where
  pub insert_within : change ≡ Insert i → i ≤ n
  unfolding InReach
  insert_within is = rw is at reach

  pub delete_within : change ≡ Delete i → i < n
  unfolding InReach
  delete_within is = rw is at reach

module _ {change : Change} {old new : List ℕ} {n i e : ℕ} (reach : InReach change n) (kept : length new ≡ length old) where
  pub put_in_changed : change ≡ Insert i → n < length old → new ≡ take i old ++ (e ∷ take (n - i) (drop i old)) ++ drop (n + 1) old
      → Changed change e n old new
  unfolding count_after change_list
  put_in_changed insert room is =
      let within = insert_within n reach insert in
      let changed = e ∷ take (n - i) (drop i old) in
      record {
        entries = rw (insert, is, take-take i n old within, drop_take i n old)
            (take_at (take i old ++ changed) (drop (n + 1) old) (suc n)
            (length_joined i old changed (omega arith) ∙ omega (arith, length_part old i (n - i) (omega arith))));
        kept = kept;
      }

  pub take_out_changed : change ≡ Delete i → n < length old → new ≡ take i old ++ take (n - (i + 1)) (drop (i + 1) old) ++ drop (n - 1) old
      → Changed change e n old new
  unfolding count_after change_list
  take_out_changed delete room is =
      let within = delete_within n reach delete in
      let changed = take (n - (i + 1)) (drop (i + 1) old) in
      record {
        entries = rw (delete, is, take-take i n old (omega arith), ← add-one i, drop_take (i + 1) n old)
            (take_at (take i old ++ changed) (drop (n - 1) old) (n - 1)
            (length_joined i old changed (omega arith) ∙ omega (arith, length_part old (i + 1) (n - (i + 1)) (omega arith))));
        kept = kept;
      }
