-- Tied groups: every rank is in exactly one.
use Rattle.std.specs.Prelude.{Bool, true, false, ◌≡◌}
use Rattle.std.proofs.Common.{◌∙◌, ap, not-suc-le-zero}
use Rattle.std.proofs.Math.Logic.{⊎_elim}
use Prim.Native.Nat.{ℕ, zero, suc, ◌+◌, ◌-◌, ◌≤◌, ◌<◌}
use native.Mathlib.Omega.{arith}
use Rattle.base.specs.BoolLaws.{not_true_false}
use Rattle.base.specs.CaseLaws.{lt_or_ge}
use Rattle.store_ties.specs.Groups.{Run, Group, group_first, tied_from, group_end}
use Rattle.store_ties.specs.StepLaws.{by_tie, first_untied, first_tied, from_untied, from_tied}

clash : {b : Bool} → b ≡ true → b ≡ false → ⊥
clash is not = let z : ◌≡◌ {A = ℕ} 0 1 = cc in omega arith

equal_unless : {m n : ℕ} → (m < n → ⊥) → (n < m → ⊥) → m ≡ n
equal_unless {m} {n} f g = ⊎_elim (λ h. absurd (f h)) (λ h. ⊎_elim (λ l. absurd (g l)) (λ l. omega arith) (lt_or_ge n m)) (lt_or_ge m n)

module _ (tied : ℕ → Bool) where
  -- ---- the first boat

  first_before : (i : ℕ) → tied (suc i) ≡ true → group_first tied (suc i) ≡ group_first tied i
  first_before i is = let before : suc i - 1 ≡ i = omega arith in first_tied tied (suc i) is ∙ ap (group_first tied) before

  pub first_most : (i : ℕ) → group_first tied i ≤ i
  unfolding group_first
  first_most zero = omega arith
  first_most (suc i) =
      by_tie tied (suc i) (λ is. omega (arith, first_before i is, first_most i)) (λ is. omega (arith, first_untied tied (suc i) is))

  first_linked : (i j : ℕ) → group_first tied i < j → j ≤ i → tied j ≡ true
  unfolding group_first
  first_linked zero j above below = absurd (omega (arith, above, below))
  first_linked (suc i) j above below =
      by_tie tied (suc i)
      (λ is. ⊎_elim
      (λ (less : j < suc i). first_linked i j (omega (arith, above, first_before i is)) (omega arith))
      (λ (same : suc i ≤ j). let here : j ≡ suc i = omega arith in rw here is)
      (lt_or_ge j (suc i)))
      (λ is. absurd (omega (arith, above, below, first_untied tied (suc i) is)))

  first_stops : (i : ℕ) → 0 < group_first tied i → tied (group_first tied i) ≡ false
  unfolding group_first
  first_stops zero pos = absurd (not-suc-le-zero pos)
  first_stops (suc i) pos =
      by_tie tied (suc i)
      (λ is. rw (first_before i is) (first_stops i (omega (arith, pos, first_before i is))))
      (λ is. rw (first_untied tied (suc i) is) is)

  -- ---- the boats behind

  pub from_most : (k i : ℕ) → tied_from tied k i ≤ k
  unfolding tied_from
  from_most zero i = omega arith
  from_most (suc k) i = by_tie tied i (λ is. omega (arith, from_tied tied k i is, from_most k (suc i))) (λ is. omega (arith, from_untied tied (suc k) i is))

  from_linked : (k i j : ℕ) → i ≤ j → j < i + tied_from tied k i → tied j ≡ true
  unfolding tied_from
  from_linked zero i j above below = absurd (omega (arith, above, below))
  from_linked (suc k) i j above below =
      by_tie tied i
      (λ is. ⊎_elim
      (λ (less : i < j). from_linked k (suc i) j less (omega (arith, below, from_tied tied k i is)))
      (λ (same : j ≤ i). let here : j ≡ i = omega arith in rw here is)
      (lt_or_ge i j))
      (λ is. absurd (omega (arith, above, below, from_untied tied (suc k) i is)))

  from_stops : (k i : ℕ) → tied_from tied k i < k → tied (i + tied_from tied k i) ≡ false
  unfolding tied_from
  from_stops zero i less = absurd (not-suc-le-zero less)
  from_stops (suc k) i less =
      by_tie tied i
      (λ is.
      let behind : i + tied_from tied (suc k) i ≡ suc i + tied_from tied k (suc i) = omega (arith, from_tied tied k i is) in
      rw behind (from_stops k (suc i) (omega (arith, less, from_tied tied k i is))))
      (λ is. let none : i + tied_from tied (suc k) i ≡ i = omega (arith, from_untied tied (suc k) i is) in rw none is)

  pub end_above : (N i : ℕ) → i < group_end tied N i
  unfolding group_end
  end_above N i = omega arith

  pub end_most : (N i : ℕ) → i < N → group_end tied N i ≤ N
  unfolding group_end
  end_most N i below = omega (arith, from_most (N - suc i) (suc i))

  end_linked : (N i j : ℕ) → i < j → j < group_end tied N i → tied j ≡ true
  unfolding group_end
  end_linked N i j above below = from_linked (N - suc i) (suc i) j above below

  end_stops : (N i : ℕ) → group_end tied N i < N → tied (group_end tied N i) ≡ false
  unfolding group_end
  end_stops N i less = from_stops (N - suc i) (suc i) (omega (arith, less))

  -- ---- groups

  module _ {N first end : ℕ} where
    -- A run is a group exactly when neither its first boat nor the one behind it tied with the boat before.
    pub run_group : Run tied N first end → (0 < first → tied first ≡ false) → (end < N → tied end ≡ false) → Group tied N first end
    run_group run before behind = record {
      run = run;
      longest = λ first' end' other from to. (
        equal_unless
            (λ (less : first' < first). clash (other.linked first less (omega (arith, run.some))) (before (omega arith)))
            (λ (more : first < first'). omega arith),
        equal_unless
            (λ (less : end' < end). omega arith)
            (λ (more : end < end'). clash (other.linked end (omega (arith, run.some)) more) (behind (omega (arith, other.within)))),
      );
    }

    -- So it is with every group.
    group_first_lem : Group tied N first end → 0 < first → tied first ≡ false
    group_first_lem w pos = not_true_false (tied first) (λ is. omega (arith, (w.longest (first - 1) end (longer is) (omega arith) (omega arith)).0))
      where
        longer : tied first ≡ true → Run tied N (first - 1) end
        longer is = record {
          some = omega (arith, w.run.some);
          within = w.run.within;
          linked = λ j above below.
              ⊎_elim
              (λ (less : first < j). w.run.linked j less below)
              (λ (least : j ≤ first). let here : j ≡ first = omega arith in rw here is)
              (lt_or_ge first j);
        }

    group_end_lem : Group tied N first end → end < N → tied end ≡ false
    group_end_lem w less = not_true_false (tied end) (λ is. omega (arith, (w.longest first (suc end) (longer is) (omega arith) (omega arith)).1))
      where
        longer : tied end ≡ true → Run tied N first (suc end)
        longer is = record {
          some = omega (arith, w.run.some);
          within = less;
          linked = λ j above below.
              ⊎_elim
              (λ (inside : j < end). w.run.linked j above inside)
              (λ (least : end ≤ j). let here : j ≡ end = omega arith in rw here is)
              (lt_or_ge j end);
        }

  module _ (N i : ℕ) where
    -- The group of a rank is a tied group, and has the rank.
    pub in_group : i < N → Group tied N (group_first tied i) (group_end tied N i) × (group_first tied i ≤ i) × (i < group_end tied N i)
    in_group below = (run_group run (first_stops i) (end_stops N i), first_most i, end_above N i)
      where
        run : Run tied N (group_first tied i) (group_end tied N i)
        run = record {
          some = omega (arith, first_most i, end_above N i);
          within = end_most N i below;
          linked = λ j above within.
              ⊎_elim (λ (behind : i < j). end_linked N i j behind within) (λ (before : j ≤ i). first_linked i j above before) (lt_or_ge i j);
        }

    -- No other one has it.
    pub only_group : (first end : ℕ) → Group tied N first end → first ≤ i → i < end → (first ≡ group_first tied i) × (end ≡ group_end tied N i)
    only_group first end w from to =
        let below : i < N = omega (arith, w.run.within) in (
          equal_unless
              (λ (less : first < group_first tied i).
              clash (w.run.linked (group_first tied i) less (omega (arith, first_most i))) (first_stops i (omega arith)))
              (λ (more : group_first tied i < first). clash (first_linked i first more from) (group_first_lem w (omega arith))),
          equal_unless
              (λ (less : end < group_end tied N i). clash (end_linked N i end to less) (group_end_lem w (omega (arith, end_most N i below))))
              (λ (more : group_end tied N i < end).
              clash (w.run.linked (group_end tied N i) (omega (arith, end_above N i)) more) (end_stops N i (omega (arith, w.run.within)))),
        )
