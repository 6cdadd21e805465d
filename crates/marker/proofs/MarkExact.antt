-- On a sheet within the limits, held in floats, the mark of a cutting is that of crates/definitions. Assumes nothing.
use Prim.Native.Nat.{ℕ, suc, ◌+◌, ◌≤◌}
use native.Mathlib.Omega.{arith}
use native.Mathlib.Nat.{zero-add, add-zero, add_assoc}
use mathlib.Core.Path.{◌≡◌, refl, ap, ◌∙◌}
use mathlib.Core.Bool.{false}
use mathlib.Core.List.{List, [], ◌∷◌}
use Rattle.std.specs.Prelude.{Option, None, Some}
use lib.ListN.{length}
use lib.Dec.{ltb}
use borrow.Author.Tests.{ltb-true}
use Rattle.basics.proofs.TestLaws.{by-test}
use Rattle.basics.specs.Options.{value_or}
use Rattle.basics.specs.Lists.{All}
use Rattle.definitions.specs.Domain.{most_calls}
use Rattle.definitions.specs.Sheet.{Sheet}
use Rattle.definitions.specs.Run.{Run, run_cost}
use Rattle.definitions.specs.RunList.{runs_of, calls_of}
use Rattle.definitions.specs.Cutting.{joined, cutting_cost}
use Rattle.definitions.specs.Drop.{Result}
use Rattle.definitions.specs.Refusals.{ends_fall, empty_run, Within, WithinCalls}
use Rattle.definitions.specs.Marker as Whole
use Rattle.definitions.specs.Marker.{with_places, other_calls, differ, run_fault, first_fault, against, mark_against}
use Rattle.theorems.proofs.RunListLaws.{RiseTo, calls_back}
use Rattle.bounds.specs.Sized.{Sized}
use Rattle.bounds.proofs.Inside.{sized, few-calls, calls-inside}
use Rattle.bounds.proofs.CostBoundLaws.{cost-fits, cutting-cost-most}
use Rattle.whole.specs.Whole.{fl, limit}
use Rattle.whole.proofs.WholeLaws.{fl-sub, fl-lt, fl-sum}
use Rattle.marker.specs.declared.verdict.Verdict.TheVariants.{OtherCalls}
use Rattle.marker.specs.RunMark.{Ground, run_mark_f}
use Rattle.marker.specs.Marks.{runs_mark_f, against_f, verdict_f, mark_f}
use Rattle.marker.specs.Image.{fl_verdict, fl_marked, Image}
use Rattle.theorems.proofs.GivenRuns.{rises, with-calls, with_all, Filled, runs-filled}
use Rattle.marker.proofs.GivenRuns.{Inside, runs-inside}
use Rattle.marker.proofs.RunExact.{run-exact}

-- ---- the runs' mark

module _ (s : Sheet) (S : Sized s) (G : Ground) (I : Image s G) where
  runs-exact : (n total : ℕ) (rs : List Run) → All (λ (r : Run). Inside s r.calls) rs → total + cutting_cost s rs ≤ limit
      → runs_mark_f G n (fl total) rs ≡ fl_marked (first_fault s n rs) (total + cutting_cost s rs)
  unfolding runs_mark_f
  runs-exact n total [] i h = rw (add-zero total)
  runs-exact n total (r ∷ rs) i h = go (run_fault s n r) refl (runs-exact (suc n) (total + run_cost s r) rs i.1 (omega arith))
    where
      here : run_mark_f G n r.calls r.place ≡ fl_marked (run_fault s n r) (run_cost s r)
      here = run-exact s S G I n r.place r.calls i.0.0 i.0.1

      go : (o : Option Whole.Verdict) → run_fault s n r ≡ o
          → runs_mark_f G (suc n) (fl (total + run_cost s r)) rs ≡ fl_marked (first_fault s (suc n) rs) (total + run_cost s r + cutting_cost s rs)
          → runs_mark_f G n (fl total) (r ∷ rs) ≡ fl_marked (first_fault s n (r ∷ rs)) (total + cutting_cost s (r ∷ rs))
      go (Some v) e ih = rw (here ∙ ap (λ (o : Option Whole.Verdict). fl_marked o (run_cost s r)) e, runs_mark_f, e)
      go None e ih =
          rw (here ∙ ap (λ (o : Option Whole.Verdict). fl_marked o (run_cost s r)) e, runs_mark_f, e)
          (rw (fl-sum total (run_cost s r) (omega arith)) (ih ∙ ap (λ (c : ℕ). fl_marked (first_fault s (suc n) rs) c) (add_assoc total (run_cost s r) (cutting_cost s rs))))

-- ---- against the planner's cost

module _ (planner cost : ℕ) (p : planner ≤ limit) (q : cost ≤ limit) where
  against-exact : against_f (fl planner) (fl cost) ≡ fl_verdict (against planner cost)
  unfolding against_f
  against-exact =
      rw (fl-lt planner cost p q, fl-lt cost planner q p)
      (by-test (ltb planner cost) (λ t. let h = ltb-true planner cost t in rw (t, fl-sub cost planner q p (omega arith)))
      (λ f. by-test (ltb cost planner) (λ t. let h = ltb-true cost planner t in rw (f, t, fl-sub planner cost p q (omega arith))) (λ g. rw (f, g))))

  verdict-exact : (o : Option Whole.Verdict) → verdict_f (fl planner) (fl_marked o cost) ≡ fl_verdict (value_or (against planner cost) o)
  verdict-exact None = against-exact
  verdict-exact (Some v) = refl

-- ---- the mark

module _ (s : Sheet) (W : Within s) (G : Ground) (I : Image s G) (plan : Result) (paid : plan.cost ≤ limit)
    (calls : List ℕ) (C : WithinCalls s calls) (ends : List ℕ) (rise : ends_fall 0 ends (length calls) ≡ false) (filled : empty_run 0 ends ≡ false) (breaks : List ℕ) where
  abbrev runs : List Run
  runs = with_places (runs_of calls ends) breaks

  rising : RiseTo 0 ends (0 + length calls)
  rising = rw (zero-add (length calls)) (rises 0 ends (length calls) rise)

  joined_back : joined runs ≡ calls
  joined_back = ap calls_of (with-calls (runs_of calls ends) breaks) ∙ calls_back 0 calls ends rising

  cost-in-limit : cutting_cost s runs ≤ limit
  cost-in-limit =
      let few : length (joined runs) ≤ most_calls = omega (arith, ap length joined_back, few-calls s calls C) in
      cost-fits (length (joined runs)) (cutting_cost s runs) few
      (cutting-cost-most s (sized s W) runs (with_all Filled (runs_of calls ends) breaks (runs-filled 0 calls ends rising filled)) few)

  marked : runs_mark_f G 1 (fl 0) runs ≡ fl_marked (first_fault s 1 runs) (cutting_cost s runs)
  marked =
      runs-exact s (sized s W) G I 1 0 runs (with_all (Inside s) (runs_of calls ends) breaks (runs-inside s 0 calls ends (few-calls s calls C, calls-inside s calls C))) (omega (arith, cost-in-limit))
      ∙ ap (fl_marked (first_fault s 1 runs)) (zero-add (cutting_cost s runs))

  -- by the limits of the Domain, and what refusal 5 leaves of run ends
  pub mark-exact : mark_f G plan.served (fl plan.cost) calls ends breaks ≡ fl_verdict (mark_against s plan runs)
  unfolding mark_f mark_against
  mark-exact = rw (joined_back, mark_against) (go (differ 1 calls plan.served))
    where
      go : (o : Option ℕ)
          → elim o [
            | Some position ↦ OtherCalls position
            | None ↦ verdict_f (fl plan.cost) (runs_mark_f G 1 (fl 0) runs)
          ]
          ≡ fl_verdict (elim o [
            | Some position ↦ other_calls position
            | None ↦ value_or (against plan.cost (cutting_cost s runs)) (first_fault s 1 runs)
          ])
      go (Some position) = refl
      go None = rw marked (verdict-exact plan.cost (cutting_cost s runs) paid cost-in-limit (first_fault s 1 runs))
