-- On a sheet within the limits the drops of `split_tw` on floats are those of crates/definitions. Assumes nothing.
use Prim.Native.Nat.{ℕ, zero, suc, ◌≤◌, ◌<◌}
use native.Mathlib.Omega.{arith}
use native.Mathlib.Nat.{le_refl, le_trans}
use mathlib.Core.Path.{◌≡◌, refl, sym, ap, ◌∙◌}
use mathlib.Core.Bool.{Bool, true, false}
use mathlib.Core.List.{List, [], ◌∷◌}
use Rattle.std.specs.Prelude.{Option, None, Some}
use lib.ListN.{length, take, length-map}
use Rattle.basics.specs.Options.{present}
use Rattle.basics.specs.Lists.{All, without}
use Rattle.bounds.specs.Sized.{Sized, Place}
use Rattle.bounds.proofs.Inside.{held-inside}
use Rattle.bounds.proofs.CostBoundLaws.{arcs-priced}
use Rattle.cut_theory.specs.First.{find}
use Rattle.cut_theory.proofs.FirstLaws.{first-none, first_some}
use Rattle.definitions.specs.Domain.{most_calls}
use Rattle.definitions.specs.Sheet.{Sheet, customer}
use Rattle.definitions.specs.Clock.{Arc}
use Rattle.definitions.specs.Placement.{arc_by}
use Rattle.definitions.specs.Cutting.{Best, cheapest, stuck}
use Rattle.definitions.specs.Drop.{call_at, calls_at, Held, drop_at, all_held, drop_from, drops}
use Rattle.theorems.proofs.Least.{best_of, best-reach}
use Rattle.theorems.proofs.Shortest.{Cuttable, Stuck, never, at_call, stuck-is}
use Rattle.evaluation.specs.Tables.{demand_f}
use Rattle.placements.specs.Chosen.{placement_of}
use Rattle.cut_runs.specs.Runs.{Instance}
use Rattle.cut_drops.specs.Drops.{have_f, stuck_f, drop_from_f, drops_f}
use Rattle.cut_exact.proofs.TableExact.{has-exact}
use Rattle.cut_exact.proofs.SplitTwExact.{ImageTw, X, run_is}

-- ---- which beginning is the shortest without a cutting

module _ (arc : List ℕ → Option Arc) (no_run : arc [] ≡ None) where
  cuttable-has : (l : List ℕ) → Cuttable arc l → present (cheapest arc l) ≡ true
  cuttable-has l c = let m = (best_of arc no_run l).below c.0 c.1 in ap present m.1

  uncuttable-none : (l : List ℕ) → (Cuttable arc l → ⊥) → present (cheapest arc l) ≡ false
  uncuttable-none l x = go (cheapest arc l) refl
    where
      go : (o : Option Best) → cheapest arc l ≡ o → present o ≡ false
      go None e = refl
      go (Some b) e = absurd (x (b.cost, best-reach arc l (cheapest arc l) (best_of arc no_run l) b e))

  -- the search of the beginnings one by one finds it
  found-stuck : (have : ℕ → Bool) (calls : List ℕ) → ((j : ℕ) → j ≤ length calls → have j ≡ present (cheapest arc (take j calls)))
      → find (λ k. have (suc k)) (length calls) 0 ≡ stuck arc calls
  found-stuck have calls h = go (stuck-is arc no_run calls)
    where
      go : Stuck arc calls (stuck arc calls) → find (λ k. have (suc k)) (length calls) 0 ≡ stuck arc calls
      go (never e a) =
          first-none (λ k. have (suc k)) (length calls) (length calls)
          (record { within = le_refl (length calls); passes = λ k b. h (suc k) b ∙ cuttable-has (take (suc k) calls) (a (suc k) b); fails = λ b. absurd (clash b) }) (le_refl (length calls))
          ∙ sym e
        where
          clash : length calls < length calls → ⊥
          clash b = omega arith
      go (at_call k e b x a) =
          first_some (λ k. have (suc k)) (length calls) k
          (record {
            within = omega arith;
            passes = λ m c. h (suc m) (le_trans c (omega arith)) ∙ cuttable-has (take (suc m) calls) (a (suc m) c);
            fails = λ c. h (suc k) c ∙ uncuttable-none (take (suc k) calls) x;
          })
          b
          ∙ sym e

-- ---- the drops

shorter : {A : Type 0} (k : ℕ) (l : List A) → length (without k l) ≤ length l
shorter k [] = omega arith
shorter zero (x ∷ l) = omega arith
shorter (suc k) (x ∷ l) = omega (arith, shorter k l)

module _ (s : Sheet) (S : Sized s) (I : Instance) (M : ImageTw s I) (demand-exact : (c : ℕ) → Place s c → demand_f I.tables.customers c ≡ (customer s c).demand)
    (tour : List ℕ) (inside : All (Place s) tour) where
  abbrev arcs : List ℕ → Option Arc
  arcs = arc_by (placement_of I.placement) s

  module _ (h : Held) (few : length h.held ≤ most_calls) where
    abbrev calls : List ℕ
    calls = calls_at tour h.held

    pub calls-few : length calls ≤ most_calls
    calls-few = omega (arith, length-map h.held (call_at tour))

    stuck-exact : stuck_f I calls ≡ stuck arcs calls
    stuck-exact =
        let ins = held-inside s S tour h.held inside in
        found-stuck arcs (arcs-priced s S (placement_of I.placement)).no_run (have_f I calls) calls
        (λ j b. has-exact (X s S I M calls ins calls-few demand-exact) (run_is s S I M calls ins calls-few demand-exact) j b)

  drop-from-exact : (turns : ℕ) (h : Held) → length h.held ≤ most_calls → drop_from_f I tour turns h ≡ drop_from arcs tour turns h
  unfolding drop_from_f drop_from
  drop-from-exact zero h few = refl
  drop-from-exact (suc turns) h few =
      rw (stuck-exact h few, drop_from_f, drop_from) (go (stuck arcs (calls_at tour h.held)) (λ k. drop-from-exact turns (drop_at k h) (le_trans (shorter k h.held) few)))
    where
      go : (o : Option ℕ) → ((k : ℕ) → drop_from_f I tour turns (drop_at k h) ≡ drop_from arcs tour turns (drop_at k h))
          → ◌≡◌ {A = Held} (elim o [
            | None ↦ h
            | Some k ↦ drop_from_f I tour turns (drop_at k h)
          ]) (elim o [
            | None ↦ h
            | Some k ↦ drop_from arcs tour turns (drop_at k h)
          ])
      go None ih = refl
      go (Some k) ih = ih k

  pub drops-exact : length (all_held tour).held ≤ most_calls → drops_f I tour ≡ drops arcs tour
  unfolding drops_f drops
  drops-exact few = drop-from-exact (length tour) (all_held tour) few
