-- What the improvers ask of a run on a sheet without a closed leg: a run is allowed exactly when it is feasible. Assumes nothing.
use Prim.Native.Nat.{ℕ}
use mathlib.Core.Path.{◌≡◌, refl, sym}
use mathlib.Core.Bool.{Bool, true, false, not, ◌&&◌}
use mathlib.Core.List.{List}
use Rattle.std.specs.Prelude.{Option, None, Some}
use Rattle.basics.proofs.TestLaws.{by-test}
use Rattle.basics.specs.Options.{◌>>=◌, present, given}
use Rattle.basics.specs.Lists.{is_empty}
use Rattle.definitions.specs.Sheet.{Sheet}
use Rattle.definitions.specs.Run.{Run, Totals, fits, price}
use Rattle.definitions.specs.Clock.{clock, start_of, Arc, arc}
use Rattle.definitions.specs.Evaluation.{Evaluation, route_eval, route_feasible}
use Rattle.definitions.specs.Improver.{checks_needed, given_of, allowed}
use Rattle.definitions.specs.Refusals.{any_closed, Within}
use Rattle.theorems.proofs.Roads.{run-open}
use Rattle.theorems.proofs.Plain.{plain_of, plain-clock}
use Rattle.definitions.specs.Run as Run

module _ (s : Sheet) (W : Within s) (O : any_closed Some s.legs ≡ false) where
  -- without window, limit and break every run is feasible
  pub not-asked : checks_needed s ≡ false → (run : List ℕ) → route_feasible s run ≡ true
  unfolding route_feasible route_eval
  not-asked h run = let m = plain-clock s (plain_of s h) run _ (run-open s W O 0 run) in rw m.1 (rw m.2 refl)

  -- so a run that an improver may make is a feasible one, asked or not
  pub allowed-is : (run : List ℕ) → allowed (given_of s) run ≡ route_feasible s run
  allowed-is run = by-test (checks_needed s) (λ t. rw t refl) (λ f. rw f (sym (not-asked f run)))

module _ (s : Sheet) where
  -- a run is legal by the clock when it is not empty, fits, and is feasible
  pub arc-present : (run : List ℕ) → present (arc s run) ≡ not (is_empty run) && fits s run && route_feasible s run
  unfolding arc route_feasible route_eval
  arc-present run = go (clock s run)
    where
      never : (b : Bool) → false ≡ b && false
      never true = refl
      never false = refl

      one : (b a : Bool) (x : Arc) (y : Evaluation) → present (given (b && a) x) ≡ b && present (given a y)
      one true true x y = refl
      one true false x y = refl
      one false a x y = refl

      go : (o : Option Totals) → present (o >>= λ t. given {A = Arc} (not (is_empty run) && fits s run && Run.allowed s t) (record { place = t.place; cost = price s t.distance t.pay }))
          ≡ not (is_empty run) && fits s run && present (o >>= λ t. given {A = Evaluation} (Run.allowed s t) (record { totals = t; start = start_of s (record { calls = run; place = t.place }) }))
      go None = never (not (is_empty run) && fits s run)
      go (Some t) = one (not (is_empty run) && fits s run) (Run.allowed s t) _ _
