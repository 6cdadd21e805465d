-- A run that is longer than its limit is not feasible. Assumes nothing.
use Prim.Native.Nat.{ℕ}
use mathlib.Core.Path.{◌≡◌, refl, sym, ap, ◌∙◌}
use mathlib.Core.Bool.{false}
use mathlib.Core.List.{List}
use Rattle.std.specs.Prelude.{Option, None, Some}
use Rattle.basics.specs.Options.{◌>>=◌, present, given}
use Rattle.definitions.specs.Sheet.{Sheet}
use Rattle.definitions.specs.Limits.{within}
use Rattle.definitions.specs.Run.{Totals, distance_from}
use Rattle.definitions.specs.Run as Run
use Rattle.definitions.specs.Clock.{clock, start_of}
use Rattle.definitions.specs.Evaluation.{Evaluation, route_eval, route_feasible}
use Rattle.basics.proofs.OptionLaws.{same}
use Rattle.theorems.proofs.Roads.{home-has}
use Rattle.theorems.proofs.Legality.{ticked}

pub far-infeasible : (s : Sheet) (run : List ℕ) (d : ℕ) → distance_from s 0 run ≡ Some d → within s.head.max_distance d ≡ false → route_feasible s run ≡ false
unfolding route_feasible route_eval
far-infeasible s run d far e = go (clock s run) refl
  where
    go : (o : Option Totals) → clock s run ≡ o
        → present (o >>= λ t. given {A = Evaluation} (Run.allowed s t) (record { totals = t; start = start_of s (record { calls = run; place = t.place }) })) ≡ false
    go None q = refl
    go (Some t) q =
        let x = ticked s run t q in
        let y = home-has s run x.2 t x.4 in
        let same-far : t.distance ≡ d = sym (ap (λ (u : Totals). u.distance) y.4) ∙ same (sym y.1 ∙ far) in
        rw (same-far, e)
