-- The contract of the visits of a run. Assumes nothing.
use Prim.Native.Nat.{ℕ}
use mathlib.Core.Path.{◌≡◌, refl, sym, ap, ap₂, subst, ◌∙◌}
use mathlib.Core.List.{List, [], ◌∷◌, map}
use Rattle.std.specs.Prelude.{Option, None, Some}
use lib.ListN.{length, take, drop, length-map}
use lib.Seq.{take-append_seam}
use Rattle.definitions.specs.Room.{written}
use Rattle.definitions.specs.Visits as Whole
use Rattle.definitions.specs.Visits.{build_route}
use Rattle.definitions.specs.Lent.{visiting}
use Rattle.definitions.specs.Refusals.{refusal_of}
use Rattle.definitions.specs.Answers.{Answer, refused, gives, front, unless_refused, answer}
use Rattle.whole.specs.Value.{value}
use Rattle.visits.specs.declared.visit.Violation.{Violation}
use Rattle.visits.specs.Image.{fl_visit, fl_violation}
use Rattle.visits.proofs.Figures.{same_number, same-values}
use Rattle.call_runs.specs.declared.visiting.Route as Answered
use Rattle.call_runs.specs.Visiting.{route_in}
use Rattle.planner.specs.Calls.{LentSheet, meant}
use Rattle.planner.specs.Visiting.{RouteOutput, route_output, route_refusal, IfBuilt, AllByFigures, visit_on, visit_answer, VisitContract}
use Rattle.planner.proofs.Refusing.{number_of, refuses, leaves_all}

map_both : {A B C : Type 0} (f : A → B) (g : B → C) (h : A → C) → ((x : A) → g (f x) ≡ h x) → (l : List A) → map g (map f l) ≡ map h l
map_both f g h e [] = refl
map_both {C} f g h e (x ∷ l) = ap₂ (λ (y : C) (m : List C). y ∷ m) (e x) (map_both f g h e l)

held-figures : (ws : List Whole.Violation) → AllByFigures (map fl_violation ws) ws
held-figures ws = record { numbers = map_both fl_violation _ _ same_number ws; values = map_both fl_violation _ _ same-values ws }

front-figures : (ws : List Whole.Violation) (old : List Violation) → AllByFigures (take (length ws) (written (map fl_violation ws) old)) ws
front-figures ws old =
    subst (λ (l : List Violation). AllByFigures l ws)
    (sym (ap (λ (n : ℕ). take n (written (map fl_violation ws) old)) (sym (length-map ws fl_violation))
    ∙ take-append_seam (map fl_violation ws) (drop (length (map fl_violation ws)) old)))
    (held-figures ws)

module _ (x : Whole.Route) (old : List Violation) where
  given-figures : (refusal : Option ℕ) → let a = unless_refused refusal x in
      IfBuilt (route_in a) (λ f. AllByFigures (take f.violations (written (map fl_violation (front (λ y. y.violations) a)) old)) x.violations)
  given-figures (Some number) = tt
  given-figures None = front-figures x.violations old

  -- so it is of the answer and of the list that is left
  figures-of : (refusal : Option ℕ) (r : Answered.Route) (left : List Violation) → let a = unless_refused refusal x in
      r ≡ route_in a → left ≡ written (map fl_violation (front (λ y. y.violations) a)) old → IfBuilt r (λ f. AllByFigures (take f.violations left) x.violations)
  figures-of refusal r left e q =
      subst (λ (z : Answered.Route × List Violation). IfBuilt z.0 (λ f. AllByFigures (take f.violations z.1) x.violations)) (λ i. (sym e i, sym q i)) (given-figures refusal)

same_route : (a : Answer Whole.Route) → route_refusal (route_in a) ≡ number_of a
same_route (refused number) = refl
same_route (gives x) = refl

module _ (q : LentSheet) (run : List ℕ) (old : RouteOutput) where
  -- the lists, with an answer written into them
  abbrev pub left : Answer Whole.Route → RouteOutput
  left a = route_output (written (map fl_visit (front (λ x. x.visits) a)) old.visits) (written (map fl_violation (front (λ x. x.violations) a)) old.violations)

  figures : {r : Answered.Route} {vs : List Violation} → r ≡ route_in (visit_answer q run old) → vs ≡ (left (visit_answer q run old)).violations
      → IfBuilt r (λ f. AllByFigures (take f.violations vs) (build_route (meant q) run).violations)
  unfolding answer
  figures is left_is = figures-of (build_route (meant q) run) old.violations (refusal_of value visiting (visit_on q run old)) _ _ is left_is

  pub kept : {r : Answered.Route} {new : RouteOutput} → r ≡ route_in (visit_answer q run old) → new ≡ left (visit_answer q run old) → VisitContract q run old r new
  kept is left_is =
      record {
        result = is;
        visits-left = λ i. (left_is i).visits;
        violations-left = λ i. (left_is i).violations;
        refused = refuses route_in route_refusal same_route visiting (λ s. build_route s run) (visit_on q run old) is;
        untouched = leaves_all route_in route_refusal same_route left old (λ number. refl) (visit_answer q run old) is left_is;
        figures = figures is (λ i. (left_is i).violations);
      }
