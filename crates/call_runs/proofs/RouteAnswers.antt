-- The answer of `build_route` and what it writes: refused with nothing written, or the counts of the lists that are written, for which there is room. Assumes nothing.
use Prim.Native.Nat.{ℕ, suc, ◌≤◌, zero-le, min}
use native.Mathlib.Omega.{arith}
use native.Mathlib.Nat.{le_refl}
use mathlib.Core.Path.{◌≡◌, refl, sym, ap, subst, ◌∙◌}
use mathlib.Core.List.{List, [], ◌∷◌}
use Rattle.std.specs.Prelude.{Option, None, Some}
use lib.ListN.{length, take, length-map}
use lib.Ieee.{Float}
use Rattle.basics.proofs.TestLaws.{not-false}
use Rattle.definitions.specs.Domain.{is_places}
use Rattle.definitions.specs.Load.{Load, no_load}
use Rattle.definitions.specs.Sheet.{SheetOf, Sheet}
use Rattle.definitions.specs.Run.{Label, start, first_closed}
use Rattle.definitions.specs.Clock.{clock, place_or}
use Rattle.definitions.specs.Visits as Whole
use Rattle.definitions.specs.Visits.{visits_from, open_route, build_route}
use Rattle.definitions.specs.Lent.{Lent, violation_room, visiting}
use Rattle.definitions.specs.Room.{written}
use Rattle.definitions.specs.Answers.{Answer, gives}
use Rattle.theorems.proofs.Visiting.{route-closed, route-open}
use Rattle.theorems.proofs.Violations.{violations-room}
use Rattle.models.specs.declared.customer.Customer.{Customer}
use Rattle.models.specs.declared.head.Head.{Head}
use Rattle.models.specs.Load.{space_of}
use Rattle.lending.proofs.Lists.{written-room}
use Rattle.byte_lists.proofs.Widened.{zeros}
use Rattle.refuse_order.specs.Lent.{sheet_of}
use Rattle.refuse_order.specs.Order.{Refuses, Images}
use Rattle.evaluation.specs.Records.{LimitsF, Tables, lent, limits_of}
use Rattle.visits.specs.declared.evaluator.Built.{Built}
use Rattle.visits.specs.Visiting.{load_in}
use Rattle.visits.specs.Building.{RouteF, Builds, built_of, build_route_f}
use Rattle.visits.specs.Image.{fl_visit, fl_violation, fl_route}
use Rattle.visits.proofs.BuildExact.{built-exact}
use Rattle.call_runs.specs.declared.visiting.Listed.{Listed}
use Rattle.call_runs.specs.declared.visiting.Route.TheVariants as Cases
use Rattle.call_runs.specs.Evaluating.{start_in}
use Rattle.call_runs.specs.Visiting.{visit_lent, route_answer, figures_of, figures_in, refused_by, given_by, Lists, ListsFrom}
use Rattle.call_shared.proofs.Accepting.{accepts, given-exact, meant, limits-held, tables-hold}
use Rattle.call_shared.proofs.CallAnswers.{accepted, calls-read, refused-call}
use Rattle.call_runs.proofs.EvalCase.{start-in}

-- ---- a route that the code holds

-- a visit for each call
visits-counted : (s : Sheet) (place k a : ℕ) (l : Label) (n : Load) (calls : List ℕ) → length (visits_from s place k a l n calls) ≡ length calls
unfolding visits_from
visits-counted s place k a l n [] = refl
visits-counted s place k a l n (c ∷ cs) = ap suc (visits-counted s place (suc k) c _ _ cs)

-- and none of a run with a closed leg
route-counted : (s : Sheet) (calls : List ℕ) → length (build_route s calls).visits ≤ length calls
unfolding open_route
route-counted s calls = go (first_closed s calls) refl
  where
    go : (o : Option ℕ) → first_closed s calls ≡ o → length (build_route s calls).visits ≤ length calls
    go (Some leg) e = rw (route-closed s calls leg e) zero-le
    go None e = rw (route-open s calls e, visits-counted s (place_or (clock s calls)) 1 0 start no_load calls) (le_refl (length calls))

module _ (t : Tables) (capacity : Load) (limits : LimitsF) (s : Sheet) (run : List ℕ) (b : Built) (B : Builds t capacity limits run b)
    (exact : build_route_f t capacity limits run ≡ fl_route (build_route s run)) where
  abbrev x : Whole.Route
  x = build_route s run

  held : built_of b ≡ fl_route x
  held = B.built-is ∙ exact

  count_held : b.count ≡ length x.visits
  count_held = B.count-is ∙ ap (λ (r : RouteF). length r.visits) exact ∙ length-map x.visits fl_visit

  found-held : b.found ≡ length x.violations
  found-held = B.found-is ∙ ap (λ (r : RouteF). length r.violations) exact ∙ length-map x.violations fl_violation

  start-held : b.start ≡ start_in (fl_route x).start
  start-held = sym (start-in b.start) ∙ ap (λ (r : RouteF). start_in r.start) held

  figures-held : figures_in b ≡ figures_of x
  figures-held = λ i.
      record {
        visits = count_held i;
        violations = found-held i;
        distance = (held i).totals.distance;
        duration = (held i).totals.duration;
        lateness = (held i).totals.lateness;
        lateness_cost = (held i).totals.cost;
        load = load_in (held i).load;
        place = (held i).totals.place;
        start = start-held i;
      }

  lists-built : (visits violations : ℕ) → length run ≤ visits → violation_room (length run) ≤ violations → Lists (gives x) visits violations (given_by b)
  lists-built visits violations v w =
      record {
        route-is = ap Cases.Built figures-held;
        visits-are = ap (λ (r : RouteF). r.visits) held;
        violations-are = ap (λ (r : RouteF). r.violations) held;
        visits-fit = omega (arith, count_held, route-counted s run, v);
        violations-fit = omega (arith, found-held, violations-room s run, w);
      }

-- ---- by the number that the checks give

module _
    (head : Head) (array : List Customer) (count : ℕ) (distances times : List Float) (run : List ℕ) (visits violations number : ℕ)
    (refuses : Refuses visiting (λ cs. visit_lent head cs distances times run visits violations) count array number)
  where
    abbrev lent_with : List Customer → Lent Float
    lent_with cs = visit_lent head cs distances times run visits violations

    abbrev answered : List Customer → Answer Whole.Route
    answered = route_answer head distances times run visits violations

    -- an accepted run stands whole in an array that it is read into
    pub run-read : number ≡ 0 → length array ≡ 64 → (held : List ℕ) (n : ℕ) → n ≡ min (length run) (length zeros) → held ≡ written (take (length zeros) run) zeros → take n held ≡ run
    run-read = calls-read visiting head array count distances times [] run [] [] (visits ∷ violations ∷ []) number refuses

    pub refused-lists : (number ≡ 0 → ⊥) → (r : Listed) → r ≡ refused_by number → ListsFrom answered visits violations count array r
    refused-lists h r e cs G =
        subst (λ (o : Answer Whole.Route). Lists o visits violations r)
        (refused-call visiting head array count distances times [] run [] [] (visits ∷ violations ∷ []) number refuses (λ a. a) (λ s. build_route s run) h cs G)
        (rw e (record { route-is = refl; visits-are = refl; violations-are = refl; visits-fit = zero-le; violations-fit = zero-le }))

    pub given-lists : Images (λ cs. sheet_of head cs distances times) count array number → number ≡ 0
        → (b : Built) → Builds (lent array distances times head.places) (space_of head.capacity) (limits_of head.limits) run b
        → (r : Listed) → r ≡ given_by b → ListsFrom answered visits violations count array r
    given-lists images z b B r e cs G =
        let s = meant head cs distances times in
        let t = lent array distances times head.places in
        let a = accepted visiting head array count distances times [] run [] [] (visits ∷ violations ∷ []) number refuses z cs G in
        let held = images z cs G in
        let tables = tables-hold head cs distances times count array G held (not-false (is_places head.places) a.ranged.places) a.customers in
        let exact =
        ap (λ (c : Load). build_route_f t c (limits_of head.limits) run) (ap (λ (s : SheetOf Float). s.head.capacity) held)
        ∙ ap (λ (L : LimitsF). build_route_f t s.head.capacity L run) (limits-held head cs distances times count array G held)
        ∙ built-exact s a.within t tables run a.calls in
        subst (λ (o : Answer Whole.Route). Lists o visits violations r)
        (sym (given-exact visiting (lent_with cs) (λ s. build_route s run) (accepts visiting (lent_with cs) (sym z ∙ refuses cs G))))
        (subst (λ (l : Listed). Lists (gives (build_route s run)) visits violations l) (sym e)
        (lists-built t (space_of head.capacity) (limits_of head.limits) s run b B exact visits violations a.results.0 a.results.1.0))

-- ---- what is left of a lent list

-- the first n of the records are written, where there is room for them
pub listed-left : {X : Type 0} (n : ℕ) (records xs old l : List X) → take n records ≡ xs → n ≤ length old → l ≡ written (take (min n (length old)) records) old → l ≡ written xs old
listed-left n records xs old l same fit left = left ∙ written-room n records old fit ∙ ap (λ (w : List _). written w old) same
