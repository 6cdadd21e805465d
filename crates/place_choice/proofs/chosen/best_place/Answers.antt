-- `chosen::best_place` meets its contract. Assumes nothing.
-- ---- the places on the way
-- what each call (fun_ext for.requires.fact_2.1), by the records
use Prim.Native.Nat.{ℕ}
use mathlib.Core.Path.{◌≡◌, sym, subst, fun_ext, ◌∙◌}
use mathlib.Core.Bool.{true}
use Rattle.definitions.specs.Load.{Load}
use Rattle.cut_stops.specs.Stops.{numbers}
use Rattle.improve_runs.specs.RunLists.{runs, runs_in}
use Rattle.place_choice.specs.Loads.{room_f}
use Rattle.place_choice.specs.Insertion.{given_in, leg_f, folded, cheaper_f, nowhere_f, places_of, each_from, pays_f, candidates_f, better_of, tested_f}
use Rattle.place_choice.proofs.Spots.{best_none, best-least, best-found, best-missing, least-there, tested-there}
use Rattle.place_choice.proofs.chosen.best_place.Goals as goal
use Rattle.place_choice.proofs.chosen.best_place.Goals.{After-best_tested-best, After-cheapest_place-least, Else-not-pays}

abbrev least : (c : After-cheapest_place-least) → let s = c in c.cheapest_place-least.result ≡ folded cheaper_f nowhere_f (candidates_f (given_in s.args.given (numbers s.args.codes.now s.args.figures.now) s.args.distances.now s.args.times.now) s.args.mover.call (runs_in (runs s.args.calls.now s.args.ends.now s.args.many s.args.count)))
least c =
    let s = c in
    let T = (given_in s.args.given (numbers s.args.codes.now s.args.figures.now) s.args.distances.now s.args.times.now) in
    subst (λ (d : ℕ → Load). c.cheapest_place-least.result ≡ folded cheaper_f nowhere_f (each_from (places_of (leg_f T) (room_f d T.capacity) s.args.mover.call) 0 (runs_in (runs s.args.calls.now s.args.ends.now s.args.many s.args.count)))) (fun_ext s.requires.fact_2.1)
    c.cheapest_place-least.ensures

abbrev paid : (c : Else-not-pays) → pays_f c.args.mover c.cheapest_place-least.result.cost ≡ true
paid c = let pays = c.pays in sym pays.ensures ∙ c.if-not-pays.false

abbrev tested : (c : After-best_tested-best) → let s = c in c.best_tested-best.result ≡ tested_f (given_in s.args.given (numbers s.args.codes.now s.args.figures.now) s.args.distances.now s.args.times.now) s.args.mover (runs_in (runs s.args.calls.now s.args.ends.now s.args.many s.args.count))
tested c =
    let s = c in
    let T = (given_in s.args.given (numbers s.args.codes.now s.args.figures.now) s.args.distances.now s.args.times.now) in
    let m = s.args.mover in
    subst (λ (d : ℕ → Load). c.best_tested-best.result ≡ folded (better_of T m (runs_in (runs s.args.calls.now s.args.ends.now s.args.many s.args.count))) nowhere_f (each_from (places_of (leg_f T) (room_f d T.capacity) m.call) 0 (runs_in (runs s.args.calls.now s.args.ends.now s.args.many s.args.count)))) (fun_ext s.requires.fact_2.1)
    c.best_tested-best.ensures

pub returns-then-not-pays : goal.returns-then-not-pays
returns-then-not-pays c =
    let k = c in
    let s = k in
    let pays = c.pays in
    record { is = best_none (given_in s.args.given (numbers s.args.codes.now s.args.figures.now) s.args.distances.now s.args.times.now) s.args.mover (runs_in (runs s.args.calls.now s.args.ends.now s.args.many s.args.count)) _ (least (goal.at.returns-then-not-pays k).After-cheapest_place-least) (sym pays.ensures ∙ c.if-not-pays.true); inside = tt }

pub is_allowed-requires : goal.is_allowed-requires
is_allowed-requires c =
    let k = c in
    let s = k in
    record { fact = (s.requires.fact.0, least-there (given_in s.args.given (numbers s.args.codes.now s.args.figures.now) s.args.distances.now s.args.times.now) s.args.mover (runs_in (runs s.args.calls.now s.args.ends.now s.args.many s.args.count)) _ (least (goal.at.is_allowed-requires k).After-cheapest_place-least) (paid (goal.at.is_allowed-requires c).Else-not-pays), s.requires.fact_2.0); all_open = s.requires.all_open }

pub returns-then-is_allowed : goal.returns-then-is_allowed
returns-then-is_allowed c =
    let asked = c in
    let p = asked in
    let k = p in
    let s = k in
    let a = asked.is_allowed in
    record {
      is = best-least (given_in s.args.given (numbers s.args.codes.now s.args.figures.now) s.args.distances.now s.args.times.now) s.args.mover (runs_in (runs s.args.calls.now s.args.ends.now s.args.many s.args.count)) _ (least (goal.at.returns-then-is_allowed k).After-cheapest_place-least) (paid (goal.at.returns-then-is_allowed p).Else-not-pays) (sym a.ensures.result_value ∙ c.if-is_allowed.true);
      inside = least-there (given_in s.args.given (numbers s.args.codes.now s.args.figures.now) s.args.distances.now s.args.times.now) s.args.mover (runs_in (runs s.args.calls.now s.args.ends.now s.args.many s.args.count)) _ (least (goal.at.returns-then-is_allowed k).After-cheapest_place-least) (paid (goal.at.returns-then-is_allowed p).Else-not-pays);
    }

pub returns-then-pays : goal.returns-then-pays
returns-then-pays c =
    let t = c in
    let refused = t in
    let asked = refused in
    let p = asked in
    let k = p in
    let s = k in
    let pays = c.pays-2 in
    let e = sym pays.ensures ∙ c.if-pays.true in
    record {
      is = best-found (given_in s.args.given (numbers s.args.codes.now s.args.figures.now) s.args.distances.now s.args.times.now) s.args.mover (runs_in (runs s.args.calls.now s.args.ends.now s.args.many s.args.count)) _ (least (goal.at.returns-then-pays k).After-cheapest_place-least) _ (tested (goal.at.returns-then-pays t).After-best_tested-best) (paid (goal.at.returns-then-pays p).Else-not-pays) (sym asked.is_allowed.ensures.result_value ∙ refused.if-is_allowed.false) e;
      inside = tested-there (given_in s.args.given (numbers s.args.codes.now s.args.figures.now) s.args.distances.now s.args.times.now) s.args.mover (runs_in (runs s.args.calls.now s.args.ends.now s.args.many s.args.count)) _ (tested (goal.at.returns-then-pays t).After-best_tested-best) e;
    }

pub returns : goal.returns
returns c =
    let t = c in
    let refused = t in
    let asked = refused in
    let p = asked in
    let k = p in
    let s = k in
    let pays = c.pays-2 in
    record {
      is = best-missing (given_in s.args.given (numbers s.args.codes.now s.args.figures.now) s.args.distances.now s.args.times.now) s.args.mover (runs_in (runs s.args.calls.now s.args.ends.now s.args.many s.args.count)) _ (least (goal.at.returns k).After-cheapest_place-least) _ (tested (goal.at.returns t).After-best_tested-best) (paid (goal.at.returns p).Else-not-pays) (sym asked.is_allowed.ensures.result_value ∙ refused.if-is_allowed.false) (sym pays.ensures ∙ c.if-pays.false);
      inside = tt;
    }
