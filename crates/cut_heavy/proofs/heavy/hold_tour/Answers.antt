-- `heavy::hold_tour` meets its contract: what is held of the calls that fit alone is what is held of the tour, and where all do nothing is left to write. Assumes nothing.
use Prim.Native.Nat.{ℕ, ◌≤◌}
use native.Mathlib.Omega.{arith}
use mathlib.Core.Path.{sym, subst, ◌∙◌}
use mathlib.Core.List.{List}
use lib.ListN.{length}
use Rattle.cut_stops.specs.Stops.{Below64}
use Rattle.cut_table.specs.Table.{table}
use Rattle.cut_drops.specs.Refill.{Given, given, SomeLists}
use Rattle.cut_heavy.proofs.Light.{fits, only-few, only-all, below-only, some-light, front-light, holds-light, holds-all}
use Rattle.cut_heavy.proofs.heavy.hold_tour.Goals as goal
use Rattle.cut_heavy.proofs.heavy.hold_tour.Goals.{After-write_light-m}

module _ (b : After-write_light-m) where
  abbrev lent : Given
  lent = let a = b.args in given a.distances.now a.times.now a.size a.codes.now a.figures.now a.terms

  abbrev tour : List ℕ
  tour = b.args.tour.now

  abbrev m : ℕ
  m = b.write_light-m.result

  few : m ≤ length tour
  few = omega (arith, b.write_light-m.ensures.0, only-few (fits lent tour) tour)

pub hold-n-requires : goal.hold-n-requires
hold-n-requires c =
    let b = (goal.at.hold-n-requires c).After-write_light-m in
    let s = c in
    let e = front-light (lent b) (tour b) (m b) _ _ b.write_light-m.ensures.0 b.write_light-m.ensures.1 in record {
      front = record {
        few = omega (arith, few b, s.requires.tour_len_bound.0);
        held-long = omega (arith, few b, s.requires.tour_in_bounds.0);
        dropped-long = omega (arith, few b, s.requires.tour_in_bounds.1);
        below = subst Below64 (sym e) (below-only (fits (lent b) (tour b)) (tour b) s.requires.tour_len_bound.1);
      };
      unfilled = s.requires.unfilled;
      fact = subst (SomeLists (lent b)) (sym e) (some-light (lent b) (tour b) s.requires.fact);
    }

pub returns-then-m-tour : goal.returns-then-m-tour
returns-then-m-tour c =
    let b = (goal.at.returns-then-m-tour c).After-write_light-m in
    let h = c in
    let w = b.write_light-m.ensures in
    let e = front-light (lent b) (tour b) (m b) _ _ w.0 w.1 in
    let all = only-all (fits (lent b) (tour b)) (tour b) (sym w.0 ∙ c.if-m-tour.true) in
    record { fact_2 = holds-all (lent b) (tour b) _ e _ h.hold-n.result _ _ (table _ _ _) h.hold-n.ensures.fact_2 all; upper_bound = omega (arith, h.hold-n.ensures.upper_bound, few b) }

pub returns : goal.returns
returns c =
    let b = (goal.at.returns c).After-write_light-m in
    let d = c in
    let h = d in
    let w = b.write_light-m.ensures in
    let e = front-light (lent b) (tour b) (m b) _ _ w.0 w.1 in
    record { fact_2 = holds-light (lent b) (tour b) _ e _ h.hold-n.result _ _ (table _ _ _) h.hold-n.ensures.fact_2 (m b) w.0 _ d.number_in_tour.ensures; upper_bound = omega (arith, h.hold-n.ensures.upper_bound, few b) }

pub number_in_tour-requires-clause-gone_in_bounds : goal.number_in_tour-requires-clause-gone_in_bounds
number_in_tour-requires-clause-gone_in_bounds c =
    let b = (goal.at.number_in_tour-requires-clause-gone_in_bounds c).After-write_light-m in omega (arith, few b)
