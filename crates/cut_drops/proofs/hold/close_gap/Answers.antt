-- `hold::close_gap` meets its contract. Assumes nothing.
use Rattle.cut_stops.specs.Stops.{leg_lists}
use Rattle.cut_runs.specs.Runs.{over}
use Rattle.cut_drops.specs.Refill.{Given, given, tables_with}
use Rattle.cut_drops.proofs.Noting.{legs-joined, listed}
use Rattle.cut_drops.proofs.Turns.{some_of, some-lists, rows_of}
use Rattle.cut_drops.proofs.hold.close_gap.Goals as goal
use Rattle.cut_drops.proofs.hold.close_gap.Goals.{After-write_legs}

module _ (g : After-write_legs) where
  abbrev lent : Given
  lent = let a = g.args in given a.distances.now a.times.now a.size a.codes.now a.figures.now a.terms

pub refill-requires : goal.refill-requires
refill-requires c =
    let at_after_write_legs = (goal.at.refill-requires c).After-write_legs in
    let s = c in
    let a = s.args in
    let E = lent at_after_write_legs in
    let r = s.requires.fact.row in
    let t = tables_with E (some_of E _ s.requires.fact_2.0) in record {
      fact = record {
        row =
            record {
              inside = r.inside;
              few = r.few;
              below = r.below;
              legs-long = c.write_legs.ensures.long;
              stops-long = r.stops-long;
              table-long = r.table-long;
            };
        reach-long = s.requires.fact.reach-long;
      };
      listed = listed (λ x. over x a.terms) (rows_of E a.held.now (leg_lists _ _)) t (some-lists E _ s.requires.fact_2.0)
          (legs-joined t a.held.now a.q (leg_lists a.legs.now a.time_legs.now) (leg_lists _ _) s.requires.fact_2.1 c.write_legs.ensures);
    }
