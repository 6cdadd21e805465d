-- `route_elimination::eliminate_routes` meets its contract. Assumes nothing.
-- ---- the places on the way: from the (numbers listed.list_records.new.1.0 listed.list_records.new.1.1.0), from the lent run list, from the runs that are left, and from the calls written
-- the (numbers in.list_records.new.1.0 in.list_records.new.1.1.0) (runs of.paste.new.to of.paste-2.new.to (length of.args.calls.now) (length of.args.ends.now)) numbers are those that are lent
-- the run list as it is held
use Prim.Native.Nat.{ℕ}
use native.Mathlib.Omega.{arith}
use mathlib.Core.Path.{◌≡◌, ap, ◌∙◌}
use mathlib.Core.List.{List}
use lib.ListN.{length}
use Rattle.cut_stops.specs.Stops.{numbers, listed}
use Rattle.improve_base.proofs.ListedRecords.{listed-records}
use Rattle.definitions.specs.Room.{written}
use Rattle.definitions.specs.RunList.{runs_of}
use Rattle.evaluation.specs.Records.{Tables, lent}
use Rattle.improve_runs.specs.RunLists.{runs, runs_in, Sound}
use Rattle.improve_runs.proofs.Holding.{lent_runs}
use Rattle.route_elimination.specs.Elimination.{eliminated_f}
use Rattle.place_choice.specs.Insertion.{given_of, lent_given}
use Rattle.route_elimination.proofs.Answering.{Answered, answered}
use Rattle.route_elimination.proofs.route_elimination.eliminate_routes.Goals as goal
use Rattle.route_elimination.proofs.route_elimination.eliminate_routes.Goals.{After-eliminate-count, After-held_calls-3-1, After-list_records}

tables : (c : After-list_records) →
    let a = c.args in
    listed (numbers c.list_records.new.codes c.list_records.new.figures) a.distances.now a.times.now a.size ≡ lent a.customers a.distances.now a.times.now a.size
tables c =
    let a = c.args in
    listed-records a.customers a.distances.now a.times.now a.size (numbers c.list_records.new.codes c.list_records.new.figures) c.list_records.ensures.1

abbrev begun : (c : After-held_calls-3-1) →
    let a = c.args in
    Sound (runs c.paste.new.to c.paste-2.new.to (length c.args.calls.now) (length c.args.ends.now)) × (runs_in (runs c.paste.new.to c.paste-2.new.to (length c.args.calls.now) (length c.args.ends.now)) ≡ runs_of a.calls.now a.ends.now)
begun c =
    let s = c in
    lent_runs s.args.calls.now s.args.ends.now _ _ c.paste.ensures c.paste-2.ensures s.requires.calls_value.2

answer : (c : After-eliminate-count) →
    let s = c in
    Answered (eliminated_f (lent_given s.args.customers s.args.distances.now s.args.times.now s.args.size s.args.capacity s.args.fixed s.args.search) (runs_of s.args.calls.now s.args.ends.now)) s.args.calls.now s.args.ends.now (runs c.eliminate-count.new.calls c.eliminate-count.new.ends (length c.args.calls.now) c.eliminate-count.result)
answer c =
    let known = c in
    let s = c in
    let a = s.args in
    let l = c.eliminate-count.ensures in
    let same = ap (λ (t : Tables). eliminated_f (given_of t a.capacity a.fixed a.search) (runs_in (runs known.paste.new.to known.paste-2.new.to (length known.args.calls.now) (length known.args.ends.now)))) (let a = known.args in listed-records a.customers a.distances.now a.times.now a.size (numbers known.list_records.new.codes known.list_records.new.figures) known.list_records.ensures.1) in
    answered (lent_given s.args.customers s.args.distances.now s.args.times.now s.args.size s.args.capacity s.args.fixed s.args.search) a.calls.now a.ends.now s.requires.calls_value.2 (runs c.eliminate-count.new.calls c.eliminate-count.new.ends (length c.args.calls.now) c.eliminate-count.result) l.sound (runs_in (runs known.paste.new.to known.paste-2.new.to (length known.args.calls.now) (length known.args.ends.now))) (let s = known in lent_runs s.args.calls.now s.args.ends.now _ _ known.paste.ensures known.paste-2.ensures s.requires.calls_value.2).1 (l.is ∙ same)

pub write_front-requires-2 : goal.write_front-requires-2
write_front-requires-2 c =
    let gone = c in
    omega (arith, ap length (answer (goal.at.write_front-requires-2 gone).After-eliminate-count).ends-out, (answer (goal.at.write_front-requires-2 gone).After-eliminate-count).few-runs, gone.requires.calls_in_bounds.1)

pub returns : goal.returns
returns c =
    let second = c in
    let first = second in
    let gone = first in
    let a = gone.args in
    record {
      counts = (answer (goal.at.returns gone).After-eliminate-count).counts;
      calls-written = first.write_front.ensures ∙ ap (λ (r : List ℕ). written r a.out_calls.now) (answer (goal.at.returns gone).After-eliminate-count).calls-out;
      ends-written = second.write_front-2.ensures ∙ ap (λ (r : List ℕ). written r a.out_ends.now) (answer (goal.at.returns gone).After-eliminate-count).ends-out;
    }
