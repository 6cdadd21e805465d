-- `two_opt::improve` meets its contract. Assumes nothing.
-- ---- the places on the way: from the opening, from the run written, and from its improvement
use mathlib.Core.Path.{◌≡◌, sym, ap, ◌∙◌}
use Rattle.cut_table.proofs.Writing.{written_over}
use Rattle.evaluation.specs.Records.{Tables, lent}
use Rattle.improve_base.specs.Leg.{distance_f}
use Rattle.improve_base.specs.Search.{search_of}
use Rattle.improve_base.specs.Route.{route_distance_f}
use Rattle.two_opt.proofs.Passing.{short-stays}
use Rattle.two_opt.proofs.two_opt.improve.Goals as goal
use Rattle.two_opt.proofs.two_opt.improve.Goals.{After-write_front, Start}

abbrev tables : Start → Tables
tables s = let a = s.args in lent a.customers a.distances.now a.times.now a.size

copied : (c : After-write_front) → c.write_front.new.to ≡ c.args.route.now
copied c = let s = c in c.write_front.ensures ∙ written_over s.args.route.now s.args.current.now s.requires.current_len

pub returns-then-route-lt2 : goal.returns-then-route-lt2
returns-then-route-lt2 c =
    let short = c in
    let w = short in
    let s = w in
    let a = s.args in
    let stays = short-stays (tables (goal.at.returns-then-route-lt2 c).Start) (search_of a.search) a.route.now short.if-route-lt2.true in
    record { result_value = c.route_distance.ensures ∙ ap (route_distance_f (distance_f (tables (goal.at.returns-then-route-lt2 c).Start))) (sym stays); current_after = copied (goal.at.returns-then-route-lt2 c).After-write_front ∙ sym stays }
