-- `two_opt::pass` meets its contract. The loop's invariant: the first calls from i on, tried from here, end as the pass does, `prefix` is where the calls
-- before i lead, and `tried` has the distance of the run, where it is limited. Assumes nothing.
-- ---- the places on the way: from the opening, from the beginning, from the loop, and from the last calls tried
use Prim.Native.Nat.{◌-◌}
use mathlib.Core.Path.{◌≡◌}
use lib.ListN.{length, take}
use Rattle.basics.specs.Lists.{count}
use Rattle.evaluation.specs.Records.{limits_of}
use Rattle.distance.specs.Lookup.{number_f}
use Rattle.cut_stops.specs.Stops.{numbers, listed}
use Rattle.two_opt.specs.Rules.{rules_of}
use Rattle.improve_base.specs.Prefix.{prefix_of, Leads}
use Rattle.improve_base.specs.Route.{far_f}
use Rattle.two_opt.specs.TwoOpt.{state, pass_from_f, pass_f}
use Rattle.two_opt.proofs.two_opt.pass.Given as goal

abbrev pub invariant-loop-i : goal.invariant-loop-i
invariant-loop-i l =
    (pass_from_f (listed (numbers l.codes l.figures) l.distances l.times l.size) (rules_of l.rules) (length l.initial.current) (count l.i (length l.initial.current - 1 - l.i))
    (state l.current l.tried.improved)
    ≡ pass_f (listed (numbers l.codes l.figures) l.distances l.times l.size) (rules_of l.rules) l.initial.current)
    × Leads (listed (numbers l.codes l.figures) l.distances l.times l.size) (limits_of l.rules.limits) (take l.i l.current) (prefix_of l.prefix)
    × (l.tried.far ≡ far_f (limits_of l.rules.limits) (number_f l.distances l.size) l.current)
