-- `two_opt::try_all` meets its contract. The loop's invariant: the last calls from j on, tried from here, end as all of them do, the calls before i have
-- stayed, `into` is the leg into call i, and `turned` what turning the calls from i up to j changes in their own legs;
-- and `known` has the distance of the run, where it is limited. Assumes nothing.
-- ---- the places on the way: from the opening, from the first test, from the loop, and from what a reversal changes
-- what the test says of the reversal
use Prim.Native.Nat.{◌-◌}
use mathlib.Core.Path.{◌≡◌}
use lib.ListN.{length, take, drop}
use Rattle.basics.specs.Lists.{count}
use Rattle.distance.specs.Lookup.{number_f}
use Rattle.evaluation.specs.Records.{limits_of}
use Rattle.cut_stops.specs.Stops.{numbers, listed}
use Rattle.two_opt.specs.Rules.{rules_of}
use Rattle.two_opt.specs.Delta.{into_f, reversal_delta_f}
use Rattle.improve_base.specs.Route.{far_f}
use Rattle.two_opt.specs.TwoOpt.{state, tried_each_f, tried_all_f}
use Rattle.two_opt.proofs.two_opt.try_all.Given as goal

abbrev pub invariant-loop-j : goal.invariant-loop-j
invariant-loop-j l =
    (tried_each_f (listed (numbers l.codes l.figures) l.distances l.times l.size) (rules_of l.rules) l.i (count l.j (length l.initial.current - l.j)) (state l.current l.known.improved)
    ≡ tried_all_f (listed (numbers l.codes l.figures) l.distances l.times l.size) (rules_of l.rules) (length l.initial.current) l.i (state l.initial.current l.initial.known.improved))
    × (take l.i l.current ≡ take l.i l.initial.current)
    × (l.into ≡ into_f (number_f l.distances l.size) l.i l.current)
    × (l.turned ≡ reversal_delta_f (number_f l.distances l.size) l.rules.symmetric (take (l.j - l.i) (drop l.i l.current)))
    × (l.known.far ≡ far_f (limits_of l.rules.limits) (number_f l.distances l.size) l.current)
