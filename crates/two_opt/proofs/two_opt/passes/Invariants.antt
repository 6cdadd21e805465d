-- `two_opt::passes` meets its contract. The loop's invariant: the passes that are left, from here, end as all of them do. Assumes nothing.
-- ---- the places on the way: from the opening, from the loop, and from a pass
use Prim.Native.Nat.{◌-◌}
use mathlib.Core.Path.{◌≡◌}
use Rattle.cut_stops.specs.Stops.{numbers, listed}
use Rattle.two_opt.specs.Rules.{rules_of}
use Rattle.two_opt.specs.TwoOpt.{most_passes, passes_f}
use Rattle.two_opt.proofs.two_opt.passes.Given as goal

abbrev pub invariant-loop : goal.invariant-loop
invariant-loop l =
    passes_f (listed (numbers l.codes l.figures) l.distances l.times l.size) (rules_of l.rules) (most_passes - l.counter) l.current
    ≡ passes_f (listed (numbers l.codes l.figures) l.distances l.times l.size) (rules_of l.rules) most_passes l.initial.current
