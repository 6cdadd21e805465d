-- The breaks of the runs of a run list, where the placement puts them, on floats. Definitions only.
use Rattle.std.specs.Prelude.{ℕ, List, map, Float, Option, None, Some}
use Rattle.basics.specs.Options.{value_or}
use Rattle.whole.specs.Whole.{fl}
use Rattle.definitions.specs.RunList.{runs_of}
use Rattle.models.specs.declared.placement.Placement.{Placement}
use Rattle.evaluation.specs.Records.{Tables, LimitsF, TakenF, EvaluationF}
use Rattle.placements.specs.Placed.{eval_by}

-- the break of a run by its evaluation; none where the run isn't allowed
abbrev pub taken_in : Option EvaluationF → TakenF
taken_in None = record { place = 0; start = None }
taken_in (Some e) = record { place = e.totals.place; start = e.start }

unfoldable pub break_by : Tables → LimitsF → Placement → List ℕ → TakenF
break_by t limits placement calls = taken_in (eval_by t limits placement calls)

-- those of all runs
abbrev pub breaks_f : Tables → LimitsF → Placement → (calls ends : List ℕ) → List TakenF
breaks_f t limits placement calls ends = map (break_by t limits placement) (runs_of calls ends)

-- their places, and their starts, 0 where there is none
abbrev pub places_in : List TakenF → List ℕ
places_in breaks = map (λ b. b.place) breaks

abbrev pub starts_in : List TakenF → List Float
starts_in breaks = map (λ b. value_or (fl 0) b.start) breaks
