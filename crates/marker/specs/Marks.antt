-- The mark of a cutting on floats, step by step as the code has it. Definitions only.
use Rattle.std.specs.Prelude.{ℕ, suc, cond, List, [], ◌∷◌, Float, Option, None, Some, Result, Ok, Err}
use Rattle.std.specs.Float.Ieee as Ieee
use Rattle.std.specs.Float.{binary64}
use Rattle.definitions.specs.Run.{Run}
use Rattle.definitions.specs.RunList.{runs_of}
use Rattle.definitions.specs.Marker.{differ, with_places}
use Rattle.whole.specs.Whole.{fl}
use Rattle.marker.specs.declared.verdict.Verdict.{Verdict}
use Rattle.marker.specs.declared.verdict.Verdict.TheVariants.{OtherCalls, Best, Dearer, Cheaper}
use Rattle.marker.specs.RunMark.{Ground, run_mark_f}

-- the runs from number n on, on top of what those before cost
unfoldable pub runs_mark_f : Ground → ℕ → Float → List Run → Result Float Verdict
runs_mark_f G n total [] = Ok total
runs_mark_f G n total (r ∷ rs) =
    elim (run_mark_f G n r.calls r.place) [
      | Err v ↦ Err v
      | Ok cost ↦ runs_mark_f G (suc n) (Ieee.add binary64 total cost) rs
    ]

-- against the planner's cost
unfoldable pub against_f : Float → Float → Verdict
against_f planner cost =
    cond (Ieee.lt planner cost) (Dearer (Ieee.sub binary64 cost planner))
    (cond (Ieee.lt cost planner) (Cheaper (Ieee.sub binary64 planner cost)) Best)

-- by the runs' mark
abbrev pub verdict_f : Float → Result Float Verdict → Verdict
verdict_f planner (Err v) = v
verdict_f planner (Ok cost) = against_f planner cost

-- the mark of a run list with break places, against the customers that the planner serves and its cost
unfoldable pub mark_f : Ground → List ℕ → Float → (calls ends breaks : List ℕ) → Verdict
mark_f G served planner calls ends breaks =
    elim (differ 1 calls served) [
      | Some position ↦ OtherCalls position
      | None ↦ verdict_f planner (runs_mark_f G 1 (fl 0) (with_places (runs_of calls ends) breaks))
    ]
