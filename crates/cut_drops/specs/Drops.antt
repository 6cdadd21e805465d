-- Which calls the cut by capacity, windows, limits and break drops on floats, as the code has it. Definitions only.
use Rattle.std.specs.Prelude.{ℕ, zero, suc, Bool, false, List, length, Option, None, Some}
use Rattle.std.specs.Float.{inf}
use Rattle.std.specs.Float.Ieee.{lt}
use Rattle.cut_theory.specs.Cut.{best}
use Rattle.cut_theory.specs.Rows.{rule64}
use Rattle.cut_theory.specs.Drop as Dropping
use Rattle.definitions.specs.Drop.{calls_at, Held, drop_at, all_held}
use Rattle.cut_runs.specs.Tariff.{runs_of, stretches}
use Rattle.cut_runs.specs.Runs.{Instance, tariff}

module _ (I : Instance) where
  -- whether the first j of the calls held have a cutting
  abbrev pub have_f : List ℕ → ℕ → Bool
  have_f held j = lt (best (rule64 (runs_of (tariff I) (stretches held))) j) (inf false)

  -- the last call, numbered from 0, of the shortest beginning that has none
  abbrev pub stuck_f : List ℕ → Option ℕ
  stuck_f held = Dropping.stuck have_f held

  -- while there is one it is dropped, and all starts over; there are enough turns
  unfoldable pub drop_from_f : List ℕ → ℕ → Held → Held
  drop_from_f tour zero h = h
  drop_from_f tour (suc turns) h =
      elim (stuck_f (calls_at tour h.held)) [
        | None ↦ h
        | Some k ↦ drop_from_f tour turns (drop_at k h)
      ]

  unfoldable pub drops_f : List ℕ → Held
  drops_f tour = drop_from_f tour (length tour) (all_held tour)
