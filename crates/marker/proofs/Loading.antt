-- The mark of a run by the first closed leg that it is found to have, and by the load of its calls. Assumes nothing.
use Prim.Native.Nat.{ℕ}
use mathlib.Core.Path.{◌≡◌, sym, ap, ◌∙◌}
use mathlib.Core.Bool.{true, false}
use mathlib.Core.List.{List}
use Rattle.std.specs.Prelude.{None, Some, Err}
use lib.ListN.{length}
use Rattle.definitions.specs.Load.{Load, carried}
use Rattle.definitions.proofs.LoadLaws.{load-by}
use Rattle.whole.specs.Whole.{fl}
use Rattle.clock.specs.Serving.{start_label}
use Rattle.evaluation.specs.Tables.{asked_f, demand_f, Asks, load_f, leg_f}
use Rattle.evaluation.specs.Way.{closed_f}
use Rattle.marker.specs.declared.verdict.Verdict.TheVariants.{RoadClosed}
use Rattle.marker.specs.Walking.{walk_f}
use Rattle.marker.specs.RunMark.{Ground, overload_f, walk_mark_f, load_mark_f, legs_mark_f, run_mark_f}

-- a closed leg, whatever the load
pub closed-first : (G : Ground) (n place : ℕ) (calls : List ℕ) (leg : ℕ) → closed_f (leg_f G.tables) 1 0 calls ≡ Some leg → Err (RoadClosed n leg) ≡ run_mark_f G n calls place
unfolding run_mark_f
closed-first G n place calls leg e = ap (legs_mark_f G n calls place) (sym e)

module _ (G : Ground) (n place : ℕ) (calls demands : List ℕ) (O : closed_f (leg_f G.tables) 1 0 calls ≡ None) (A : Asks G.tables.customers demands)
    (load : Load) (e : load ≡ load_f demands calls) where
  by-load : run_mark_f G n calls place ≡ load_mark_f G n calls place load
  unfolding load_f run_mark_f
  by-load =
      ap (legs_mark_f G n calls place) O
      ∙ ap (load_mark_f G n calls place) (sym (e ∙ load-by (asked_f demands) (demand_f G.tables.customers) calls A))

  pub over : carried load G.capacity ≡ false → Err (overload_f n load G.capacity) ≡ run_mark_f G n calls place
  over h = sym (by-load ∙ rw h)

  pub carries : carried load G.capacity ≡ true
      → walk_mark_f G.limits G.fixed n place (length calls) (walk_f G.tables G.limits.rest n place 1 (fl 0) 0 start_label calls) ≡ run_mark_f G n calls place
  carries h = sym (by-load ∙ rw h)
