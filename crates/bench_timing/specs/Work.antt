-- What the timed calls give. The numbers are those of the float-level definitions, on the sheet as it is held. Definitions only.
use Rattle.std.specs.Prelude.{ℕ, zero, suc, ◌≤◌, Bool, false, cond, List, map, length, Float}
use Rattle.whole.specs.Whole.{fl}
use Rattle.cut_theory.specs.Tab.{most_cut}
use Rattle.definitions.specs.Sheet.{Sheet}
use Rattle.definitions.specs.Reader.{Reading, sheet, refused_at}
use Rattle.definitions.specs.Room.{written}
use Rattle.definitions.specs.RunList.{runs_of}
use Rattle.models.specs.Image.{fl_customer}
use Rattle.evaluation.specs.Image.{fl_limits}
use Rattle.sheet_read.specs.Parts.{depots}
use Rattle.cut_stops.specs.Stops.{Below64}
use Rattle.models.specs.declared.placement.Placement.{Placement}
use Rattle.models.specs.declared.placement.Placement.TheVariants.{Clock}
use Rattle.cut_runs.specs.Runs.{Instance, lent}
use Rattle.split_tw.specs.SplitTw.{split_tw_f}
use Rattle.split.specs.Bare.{bare_of}
use Rattle.improve_base.specs.Leg.{shut}
use Rattle.improve_base.specs.Search.{SearchF, search_f}
use Rattle.two_opt.specs.TwoOpt.{improved_distance_f}
use Rattle.place_choice.specs.Insertion.{GivenF}
use Rattle.route_elimination.specs.Elimination.{eliminated_f}
use Rattle.sheet_loaded.specs.declared.load.Loaded.{Loaded}
use Rattle.bench_timing.specs.declared.work.Work.{Work}
use Rattle.bench_timing.specs.declared.work.Work.TheVariants.{SplitTw, Split, TwoOpt, Eliminate}
use Rattle.bench_timing.specs.Every.{every_ends}

-- a tour as the works take it: not too long, and each call is among the records
pub record Callable (tour : List ℕ) : Type 0 where
  pub few : length tour ≤ most_cut
  pub below : Below64 tour

-- what is held of a sheet, with its tables
abbrev pub instance_in : Loaded → List Float → List Float → Instance
instance_in held distances times =
    let head = held.head in
    lent held.customers distances times head.places head.capacity head.fixed_cost head.limits Clock

-- ---- one round

-- with breaks where this placement puts them
abbrev pub placed_by : Placement → Instance → Instance
placed_by p I = record { tables = I.tables; capacity = I.capacity; fixed = I.fixed; limits = I.limits; placement = p }

unfoldable pub split_tw_cost : Placement → Instance → List ℕ → Float
split_tw_cost p I tour = (split_tw_f (placed_by p I) tour).cost

unfoldable pub split_cost : Instance → List ℕ → Float
split_cost I tour = (split_tw_f (bare_of I) tour).cost

-- what an improver is told
abbrev pub told : Instance → SearchF
told I = search_f I.tables.customers I.tables.size I.limits

unfoldable pub reversed_distance : Instance → List ℕ → Float
reversed_distance I tour = improved_distance_f I.tables (told I) tour

-- what the elimination is given
abbrev pub given_of : Instance → GivenF
given_of I = record { tables = I.tables; capacity = I.capacity; fixed = I.fixed; search = told I }

unfoldable pub runs_left : ℕ → Instance → List ℕ → Float
runs_left run I tour = fl (length (eliminated_f (given_of I) (runs_of tour (every_ends run (length tour)))))

abbrev pub work_f : Work → Instance → List ℕ → Float
work_f (SplitTw p) I tour = split_tw_cost p I tour
work_f Split I tour = split_cost I tour
work_f TwoOpt I tour = reversed_distance I tour
work_f (Eliminate run) I tour = runs_left run I tour

-- the improvers don't take a closed leg
abbrev pub barred : Work → (distances times : List Float) → Bool
barred (SplitTw p) distances times = false
barred Split distances times = false
barred TwoOpt distances times = shut distances times
barred (Eliminate run) distances times = shut distances times

-- what the work gives; 0 where it doesn't take the sheet
abbrev pub gives_f : Work → Instance → List ℕ → Float
gives_f work I tour = cond (barred work I.tables.distances I.tables.times) (fl 0) (work_f work I tour)

-- ---- the rounds

-- what the last round gives; without a round 0
abbrev pub last_of : ℕ → Float → Float
last_of zero x = fl 0
last_of (suc n) x = x

-- for refused bytes 0
abbrev pub on_sheet : (Sheet → List ℕ → Float) → Reading → Float
on_sheet f (sheet s tour) = f s tour
on_sheet f (refused_at number word) = fl 0

-- the sheet as it is held: records behind those of its places are the depot's
abbrev pub instance_of : Sheet → Instance
instance_of s =
    record {
      tables =
          record {
            customers = written (map fl_customer s.customers) depots;
            distances = map fl s.legs.distances;
            times = map fl s.legs.times;
            size = s.head.places;
          };
      capacity = s.head.capacity;
      fixed = fl s.head.fixed;
      limits = fl_limits s;
      placement = Clock;
    }

abbrev pub timed : Work → ℕ → Reading → Float
timed work n r = last_of n (on_sheet (λ s tour. gives_f work (instance_of s) tour) r)
