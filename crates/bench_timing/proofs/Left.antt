-- The runs that are left, from what the elimination is told. Assumes nothing.
use Rattle.std.proofs.Common.{◌≡◌, ℕ, ◌≤◌, List, map, length, pos, ap, ◌∙◌, arith}
use lib.Ieee.{Float, binary64, of_int}
use Rattle.whole.specs.Whole.{fl}
use Rattle.definitions.specs.RunList.{runs_of}
use Rattle.models.specs.declared.customer.Customer.{Customer}
use Rattle.models.specs.declared.head.Head.{Head}
use Rattle.models.specs.Load.{space_of}
use Rattle.models.specs.Records.{customer_of}
use Rattle.evaluation.specs.Records as Evaluation
use Rattle.evaluation.specs.Records.{limits_of}
use Rattle.models.specs.declared.placement.Placement.TheVariants.{Clock}
use Rattle.cut_runs.specs.Runs.{Instance, lent}
use Rattle.improve_base.specs.declared.search.Search.{Search}
use Rattle.improve_base.specs.Search.{SearchF, search_of, search_f}
use Rattle.place_choice.specs.Insertion.{GivenF, lent_given}
use Rattle.route_elimination.specs.Elimination.{eliminated_f, Counts}
use Rattle.bench_timing.specs.Every.{every_ends}
use Rattle.bench_timing.specs.Work.{given_of, runs_left}
use Rattle.bench_timing.proofs.Ends.{ends-few}

-- a tour has room for its ends
pub ends-room : (run : ℕ) (tour given : List ℕ) → length tour ≤ 128 → given ≡ every_ends run (length tour) → length given ≤ 128
ends-room run tour given few e = omega (arith, ap length e, ends-few run (length tour))

module _ (head : Head) (customers : List Customer) (distances times : List Float) (search : Search)
    (told : search_of search ≡ search_f (map customer_of customers) head.places (limits_of head.limits)) where
  abbrev held : Instance
  held = lent customers distances times head.places head.capacity head.fixed_cost head.limits Clock

  abbrev given : GivenF
  given = lent_given customers distances times head.places head.capacity head.fixed_cost search

  given_is : given ≡ given_of held
  given_is =
      ap (λ (x : SearchF). record {
        tables = Evaluation.lent customers distances times head.places;
        capacity = space_of head.capacity;
        fixed = head.fixed_cost;
        search = x;
      })
      told

  pub left_is : (run : ℕ) (tour cut : List ℕ) → cut ≡ every_ends run (length tour) → {calls runs : ℕ} → Counts (eliminated_f given (runs_of tour cut)) calls runs
      → (r : Float) → r ≡ of_int binary64 (pos runs) → r ≡ runs_left run held tour
  unfolding runs_left fl
  left_is run tour cut e C r h =
      h ∙ ap (λ (n : ℕ). of_int binary64 (pos n)) C.runs-count
      ∙ ap (λ (G : GivenF). of_int binary64 (pos (length (eliminated_f G (runs_of tour cut))))) given_is
      ∙ ap (λ (ends : List ℕ). of_int binary64 (pos (length (eliminated_f (given_of held) (runs_of tour ends))))) e
