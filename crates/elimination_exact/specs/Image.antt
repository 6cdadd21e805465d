-- A sheet of whole numbers as it is lent to the elimination, each number held in a float. Definitions only.
use Rattle.std.specs.Prelude.{◌≡◌, false, Some}
use Rattle.definitions.specs.Sheet.{Sheet}
use Rattle.definitions.specs.Improver.{checks_needed}
use Rattle.definitions.specs.Refusals.{any_closed}
use Rattle.whole.specs.Whole.{fl}
use Rattle.evaluation.specs.Image.{fl_limits}
use Rattle.evaluation.specs.Image as Evaluation
use Rattle.place_choice.specs.Insertion.{GivenF}

-- what is lent holds the sheet, which closes no leg; `route_feasible` is asked where the sheet has a window, a limit or a break
pub record Image (s : Sheet) (G : GivenF) : Type 0 where
  pub tables-hold : Evaluation.Image s G.tables
  pub none-closed : any_closed Some s.legs ≡ false
  pub capacity-holds : G.capacity ≡ s.head.capacity
  pub fixed-holds : G.fixed ≡ fl s.head.fixed
  pub limits-hold : G.search.limits ≡ fl_limits s
  pub asked-where-needed : G.search.constrained ≡ checks_needed s
