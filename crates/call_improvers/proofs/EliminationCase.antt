-- On a sheet that is meant and accepted, route elimination by what it is told leaves the runs that crates/definitions says. Assumes nothing.
use Prim.Native.Nat.{ℕ}
use mathlib.Core.Path.{◌≡◌, refl, ap}
use mathlib.Core.Bool.{false}
use mathlib.Core.List.{List}
use Rattle.std.specs.Prelude.{Some}
use lib.Ieee.{Float}
use Rattle.definitions.specs.Sheet.{SheetOf, Sheet}
use Rattle.definitions.specs.Improver.{given_of}
use Rattle.definitions.specs.RunList.{runs_of}
use Rattle.definitions.specs.Elimination.{eliminated}
use Rattle.definitions.specs.Lent.{eliminating}
use Rattle.definitions.specs.Refusals.{any_closed}
use Rattle.theorems.proofs.Accepted.{Accepted}
use Rattle.whole.specs.Value.{value}
use Rattle.models.specs.declared.customer.Customer.{Customer}
use Rattle.evaluation.specs.Image as Evaluation
use Rattle.evaluation.proofs.ChecksExact.{checks-exact}
use Rattle.improve_base.specs.Search.{SearchF, search_f, told}
use Rattle.models.specs.Load.{space_of}
use Rattle.place_choice.specs.Insertion.{GivenF}
use Rattle.route_elimination.specs.Elimination.{eliminated_f}
use Rattle.elimination_exact.specs.Image.{Image}
use Rattle.elimination_exact.proofs.EliminationExact.{elimination-exact}
use Rattle.call_improvers.proofs.ImproverAnswers.{Asked, lent_with, tables_in, meant_with, Matches}

-- what the code is given, by what it is told of the sheet
abbrev pub given_by : Asked → SearchF → GivenF
given_by Q x = record { tables = tables_in Q; capacity = space_of Q.head.capacity; fixed = Q.head.fixed_cost; search = x }

module _ (Q : Asked) (cs : List Customer) (held : Matches Q cs) (I : Evaluation.Image (meant_with Q cs) (tables_in Q)) where
  abbrev s : Sheet
  s = meant_with Q cs

  abbrev given : GivenF
  given = given_by Q (told s (tables_in Q))

  -- what is given holds the sheet that is meant
  given_holds : any_closed Some s.legs ≡ false → Image s given
  unfolding search_f
  given_holds O =
      record {
        tables-hold = I;
        none-closed = O;
        capacity-holds = ap (λ (x : SheetOf Float). x.head.capacity) held;
        fixed-holds = ap (λ (x : SheetOf Float). x.head.fixed) held;
        limits-hold = refl;
        asked-where-needed = checks-exact s (tables_in Q) I;
      }

  -- the runs that are left
  pub elimination-holds : (ends rooms : List ℕ) → Accepted value eliminating (lent_with Q ends rooms cs)
      → eliminated_f given (runs_of Q.calls ends) ≡ eliminated (given_of s) (runs_of Q.calls ends)
  elimination-holds ends rooms a = elimination-exact s a.within given (given_holds (a.drivable refl)) Q.calls ends a.calls a.runs.ends
