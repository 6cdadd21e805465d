-- A row over number lists: what its loop keeps, for whatever tables the lists are worked out from. Assumes nothing.
use Prim.Native.Nat.{ℕ, ◌+◌, ◌≤◌}
use mathlib.Core.Path.{◌≡◌, sym, subst}
use mathlib.Core.Bool.{Bool}
use Rattle.std.specs.Prelude.{Option}
use lib.ListN.{length}
use lib.Ieee.{Float}
use Rattle.definitions.specs.Load.{Load}
use Rattle.models.specs.declared.placement.Placement.{Placement}
use Rattle.models.specs.Load.{UpTo}
use Rattle.definitions.specs.Sheet.{BreakOf}
use Rattle.evaluation.specs.Records.{Tables}
use Rattle.cut_stops.specs.Stops.{StopsOf, LegsAre}
use Rattle.cut_table.specs.Table.{Table}
use Rattle.cut_runs.specs.declared.terms.Terms.{Terms}
use Rattle.cut_runs.specs.Runs.{RowLists, over_by, over_as, over, Rowed}

-- what the loop of row i keeps after m calls: what needs no tables, and the rest for whatever tables the lists are worked out from
pub record Going (x : RowLists) (i : ℕ) (load : Load) (m : ℕ) (Keeps : Tables → Type 0) : Type 0 where
  pub within : i + m ≤ length x.held
  pub light : UpTo 1 load
  pub keeps : (t : Tables) → StopsOf t x.held x.stops → LegsAre t x.held x.legs → Keeps t

-- placements and breaks that are the same have the same rows
pub same-terms : (p p' : Placement) → p ≡ p' → (o o' : Option (BreakOf Float)) → o ≡ o' → (terms : Terms) (x : RowLists) (i : ℕ) (old new : Table) (r : ℕ)
    → Rowed (λ t. over_by t terms p o) x i old new r → Rowed (λ t. over_by t terms p' o') x i old new r
same-terms p p' ep o o' e terms x i old new r R =
    subst (λ (q : Placement). Rowed (λ t. over_by t terms q o') x i old new r) ep
    (subst (λ (b : Option (BreakOf Float)). Rowed (λ t. over_by t terms p b) x i old new r) e R)

-- a row by loads alone, or by all, as the terms say
pub on-terms : (terms : Terms) (alone : Bool) → terms.loads_alone ≡ alone → (x : RowLists) (i : ℕ) (old new : Table) (r : ℕ)
    → Rowed (λ t. over_as alone t terms) x i old new r → Rowed (λ t. over t terms) x i old new r
on-terms terms alone e x i old new r R = subst (λ (b : Bool). Rowed (λ t. over_as b t terms) x i old new r) (sym e) R
