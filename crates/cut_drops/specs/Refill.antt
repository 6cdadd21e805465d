-- What the drops do to the table: a row of the calls held and how far it went, cells that are cleared, the rows that are filled again after
-- a call was dropped, and one turn, at which a row is filled and a call may be dropped. Definitions only.
use Rattle.std.specs.Prelude.{ℕ, suc, ◌+◌, ◌-◌, ◌<◌, ◌≤◌, ◌≡◌, Bool, true, false, List, length, get_or, set, take, drop, replicate, Float, Option}
use Rattle.std.specs.Float.{nan, inf}
use Rattle.basics.specs.Lists.{count}
use Rattle.cut_theory.specs.Cut.{best}
use Rattle.cut_theory.specs.Cut as Cut
use Rattle.cut_theory.specs.Tab.{most_cut, cells}
use Rattle.cut_theory.specs.Rows.{Legs, rule64}
use Rattle.cut_theory.specs.Carried.{Carry, carried_to}
use Rattle.definitions.specs.Drop.{calls_at}
use Rattle.definitions.specs.Room.{written}
use Rattle.whole.specs.Whole.{fl}
use Rattle.distance.specs.declared.leg.Leg.{Leg}
use Rattle.distance.specs.Lookup.{drive_f}
use Rattle.cut_table.specs.Table.{Table, table, Sized, Calls, MayDrop, DropCall}
use Rattle.models.specs.declared.customer.Customer.{Customer}
use Rattle.evaluation.specs.Records as Records
use Rattle.evaluation.specs.Records.{Tables}
use Rattle.cut_stops.specs.Stops.{Numbers, numbers, StopsOf, Below64, LegLists, LegsLong, LegIs, LegsAre}
use Rattle.cut_runs.specs.Tariff.{Tariff, stretches, runs_of, fars_of, TableOf, HeldRow, Ended}
use Rattle.cut_runs.specs.declared.terms.Terms.{Terms}
use Rattle.cut_runs.specs.Runs.{Instance, over, tariff, RowLists, RowReady}
use Rattle.cut_drops.specs.Drops.{have_f, drops_f}

-- ---- the rows of the calls held

-- the table, and of each row where it ended
pub record Rows : Type 0 where
  pub table : Table
  pub reach : List ℕ

abbrev pub rows : List Float → List Float → List ℕ → List ℕ → Rows
rows cost far pred reach = record { table = table cost far pred; reach = reach }

pub record RowsLong (x : Rows) : Type 0 where
  pub table-long : Sized x.table
  pub reach-long : length x.reach ≡ cells

-- row i can be filled, and its end noted
pub record NoteReady (x : RowLists) (i : ℕ) (old : Rows) : Type 0 where
  pub row : RowReady x i old.table
  pub reach-long : length old.reach ≡ cells

-- from cell number `from` on all is v, and what stands before stays
pub record Cleared {A : Type 0} (from : ℕ) (v d : A) (l l' : List A) : Type 0 where
  pub long : length l' ≡ cells
  pub before : (k : ℕ) → k < from → get_or l' k d ≡ get_or l k d
  pub behind : (k : ℕ) → from ≤ k → k < cells → get_or l' k d ≡ v

-- the table's cells from number `from` on are cleared
pub record TableCleared (from : ℕ) (old new : Table) : Type 0 where
  pub cost-cleared : Cleared from (inf false) nan old.cost new.cost
  pub far-cleared : Cleared from (fl 0) nan old.far new.far
  pub pred-cleared : Cleared from 0 0 old.pred new.pred

-- the cells up to q are those of the whole table, which no row from q on changes
pub record Fronted (E : Legs) (K : Carry Float) (q : ℕ) (t : Table) : Type 0 where
  pub cost-final : (j : ℕ) → j ≤ q → get_or t.cost j nan ≡ best (rule64 E) j
  pub far-final : (j : ℕ) → j ≤ q → get_or t.far j nan ≡ carried_to (rule64 E) K j
  pub pred-final : (j : ℕ) → j ≤ q → get_or t.pred j 0 ≡ Cut.pred (rule64 E) j

module _ (T : Tariff) (held : List ℕ) where
  -- the place in `reach` of row s: where the row ended
  abbrev pub Reached : List ℕ → ℕ → Type 0
  Reached reach s = Ended T (drop s held) (get_or reach s 0 - s)

  -- row i is done, and its end noted
  pub record NotedRow (i : ℕ) (old new : Rows) : Type 0 where
    pub done : HeldRow T held i old.table new.table
    pub put : new.reach ≡ set old.reach i (get_or new.reach i 0)
    pub reached : Reached new.reach i

  abbrev pub FrontOf : ℕ → Table → Type 0
  FrontOf q = Fronted (runs_of T (stretches held)) (fars_of T (stretches held)) q

  -- each row below q is noted where it ended; those that ended before q
  abbrev pub ReachedBelow : ℕ → List ℕ → Type 0
  ReachedBelow q reach = (s : ℕ) → s < q → Reached reach s

  abbrev pub EarlyBelow : ℕ → List ℕ → Type 0
  EarlyBelow q reach = (s : ℕ) → s < q → get_or reach s 0 < q → Reached reach s

-- the legs before number q are those of the calls
unfoldable pub LegsTo : (ℕ → ℕ → Option Leg) → List ℕ → ℕ → LegLists → Type 0
LegsTo by held q legs = (k : ℕ) → 0 < k → k < q → k < length held → LegIs by held legs k

-- the lists are worked out from some tables
unfoldable pub Listed : RowLists → Type 0
Listed x = (t : Tables) × StopsOf t x.held x.stops × LegsAre t x.held x.legs

-- over number lists, for whatever tables these are worked out from
module _ (I : Tables → Instance) (x : RowLists) where
  unfoldable pub Noted : ℕ → Rows → Rows → Type 0
  Noted i old new =
      (t : Tables) → StopsOf t x.held x.stops → LegsAre t x.held x.legs → NotedRow (tariff (I t)) x.held i old new

  -- where the cells up to q and the rows that ended before q are those of the calls held, the table of the rows below q is made
  unfoldable pub Refilled : ℕ → Rows → Rows → Type 0
  Refilled q old new =
      (t : Tables) → StopsOf t x.held x.stops → LegsAre t x.held x.legs
      → FrontOf (tariff (I t)) x.held q old.table → EarlyBelow (tariff (I t)) x.held q old.reach
      → TableOf (tariff (I t)) x.held q new.table
      × ReachedBelow (tariff (I t)) x.held q new.reach
      × (length new.reach ≡ cells)

-- ---- what is lent to the drops

-- the leg tables, every place as numbers, and the terms
pub record Given : Type 0 where
  pub distances : List Float
  pub times : List Float
  pub size : ℕ
  pub stops : Numbers
  pub terms : Terms

abbrev pub given : List Float → List Float → ℕ → List ℕ → List Float → Terms → Given
given distances times size codes figures terms =
    record { distances = distances; times = times; size = size; stops = numbers codes figures; terms = terms }

module _ (E : Given) where
  abbrev pub legs_given : ℕ → ℕ → Option Leg
  legs_given = drive_f E.distances E.times E.size

  -- with these customers
  abbrev pub tables_with : List Customer → Tables
  tables_with customers = Records.lent customers E.distances E.times E.size

  abbrev pub instance_with : List Customer → Instance
  instance_with customers = over (tables_with customers) E.terms

  -- the numbers of the calls held are those of these customers, and of some
  abbrev pub ListsOf : List ℕ → List Customer → Type 0
  ListsOf held customers = StopsOf (tables_with customers) held E.stops

  unfoldable pub SomeLists : List ℕ → Type 0
  SomeLists held = (customers : List Customer) × ListsOf held customers

-- ---- one turn

-- what the drops change: the calls held, the legs between them, and their rows
pub record Work : Type 0 where
  pub calls : Calls
  pub legs : LegLists
  pub rows : Rows

abbrev pub work : Calls → LegLists → Rows → Work
work calls legs rows = record { calls = calls; legs = legs; rows = rows }

-- the table of the rows below i, where each row ended, and the legs, all of the calls held
pub record Filled (I : Instance) (held : List ℕ) (i : ℕ) (legs : LegLists) (x : Rows) : Type 0 where
  pub legs-long : LegsLong legs
  pub reach-long : length x.reach ≡ cells
  pub legs-are : LegsAre I.tables held legs
  pub filled : TableOf (tariff I) held i x.table
  pub reached : ReachedBelow (tariff I) held i x.reach

-- row i of the n calls held is done, and r says whether the first i + 1 have a cutting: if so all stay, else the last of them is dropped as
-- number `gone`, and the rows below i are those of the calls left
pub record Turned (I : Instance) (n i gone : ℕ) (r : Bool) (old new : Work) : Type 0 where
  pub tells : r ≡ have_f I (take n old.calls.held) (suc i)
  pub stays : r ≡ true → (new.calls ≡ old.calls) × Filled I (take n old.calls.held) (i + 1) new.legs new.rows
  pub drops : r ≡ false
      → DropCall n i gone old.calls new.calls × Filled I (take (n - 1) new.calls.held) i new.legs new.rows

-- a turn can be made at row i of the n calls held, `gone` of which were dropped before
pub record TurnReady (E : Given) (n i gone : ℕ) (x : Work) : Type 0 where
  pub few : n ≤ most_cut
  pub may-drop : MayDrop n i gone x.calls
  pub below : Below64 (take n x.calls.held)
  pub rows_long : RowsLong x.rows
  pub legs-long : LegsLong x.legs
  pub legs-are : LegsTo (legs_given E) (take n x.calls.held) n x.legs
  pub lists : SomeLists E (take n x.calls.held)

-- a turn, where the rows below i are filled
unfoldable pub RowOrDrop : Given → ℕ → ℕ → ℕ → Bool → Work → Work → Type 0
RowOrDrop E n i gone r old new =
    (customers : List Customer) → ListsOf E (take n old.calls.held) customers
    → Filled (instance_with E customers) (take n old.calls.held) i old.legs old.rows
    → Turned (instance_with E customers) n i gone r old new

-- ---- the calls that stay

-- the table before the first row
unfoldable pub Unfilled : Table → Type 0
Unfilled t =
    (t.cost ≡ set (replicate cells (inf false)) 0 (fl 0)) × (t.far ≡ replicate cells (fl 0)) × (t.pred ≡ replicate cells 0)

-- n calls stand at the front of `held`, and all of them may be dropped
pub record Front (n : ℕ) (held dropped : List ℕ) : Type 0 where
  pub few : n ≤ most_cut
  pub held-long : n ≤ length held
  pub dropped-long : n ≤ length dropped
  pub below : Below64 (take n held)

-- the drops can begin: all n calls are held, their legs are written, and no row is filled
pub record StuckReady (E : Given) (n : ℕ) (x : Work) : Type 0 where
  pub front : Front n x.calls.held x.calls.dropped
  pub positions-long : length x.calls.positions ≡ most_cut
  pub positions-are : take n x.calls.positions ≡ count 1 n
  pub reach-long : length x.rows.reach ≡ cells
  pub legs-long : LegsLong x.legs
  pub legs-are : LegsTo (legs_given E) (take n x.calls.held) n x.legs
  pub unfilled : Unfilled x.rows.table
  pub lists : SomeLists E (take n x.calls.held)

-- the calls held at the end, n of them at the front of `held`, those dropped, and the whole table of those held
pub record Stayed (I : Instance) (tour dropped : List ℕ) (n : ℕ) (held dropped' : List ℕ) (t : Table) : Type 0 where
  pub held-count : n ≡ length (drops_f I tour).held
  pub dropped-count : length tour - n ≡ length (drops_f I tour).dropped
  pub few : n ≤ length tour
  pub held-are : take n held ≡ calls_at tour (drops_f I tour).held
  pub dropped-are : dropped' ≡ written (drops_f I tour).dropped dropped
  pub whole : TableOf (tariff I) (take n held) n t

-- for whatever customers the numbers are of
unfoldable pub Holds : Given → List ℕ → List ℕ → ℕ → List ℕ → List ℕ → Table → Type 0
Holds E tour dropped n held dropped' t =
    (customers : List Customer) → ListsOf E tour customers → Stayed (instance_with E customers) tour dropped n held dropped' t
