-- Row i of the calls held, with its end noted, and the legs between them. Assumes nothing.
use Prim.Native.Nat.{ℕ, ◌+◌, ◌-◌, ◌<◌, ◌≤◌}
use native.Mathlib.Omega.{arith}
use mathlib.Core.Path.{◌≡◌, refl, ap, ◌∙◌}
use mathlib.Core.List.{List}
use Rattle.std.specs.Prelude.{Option}
use lib.ListN.{length, get_or, set, length-set}
use lib.Seq.{get_or-set_same}
use lib.Dec.{ltb}
use borrow.Author.Tests.{ltb-true, ltb-false}
use Rattle.basics.proofs.TestLaws.{by-test}
use Rattle.cut_theory.specs.Tab.{cells}
use Rattle.cut_theory.proofs.TabLaws.{length-tab}
use Rattle.distance.specs.declared.leg.Leg.{Leg}
use Rattle.evaluation.specs.Records.{Tables}
use Rattle.evaluation.specs.Tables.{leg_f}
use Rattle.cut_table.specs.Table.{Table}
use Rattle.cut_stops.specs.Stops.{StopsOf, LegLists, LegsBy, LegsAre, LegsWritten}
use Rattle.cut_runs.specs.Tariff.{Tariff, TableOf}
use Rattle.cut_runs.specs.Runs.{Instance, tariff, RowLists, Rowed}
use Rattle.cut_runs.proofs.Along.{held-row}
use Rattle.cut_drops.specs.Refill.{Rows, RowsLong, NotedRow, FrontOf, ReachedBelow, EarlyBelow, LegsTo, Listed, Noted, Refilled}

-- ---- the legs of the calls held

-- the legs before number q stay, and the others are written
pub legs-joined : (t : Tables) (held : List ℕ) (q : ℕ) (old new : LegLists) → LegsTo (leg_f t) held q old → LegsWritten (leg_f t) held q old new
    → LegsAre t held new
unfolding LegsBy LegsTo
legs-joined t held q old new L W k p h =
    by-test (ltb k q)
    (λ s.
    let b = ltb-true k q s in
    let o = W.kept k b in
    let g = L k p b h in
    record { distance_is = o.0 ∙ g.distance_is; time-is = o.1 ∙ g.time-is })
    (λ f. W.written k (ltb-false k q f) p h)

-- where they are all of the calls', those before any number are; and the other way round, where no call has that number
pub legs-part : (t : Tables) (held : List ℕ) (q : ℕ) (legs : LegLists) → LegsAre t held legs → LegsTo (leg_f t) held q legs
unfolding LegsBy LegsTo
legs-part t held q legs L k p b h = L k p h

pub legs-whole : (t : Tables) (held : List ℕ) (q : ℕ) (legs : LegLists) → length held ≤ q → LegsTo (leg_f t) held q legs → LegsAre t held legs
unfolding LegsBy LegsTo
legs-whole t held q legs f L k p h = L k p (omega arith) h

-- all are, as they are written at first
pub legs-begun : (by : ℕ → ℕ → Option Leg) (held : List ℕ) (n : ℕ) (old new : LegLists) → LegsWritten by held 0 old new → LegsTo by held n new
unfolding LegsTo
legs-begun by held n old new W k p b h = W.written k (omega arith) p h

-- ---- a row that is noted

pub noted : (I : Tables → Instance) (x : RowLists) (i : ℕ) (old : Rows) (new : Table) (m : ℕ) → Rowed I x i old.table new m → i < length old.reach
    → Noted I x i old (record { table = new; reach = set old.reach i (i + m) })
unfolding Rowed Noted
noted I x i old new m R b t W L =
    let e : get_or (set old.reach i (i + m)) i 0 ≡ i + m = get_or-set_same old.reach i (i + m) 0 b in
    let z : i + m - i ≡ m = omega arith in
    record {
      done = held-row (tariff (I t)) x.held i old.table new (R t W L).0;
      put = rw e refl;
      reached = rw (e, z) (R t W L).1;
    }

-- the arrays keep their lengths
pub noted-long : (T : Tariff) (held : List ℕ) (i : ℕ) (old new : Rows) → length old.reach ≡ cells → NotedRow T held i old new → RowsLong new
noted-long T held i old new l N =
    record {
      table-long =
          record {
            cost-long = ap length N.done.cost-is ∙ length-tab _ cells;
            far-long = ap length N.done.far-is ∙ length-tab _ cells;
            pred-long = ap length N.done.pred-is ∙ length-tab _ cells;
          };
      reach-long = ap length N.put ∙ length-set old.reach i (get_or new.reach i 0) ∙ l;
    }

pub listed-long : (I : Tables → Instance) (x : RowLists) (i : ℕ) (old new : Rows) → Listed x → length old.reach ≡ cells → Noted I x i old new → RowsLong new
unfolding Listed Noted
listed-long I x i old new g l N = noted-long (tariff (I g.0)) x.held i old new l (N g.0 g.1 g.2)

-- the lists are worked out from these tables
module _ (I : Tables → Instance) (x : RowLists) (t : Tables) (W : StopsOf t x.held x.stops) (L : LegsAre t x.held x.legs) where
  pub listed : Listed x
  unfolding Listed
  listed = (t, W, L)

  pub noted-at : (i : ℕ) (old new : Rows) → Noted I x i old new → NotedRow (tariff (I t)) x.held i old new
  unfolding Noted
  noted-at i old new N = N t W L

  pub refilled-at : (q : ℕ) (old new : Rows) → Refilled I x q old new → FrontOf (tariff (I t)) x.held q old.table
      → EarlyBelow (tariff (I t)) x.held q old.reach
      → TableOf (tariff (I t)) x.held q new.table × ReachedBelow (tariff (I t)) x.held q new.reach × (length new.reach ≡ cells)
  unfolding Refilled
  refilled-at q old new R F E = R t W L F E
