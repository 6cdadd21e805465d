-- The runs left by elimination, at the front of the lists that they are written to. Assumes nothing.
use Prim.Native.Nat.{ℕ, ◌≤◌}
use native.Mathlib.Omega.{arith}
use native.Mathlib.Nat.{zero-add}
use mathlib.Core.Path.{◌≡◌, sym, subst, ◌∙◌}
use mathlib.Core.List.{List}
use lib.ListN.{length, take, length-take}
use Rattle.definitions.specs.RunList.{runs_of, calls_of, ends_of}
use Rattle.theorems.proofs.RunListLaws.{RiseTo, runs-back, ends-many}
use Rattle.cut_table.proofs.Fronts.{front, inside, counted}
use Rattle.improve_runs.proofs.Holding.{rise-ends}
use Rattle.route_elimination.specs.declared.route_elimination.Left.{Left}
use Rattle.route_elimination.specs.Elimination.{Leaves, Lists}

module _ {rs : List (List ℕ)} {r : Left} {old new : Lists} (L : Leaves rs r old new) where
  many-ends : r.runs ≡ length (ends_of rs)
  many-ends = L.counts.runs-count ∙ sym (ends-many 0 rs)

  -- the calls, and the ends
  abbrev calls : List ℕ
  calls = take r.calls new.calls

  abbrev ends : List ℕ
  ends = take r.runs new.ends

  calls_are : calls ≡ calls_of rs
  calls_are = front r.calls (calls_of rs) old.calls new.calls L.counts.calls_count L.calls-written

  ends-are : ends ≡ ends_of rs
  ends-are = front r.runs (ends_of rs) old.ends new.ends many-ends L.ends-written

  pub calls-inside : r.calls ≤ length new.calls
  calls-inside = inside r.calls (calls_of rs) old.calls new.calls L.counts.calls_count L.calls-written

  pub calls-counted : r.calls ≡ length calls
  calls-counted = counted r.calls (calls_of rs) old.calls new.calls L.counts.calls_count L.calls-written

  pub ends-inside : r.runs ≤ length new.ends
  ends-inside = inside r.runs (ends_of rs) old.ends new.ends many-ends L.ends-written

  pub ends-counted : r.runs ≡ length ends
  ends-counted = counted r.runs (ends_of rs) old.ends new.ends many-ends L.ends-written

  pub few-calls : length calls ≤ length new.calls
  few-calls = omega (arith, length-take r.calls new.calls)

  pub ends-rise : RiseTo 0 ends (length calls)
  ends-rise = rw (calls_are, ends-are) (subst (RiseTo 0 (ends_of rs)) (zero-add (length (calls_of rs))) (rise-ends 0 rs))

  pub runs-are : runs_of calls ends ≡ rs
  runs-are = rw (calls_are, ends-are) (runs-back 0 rs)
