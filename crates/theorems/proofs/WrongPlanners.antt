-- Wrong planners, markers and improvers, each on a sheet of the cases: what it would return does not keep the promise. Assumes nothing.
use Prim.Native.Nat.{ℕ, ◌+◌, ◌≤◌}
use native.Mathlib.Omega.{arith}
use mathlib.Core.Path.{◌≡◌, refl, sym, ap, ◌∙◌}
use mathlib.Core.Bool.{true, false, false≢true}
use mathlib.Core.List.{List, [], ◌∷◌, map}
use Rattle.std.specs.Prelude.{None}
use lib.ListN.{length, get_or, length-map}
use Rattle.definitions.specs.Sheet.{Sheet, any_soft}
use Rattle.definitions.specs.Run.{Run}
use Rattle.definitions.specs.RunList.{runs_from}
use Rattle.definitions.specs.Cutting.{cutting_cost}
use Rattle.definitions.specs.Drop.{call_at, calls_at, Held, split_tw}
use Rattle.definitions.specs.Promise.{HasCutting, Parts, ended, kept, gone}
use Rattle.definitions.specs.Placement.{by_clock}
use Rattle.definitions.specs.Clauses.{returned, Legal, Sum, Least, Drops, Served, Partition}
use Rattle.definitions.specs.Marker.{Verdict, best, dearer, verdict_number, verdict_values, mark}
use Rattle.definitions.specs.Marks.{Says}
use Rattle.definitions.specs.Improver.{given_of, checks_needed}
use Rattle.definitions.specs.Sort.{insert, sort}
use Rattle.definitions.specs.TwoOpt.{tried, tried_all, pass_from, pass, passes, improved}
use Rattle.definitions.specs.Elimination as Elimination
use Rattle.definitions.specs.Elimination.{candidates, first_below, placed_all, emptied, first_emptied, search, searches, eliminated}
use Rattle.definitions.proofs.Bench.{opened, base, carrying, until, tour, run}
use Rattle.definitions.proofs.FurtherSheets.{by_distance}
use Rattle.theorems.proofs.Dropping.{settles-one}
use Rattle.theorems.proofs.Sentences.{split-tw-kept}
use Rattle.theorems.proofs.OneMark.{says-mark}

-- two numbers that an answer makes the same
abbrev Same : ℕ → ℕ → Type 0
Same a b = a ≡ b

-- ---- against `sum`: a cost is invented

pub invented-cost : Sum by_clock base tour (2 ∷ []) 28 → ⊥
unfolding opened runs_from
invented-cost e = let c : cutting_cost base (returned by_clock base tour (2 ∷ [])) ≡ 27 = refl in omega (arith, sym c ∙ e)

-- ---- against `least`: each call is a run of its own

pub each-call-alone : Least by_clock base tour 44 → ⊥
unfolding opened any_soft
each-call-alone l =
    let h = l.0 refl (run tour 0 ∷ []) refl refl in
    let c : cutting_cost base (run tour 0 ∷ []) ≡ 27 = refl in
    omega (arith, h, c)

-- ---- against `legal`: the tour is one run, whatever it carries

pub tour-whole : Legal by_clock (carrying 3) tour (2 ∷ []) → ⊥
unfolding opened runs_from
tour-whole l = false≢true l.1

-- ---- against `drops`: on one tour the drop rule leaves one answer

module _ (s : Sheet) (calls held dropped : List ℕ) (D : Drops s calls held dropped) where
  same-held : ◌≡◌ {A = Held} (record { held = held; dropped = dropped }) (record { held = (split-tw-kept s calls).held; dropped = (split_tw s calls).dropped })
  same-held = settles-one (HasCutting s) calls D (split-tw-kept s calls).drops

  pub drops-one : dropped ≡ (split_tw s calls).dropped
  drops-one = ap (λ (h : Held). h.dropped) same-held

-- every call is dropped
pub every-call-dropped : (held : List ℕ) → Drops base tour held (1 ∷ 2 ∷ []) → ⊥
unfolding opened
every-call-dropped held D = let n : Same 2 0 = ap length (drops-one base tour held (1 ∷ 2 ∷ []) D) in omega (arith, n)

-- a call is dropped that need not be
pub needless-drop : (held : List ℕ) → Drops base tour held (1 ∷ []) → ⊥
unfolding opened
needless-drop held D = let n : Same 1 0 = ap length (drops-one base tour held (1 ∷ []) D) in omega (arith, n)

-- customer 1 can't be reached by 9, and customer 2 is dropped in its place
pub another-call-dropped : (held : List ℕ) → Drops (until 9 None) tour held (2 ∷ []) → ⊥
unfolding opened
another-call-dropped held D =
    let n : Same 2 1 = ap (λ (l : List ℕ). get_or l 0 0) (drops-one (until 9 None) tour held (2 ∷ []) D) in
    omega (arith, n)

-- ---- against `partition`: a position is both served and dropped

parts-counted : {l h d : List ℕ} → Parts l h d → length l ≡ length h + length d
parts-counted ended = refl
parts-counted (kept x p) = let e = parts-counted p in omega (arith, e)
parts-counted (gone x p) = let e = parts-counted p in omega (arith, e)

pub served-and-dropped : (held : List ℕ) → Served tour held tour → Partition tour held (2 ∷ []) → ⊥
served-and-dropped held e p =
    let all : 2 ≡ length held + 1 = parts-counted p in
    let two : length (calls_at tour held) ≡ 2 = ap length e in
    omega (arith, all, two, length-map held (call_at tour))

-- ---- against `says`: each call alone costs 17 more, and the planner's own cutting nothing more

abbrev singly : List Run
singly = run (1 ∷ []) 0 ∷ run (2 ∷ []) 0 ∷ []

pub everything-best : Says base (split_tw base tour) singly best → ⊥
unfolding opened
everything-best x =
    let is : dearer 17 ≡ best = says-mark base (split_tw base tour) singly best x in
    let n : Same 9 8 = ap verdict_number is in
    omega (arith, n)

pub everything-dearer-by-nothing : Says base (split_tw base tour) (run tour 0 ∷ []) (dearer 0) → ⊥
unfolding opened
everything-dearer-by-nothing x =
    let is : best ≡ dearer 0 = says-mark base (split_tw base tour) (run tour 0 ∷ []) (dearer 0) x in
    let n : Same 8 9 = ap verdict_number is in
    omega (arith, n)

-- ---- the improvers hand back what they are given

improving : Unit {0}
unfolding opened checks_needed improved passes pass pass_from tried_all tried eliminated searches search first_emptied emptied placed_all Elimination.placed first_below candidates sort insert
improving = tt

pub run-handed-back : improved (given_of by_distance) (2 ∷ 1 ∷ 3 ∷ []) ≡ 2 ∷ 1 ∷ 3 ∷ [] → ⊥
unfolding improving
run-handed-back e = let n : Same 1 2 = ap (λ (l : List ℕ). get_or l 0 0) e in omega (arith, n)

pub runs-handed-back : eliminated (given_of by_distance) ((1 ∷ 3 ∷ []) ∷ (2 ∷ []) ∷ []) ≡ (1 ∷ 3 ∷ []) ∷ (2 ∷ []) ∷ [] → ⊥
unfolding improving
runs-handed-back e = let n : Same 1 2 = ap length e in omega (arith, n)
