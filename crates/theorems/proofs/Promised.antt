-- Demand 3 holds of `split_tw`, for either placement of the breaks, with the runs and the positions held by name. Assumes nothing.
use Prim.Native.Nat.{ℕ, ◌≤◌}
use native.Mathlib.Omega.{arith}
use mathlib.Core.Path.{◌≡◌, refl, sym, ap, subst, ◌∙◌}
use mathlib.Core.Logic.{◌⊎◌}
use mathlib.Core.Bool.{true, false}
use mathlib.Core.List.{List, map}
use lib.ListN.{length, take, length-map}
use Rattle.basics.specs.Lists.{sum, In, Rising, count}
use Rattle.definitions.specs.Sheet.{Sheet, lateness_pay}
use Rattle.definitions.specs.Run.{Run, length_of}
use Rattle.definitions.specs.Placement.{Placement, by_clock, by_pay, arc_by}
use Rattle.definitions.specs.Cutting.{joined, run_ends, legal_cutting, cutting_cost, Best}
use Rattle.definitions.specs.Drop.{call_at, calls_at, drops, Result, plan_by, split_tw, split_least, split_by}
use Rattle.definitions.specs.Promise.{HasCutting, AnyRival, Rival, Ties}
use Rattle.definitions.specs.Clauses.{LeastAmong, Least, Drops, Partition}
use Rattle.theorems.proofs.Dropping.{settled, parts-either, parts-not-both, parts-rise, count-rises, drops-parts}
use Rattle.theorems.proofs.Pricing.{no-empty, cut, cut-legal, cut-least, drop-rule, calls}
use Rattle.theorems.proofs.Placing.{placed_by, pricing, made-placed, free-worth, rival-legal, rival-worth}
use Rattle.theorems.proofs.Ties.{ties-early}

-- ---- what is kept

pub record PromiseBy (p : Placement) (s : Sheet) (tour : List ℕ) (x : Result) : Type 0 where
  -- the runs returned, and the positions held in the end
  pub runs : List Run
  pub held : List ℕ
  pub ends-are : run_ends runs ≡ x.ends
  pub places-are : map (λ r. r.place) runs ≡ x.places
  pub distance_is : sum (λ r. length_of s r.calls) runs ≡ x.distance
  pub served-are : calls_at tour held ≡ x.served
  -- a legal cutting of the served calls, in tour order, and its run costs add up to the returned cost
  pub cuts : joined runs ≡ x.served
  pub all-legal : legal_cutting s runs ≡ true
  pub breaks-placed : placed_by p s runs ≡ true
  pub adds-up : cutting_cost s runs ≡ x.cost
  -- every other legal cutting of the served calls costs at least as much
  pub least : Least p s x.served x.cost
  -- of equal cost the earlier cut point is kept
  pub ties : Ties s (Rival p s) runs
  -- the drop rule, and every position served or dropped
  pub drop-rule : Drops s tour held x.dropped
  pub parted : Partition tour held x.dropped

-- the plan of either placement is the one by its price of runs
pub split-plan : (p : Placement) (s : Sheet) (tour : List ℕ) → split_by p s tour ≡ plan_by (arc_by p s) s tour
unfolding split_tw split_least
split-plan by_clock s tour = refl
split-plan by_pay s tour = refl

-- by the clock
abbrev pub Promise : Sheet → List ℕ → Result → Type 0
Promise s tour x = PromiseBy by_clock s tour x

module _ (s : Sheet) (tour : List ℕ) where
  module _ (p : Placement) where
    abbrev best : Best
    best = (cut s (arc_by p s) (pricing s p) tour).0

    abbrev served : List ℕ
    served = calls s (arc_by p s) (pricing s p) tour

    among : LeastAmong (Rival p s) s served best.cost
    among rs j R = cut-least s (arc_by p s) (pricing s p) tour rs j (rival-legal s p rs R) (rival-worth s p rs R)

    -- without lateness pay
    free : lateness_pay s ≡ false → LeastAmong (AnyRival s) s served best.cost
    free z rs j l = cut-least s (arc_by p s) (pricing s p) tour rs j l (at_least (free-worth s p z rs l))
      where
        at_least : {a b : ℕ} → a ≡ b → b ≤ a
        at_least e = omega arith

    least_by : (q : Placement) → p ≡ q → Least q s served best.cost
    least_by by_clock e = (free, subst (λ (q : Placement). LeastAmong (Rival q s) s served best.cost) e among)
    least_by by_pay e = subst (λ (q : Placement). LeastAmong (Rival q s) s served best.cost) e among

    pub promised-by : PromiseBy p s tour (split_by p s tour)
    promised-by =
        let C = pricing s p in
        let k = cut-legal s (arc_by p s) C tour in
        rw (split-plan p s tour, (cut s (arc_by p s) C tour).1) (record {
          runs = best.runs;
          held = (drops (arc_by p s) tour).held;
          ends-are = refl;
          places-are = refl;
          distance_is = refl;
          served-are = refl;
          cuts = k.0;
          all-legal = k.2;
          breaks-placed = made-placed s p best.runs k.1;
          adds-up = k.3;
          least = least_by p refl;
          ties = ties-early s (arc_by p s) C (Rival p s) (rival-legal s p) (rival-worth s p) served best (cut s (arc_by p s) C tour).1;
          drop-rule = drop-rule s (arc_by p s) C tour;
          parted = drops-parts (arc_by p s) tour (no-empty s (arc_by p s) C);
        })

  pub promised : Promise s tour (split_tw s tour)
  promised = promised-by by_clock

  -- ---- what the clauses say of single calls and positions

  -- every beginning of the served calls has a legal cutting
  pub every-beginning : (i : ℕ) → i ≤ length (split_tw s tour).served → HasCutting s (take i (split_tw s tour).served)
  every-beginning i h =
      let P = promised in
      let long : length (split_tw s tour).served ≡ length P.held = ap length (sym P.served-are) ∙ length-map P.held (call_at tour) in
      subst (λ (l : List ℕ). HasCutting s (take i l)) P.served-are (settled (HasCutting s) tour P.drop-rule i (subst (λ (n : ℕ). i ≤ n) long h))

  -- every position of the tour is either served or dropped
  pub served-or-dropped : {p : ℕ} → In p (count 1 (length tour)) → In p promised.held ⊎ In p (split_tw s tour).dropped
  served-or-dropped i = parts-either promised.parted i

  -- and never both
  pub never_both : {p : ℕ} → In p promised.held → In p (split_tw s tour).dropped → ⊥
  never_both i j = parts-not-both 0 promised.parted (count-rises 0 (length tour)) i j

  -- the drops come in rising order, and so do the positions served
  pub drops-rise : Rising 0 (split_tw s tour).dropped
  drops-rise = (parts-rise 0 promised.parted (count-rises 0 (length tour))).1

  pub served-rise : Rising 0 promised.held
  served-rise = (parts-rise 0 promised.parted (count-rises 0 (length tour))).0
