-- On a sheet within the limits the cost of runs and cuttings, and the distances that the improvers sum up, stay below 2 ^ 53. Assumes nothing.
use Prim.Native.Nat.{ℕ, ◌+◌, ◌*◌, ◌≤◌}
use native.Mathlib.Omega.{arith}
use mathlib.Core.Path.{◌≡◌, refl, sym, ap, subst, ◌∙◌}
use mathlib.Core.Bool.{true, not, ◌&&◌, false≢true}
use mathlib.Core.List.{List, [], ◌∷◌}
use Rattle.std.specs.Prelude.{Option, None, Some}
use lib.ListN.{length, length-append, length-map}
use Rattle.basics.proofs.TestLaws.{and_left}
use Rattle.basics.specs.Options.{value_or}
use Rattle.basics.proofs.OptionLaws.{bound, granted, unbound, clash}
use Rattle.basics.specs.Lists.{is_empty, sum, All}
use Rattle.basics.proofs.ListLaws.{length-count}
use Rattle.definitions.specs.Domain.{most_calls, most_number}
use Rattle.definitions.specs.Sheet.{Sheet}
use Rattle.definitions.specs.Run.{Run, distance_from, length_of, Totals, ride, fits, price, pay_of, run_cost}
use Rattle.definitions.specs.Clock.{Arc, arc}
use Rattle.definitions.specs.Placement.{Placement, by_clock, arc_by}
use Rattle.definitions.specs.Cutting.{joined, cutting_cost, Best, nothing, cheapest}
use Rattle.definitions.specs.Drop.{call_at, calls_at, drops, plan_by, split_by, plain_arc}
use Rattle.definitions.specs.Promise.{Parts, ended, kept, gone}
use Rattle.definitions.specs.Improver.{Given, distance_of}
use Rattle.theorems.proofs.Pricing.{no-empty}
use Rattle.theorems.proofs.Placing.{arc-has, pricing}
use Rattle.theorems.proofs.Least.{Reach, more, Made, best-reach, best_of}
use Rattle.theorems.proofs.Dropping.{drops-parts}
use Rattle.theorems.proofs.Promised.{split-plan}
use Rattle.bounds.specs.Sized.{Small, Sized}
use Rattle.whole.specs.Whole.{limit}
use Rattle.bounds.specs.Bounds.{most_pay}
use Rattle.bounds.proofs.BoundLaws.{legs-most, distance_most, length_most, ride-most}
use Rattle.bounds.specs.CostBounds.{most_cost, most_far, Called, Priced}

pub cost-fits : (j cost : ℕ) → j ≤ most_calls → cost ≤ j * most_cost → cost ≤ limit
cost-fits j cost few h = omega arith

pub far-fits : (j far : ℕ) → j ≤ most_calls → far ≤ j * most_far → far ≤ limit
far-fits j far few h = omega arith

-- ---- a run

some-length : (calls : List ℕ) → not (is_empty calls) ≡ true → 1 ≤ length calls
some-length [] e = absurd (false≢true e)
some-length (c ∷ cs) e = omega arith

module _ (s : Sheet) (S : Sized s) where
  -- what a run of n calls costs
  pub price-most : (n distance pay : ℕ) → 1 ≤ n → distance ≤ (n + 1) * most_number → pay ≤ n * most_pay → price s distance pay ≤ n * most_cost
  price-most n distance pay h d p = omega (arith, S.fixed-small)

  -- the sums on the way to it, on top of the cost of i calls before it
  pub price-room : (i n cost distance pay : ℕ) → i ≤ most_calls → n ≤ most_calls → cost ≤ i * most_cost → distance ≤ (n + 1) * most_number → pay ≤ n * most_pay
      → cost + s.head.fixed + distance + pay ≤ limit
  price-room i n cost distance pay h k c d p = omega (arith, S.fixed-small)

  -- by either placement of the break
  pub arcs-priced : (p : Placement) → Priced (arc_by p s)
  arcs-priced p = record { no_run = no-empty s (arc_by p s) (pricing s p); run-most = most }
    where
      most : (calls : List ℕ) (a : Arc) → length calls ≤ most_calls → arc_by p s calls ≡ Some a → a.cost ≤ length calls * most_cost
      most calls a few e =
          let (t, _, L, is) = arc-has s p calls a e in
          let T = ride-most s S (record { calls = calls; place = t.place }) few t L.rode in
          subst (λ (x : Arc). x.cost ≤ length calls * most_cost) is
          (price-most (length calls) t.distance t.pay (some-length calls L.some-calls) T.distance_most T.pay-most)

  pub arc-priced : Priced (arc s)
  arc-priced = arcs-priced by_clock

  -- `split` pays for no lateness
  pub plain-priced : Priced (plain_arc s)
  unfolding plain_arc
  plain-priced = record { no_run = unbound (distance_from s 0 []) _ (λ d. refl); run-most = most }
    where
      most : (calls : List ℕ) (a : Arc) → length calls ≤ most_calls → plain_arc s calls ≡ Some a → a.cost ≤ length calls * most_cost
      most calls a few e =
          let (d, r, q) = bound (distance_from s 0 calls) _ a e in
          let g = granted (not (is_empty calls) && fits s calls) (record { place = 0; cost = price s d 0 }) a q in
          let h = some-length calls (and_left (not (is_empty calls)) _ g.0) in
          subst (λ (x : Arc). x.cost ≤ length calls * most_cost) g.1 (price-most (length calls) d 0 h (distance_most s S 0 calls d r) (omega arith))

  -- with any break place
  pub run-cost-most : (r : Run) → Called r → length r.calls ≤ most_calls → run_cost s r ≤ length r.calls * most_cost
  unfolding run_cost
  run-cost-most r h few =
      price-most (length r.calls) (length_of s r.calls) (pay_of (ride s r)) (some-length r.calls h) (length_most s S r.calls) (paid (ride s r) refl)
    where
      paid : (o : Option Totals) → ride s r ≡ o → pay_of o ≤ length r.calls * most_pay
      paid None e = omega arith
      paid (Some t) e = (ride-most s S r few t e).pay-most

  pub run-distance-most : (r : Run) → Called r → length r.calls ≤ most_calls → length_of s r.calls ≤ length r.calls * most_far
  run-distance-most r h few = omega (arith, length_most s S r.calls, some-length r.calls h)

-- ---- cuttings

-- what holds for each run of a list, in all
runs-most : (f : Run → ℕ) (m : ℕ) → ((r : Run) → Called r → length r.calls ≤ most_calls → f r ≤ length r.calls * m)
    → (runs : List Run) → All Called runs → length (joined runs) ≤ most_calls → sum f runs ≤ length (joined runs) * m
runs-most f m h [] c few = omega arith
runs-most f m h (r ∷ rs) c few =
    let z = length-append r.calls (joined rs) in
    let k : f r ≤ length r.calls * m = h r c.0 (omega arith) in
    let i : sum f rs ≤ length (joined rs) * m = runs-most f m h rs c.1 (omega arith) in
    rw z (omega arith)

module _ (s : Sheet) (S : Sized s) (runs : List Run) (called : All Called runs) (few : length (joined runs) ≤ most_calls) where
  -- of a cutting with any break places
  pub cutting-cost-most : cutting_cost s runs ≤ length (joined runs) * most_cost
  cutting-cost-most = runs-most (run_cost s) most_cost (run-cost-most s S) runs called few

  pub cutting-distance-most : sum (λ r. length_of s r.calls) runs ≤ length (joined runs) * most_far
  cutting-distance-most = runs-most (λ r. length_of s r.calls) most_far (run-distance-most s S) runs called few

module _ (arc : List ℕ → Option Arc) (P : Priced arc) where
  -- any cutting of the calls
  pub reach-most : {calls : List ℕ} {n : ℕ} → Reach arc calls n → length calls ≤ most_calls → n ≤ length calls * most_cost
  reach-most (Reach.start e z) few = omega arith
  reach-most {calls} (more before since m a R q e z) few =
      let j : length before + length since ≡ length calls = sym (length-append before since) ∙ ap length e in
      let b = reach-most R (omega arith) in
      let c = P.run-most since a (omega arith) q in
      omega arith

  -- the best of them
  pub best-most : (calls : List ℕ) → length calls ≤ most_calls → (b : Best) → cheapest arc calls ≡ Some b → b.cost ≤ length calls * most_cost
  best-most calls few b e = reach-most (best-reach arc calls (cheapest arc calls) (best_of arc P.no_run calls) b e) few

  made-called : (runs : List Run) → Made arc runs → All Called runs
  made-called [] m = tt
  made-called (r ∷ rs) m = (go r.calls m.0.1, made-called rs m.1)
    where
      go : (calls : List ℕ) → arc calls ≡ Some m.0.0 → not (is_empty calls) ≡ true
      go [] e = clash (sym P.no_run ∙ e)
      go (c ∷ cs) e = refl

  -- and its distance
  pub best-distance-most : (s : Sheet) → Sized s → (calls : List ℕ) → length calls ≤ most_calls → (b : Best) → cheapest arc calls ≡ Some b
      → sum (λ r. length_of s r.calls) b.runs ≤ length calls * most_far
  best-distance-most s S calls few b e =
      let c = (best_of arc P.no_run calls).cuts b e in
      let z : length (joined b.runs) ≡ length calls = ap length c.0 in
      omega (arith, cutting-distance-most s S b.runs (made-called b.runs c.1) (omega arith))

-- ---- the plan

pub parts-few : {all held dropped : List ℕ} → Parts all held dropped → length held ≤ length all
parts-few ended = omega arith
parts-few (kept x P) = let h = parts-few P in omega arith
parts-few (gone x P) = let h = parts-few P in omega arith

module _ (arc : List ℕ → Option Arc) (P : Priced arc) (tour : List ℕ) (few : length tour ≤ most_calls) where
  -- no more calls are held than the tour has
  pub held-few : length (calls_at tour (drops arc tour).held) ≤ most_calls
  held-few =
      omega (
        arith,
        length-map (drops arc tour).held (call_at tour),
        parts-few (drops-parts arc tour P.no_run),
        length-count 1 (length tour),
      )

  -- the plan's cost and distance
  pub plan-fits : (s : Sheet) → Sized s → ((plan_by arc s tour).cost ≤ limit) × ((plan_by arc s tour).distance ≤ limit)
  plan-fits s S = go (cheapest arc held) refl
    where
      held : List ℕ
      held = calls_at tour (drops arc tour).held

      go : (o : Option Best) → cheapest arc held ≡ o
          → ((value_or nothing o).cost ≤ limit) × (sum (λ r. length_of s r.calls) (value_or nothing o).runs ≤ limit)
      go None e = (omega arith, omega arith)
      go (Some b) e = (
        cost-fits (length held) b.cost held-few (best-most arc P held held-few b e),
        far-fits (length held) (sum (λ r. length_of s r.calls) b.runs) held-few (best-distance-most arc P s S held held-few b e),
      )

-- for either placement of the breaks
pub split-by-fits : (p : Placement) (s : Sheet) → Sized s → (tour : List ℕ) → length tour ≤ most_calls → (split_by p s tour).cost ≤ limit
split-by-fits p s S tour few = rw (split-plan p s tour) (plan-fits (arc_by p s) (arcs-priced s S p) tour few s S).0

-- ---- the improvers

module _ (G : Given) (near : (a b : ℕ) → Small (G.leg a b)) where
  -- the distance of a run
  pub run-far : (run : List ℕ) → distance_of G run ≤ length run * most_far
  run-far [] = omega arith
  run-far (c ∷ cs) = omega (arith, legs-most G.leg near 0 (c ∷ cs))
