-- On a sheet within the limits, lent in floats, the answers of `split_tw` and of `split` are those of crates/definitions. Assumes nothing.
use Prim.Native.Nat.{ℕ, ◌≤◌, ◌<◌}
use native.Mathlib.Omega.{arith}
use mathlib.Core.Path.{◌≡◌, refl, sym, ap, ◌∙◌, fun_ext}
use mathlib.Core.List.{List, [], ◌∷◌, map}
use Rattle.std.specs.Prelude.{Option, None, Some}
use lib.ListN.{length, length-map}
use lib.Ieee.{Float}
use Rattle.basics.specs.Options.{value_or}
use Rattle.basics.specs.Lists.{All}
use Rattle.basics.proofs.ListLaws.{length-count}
use Rattle.bounds.specs.Sized.{SmallCustomer, Sized, Place}
use Rattle.bounds.proofs.Inside.{sized, few-calls, calls-inside, call-inside, held-inside}
use Rattle.bounds.proofs.CostBoundLaws.{arcs-priced, held-few}
use Rattle.definitions.specs.Domain.{most_calls}
use Rattle.definitions.specs.Sheet.{Customer, Sheet}
use Rattle.definitions.specs.Clauses.{bare, bare_customer}
use Rattle.definitions.specs.Clock.{Arc}
use Rattle.definitions.specs.Cutting.{Best, nothing, run_ends, cheapest}
use Rattle.definitions.specs.Placement.{Placement, by_clock, arc_by}
use Rattle.definitions.specs.Drop.{calls_at, all_held, result, split, drops, plan_by, split_tw, split_by}
use Rattle.definitions.specs.Refusals.{Within, WithinCalls}
use Rattle.theorems.proofs.Pricing.{cut}
use Rattle.theorems.proofs.Placing.{pricing}
use Rattle.theorems.proofs.Promised.{split-plan}
use Rattle.theorems.proofs.Beside.{unbroken-arcs}
use Rattle.theorems.proofs.Bare.{split-by-clock}
use Rattle.whole.specs.Whole.{fl}
use Rattle.evaluation.proofs.ClockExact.{demand-exact}
use Rattle.placements.specs.Chosen.{placement_of}
use Rattle.cut_stops.specs.Stops.{Below64}
use Rattle.cut_runs.specs.Tariff.{ends_f, cost_f, distance_f}
use Rattle.cut_runs.specs.Runs.{Instance, tariff}
use Rattle.split_tw.specs.Answer.{ResultF, plan_f}
use Rattle.split_tw.specs.SplitTw.{split_tw_f}
use Rattle.cut_exact.proofs.Image.{fl_result}
use Rattle.cut_exact.proofs.TableExact.{cost_fl, far_fl, Setting, RunIs, cost-exact, distance-exact, ends-exact}
use Rattle.cut_exact.proofs.SplitTwExact.{ImageTw, X, run_is}
use Rattle.cut_exact.proofs.DropsExact.{drops-exact}

-- what the cut of the calls held gives, as it is written down
abbrev cut_as : List ℕ → List ℕ → List ℕ → Float → Float → ResultF
cut_as held dropped ends cost distance = record { served = held; ends = ends; dropped = dropped; cost = cost; distance = distance }

-- of calls that have a cutting, where the runs are arcs
cut-exact : (X : Setting) → ((i j : ℕ) → i < j → j ≤ length X.held → RunIs X i j) → (dropped : List ℕ) (b : Best) → cheapest X.arc X.held ≡ Some b
    → let T = X.tariff in let held = X.held in
    cut_as held dropped (ends_f T held) (cost_f T held) (distance_f T held) ≡ cut_as held dropped (run_ends b.runs) (fl b.cost) (far_fl X.sheet (Some b))
cut-exact X runs-are dropped b e =
    let T = X.tariff in
    let held = X.held in
    ap (λ (x : List ℕ). cut_as held dropped x (cost_f T held) (distance_f T held)) (ends-exact X runs-are b e)
    ∙ ap (λ (x : Float). cut_as held dropped (run_ends b.runs) x (distance_f T held)) (cost-exact X runs-are ∙ ap cost_fl e)
    ∙ ap (λ (x : Float). cut_as held dropped (run_ends b.runs) (fl b.cost) x) (distance-exact X runs-are ∙ ap (far_fl X.sheet) e)

-- a call is a place, of which a sheet has at most 64
pub below_64 : (s : Sheet) → Within s → (tour : List ℕ) → WithinCalls s tour → Below64 tour
unfolding Below64
below_64 s w tour e k h = let S = sized s w in omega (arith, call-inside s S tour k (calls-inside s tour e), S.few-places)

-- ---- by windows, limits and break, for either placement of the break

module _ (s : Sheet) (S : Sized s) (tour : List ℕ) (short : length tour ≤ most_calls) (inside : All (Place s) tour) (I : Instance) (M : ImageTw s I) where
  abbrev p : Placement
  p = placement_of I.placement

  sized-exact : split_tw_f I tour ≡ fl_result (split_by p s tour)
  unfolding split_tw_f
  sized-exact =
      let h = drops (arc_by p s) tour in
      let held = calls_at tour h.held in
      let m = cut s (arc_by p s) (pricing s p) tour in
      let few = held-few (arc_by p s) (arcs-priced s S p) tour short in
      let ins = held-inside s S tour h.held inside in
      let D = demand-exact s S I.tables.customers M.tables-hold.records-are in
      let all : length (all_held tour).held ≤ most_calls = omega (arith, length-count 1 (length tour), short) in
      ap (plan_f (tariff I) tour) (drops-exact s S I M D tour inside all)
      ∙ cut-exact (X s S I M held ins few D) (run_is s S I M held ins few D) h.dropped m.0 m.1
      ∙ sym (ap (λ (o : Option Best). fl_result (result s tour h (value_or nothing o))) m.1)
      ∙ sym (ap fl_result (split-plan p s tour))

pub split-tw-exact : (s : Sheet) → Within s → (tour : List ℕ) → WithinCalls s tour → (I : Instance) → ImageTw s I
    → split_tw_f I tour ≡ fl_result (split_by (placement_of I.placement) s tour)
split-tw-exact s W tour T I M = sized-exact s (sized s W) tour (few-calls s tour T) (calls-inside s tour T) I M

-- ---- by loads and closed legs alone: the same cut of the sheet without windows, limits and break

bare-small : (l : List Customer) → All SmallCustomer l → All SmallCustomer (map bare_customer l)
bare-small [] a = tt
bare-small (c ∷ l) a =
    (record { demand-small = a.0.demand-small; service-small = a.0.service-small; window-small = tt; penalty-small = tt }, bare-small l a.1)

module _ (s : Sheet) where
  bare-sized : Sized s → Sized (bare s)
  unfolding bare
  bare-sized S =
      record {
        some-place = S.some-place;
        few-places = S.few-places;
        capacity-small = S.capacity-small;
        fixed-small = S.fixed-small;
        far-small = tt;
        long-small = tt;
        rest-small = tt;
        records-all = length-map s.customers bare_customer ∙ S.records-all;
        records-small = bare-small s.customers S.records-small;
        distances-all = S.distances-all;
        distances-legs = S.distances-legs;
        times-all = S.times-all;
        times-legs = S.times-legs;
      }

  bare-inside : (tour : List ℕ) → All (Place s) tour → All (Place (bare s)) tour
  unfolding bare
  bare-inside tour i = i

  -- it has no break, so that every placement is the clock's
  bare-placement : (p : Placement) (tour : List ℕ) → split_by p (bare s) tour ≡ split_tw (bare s) tour
  bare-placement p tour =
      split-plan p (bare s) tour
      ∙ ap (λ (f : List ℕ → Option Arc). plan_by f (bare s) tour) (fun_ext (unbroken-arcs (bare s) unbroken p by_clock))
      ∙ sym (split-plan by_clock (bare s) tour)
    where
      unbroken : (bare s).head.rest ≡ None
      unbroken = unfold bare in refl

pub split-exact : (s : Sheet) → Within s → (tour : List ℕ) → WithinCalls s tour → (I : Instance) → ImageTw (bare s) I → split_tw_f I tour ≡ fl_result (split s tour)
split-exact s W tour T I M =
    sized-exact (bare s) (bare-sized s (sized s W)) tour (few-calls s tour T) (bare-inside s tour (calls-inside s tour T)) I M
    ∙ ap fl_result (bare-placement s (placement_of I.placement) tour ∙ split-by-clock s tour)
