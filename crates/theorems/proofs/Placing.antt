-- Either placement of the break prices runs: what it gives is legal at its cost, and it gives something wherever some place is legal. Without lateness pay all legal
-- places cost the same; the least pay is the least. Assumes nothing.
use Prim.Native.Nat.{ℕ, ◌+◌, ◌≤◌}
use native.Mathlib.Omega.{arith}
use native.Mathlib.Nat.{le_refl}
use mathlib.Core.Path.{◌≡◌, refl, sym, ap, ap₂, subst, ◌∙◌}
use mathlib.Core.Bool.{Bool, true, false}
use mathlib.Core.List.{List, [], ◌∷◌, map, head-eq_of_cons-eq, tail-eq_of_cons-eq}
use Rattle.std.specs.Prelude.{Option, Some}
use lib.Dec.{eqb}
use borrow.Author.Tests.{eqb-true, eq-eqb}
use Rattle.basics.proofs.TestLaws.{both, and-true}
use Rattle.basics.specs.Options.{◌>>=◌, holds}
use Rattle.basics.proofs.OptionLaws.{same, held}
use Rattle.basics.specs.Lists.{all}
use Rattle.definitions.specs.Sheet.{Sheet, lateness_pay}
use Rattle.definitions.specs.Run.{Run, Totals, legal, price, run_cost}
use Rattle.definitions.specs.Clock.{place_or, Arc, arc_of, arc}
use Rattle.definitions.specs.Placement.{Placement, by_clock, by_pay, least_arc, totals_by, arc_by}
use Rattle.definitions.specs.Cutting.{calls_in, legal_cutting, cutting_cost}
use Rattle.definitions.specs.Promise.{placed_run, Rival}
use Rattle.theorems.proofs.Legality.{with, Own, clock-own, LegalFacts, legal-has, legal-arc, arc-of, facts-arc, distance-of, cost-of, ride-free}
use Rattle.theorems.proofs.LeastPay.{ride-at, at-ride, least_at, least-own, least_first}
use Rattle.theorems.proofs.Least.{Made, cost_in, worth}
use Rattle.theorems.proofs.Pricing.{plus, Pricing}

-- the placement has an answer for each run, and the run's break place is that answer's
abbrev pub placed_by : Placement → Sheet → List Run → Bool
placed_by p s runs = all (λ r. holds (totals_by p s r.calls) (λ t. eqb t.place r.place)) runs

module _ (s : Sheet) where
  -- ---- least pay

  -- where some place is legal there is an arc, and it costs no more
  pub pays-least : (r : Run) → legal s r ≡ true → (a : Arc) × (least_arc s r.calls ≡ Some a) × (a.cost ≤ run_cost s r)
  unfolding least_arc
  pays-least r h =
      let (t, L) = legal-has s r h in
      let (u, e, A) = least_first s r.calls r.place t (at-ride s r.calls r.place t L.rode L.kept-limits L.break-placed) in
      let (o, k, _) = ride-at s r.calls u.place u (least_at s r.calls u e) in (
        record { place = u.place; cost = price s u.distance u.pay },
        rw (e, L.some-calls, L.room, k) refl,
        less s.head.fixed (same (sym (distance-of s (with s r.calls u.place) u o) ∙ distance-of s r t L.rode)) A.pays (cost-of s r t L.rode),
      )
    where
      less : (f : ℕ) {a b p q c : ℕ} → a ≡ b → p ≤ q → c ≡ f + b + q → f + a + p ≤ c
      less f e h i = omega arith

  -- ---- either placement

  module _ (p : Placement) where
    -- the answer for a run is that of its own place
    pub totals-own : (calls : List ℕ) (t : Totals) → totals_by p s calls ≡ Some t → Own s calls t
    totals-own calls t q = go p q
      where
        go : (p : Placement) → totals_by p s calls ≡ Some t → Own s calls t
        go by_clock q = clock-own s calls t q
        go by_pay q = least-own s calls t q

    arc-is : (calls : List ℕ) → arc_by p s calls ≡ (totals_by p s calls >>= arc_of s calls)
    unfolding arc least_arc
    arc-is calls = go p
      where
        go : (p : Placement) → arc_by p s calls ≡ (totals_by p s calls >>= arc_of s calls)
        go by_clock = refl
        go by_pay = refl

    -- what an arc has
    pub arc-has : (calls : List ℕ) (a : Arc) → arc_by p s calls ≡ Some a
        → (t : Totals) × (totals_by p s calls ≡ Some t) × LegalFacts s (with s calls t.place) t × (record { place = t.place; cost = price s t.distance t.pay } ≡ a)
    arc-has calls a q = arc-of s calls (totals_by p s calls) (totals-own calls) a (sym (arc-is calls) ∙ q)

    -- a run that is legal with some place has one by the placement
    pub has-arc : (r : Run) → legal s r ≡ true → (a : Arc) × (arc_by p s r.calls ≡ Some a)
    has-arc r h = go p
      where
        go : (p : Placement) → (a : Arc) × (arc_by p s r.calls ≡ Some a)
        go by_clock = legal-arc s r h
        go by_pay = let y = pays-least r h in (y.0, y.1)

    pub pricing : Pricing s (arc_by p s)
    pricing = record { sound = λ calls a q. let y = arc-has calls a q in facts-arc s calls a y.0 y.2 y.3; complete = has-arc }

    -- ---- cuttings with their breaks there

    pub placed-runs : (rs : List Run) → placed_by p s rs ≡ true → map (placed_run p s) (calls_in rs) ≡ rs
    placed-runs [] h = refl
    placed-runs (r ∷ rs) h =
        let b = both (holds (totals_by p s r.calls) (λ t. eqb t.place r.place)) _ h in
        let t = held (totals_by p s r.calls) _ b.0 in
        ap₂ (λ (x : Run) (l : List Run). x ∷ l)
        (ap (λ (n : ℕ). record { calls = r.calls; place = n }) (ap place_or t.1 ∙ eqb-true t.0.place r.place t.2))
        (placed-runs rs b.1)

    named : (calls : List ℕ) (t : Totals) (n : ℕ) → totals_by p s calls ≡ Some t → t.place ≡ n → holds (totals_by p s calls) (λ t. eqb t.place n) ≡ true
    named calls t n e q = ap (λ (o : Option Totals). holds o (λ t. eqb t.place n)) e ∙ eq-eqb t.place n q

    -- the other way round, where they are legal
    pub runs-placed : (rs : List Run) → legal_cutting s rs ≡ true → map (placed_run p s) (calls_in rs) ≡ rs → placed_by p s rs ≡ true
    runs-placed [] h e = refl
    runs-placed (r ∷ rs) h e =
        let b = both (legal s r) _ h in
        let a = has-arc r b.0 in
        let y = arc-has r.calls a.0 a.1 in
        and-true _ _ (named r.calls y.0 r.place y.1 (sym (ap place_or y.1) ∙ ap (λ (x : Run). x.place) (head-eq_of_cons-eq e))) (runs-placed rs b.1 (tail-eq_of_cons-eq e))

    pub made-placed : (rs : List Run) → Made (arc_by p s) rs → placed_by p s rs ≡ true
    made-placed [] M = refl
    made-placed (r ∷ rs) M =
        let y = arc-has r.calls M.0.0 M.0.1 in
        and-true _ _ (named r.calls y.0 r.place y.1 (ap (λ (x : Arc). x.place) y.3 ∙ M.0.2)) (made-placed rs M.1)

    -- with its breaks there a legal cutting costs what its arcs do
    placed-worth : (rs : List Run) → legal_cutting s rs ≡ true → placed_by p s rs ≡ true → cutting_cost s rs ≡ worth (arc_by p s) rs
    placed-worth [] h k = refl
    placed-worth (r ∷ rs) h k =
        let b = both (legal s r) _ h in
        let c = both (holds (totals_by p s r.calls) (λ t. eqb t.place r.place)) _ k in
        let a = has-arc r b.0 in
        let y = arc-has r.calls a.0 a.1 in
        let t = held (totals_by p s r.calls) _ c.0 in
        let q : a.0.place ≡ r.place =
        sym (ap (λ (x : Arc). x.place) y.3) ∙ ap (λ (x : Totals). x.place) (same (sym y.1 ∙ t.1)) ∙ eqb-true t.0.place r.place t.2 in
        plus (subst (λ (n : ℕ). run_cost s (record { calls = r.calls; place = n }) ≡ a.0.cost) q (pricing.sound r.calls a.0 a.1).1 ∙ sym (ap cost_in a.1))
        (placed-worth rs b.1 c.1)

    -- without lateness pay a legal run costs what its arc says, whatever its place
    pub free-cost : lateness_pay s ≡ false → (r : Run) → legal s r ≡ true → (a : Arc) → arc_by p s r.calls ≡ Some a → run_cost s r ≡ a.cost
    free-cost z r h a q =
        let (t, L) = legal-has s r h in
        let (u, _, M, e) = arc-has r.calls a q in
        cost-of s r t L.rode
        ∙ even s.head.fixed (same (sym (distance-of s r t L.rode) ∙ distance-of s (with s r.calls u.place) u M.rode))
        (ride-free s z r t L.rode) (ride-free s z (with s r.calls u.place) u M.rode)
        ∙ ap (λ (x : Arc). x.cost) e
      where
        even : (f : ℕ) {a b p q : ℕ} → a ≡ b → p ≡ 0 → q ≡ 0 → f + a + p ≡ f + b + q
        even f d z w = omega arith

    pub free-worth : lateness_pay s ≡ false → (rs : List Run) → legal_cutting s rs ≡ true → cutting_cost s rs ≡ worth (arc_by p s) rs
    free-worth z [] h = refl
    free-worth z (r ∷ rs) h =
        let b = both (legal s r) _ h in
        let a = has-arc r b.0 in
        plus (free-cost z r b.0 a.0 a.1 ∙ sym (ap cost_in a.1)) (free-worth z rs b.1)

  -- ---- whom they are held against

  least-worth : (rs : List Run) → legal_cutting s rs ≡ true → worth (least_arc s) rs ≤ cutting_cost s rs
  least-worth [] h = le_refl 0
  least-worth (r ∷ rs) h =
      let b = both (legal s r) _ h in
      let a = pays-least r b.0 in
      sum (ap cost_in a.1) a.2 (least-worth rs b.1)
    where
      sum : {x a b c d : ℕ} → x ≡ a → a ≤ b → c ≤ d → x + c ≤ b + d
      sum e h i = omega arith

  pub rival-legal : (p : Placement) (rs : List Run) → Rival p s rs → legal_cutting s rs ≡ true
  rival-legal by_clock rs R = R.0
  rival-legal by_pay rs R = R

  -- their runs cost no less than their arcs
  pub rival-worth : (p : Placement) (rs : List Run) → Rival p s rs → worth (arc_by p s) rs ≤ cutting_cost s rs
  rival-worth by_clock rs R = at_least (placed-worth by_clock rs R.0 (runs-placed by_clock rs R.0 R.1))
    where
      at_least : {a b : ℕ} → a ≡ b → b ≤ a
      at_least e = omega arith
  rival-worth by_pay rs R = least-worth rs R
