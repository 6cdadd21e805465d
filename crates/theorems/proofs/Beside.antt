-- The two placements beside each other: they drop and serve the same calls; the least pay costs no more, and without lateness pay the same; on a sheet without a break they are one. Assumes nothing.
use Prim.Native.Nat.{ℕ, ◌≤◌}
use native.Mathlib.Omega.{arith}
use mathlib.Core.Logic.{◌↔◌}
use mathlib.Core.Path.{◌≡◌, refl, sym, ap, ap₂, subst, ◌∙◌}
use mathlib.Core.Bool.{true, false}
use mathlib.Core.List.{List}
use Rattle.std.specs.Prelude.{Option, None, Some}
use lib.ListN.{length}
use borrow.Author.Tests.{eqb-true}
use Rattle.basics.proofs.OptionLaws.{clash}
use Rattle.definitions.specs.Sheet.{Break, Sheet, lateness_pay}
use Rattle.definitions.specs.Run.{Run, placed, legal, run_cost}
use Rattle.definitions.specs.Clock.{Arc}
use Rattle.definitions.specs.Placement.{Placement, by_clock, by_pay, arc_by}
use Rattle.definitions.specs.Drop.{calls_at, Held, drops, split_by}
use Rattle.definitions.specs.Promise.{HasCutting}
use Rattle.theorems.proofs.Legality.{legal-has}
use Rattle.theorems.proofs.Dropping.{settles-one}
use Rattle.theorems.proofs.Pricing.{drop-rule}
use Rattle.theorems.proofs.Placing.{pricing, has-arc, free-cost}
use Rattle.theorems.proofs.Promised.{split-plan, promised-by}

module _ (s : Sheet) where
  -- a run is legal with some break place exactly when it is with the placement's
  pub some-place : (p : Placement) (calls : List ℕ) → ((place : ℕ) × (legal s (record { calls = calls; place = place }) ≡ true)) ↔ ((a : Arc) × (arc_by p s calls ≡ Some a))
  some-place p calls = (λ x. has-arc s p (record { calls = calls; place = x.0 }) x.1, λ y. (y.0.place, ((pricing s p).sound calls y.0 y.1).0))

  -- without lateness pay a run costs the same by either
  pub free-arcs : lateness_pay s ≡ false → (p q : Placement) (calls : List ℕ) (a b : Arc) → arc_by p s calls ≡ Some a → arc_by q s calls ≡ Some b → a.cost ≡ b.cost
  free-arcs z p q calls a b e f =
      let x = (pricing s p).sound calls a e in
      sym x.1 ∙ free-cost s q z (record { calls = calls; place = a.place }) x.0 b f

  -- on a sheet without a break both price every run alike
  module _ (unbroken : s.head.rest ≡ None) where
    no_place : (r : Run) → legal s r ≡ true → r.place ≡ 0
    unfolding placed
    no_place r h =
        let (t, L) = legal-has s r h in
        eqb-true r.place 0 (subst (λ (o : Option Break). placed o r.place (length r.calls) t.duration ≡ true) unbroken L.break-placed)

    pub unbroken-arcs : (p q : Placement) (calls : List ℕ) → arc_by p s calls ≡ arc_by q s calls
    unbroken-arcs p q calls = go (arc_by p s calls) (arc_by q s calls) refl refl
      where
        go : (x y : Option Arc) → arc_by p s calls ≡ x → arc_by q s calls ≡ y → x ≡ y
        go None None e f = refl
        go None (Some b) e f = clash (sym e ∙ (has-arc s p (record { calls = calls; place = b.place }) ((pricing s q).sound calls b f).0).1)
        go (Some a) None e f = clash (sym f ∙ (has-arc s q (record { calls = calls; place = a.place }) ((pricing s p).sound calls a e).0).1)
        go (Some a) (Some b) e f =
            let (l, c) = (pricing s p).sound calls a e in
            let (m, d) = (pricing s q).sound calls b f in
            let z : a.place ≡ b.place = no_place (record { calls = calls; place = a.place }) l ∙ sym (no_place (record { calls = calls; place = b.place }) m) in
            ap₂ (λ (n k : ℕ). Some (record { place = n; cost = k })) z (sym c ∙ ap (λ (n : ℕ). run_cost s (record { calls = calls; place = n })) z ∙ d)

  module _ (tour : List ℕ) where
    -- the drops are those of the clock's cutting, and so are the calls that are served
    pub drops_same : (p q : Placement) → drops (arc_by p s) tour ≡ drops (arc_by q s) tour
    drops_same p q = settles-one (HasCutting s) tour (drop-rule s (arc_by p s) (pricing s p) tour) (drop-rule s (arc_by q s) (pricing s q) tour)

    pub dropped-same : (p q : Placement) → (split_by p s tour).dropped ≡ (split_by q s tour).dropped
    dropped-same p q = rw (split-plan p s tour, split-plan q s tour) (ap (λ (h : Held). h.dropped) (drops_same p q))

    pub served-same : (p q : Placement) → (split_by p s tour).served ≡ (split_by q s tour).served
    served-same p q = rw (split-plan p s tour, split-plan q s tour) (ap (λ (h : Held). calls_at tour h.held) (drops_same p q))

    -- the least pay's cutting costs no more than the clock's
    pub no-dearer : (p : Placement) → (split_by by_pay s tour).cost ≤ (split_by p s tour).cost
    no-dearer p =
        let P = promised-by s tour p in
        subst (λ (n : ℕ). (split_by by_pay s tour).cost ≤ n) P.adds-up ((promised-by s tour by_pay).least P.runs (P.cuts ∙ served-same p by_pay) P.all-legal)

    -- and without lateness pay as much
    pub free-same : lateness_pay s ≡ false → (split_by by_pay s tour).cost ≡ (split_by by_clock s tour).cost
    free-same z =
        let P = promised-by s tour by_pay in
        even (no-dearer by_clock)
        (subst (λ (n : ℕ). (split_by by_clock s tour).cost ≤ n) P.adds-up ((promised-by s tour by_clock).least.0 z P.runs (P.cuts ∙ served-same by_pay by_clock) P.all-legal))
      where
        even : {a b : ℕ} → a ≤ b → b ≤ a → a ≡ b
        even h i = omega arith
