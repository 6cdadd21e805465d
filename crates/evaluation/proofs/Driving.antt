-- The way through the calls with no break, call by call, and the break of a place. Assumes nothing.
use Prim.Native.Nat.{ℕ, zero, suc, ◌+◌, ◌-◌, ◌≤◌, ◌<◌, min}
use native.Mathlib.Omega.{arith}
use native.Mathlib.Numerals.{add-one}
use mathlib.Core.Path.{◌≡◌, refl, sym, ap, ◌∙◌}
use mathlib.Core.List.{List, [], ◌∷◌}
use Rattle.std.specs.Prelude.{Option, None, Some}
use lib.ListN.{length, get_or, take, drop, drop_of_length-le}
use lib.Seq.{drop-cons, take_all}
use lib.Dec.{leb}
use lib.Ieee.{Float}
use borrow.Author.Tests.{leb-true, leb-false}
use Rattle.basics.proofs.TestLaws.{by-test}
use Rattle.basics.specs.Options.{◌>>=◌, present, value_or}
use Rattle.basics.proofs.OptionLaws.{same, clash}
use Rattle.definitions.specs.Sheet.{BreakOf, CustomerOf}
use Rattle.distance.specs.declared.leg.Leg.{Leg}
use Rattle.evaluation.specs.declared.way.Way.{Way}
use Rattle.evaluation.specs.Records.{Tables}
use Rattle.evaluation.specs.Way.{way_on_f, through_f, closed_f}
use Rattle.evaluation.specs.Route.{break_start_at_f, start_f}

-- ---- the loop over the calls: what is left of them from call i on

module _ (leg : ℕ → ℕ → Option Leg) (customer : ℕ → CustomerOf Float) (calls : List ℕ) (w : Way) (i : ℕ) where
  module _ (g : Option Leg) (h : i < length calls) (eg : g ≡ leg w.prev (get_or calls i 0)) where
    -- the leg to the call is closed
    pub through-closed : g ≡ None → through_f leg customer w (drop i calls) ≡ None
    unfolding through_f
    through-closed e = rw (drop-cons calls i 0 h, ← eg, e)

    module _ (l : Leg) (el : g ≡ Some l) (c : CustomerOf Float) (o : Option Way) (ec : c ≡ customer (get_or calls i 0)) (eo : o ≡ way_on_f c l.distance l.time w (get_or calls i 0)) where
      turns : through_f leg customer w (drop i calls) ≡ (o >>= λ v. through_f leg customer v (drop (i + 1) calls))
      unfolding through_f
      turns = rw (drop-cons calls i 0 h, ← eg, el, eo, ec, add-one)

      pub through-turn : (v : Way) → o ≡ Some v → through_f leg customer w (drop i calls) ≡ through_f leg customer v (drop (i + 1) calls)
      through-turn v e = turns ∙ ap (λ (x : Option Way). x >>= λ y. through_f leg customer y (drop (i + 1) calls)) e

      pub through-fails : o ≡ None → through_f leg customer w (drop i calls) ≡ None
      through-fails e = turns ∙ ap (λ (x : Option Way). x >>= λ y. through_f leg customer y (drop (i + 1) calls)) e

  pub through-end : length calls ≤ i → through_f leg customer w (drop i calls) ≡ Some w
  unfolding through_f
  through-end h = rw (drop_of_length-le calls h)

-- ---- the loop that looks for a closed leg, before call i

module _ (leg : ℕ → ℕ → Option Leg) (calls : List ℕ) (a i : ℕ) where
  module _ (g : Option Leg) (h : i < length calls) (eg : g ≡ leg a (get_or calls i 0)) where
    pub closed-here : g ≡ None → closed_f leg (i + 1) a (drop i calls) ≡ Some (i + 1)
    unfolding closed_f
    closed-here e = rw (drop-cons calls i 0 h, ← eg, e)

    pub open-here : (l : Leg) → g ≡ Some l → closed_f leg (i + 1) a (drop i calls) ≡ closed_f leg (i + 1 + 1) (get_or calls i 0) (drop (i + 1) calls)
    unfolding closed_f
    open-here l e = rw (drop-cons calls i 0 h, ← eg, e) (λ j. closed_f leg (sym (add-one (i + 1)) j) (get_or calls i 0) (drop (sym (add-one i) j) calls))

  module _ (g : Option Leg) (h : length calls ≤ i) (eg : g ≡ leg a 0) where
    pub closed-home : g ≡ None → closed_f leg (i + 1) a (drop i calls) ≡ Some (i + 1)
    unfolding closed_f
    closed-home e = rw (drop_of_length-le calls h, ← eg, e)

    pub open-home : (l : Leg) → g ≡ Some l → closed_f leg (i + 1) a (drop i calls) ≡ None
    unfolding closed_f
    open-home l e = rw (drop_of_length-le calls h, ← eg, e)

-- ---- the number that this loop gives: 0 where no leg is closed

module _ (leg : ℕ → ℕ → Option Leg) where
  closed-from : (k a : ℕ) (calls : List ℕ) (n : ℕ) → closed_f leg k a calls ≡ Some n → k ≤ n
  unfolding closed_f
  closed-from k a [] n q = by-test (present (leg a 0)) (λ t. clash (rw t at q)) (λ f. let e = same (rw f at q) in omega arith)
  closed-from k a (c ∷ cs) n q =
      by-test (present (leg a c)) (λ t. let h = closed-from (suc k) c cs n (rw t at q) in omega arith) (λ f. let e = same (rw f at q) in omega arith)

  module _ (calls : List ℕ) (n : ℕ) (e : n ≡ value_or 0 (closed_f leg 1 0 calls)) where
    pub found-closed : 0 < n → closed_f leg 1 0 calls ≡ Some n
    found-closed h = go (closed_f leg 1 0 calls) e
      where
        go : (o : Option ℕ) → n ≡ value_or 0 o → o ≡ Some n
        go None q = absurd (off q)
          where
            off : n ≡ 0 → ⊥
            off q = omega arith
        go (Some m) q = ap Some (sym q)

    pub found-open : n ≤ 0 → closed_f leg 1 0 calls ≡ None
    found-open h = go (closed_f leg 1 0 calls) refl
      where
        go : (o : Option ℕ) → closed_f leg 1 0 calls ≡ o → o ≡ None
        go None q = refl
        go (Some m) q = let k = closed-from 1 0 calls m q in absurd (off m k (e ∙ ap (λ (o : Option ℕ). value_or 0 o) q))
          where
            off : (m : ℕ) → 1 ≤ m → n ≡ m → ⊥
            off m k q = omega arith

-- ---- the break of a place

pub start-before : (t : Tables) (b : BreakOf Float) (place : ℕ) (route : List ℕ) → (place ≡ 0 → ⊥) → break_start_at_f t b (place - 1) route ≡ start_f t (Some b) place route
unfolding start_f
start-before t b zero route h = absurd (h refl)
start-before t b (suc k) route h = let z : suc k - 1 ≡ k = omega arith in rw z

pub take-fewer : (k n : ℕ) (route : List ℕ) → n ≡ min k (length route) → take n route ≡ take k route
take-fewer k n route e =
    by-test (leb k (length route)) (λ t. let h = leb-true k (length route) t in let z : n ≡ k = omega arith in rw z)
    (λ f. let h = leb-false k (length route) f in take_all n route (omega arith) ∙ sym (take_all k route (omega arith)))
