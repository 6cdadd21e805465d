-- Row i, call by call: what the loop keeps after m calls of the stretch that starts at call i. Assumes nothing.
use Prim.Native.Nat.{ℕ, suc, ◌+◌, ◌-◌, ◌<◌, ◌≤◌}
use native.Mathlib.Nat.{add-zero}
use native.Mathlib.Numerals.{add-one}
use native.Mathlib.Omega.{arith}
use mathlib.Core.Path.{◌≡◌, refl, sym, ap, ap₂, subst, ◌∙◌}
use mathlib.Core.Bool.{Bool, true, false, ◌&&◌, and-false, false≢true}
use mathlib.Core.List.{List, ◌∷◌}
use Rattle.std.specs.Prelude.{Some}
use lib.ListN.{length, get_or}
use lib.Dec.{eqb}
use lib.Ieee.{Float, nan, inf, fin, binary64, add, eq, lt}
use Rattle.basics.proofs.TestLaws.{and-true}
use Rattle.cut_theory.specs.Tab.{most_cut}
use Rattle.cut_theory.specs.Priced.{added}
use Rattle.cut_theory.proofs.PricedBest.{strict}
use Rattle.cut_theory.specs.Carried.{Filling}
use Rattle.cut_theory.proofs.CarriedLaws.{outset, finished, passed, offered, skipped}
use Rattle.whole.specs.Whole.{fl}
use Rattle.cut_table.specs.Table.{Table, Sized, Offered}
use Rattle.definitions.specs.Load.{Load, no_load, plus, carried}
use Rattle.distance.specs.declared.leg.Leg.{Leg}
use Rattle.evaluation.specs.Tables.{place_before}
use Rattle.cut_runs.specs.Stretch.{fits_of, joined_f, load_to, gone_of, way_of}
use Rattle.cut_runs.specs.Tariff.{Tariff, legal_of, far_of, price_of, runs_of, fars_of, RowOf, HeldRow, Ended, stretches}
use Rattle.cut_runs.proofs.Fitting.{none-past, fits-here}

-- a row as it begins: its stretch and the number of its first call, the table, and what a run costs and how far it is before its own way
pub record Row : Type 0 where
  pub st : List ℕ
  pub i : ℕ
  pub old : Table
  pub base : Float
  pub ahead : Float

abbrev pub row_from : List ℕ → ℕ → Table → Float → Float → Row
row_from st i old base ahead = record { st = st; i = i; old = old; base = base; ahead = ahead }

module _ (T : Tariff) (R : Row) where
  -- the cells up to j are filled
  abbrev pub FilledTo : ℕ → Table → Type 0
  FilledTo j new =
      Filling (runs_of T (λ _. R.st)) (fars_of T (λ _. R.st)) R.i R.old.cost R.old.far R.old.pred j new.cost new.far new.pred

  -- after m calls of the stretch
  pub record Along (new : Table) (load : Load) (gone : Float) (m : ℕ) : Type 0 where
    pub is_base : R.base ≡ add binary64 (get_or R.old.cost R.i nan) T.fixed
    pub is-ahead : R.ahead ≡ get_or R.old.far R.i nan
    pub within : m ≤ length R.st
    pub is-load : load ≡ load_to T.demand R.st m
    pub is-gone : gone_of T.leg R.st m ≡ Some gone
    pub filling : FilledTo (R.i + m) new

  -- before the first call
  pub setout : (load : Load) (gone : Float) → load ≡ no_load → gone ≡ fl 0 → Sized R.old
      → R.base ≡ add binary64 (get_or R.old.cost R.i nan) T.fixed → R.ahead ≡ get_or R.old.far R.i nan
      → Along R.old load gone 0
  unfolding load_to gone_of
  setout load gone l g z b w =
      let o = R.old in
      record {
        is_base = b;
        is-ahead = w;
        within = omega arith;
        is-load = l;
        is-gone = ap Some (sym g);
        filling =
            rw add-zero
            (outset (runs_of T (λ _. R.st)) (fars_of T (λ _. R.st)) R.i o.cost o.far o.pred z.cost-long z.far-long z.pred-long);
      }

module _ {T : Tariff} {R : Row} {new : Table} {load : Load} {gone : Float} {m : ℕ} (A : Along T R new load gone m) where
  -- one call more
  pub load-next : (d load' : Load) → d ≡ T.demand (get_or R.st m 0) → load' ≡ plus load d → load' ≡ load_to T.demand R.st (suc m)
  unfolding load_to
  load-next d load' e p = p ∙ ap₂ plus A.is-load e

  abbrev Done : Type 0
  Done = RowOf T R.st R.i R.old new

  ended : ((k : ℕ) → m < k → legal_of T R.st k ≡ false) → Done
  ended z =
      let i = R.i in
      let o = R.old in
      finished (runs_of T (λ _. R.st)) (fars_of T (λ _. R.st)) i o.cost o.far o.pred (i + m) new.cost new.far new.pred A.filling
      (λ k h. z (k - i) (omega arith))

  -- a call that ends the row
  pub stopped : m < length R.st → Ended T R.st m → Done
  stopped b E = ended (λ k h. E.barred b R.st refl k h)

  -- no call is left
  pub at-end : length R.st ≤ m → Done
  unfolding legal_of
  at-end o =
      ended (λ k h. ap (λ (t : Bool). T.allowed R.st k && t) (none-past T.demand T.capacity R.st m o k h) ∙ and-false (T.allowed R.st k))

-- ---- a call that fits: one cell more

-- call number m, with its leg: the load and the way with it
pub record OneMore (T : Tariff) (R : Row) (load : Load) (gone : Float) (m : ℕ) (load' : Load) (gone' : Float) : Type 0 where
  pub inside : m < length R.st
  pub short : R.i + length R.st ≤ most_cut
  pub demand : Load
  pub leg : Leg
  pub is-demand : demand ≡ T.demand (get_or R.st m 0)
  pub is-load : load' ≡ plus load demand
  pub fits : carried load' T.capacity ≡ true
  pub is-leg : T.leg (place_before R.st m) (get_or R.st m 0) ≡ Some leg
  pub is-gone : gone' ≡ joined_f gone leg.distance (eqb m 0)

module _ {T : Tariff} {R : Row} {new : Table} {load : Load} {gone : Float} {m : ℕ} {load' : Load} {gone' : Float}
    (A : Along T R new load gone m) (O : OneMore T R load gone m load' gone') where
  load_is : load' ≡ load_to T.demand R.st (suc m)
  load_is = load-next A O.demand load' O.is-demand O.is-load

  gone-is : gone_of T.leg R.st (suc m) ≡ Some gone'
  unfolding gone_of
  gone-is = rw (A.is-gone, O.is-leg, O.is-gone) refl

  pub far-is : (home : Leg) → T.leg (get_or R.st m 0) 0 ≡ Some home → way_of T.leg R.st (suc m) ≡ Some (add binary64 gone' home.distance)
  unfolding way_of place_before
  far-is home eh = rw (gone-is, eh) refl

  fits_next : fits_of T.demand T.capacity R.st (suc m) ≡ true
  fits_next =
      fits-here T.demand T.capacity R.st (suc m) O.inside (sym (ap (λ (l : Load). carried l T.capacity) load_is) ∙ O.fits)

  abbrev Next : Table → Type 0
  Next new' = Along T R new' load' gone' (m + 1)

  next : (new' : Table) → FilledTo T R (R.i + (m + 1)) new' → Next new'
  next new' F =
      record {
        is_base = A.is_base;
        is-ahead = A.is-ahead;
        within = omega (arith, O.inside);
        is-load = load_is ∙ ap (load_to T.demand R.st) (sym (add-one m));
        is-gone = ap (gone_of T.leg R.st) (add-one m) ∙ gone-is;
        filling = F;
      }

  is_m : R.i + (m + 1) - R.i ≡ suc m
  is_m = omega arith

  -- the run is not allowed
  pub over : T.allowed R.st (suc m) ≡ false → Next new
  unfolding legal_of
  over z =
      let i = R.i in
      let o = R.old in
      next new
      (passed (runs_of T (λ _. R.st)) (fars_of T (λ _. R.st)) i o.cost o.far o.pred (i + m) new.cost new.far new.pred A.filling
      (i + (m + 1)) (omega arith) (omega (arith, O.inside, O.short)) (rw is_m (rw z refl)))

  -- it is
  pub onward : (home : Leg) (cost : Float) (j : ℕ) (new' : Table) → T.leg (get_or R.st m 0) 0 ≡ Some home → T.allowed R.st (suc m) ≡ true
      → cost ≡ added R.base (add binary64 gone' home.distance ∷ T.pays R.st (suc m)) → j ≡ R.i + (m + 1)
      → Offered j R.i cost (add binary64 R.ahead (add binary64 gone' home.distance)) new new' → Next new'
  unfolding legal_of far_of
  onward home cost j new' eh z en ej P =
      let i = R.i in
      let o = R.old in
      let far = add binary64 R.ahead (add binary64 gone' home.distance) in
      let Q : Offered (i + (m + 1)) i cost far new new' = subst (λ (k : ℕ). Offered k i cost far new new') ej P in
      next new'
      (offered (runs_of T (λ _. R.st)) (fars_of T (λ _. R.st)) i o.cost o.far o.pred (i + m) new.cost new.far new.pred A.filling
      (i + (m + 1)) _ _ (omega arith) (omega (arith, O.inside, O.short)) (omega arith) (rw is_m (and-true _ _ z fits_next))
      (en ∙ rw (A.is_base, is_m, far-is home eh) refl) (rw (A.is-ahead, is_m, far-is home eh) refl)
      new'.cost new'.far new'.pred Q.cost-put Q.far-put Q.pred-put)

-- ---- a row whose start is not reached

-- what equals infinity is not below it
not-reached : (x : Float) → eq x (inf false) ≡ true → lt x (inf false) ≡ false
unfolding eq lt
not-reached nan e = refl
not-reached (inf false) e = refl
not-reached (inf true) e = absurd (false≢true e)
not-reached (fin s m k) e = absurd (false≢true e)

-- it wins no cell
pub unreached : (T : Tariff) (st : List ℕ) (i : ℕ) (old : Table) (top : Float) → top ≡ inf false → eq (get_or old.cost i nan) top ≡ true
    → Sized old → RowOf T st i old old
unreached T st i old top t e z =
    skipped (runs_of T (λ _. st)) (fars_of T (λ _. st)) i old.cost old.far old.pred (strict (price_of T (λ _. st)))
    (not-reached (get_or old.cost i nan) (rw t at e)) z.cost-long z.far-long z.pred-long

-- ---- the rows of the calls held

-- a row along the stretch from i on is the row i of the calls held
pub held-row : (T : Tariff) (held : List ℕ) (i : ℕ) (old new : Table) → RowOf T (stretches held i) i old new → HeldRow T held i old new
held-row T held i old new D = record { cost-is = D.cost-is; far-is = D.far-is; pred-is = D.pred-is }

-- ---- a run that costs NaN

add-nan : (x : Float) → add binary64 x nan ≡ nan
unfolding add
add-nan nan = refl
add-nan (inf s) = refl
add-nan (fin s m k) = refl

-- a run whose way home is listed as NaN is offered in vain
pub vain : (base gone back late : Float) → back ≡ nan → {j i : ℕ} {far : Float} {old new : Table}
    → Offered j i (add binary64 (add binary64 base (add binary64 gone back)) late) far old new → new ≡ old
unfolding add lt
vain base gone back late e {j} {i} {far} {old} {new} O = same (O.cost-put ∙ rw none-lower) (O.far-put ∙ rw none-lower) (O.pred-put ∙ rw none-lower)
  where
    cost : Float
    cost = add binary64 (add binary64 base (add binary64 gone back)) late

    none-lower : lt cost (get_or old.cost j nan) ≡ false
    none-lower = rw (e, add-nan gone, add-nan base) refl

    same : new.cost ≡ old.cost → new.far ≡ old.far → new.pred ≡ old.pred → new ≡ old
    same c f p = rw (c, f, p) refl
