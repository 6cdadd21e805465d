-- The last call of a run along the calls held, as the lists of numbers have it: its record, and the legs to it and home. Assumes nothing.
use Prim.Native.Nat.{ℕ, zero, suc, ◌+◌, ◌-◌, ◌<◌}
use native.Mathlib.Nat.{add-suc}
use native.Mathlib.Omega.{arith}
use mathlib.Core.Path.{◌≡◌, refl, sym, ap, ap₂, ◌∙◌}
use mathlib.Core.Bool.{Bool, cond}
use mathlib.Core.List.{List}
use Rattle.std.specs.Prelude.{Option, None, Some}
use lib.ListN.{length, get_or, take, drop, length-drop}
use lib.Seq.{length-take-le, get_or-take, get_or-drop}
use lib.Dec.{eqb}
use lib.Ieee.{Float, nan}
use borrow.Author.Tests.{ne_eqb}
use Rattle.distance.specs.declared.leg.Leg.{Leg}
use Rattle.distance.specs.Lookup.{road_f}
use Rattle.evaluation.specs.Records.{Tables}
use Rattle.evaluation.specs.Tables.{record_f, demand_f, leg_f, place_before}
use Rattle.cut_stops.specs.Stops.{StopF, listed_as, listed_leg, listed_home, leg_by, stop_in, stop_at, StopsOf, Below64, LegsBy, LegsAre}
use Rattle.cut_stops.proofs.ReadBack.{leg-back}
use Rattle.cut_runs.specs.Stretch.{joined_f, last_of, leg_to, way_to}
use Rattle.cut_runs.specs.Runs.{RowLists}

-- ---- a run along the calls held

-- the run of m calls and one from call i on: its last call, and whether that is the only one
pub record RunIs (held : List ℕ) (i m : ℕ) (run : List ℕ) : Type 0 where
  pub any : 0 < length run
  pub is_last : last_of run ≡ get_or (drop i held) m 0
  pub is_one : eqb (length run) 1 ≡ eqb m 0

only_one : (k : ℕ) → eqb (suc k) 1 ≡ eqb k 0
only_one zero = refl
only_one (suc k) = ne_eqb (suc (suc k)) 1 (λ z. omega arith) ∙ sym (ne_eqb (suc k) 0 (λ z. omega arith))

pub run_is : (held : List ℕ) (i m : ℕ) → i + m < length held → RunIs held i m (take (i + m + 1 - i) (drop i held))
run_is held i m h =
    let n : i + m + 1 - i ≡ suc m = omega arith in
    let l : length (take (suc m) (drop i held)) ≡ suc m = length-take-le (suc m) (drop i held) (omega (arith, length-drop i held)) in
    let last : length (take (suc m) (drop i held)) - 1 ≡ m = omega arith in
    rw n
    (record {
      any = omega arith;
      is_last = ap (λ (k : ℕ). get_or (take (suc m) (drop i held)) k 0) last ∙ get_or-take (suc m) (drop i held) m 0 (omega arith);
      is_one = ap (λ (k : ℕ). eqb k 1) l ∙ only_one m;
    })

-- it is one of the places
pub call_below : (held : List ℕ) (i m : ℕ) → Below64 held → i + m < length held → get_or (drop i held) m 0 < 64
unfolding Below64
call_below held i m B h = rw get_or-drop (B (i + m) h)

-- the way with the leg to it
pub way-is : {held : List ℕ} {i m : ℕ} {run : List ℕ} → RunIs held i m run → (way gone leg : Float) → way ≡ way_to run gone leg
    → way ≡ joined_f gone leg (eqb m 0)
way-is R way gone leg e = e ∙ ap (joined_f gone leg) R.is_one

-- ---- a call of a stretch

-- call number m of st, with the numbers that the lists have for the leg to it and for the way home
pub record CallIs (t : Tables) (st : List ℕ) (m : ℕ) (s : StopF) (leg travel : Float) : Type 0 where
  pub demand-is : s.customer.demand ≡ demand_f t.customers (get_or st m 0)
  pub record_is : s.customer ≡ record_f t (get_or st m 0)
  pub leg-is : leg_f t (place_before st m) (get_or st m 0) ≡ leg_by leg travel
  pub back_is : s.back ≡ (listed_home (leg_f t (get_or st m 0) 0)).distance
  pub time-back-is : s.time_back ≡ (listed_home (leg_f t (get_or st m 0) 0)).time

-- the call before number i + k
place_rest : (held : List ℕ) (i k : ℕ) → 0 < k → place_before (drop i held) k ≡ place_before held (i + k)
unfolding place_before
place_rest held i zero h = absurd (clash h)
  where
    clash : 0 < 0 → ⊥
    clash h = omega arith
place_rest held i (suc k) h = get_or-drop i held k 0 ∙ ap (place_before held) (sym (add-suc i k))

-- what is listed of the leg to the last call of a run: that out of the depot for the first call, and else that from the call before it
module _ (leg : ℕ → ℕ → Float) {held : List ℕ} {i m : ℕ} {run : List ℕ} (R : RunIs held i m run) (out between : Float) where
  abbrev st : List ℕ
  st = drop i held

  abbrev Into : ℕ → Float
  Into k = leg (place_before st k) (get_or st k 0)

  by_number : (k : ℕ) → (k ≡ 0 → out ≡ leg 0 (get_or st k 0)) → (0 < k → between ≡ Into k) → cond (eqb k 0) out between ≡ Into k
  unfolding place_before
  by_number zero o b = o refl
  by_number (suc k) o b = rw (ne_eqb (suc k) 0 (λ z. omega arith)) (b (omega arith))

  same-leg : 0 < m → leg (place_before held (i + m)) (get_or held (i + m) 0) ≡ Into m
  same-leg p = rw (place_rest held i m p, get_or-drop i held m 0) refl

  pub leg-into : (m ≡ 0 → out ≡ leg 0 (get_or st m 0)) → (0 < m → between ≡ leg (place_before held (i + m)) (get_or held (i + m) 0))
      → leg_to run out between ≡ leg (place_before st m) (get_or st m 0)
  leg-into o b = ap (λ (t : Bool). cond t out between) R.is_one ∙ by_number m o (λ p. b p ∙ same-leg p)

pub call-is : (t : Tables) (x : RowLists) → StopsOf t x.held x.stops → LegsAre t x.held x.legs → Below64 x.held → {i m : ℕ} {run : List ℕ}
    → RunIs x.held i m run → i + m < length x.held → (s : StopF) (leg travel : Float) → s ≡ stop_at x.stops (last_of run)
    → leg ≡ leg_to run s.out (get_or x.legs.distances (i + m) nan) → travel ≡ leg_to run s.time_out (get_or x.legs.times (i + m) nan)
    → CallIs t (drop i x.held) m s leg travel
unfolding stop_in record_f demand_f LegsBy
call-is t x W L B {i} {m} R h s leg travel es el et =
    let call = get_or (drop i x.held) m 0 in
    let here = get_or-drop i x.held m 0 in
    let there : stop_at x.stops call ≡ stop_in t call = rw here (W.stops-are (i + m) h) in
    let e : s ≡ stop_in t call = es ∙ ap (stop_at x.stops) R.is_last ∙ there in
    let far =
    el
    ∙ leg-into (λ a b. (listed_leg (leg_f t a b)).distance) R s.out (get_or x.legs.distances (i + m) nan) (λ _. ap (λ (y : StopF). y.out) e)
    (λ p. (L (i + m) (omega arith) h).distance_is)
    in
    let long =
    et
    ∙ leg-into (λ a b. (listed_leg (leg_f t a b)).time) R s.time_out (get_or x.legs.times (i + m) nan) (λ _. ap (λ (y : StopF). y.time_out) e)
    (λ p. (L (i + m) (omega arith) h).time-is)
    in
    record {
      demand-is = ap (λ (y : StopF). y.customer.demand) e;
      record_is = ap (λ (y : StopF). y.customer) e;
      leg-is = sym (ap₂ leg_by far long ∙ leg-back t.distances t.times t.size _ _);
      back_is = ap (λ (y : StopF). y.back) e;
      time-back-is = ap (λ (y : StopF). y.time_back) e;
    }

-- ---- what the row learns of such a leg

module _ (o : Option Leg) (distance time : Float) (e : o ≡ leg_by distance time) where
  pub leg-closed : road_f distance ≡ None → o ≡ None
  unfolding leg_by
  leg-closed z = e ∙ rw z

  pub leg-open : (d : Float) → road_f distance ≡ Some d → o ≡ Some (record { distance = d; time = time })
  unfolding leg_by
  leg-open d z = e ∙ rw z

-- ---- and of the way home: it is closed, and listed as no number, or it is the leg that is listed

pub by_home : {A : Type 0} {t : Tables} {st : List ℕ} {m : ℕ} {s : StopF} {leg travel : Float} → CallIs t st m s leg travel
    → (leg_f t (get_or st m 0) 0 ≡ None → s.back ≡ nan → A)
    → (leg_f t (get_or st m 0) 0 ≡ Some (record { distance = s.back; time = s.time_back }) → A)
    → A
unfolding listed_as
by_home {A} {t} {st} {m} {s} C shut road = go (leg_f t (get_or st m 0) 0) refl
  where
    go : (o : Option Leg) → leg_f t (get_or st m 0) 0 ≡ o → A
    go None e = shut e (C.back_is ∙ ap (λ (o : Option Leg). (listed_home o).distance) e)
    go (Some home) e =
        let far : s.back ≡ home.distance = C.back_is ∙ ap (λ (o : Option Leg). (listed_home o).distance) e in
        let long : s.time_back ≡ home.time = C.time-back-is ∙ ap (λ (o : Option Leg). (listed_home o).time) e in
        road (e ∙ rw (far, long) refl)
