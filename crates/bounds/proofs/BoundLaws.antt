-- On a sheet within the limits every sum of a plan stays below 2 ^ 53, where floats hold whole numbers exactly: each kind of sum has its bound. Assumes nothing.
use Prim.Native.Nat.{ℕ, zero, suc, ◌+◌, ◌*◌, ◌≤◌, ◌<◌}
use native.Mathlib.Omega.{arith}
use native.Mathlib.Nat.{mul-le-mul}
use mathlib.Core.Path.{◌≡◌, refl, subst}
use mathlib.Core.List.{List, [], ◌∷◌}
use Rattle.std.specs.Prelude.{Option, None, Some}
use lib.ListN.{length, take, get_or, length-take}
use Rattle.basics.proofs.TestLaws.{by-test}
use Rattle.basics.specs.Options.{◌>>=◌, holds, Holds, value_or}
use Rattle.basics.proofs.OptionLaws.{same, clash, bound}
use Rattle.definitions.specs.Domain.{most_calls, most_number, most_demand, most_penalty}
use Rattle.definitions.specs.Sheet.{Window, Break, Customer, Sheet, customer, distance, time, drive}
use Rattle.definitions.specs.Window.{late, lateness, begins, Entry, enter}
use Rattle.definitions.specs.Limits.{excused}
use Rattle.definitions.specs.Run.{too_late, ready, Label, start, place_after, serve_at, serve, break_at, serve_all, Run, last_of, distance_from, length_of, Totals, home, ride, load}
use Rattle.definitions.specs.Clock.{Clock, sooner, smaller, tick, clock_from, counts, clock, start_of}
use Rattle.definitions.proofs.LoadLaws.{AtMost, none-most, plus-most, most-more}
use Rattle.definitions.specs.Visits.{arrives_at, ready_for, entered, visited, last_label}
use Rattle.definitions.specs.Improver.{legs_from, open_leg}
use Rattle.theorems.proofs.Roads.{distance-on, distance-last, home-has}
use Rattle.theorems.proofs.Legality.{ridden, ticked}
use Rattle.theorems.proofs.Serving.{serve-leg}
use Rattle.bounds.specs.Sized.{Small, SmallWindow, SmallBreak, SmallCustomer, Sized}
use Rattle.bounds.proofs.Inside.{distance-small, time-small, leg-small, customer-small, break-small}
use Rattle.bounds.specs.Bounds.{most_late, most_pay, Early, arrive_by, ready_by, SmallEntry, EarlyClock, begun, SmallTotals, LabelFits, TotalsFit}

-- ---- one call

pub start-early : Early 0 start
start-early = omega arith

pub more-calls : {l : Label} (j k : ℕ) → j ≤ k → Early j l → Early k l
more-calls j k h E = omega arith

pub ready-most : (here : Option Break) → Holds SmallBreak here → (k t : ℕ) → t ≤ arrive_by k → (r : ℕ) → ready here t ≡ Some r → r ≤ ready_by k
unfolding ready
ready-most None H k t h r q = let z = same q in omega arith
ready-most (Some b) H k t h r q = by-test (too_late b t) (λ e. clash (rw e at q)) (λ f. let z = same (rw f at q) in omega arith)

pub begins-most : (w : Option Window) → Holds SmallWindow w → (k r : ℕ) → r ≤ ready_by k → begins w r ≤ ready_by k
begins-most None W k r h = h
begins-most (Some w) W k r h = omega arith

pub late-pay-most : (w : Window) (p k r : ℕ) → k < most_calls → p ≤ most_penalty → r ≤ ready_by k → p * lateness w r ≤ most_pay
late-pay-most w p k r few h i = mul-le-mul {n₂ = most_penalty} {m₂ = most_late} h (omega arith)

module _ (k : ℕ) (few : k < most_calls) where
  pub enter-most : (w : Option Window) (p : Option ℕ) → Holds SmallWindow w → Holds (λ (n : ℕ). n ≤ most_penalty) p
      → (r : ℕ) → r ≤ ready_by k → (e : Entry) → enter w p r ≡ Some e → SmallEntry k e
  unfolding enter
  enter-most None p W P r h e q = subst (SmallEntry k) (same q) (omega arith)
  enter-most (Some w) None W P r h e q = by-test (late w r) (λ t. clash (rw t at q)) (λ f. subst (SmallEntry k) (same (rw f at q)) (omega arith))
  enter-most (Some w) (Some p) W P r h e q =
      subst (SmallEntry k) (same q) (record { start-most = omega arith; late-most = omega arith; due-most = late-pay-most w p k r few P h })

  -- one call more
  pub serve-early : (c : Customer) → SmallCustomer c → (here : Option Break) → Holds SmallBreak here → (j travel : ℕ) → Small travel
      → (l : Label) → Early k l → (m : Label) → serve_at c here j travel l ≡ Some m → Early (suc k) m
  unfolding serve_at
  serve-early c C here H j travel near l E m q =
      let x = bound (ready here (l.time + travel)) _ m q in
      let y = bound (enter c.window c.penalty x.0) _ m x.2 in
      let r : x.0 ≤ ready_by k = ready-most here H k (l.time + travel) (omega arith) x.0 x.1 in
      let e : SmallEntry k y.0 = enter-most c.window c.penalty C.window-small C.penalty-small x.0 r y.0 y.1 in
      subst (Early (suc k)) (same y.2) (omega (arith, e, C.service-small))

-- the smaller label is one of the two
sooner-is : (P : Label → Type 0) (x y : Option Label) → Holds P x → Holds P y → Holds P (sooner x y)
sooner-is P None y p q = q
sooner-is P (Some x) None p q = p
sooner-is P (Some x) (Some y) p q = by-test (smaller y x) (λ t. rw t q) (λ f. rw f p)

later-calls : (o : Option Label) (j k : ℕ) → j ≤ k → Holds (Early j) o → Holds (Early k) o
later-calls None j k h E = tt
later-calls (Some l) j k h E = more-calls j k h E

-- a length, or the 0 that stands for none
pub or-zero : (o : Option ℕ) → Holds Small o → Small (value_or 0 o)
or-zero None h = omega arith
or-zero (Some n) h = h

-- the legs from p through the calls and home
pub legs-most : (leg : ℕ → ℕ → ℕ) → ((a b : ℕ) → Small (leg a b)) → (p : ℕ) (calls : List ℕ) → legs_from leg p calls ≤ (length calls + 1) * most_number
legs-most leg near p [] = omega (arith, near p 0)
legs-most leg near p (c ∷ cs) = omega (arith, near p c, legs-most leg near c cs)

-- ---- the calls of a run

module _ (s : Sheet) (S : Sized s) where
  module _ (k : ℕ) (few : k < most_calls) (here : Option Break) (H : Holds SmallBreak here) (j a c : ℕ) where
    served-early : (o : Option Label) → Holds (Early k) o → Holds (Early (suc k)) (o >>= serve s here j a c)
    served-early None E = tt
    served-early (Some l) E = go (serve s here j a c l) refl
      where
        go : (o : Option Label) → serve s here j a c l ≡ o → Holds (Early (suc k)) o
        go None e = tt
        go (Some m) e =
            let x = serve-leg s here j a c l m e in
            serve-early k few (customer s c) (customer-small s S c) here H j x.0.travel (leg-small s S a c x.0 x.1).1 l E m x.2

    -- a call is visited as it is served, and where it is reached too late without any lateness
    pub readiness-most : (l : Label) → Early k l → ready_for s here a c l ≤ ready_by k
    readiness-most l E = go (ready here (arrives_at s a c l)) refl
      where
        arrival : arrives_at s a c l ≤ arrive_by k
        arrival = omega (arith, or-zero (time s a c) (time-small s S a c))

        go : (o : Option ℕ) → ready here (arrives_at s a c l) ≡ o → value_or (arrives_at s a c l) o ≤ ready_by k
        go None e = omega (arith, arrival)
        go (Some r) e = ready-most here H k (arrives_at s a c l) arrival r e

    pub visited-early : (l : Label) → Early k l → Early (suc k) (visited s here j a c l)
    unfolding visited
    visited-early l E = go (entered s c (ready_for s here a c l)) refl
      where
        r : ℕ
        r = ready_for s here a c l

        C : SmallCustomer (customer s c)
        C = customer-small s S c

        leaves : (e : Entry) → SmallEntry k e
            → Early (suc k) (record { time = e.start + (customer s c).service; lateness = l.lateness + e.lateness; pay = l.pay + e.pay; place = place_after here j l.place })
        leaves e s = omega (arith, s, C.service-small)

        go : (o : Option Entry) → entered s c r ≡ o
            → Early (suc k) (let e = value_or (record { start = begins (customer s c).window r; lateness = 0; pay = 0 }) o in
            record { time = e.start + (customer s c).service; lateness = l.lateness + e.lateness; pay = l.pay + e.pay; place = place_after here j l.place })
        go None e = leaves _ (record { start-most = begins-most (customer s c).window C.window-small k r (readiness-most l E); late-most = omega arith; due-most = omega arith })
        go (Some n) e = leaves n (enter-most k few (customer s c).window (customer s c).penalty C.window-small C.penalty-small r (readiness-most l E) n e)

  tick-early : (k : ℕ) → k < most_calls → (j a c : ℕ) (x : Clock) → EarlyClock k x → EarlyClock (suc k) (tick s j a c x)
  tick-early k few j a c x E =
      record {
        before-early = served-early k few None tt j a c x.before E.before-early;
        after-early =
            sooner-is (Early (suc k)) (x.after >>= serve s None j a c) (s.head.rest >>= λ b. x.before >>= serve s (Some b) j a c)
            (served-early k few None tt j a c x.after E.after-early) (broken s.head.rest S.rest-small);
      }
    where
      broken : (o : Option Break) → Holds SmallBreak o → Holds (Early (suc k)) (o >>= λ b. x.before >>= serve s (Some b) j a c)
      broken None B = tt
      broken (Some b) B = served-early k few (Some b) B j a c x.before E.before-early

  -- n calls after all, k of them before these
  module _ (n : ℕ) (few : n ≤ most_calls) where
    pub serve-all-early : (place k j a : ℕ) (m : Option Label) (calls : List ℕ) → k + length calls ≤ n → Holds (Early k) m
        → Holds (Early n) (serve_all s place j a m calls)
    unfolding serve_all
    serve-all-early place k j a m [] h E = later-calls m k n (omega arith) E
    serve-all-early place k j a m (c ∷ cs) h E =
        serve-all-early place (suc k) (suc j) c _ cs (omega arith) (served-early k (omega arith) (break_at s place j) (break-small s S place j) j a c m E)

    pub clock-early : (k j a : ℕ) (x : Clock) (calls : List ℕ) → k + length calls ≤ n → EarlyClock k x → EarlyClock n (clock_from s j a x calls)
    unfolding clock_from
    clock-early k j a x [] h E =
        record { before-early = later-calls x.before k n (omega arith) E.before-early; after-early = later-calls x.after k n (omega arith) E.after-early }
    clock-early k j a x (c ∷ cs) h E = clock-early (suc k) (suc j) c (tick s j a c x) cs (omega arith) (tick-early k (omega arith) j a c x E)

    pub last-early : (place k j a : ℕ) (l : Label) (calls : List ℕ) → k + length calls ≤ n → Early k l → Early n (last_label s place j a l calls)
    unfolding last_label
    last-early place k j a l [] h E = more-calls k n (omega arith) E
    last-early place k j a l (c ∷ cs) h E =
        last-early place (suc k) (suc j) c _ cs (omega arith) (visited-early k (omega arith) (break_at s place j) (break-small s S place j) j a c l E)

  -- from the start of the run

  pub serve-all-most : (place : ℕ) (calls : List ℕ) → length calls ≤ most_calls → Holds (Early (length calls)) (serve_all s place 1 0 (Some start) calls)
  serve-all-most place calls few = serve-all-early (length calls) few place 0 1 0 (Some start) calls (omega arith) start-early

  pub labels-most : (calls : List ℕ) → length calls ≤ most_calls → EarlyClock (length calls) (clock_from s 1 0 begun calls)
  labels-most calls few = clock-early (length calls) few 0 1 0 begun calls (omega arith) (record { before-early = start-early; after-early = tt })

  pub last-most : (place : ℕ) (calls : List ℕ) → length calls ≤ most_calls → Early (length calls) (last_label s place 1 0 start calls)
  last-most place calls few = last-early (length calls) few place 0 1 0 start calls (omega arith) start-early

  -- ---- distance and load

  pub distance_most : (a : ℕ) (calls : List ℕ) (d : ℕ) → distance_from s a calls ≡ Some d → d ≤ (length calls + 1) * most_number
  distance_most a [] d e = let x = distance-last s a d e in omega (arith, (leg-small s S a 0 x.0 x.1).0, x.2)
  distance_most a (c ∷ cs) d e =
      let x = distance-on s a c cs d e in
      omega (arith, (leg-small s S a c x.0 x.1).0, distance_most c cs x.2 x.3, x.4)

  -- of a run, and of its legs as the improvers have them
  pub length_most : (calls : List ℕ) → length_of s calls ≤ (length calls + 1) * most_number
  length_most calls = go (distance_from s 0 calls) refl
    where
      go : (o : Option ℕ) → distance_from s 0 calls ≡ o → value_or 0 o ≤ (length calls + 1) * most_number
      go None e = omega arith
      go (Some d) e = distance_most 0 calls d e

  pub open-small : (a b : ℕ) → Small (open_leg s a b)
  open-small a b = or-zero (distance s a b) (distance-small s S a b)

  pub load-most : (calls : List ℕ) → AtMost (length calls * most_demand) (load s calls)
  load-most [] = none-most
  load-most (c ∷ cs) = most-more (most_demand + length cs * most_demand) _ _ (omega arith) (plus-most _ _ _ _ (customer-small s S c).demand-small (load-most cs))

  -- ---- what a run comes to

  pub home-most : (calls : List ℕ) (l : Label) → Early (length calls) l → (t : Totals) → home s calls l ≡ Some t → SmallTotals (length calls) t
  home-most calls l E t e =
      let (d, r, b, w, h) = home-has s calls l t e in
      subst (SmallTotals (length calls)) h
      (record {
        distance_most = distance_most 0 calls d r;
        duration-most = omega (arith, (leg-small s S (last_of 0 calls) 0 b w).1);
        lateness-most = E.lateness-most;
        pay-most = E.pay-most;
      })

  -- a label that is there
  labelled : (n : ℕ) (o : Option Label) (l : Label) → o ≡ Some l → Holds (Early n) o → Early n l
  labelled n o l e E = subst (Holds (Early n)) e E

  pub ride-most : (r : Run) → length r.calls ≤ most_calls → (t : Totals) → ride s r ≡ Some t → SmallTotals (length r.calls) t
  ride-most r few t e =
      let (l, q, h) = ridden s r.calls r.place t e in
      home-most r.calls l (labelled (length r.calls) _ l q (serve-all-most r.place r.calls few)) t h

  counts-early : (b : Option Break) (back n : ℕ) (x : Clock) → EarlyClock n x → Holds (Early n) (counts b back x)
  counts-early None back n x E = E.before-early
  counts-early (Some b) back n x E = by-test (holds x.before (λ l. excused b (l.time + back))) (λ t. rw t E.before-early) (λ f. rw f E.after-early)

  pub clock-most : (calls : List ℕ) → length calls ≤ most_calls → (t : Totals) → clock s calls ≡ Some t → SmallTotals (length calls) t
  clock-most calls few t e =
      let x = clock_from s 1 0 begun calls in
      let (b, w, l, c, h) = ticked s calls t e in
      home-most calls l (labelled (length calls) _ l c (counts-early s.head.rest b.travel (length calls) x (labels-most calls few))) t h

  -- when the break starts
  pub start-most : (calls : List ℕ) (place : ℕ) → length calls ≤ most_calls → (t : ℕ) → start_of s (record { calls = calls; place = place }) ≡ Some t → t ≤ arrive_by (length calls)
  unfolding start_of
  start-most calls zero few t e = clash e
  start-most calls (suc k) few t e =
      let x = bound s.head.rest _ t e in
      let done = take k calls in
      let y = bound (serve_all s 0 1 0 (Some start) done) _ t x.2 in
      let z : length done ≤ length calls = simp length-take (omega arith) in
      let B : SmallBreak x.0 = subst (λ (o : Option Break). Holds SmallBreak o) x.1 S.rest-small in
      let E : Early (length done) y.0 = subst (λ (o : Option Label). Holds (Early (length done)) o) y.1 (serve-all-most 0 done (omega arith)) in
      let w = bound (drive s (last_of 0 done) (get_or calls k 0)) _ t y.2 in
      omega (arith, same w.2, (leg-small s S (last_of 0 done) (get_or calls k 0) w.0 w.1).1)

-- ---- below the limit

module _ (k : ℕ) (few : k ≤ most_calls) where
  pub label-fits : (l : Label) → Early k l → LabelFits l
  label-fits l E = omega arith

  pub totals-fit : (t : Totals) → SmallTotals k t → TotalsFit t
  totals-fit t T = omega arith
