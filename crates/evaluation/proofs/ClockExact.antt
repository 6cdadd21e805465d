-- On a sheet within the limits, held in floats, the clock is that of crates/definitions. Assumes nothing.
use Prim.Native.Nat.{ℕ, suc, ◌+◌, ◌*◌, ◌≤◌, ◌<◌}
use native.Mathlib.Omega.{arith}
use native.Mathlib.Nat.{zero-add, add_assoc}
use native.Mathlib.Numerals.{add-one}
use mathlib.Core.Path.{◌≡◌, refl, sym, ap, subst, ◌∙◌}
use mathlib.Core.Bool.{Bool, true, ◌||◌}
use mathlib.Core.List.{List, [], ◌∷◌, map}
use Rattle.std.specs.Prelude.{Option, None, Some, option_map}
use lib.ListN.{length, get_or, take}
use lib.Seq.{get_or-take}
use lib.Ieee.{Float}
use borrow.Author.Tests.{lt-ltb, leb-true, eqb-true}
use Rattle.basics.proofs.TestLaws.{by-test}
use Rattle.basics.proofs.ListLaws.{all_get_d}
use Rattle.basics.specs.Options.{◌>>=◌, Holds}
use Rattle.basics.specs.Lists.{All}
use Rattle.definitions.specs.Domain.{most_calls, most_number, no_road, is_number, is_closed}
use Rattle.definitions.specs.Sheet.{Break, CustomerOf, Sheet, Leg, depot, customer, drive}
use Rattle.definitions.specs.Run as Whole
use Rattle.definitions.specs.Run.{serve, last_of, distance_from, Totals, home}
use Rattle.definitions.specs.Clock.{Clock, tick, clock_from, counts, clock}
use Rattle.bounds.specs.Sized.{Small, LegNumber, times_of, SmallBreak, Sized, Place}
use Rattle.bounds.proofs.Inside.{depot-inside, distance-inside, time-inside, record-inside, leg-small, customer-small}
use Rattle.bounds.specs.Bounds.{Early, EarlyClock, begun, LabelFits}
use Rattle.bounds.proofs.BoundLaws.{start-early, serve-early, clock-early, label-fits}
use Rattle.theorems.proofs.Roads.{by-leg, distance-home, home-is}
use Rattle.theorems.proofs.Legality.{clock-closed}
use Rattle.whole.specs.Whole.{fl, limit}
use Rattle.whole.proofs.WholeLaws.{fl-add}
use Rattle.distance.proofs.Exact.{lookup-exact, times-exact, fl_leg, drive-exact}
use Rattle.models.specs.Image.{fl_break, fl_customer}
use Rattle.clock.specs.Records.{ClockF}
use Rattle.clock.specs.Serving.{carry_f}
use Rattle.clock.specs.Clock.{push_f}
use Rattle.clock.specs.Image.{fl_label, fl_totals, fl_clock}
use Rattle.clock.proofs.ServingExact.{serve-exact, earlier-exact}
use Rattle.clock.proofs.HomeExact.{ended, finish-exact}
use Rattle.evaluation.specs.Records.{Tables}
use Rattle.evaluation.specs.Tables.{record_index, blank, record_f, demand_f, leg_f}
use Rattle.evaluation.specs.Schedule.{clock_from_f, end_f, schedule_f}
use Rattle.evaluation.specs.Image.{Image}
use Rattle.evaluation.proofs.Reading.{get_d_of}

-- ---- what is looked up for a call

-- records beyond the places are not read
module _ (s : Sheet) (S : Sized s) (customers : List (CustomerOf Float)) (hold : take s.head.places customers ≡ map fl_customer s.customers) (c : ℕ) (h : Place s c) where
  looked-up : get_or customers (record_index c) blank ≡ fl_customer (customer s c)
  looked-up =
      let few : c < 64 = omega (arith, S.few-places) in
      rw (lt-ltb c 64 few)
      (sym (get_or-take s.head.places customers c blank h) ∙ (ap (λ l. get_or l c blank) hold ∙ sym (get_d_of fl_customer s.customers c depot blank (record-inside s S c h))))

  pub demand-exact : demand_f customers c ≡ (customer s c).demand
  unfolding demand_f
  demand-exact = ap (λ (x : CustomerOf Float). x.demand) looked-up

module _ (s : Sheet) (S : Sized s) (t : Tables) (I : Image s t) where
  pub record-exact : (c : ℕ) → Place s c → record_f t c ≡ fl_customer (customer s c)
  unfolding record_f
  record-exact c h = looked-up s S t.customers I.records-are c h

  -- every number of the tables is exact
  fits : (n : ℕ) → LegNumber n → n ≤ limit
  fits n h =
      by-test (is_number n) (λ y. let m = leb-true n most_number y in omega arith)
      (λ f. let e = eqb-true n no_road (subst (λ (b : Bool). b || is_closed n ≡ true) f h) in omega arith)

  -- the leg from a to b
  pub leg-exact : (a b : ℕ) → Place s a → Place s b → leg_f t a b ≡ option_map fl_leg (drive s a b)
  leg-exact a b p q =
      let k : ℕ = a * s.head.places + b in
      drive-exact s t.distances t.times t.size a b
      (rw (I.distances-are, I.size_is)
      (lookup-exact s.legs.distances s.head.places a b p q (distance-inside s S a b p q) (fits _ (all_get_d LegNumber s.legs.distances k 0 S.distances-legs refl))))
      (rw (I.distances-are, I.times-are, I.size_is, times-exact s.legs.distances s.legs.times)
      (lookup-exact (times_of s) s.head.places a b p q (time-inside s S a b p q) (fits _ (all_get_d LegNumber (times_of s) k 0 S.times-legs refl))))

  -- ---- a call, along a leg that is open

  module _ (k : ℕ) (few : k < most_calls) (here : Option Break) (H : Holds SmallBreak here) (j a c : ℕ) (g : Leg) (way : drive s a c ≡ Some g) where
    near : Small g.travel
    near = (leg-small s S a c g way).1

    pub carried-early : (o : Option Whole.Label) → Holds (Early k) o → Holds (Early (suc k)) (o >>= serve s here j a c)
    carried-early None E = tt
    carried-early (Some l) E = go (serve s here j a c l) refl
      where
        go : (o : Option Whole.Label) → serve s here j a c l ≡ o → Holds (Early (suc k)) o
        go None e = tt
        go (Some m) e = serve-early k few (customer s c) (customer-small s S c) here H j g.travel near l E m (rw way at e)

    pub carry-exact : Place s c → (o : Option Whole.Label) → Holds (Early k) o
        → carry_f (record_f t c) (option_map fl_break here) j (fl g.travel) (option_map fl_label o) ≡ option_map fl_label (o >>= serve s here j a c)
    carry-exact q None E = refl
    carry-exact q (Some l) E = rw (record-exact c q, way) (serve-exact k few (customer s c) (customer-small s S c) here H j g.travel near l E)

  -- ---- the clock

  module _ (b : Break) (rest-is : s.head.rest ≡ Some b) where
    break-small : SmallBreak b
    break-small = subst (Holds SmallBreak) rest-is S.rest-small

    fit : (k : ℕ) → k ≤ most_calls → (o : Option Whole.Label) → Holds (Early k) o → Holds LabelFits o
    fit k few None E = tt
    fit k few (Some l) E = label-fits k few l E

    pub tick-exact : (k : ℕ) → k < most_calls → (j a c : ℕ) (g : Leg) → drive s a c ≡ Some g → Place s c → (x : Clock) → EarlyClock k x
        → push_f (fl_clock b a j x) c (record_f t c) (fl g.travel) ≡ fl_clock b c (j + 1) (tick s j a c x)
    unfolding push_f
    tick-exact k few j a c g way q x E =
        let carried = x.after >>= serve s None j a c in
        let broken = x.before >>= serve s (Some b) j a c in
        let carried-fits = fit (suc k) few carried (carried-early k few None tt j a c g way x.after E.after-early) in
        let broken-fits = fit (suc k) few broken (carried-early k few (Some b) break-small j a c g way x.before E.before-early) in
        rw (
          carry-exact k few None tt j a c g way q x.before E.before-early,
          carry-exact k few None tt j a c g way q x.after E.after-early,
          carry-exact k few (Some b) break-small j a c g way q x.before E.before-early,
        )
        (rw (earlier-exact carried broken carried-fits broken-fits, rest-is))

    tick-early : (k : ℕ) → k < most_calls → (j a c : ℕ) (x : Clock) → EarlyClock k x → EarlyClock (suc k) (tick s j a c x)
    unfolding clock_from
    tick-early k few j a c x E = clock-early s S (suc k) few k j a x (c ∷ []) (omega arith) E

    -- what a run comes to that is `far` on its way, by its clock, once these calls are served
    abbrev end_of : (far j a : ℕ) → Clock → List ℕ → Option Totals
    end_of far j a x calls =
        distance_from s a calls
        >>= λ d. drive s (last_of a calls) 0
        >>= λ g. counts (Some b) g.travel (clock_from s j a x calls)
        >>= λ l. Some (ended (far + d) g.travel l)

    pub end-exact : (k far j a : ℕ) (x : Clock) (calls : List ℕ) → k + length calls ≤ most_calls → far ≤ k * most_number → Place s a → All (Place s) calls → EarlyClock k x
        → end_f t (fl_clock b a j x) (fl far) calls ≡ option_map fl_totals (end_of far j a x calls)
    unfolding end_f clock_from_f clock_from
    end-exact k far j a x [] h f p i E =
        by-leg s a 0 (λ e. rw (leg-exact a 0 p (depot-inside s S), e))
        (λ g e. let m = leg-small s S a 0 g e in
        rw (leg-exact a 0 p (depot-inside s S), e, fl-add far g.length (omega arith) (omega (arith, m.0)))
        (finish-exact k (omega arith) (far + g.length) g.travel m.1 b break-small a j x E))
    end-exact k far j a x (c ∷ cs) h f p i E =
        by-leg s a c (λ e. rw (leg-exact a c p i.0, e))
        (λ g e. let m = leg-small s S a c g e in
        let y = tick s j a c x in
        rw (leg-exact a c p i.0, e, fl-add far g.length (omega arith) (omega (arith, m.0)))
        (ap (λ (z : ClockF). end_f t z (fl (far + g.length)) cs) (tick-exact k (omega arith) j a c g e i.0 x E ∙ ap (λ (n : ℕ). fl_clock b c n y) (add-one j))
        ∙ (end-exact (suc k) (far + g.length) (suc j) c y cs (omega arith) (omega (arith, m.0)) i.0 i.1 (tick-early k (omega arith) j a c x E)
        ∙ ap (option_map fl_totals) (farther far g (suc j) c y cs))))
      where
        -- the leg counts with the way gone, or with the way to go
        farther : (far : ℕ) (g : Leg) (j c : ℕ) (y : Clock) (cs : List ℕ)
            → end_of (far + g.length) j c y cs
            ≡ ((distance_from s c cs >>= λ d. Some (g.length + d))
            >>= λ d. drive s (last_of c cs) 0 >>= λ h. counts (Some b) h.travel (clock_from s j c y cs) >>= λ l. Some (ended (far + d) h.travel l))
        farther far g j c y cs = go (distance_from s c cs)
          where
            go : (o : Option ℕ)
                → (o >>= λ d. drive s (last_of c cs) 0 >>= λ h. counts (Some b) h.travel (clock_from s j c y cs) >>= λ l. Some (ended (far + g.length + d) h.travel l))
                ≡ ((o >>= λ d. Some (g.length + d)) >>= λ d. drive s (last_of c cs) 0 >>= λ h. counts (Some b) h.travel (clock_from s j c y cs) >>= λ l. Some (ended (far + d) h.travel l))
            go None = refl
            go (Some d) = ap (λ (n : ℕ). drive s (last_of c cs) 0 >>= λ h. counts (Some b) h.travel (clock_from s j c y cs) >>= λ l. Some (ended n h.travel l)) (add_assoc far g.length d)

  -- by the clock of the whole run
  module _ (b : Break) (rest-is : s.head.rest ≡ Some b) (calls : List ℕ) where
    open-clock : (d : ℕ) → distance_from s 0 calls ≡ Some d → (w : Leg) → drive s (last_of 0 calls) 0 ≡ Some w → end_of b rest-is 0 1 0 begun calls ≡ clock s calls
    unfolding clock
    open-clock d e w f =
        rw (e, f) (go (counts (Some b) w.travel end) ∙ ap (λ (o : Option Break). counts o w.travel end >>= home s calls) (sym rest-is))
      where
        end : Clock
        end = clock_from s 1 0 begun calls

        go : (o : Option Whole.Label) → (o >>= λ l. Some (ended (0 + d) w.travel l)) ≡ (o >>= home s calls)
        go None = refl
        go (Some l) = ap (λ (n : ℕ). Some (ended n w.travel l)) (zero-add d) ∙ sym (home-is s calls d w e f l)

    whole : end_of b rest-is 0 1 0 begun calls ≡ clock s calls
    whole = go (distance_from s 0 calls) refl
      where
        go : (o : Option ℕ) → distance_from s 0 calls ≡ o → end_of b rest-is 0 1 0 begun calls ≡ clock s calls
        go None e = rw e (sym (clock-closed s calls e))
        go (Some d) e = let w = distance-home s 0 calls d e in open-clock d e w.0 w.1

    -- the totals of a run of these calls
    pub schedule-exact : length calls ≤ most_calls → All (Place s) calls → schedule_f t (fl_break b) calls ≡ option_map fl_totals (clock s calls)
    schedule-exact few i =
        end-exact b rest-is 0 0 1 0 begun calls (omega arith) (omega arith) (depot-inside s S) i (record { before-early = start-early; after-early = tt })
        ∙ ap (option_map fl_totals) whole
