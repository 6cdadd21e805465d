-- On a sheet within the limits, held in floats, the evaluation of a run by either placement of its break is that of crates/definitions. Assumes nothing.
use Prim.Native.Nat.{ℕ, zero, suc, ◌+◌, ◌*◌, ◌≤◌, ◌<◌}
use native.Mathlib.Nat.{zero-add, add_assoc, le_refl}
use native.Mathlib.Omega.{arith}
use mathlib.Core.Path.{◌≡◌, refl, sym, ap, subst, ◌∙◌}
use mathlib.Core.Bool.{◌&&◌, true, and-true, and-false}
use mathlib.Core.List.{List, [], ◌∷◌}
use Rattle.std.specs.Prelude.{Option, None, Some, option_map}
use lib.ListN.{length, get_or, take, drop}
use lib.Ieee as Ieee
use lib.Ieee.{Float, binary64}
use borrow.Author.Tests.{eq-eqb, ne_eqb, eqb-true}
use Rattle.basics.proofs.TestLaws.{by-test}
use Rattle.basics.specs.Options.{◌>>=◌, Holds, given}
use Rattle.basics.proofs.OptionLaws.{unbound, clash}
use Rattle.basics.specs.Lists.{All}
use Rattle.bounds.specs.Sized.{SmallBreak, Sized, Place}
use Rattle.bounds.specs.Bounds.{Early, TotalsFit}
use Rattle.bounds.proofs.Inside.{sized, few-calls, calls-inside, depot-inside, leg-small}
use Rattle.bounds.proofs.BoundLaws.{start-early}
use Rattle.definitions.specs.Domain.{most_calls, most_number}
use Rattle.definitions.specs.Limits.{excused}
use Rattle.definitions.specs.Sheet.{Break, Sheet, customer, Leg, drive}
use Rattle.definitions.specs.Run as Whole
use Rattle.definitions.specs.Run.{start, serve_at, serve, break_at, serve_all, last_of, distance_from, Totals, home, ride, allowed, placed}
use Rattle.definitions.specs.Clock.{clock}
use Rattle.definitions.specs.Placement as Placements
use Rattle.definitions.specs.Placement.{ride_at, least_ride}
use Rattle.definitions.specs.Evaluation as Evaluations
use Rattle.definitions.specs.Evaluation.{eval_of, route_eval, least_eval}
use Rattle.definitions.specs.Refusals.{Within, WithinCalls}
use Rattle.theorems.proofs.Roads.{by-leg}
use Rattle.theorems.proofs.Legality.{label_of}
use Rattle.theorems.proofs.LeastPay.{ride-at, least_at, none-wins}
use Rattle.theorems.proofs.Labels.{kept_end, excused_end}
use Rattle.theorems.proofs.Marking.{served-none}
use Rattle.whole.specs.Whole.{fl}
use Rattle.whole.proofs.WholeLaws.{fl-sum}
use Rattle.models.specs.declared.placement.Placement.{Placement}
use Rattle.models.specs.declared.placement.Placement.TheVariants.{Clock, Least}
use Rattle.models.specs.Image.{fl_break}
use Rattle.distance.specs.declared.leg.Leg as Driven
use Rattle.distance.proofs.Exact.{fl_leg}
use Rattle.clock.specs.declared.schedule.Label.{Label}
use Rattle.clock.specs.declared.schedule.Scheduled.{Scheduled}
use Rattle.clock.specs.Serving.{serve_f}
use Rattle.clock.specs.Clock.{excused_f}
use Rattle.clock.specs.Least.{pick_f}
use Rattle.clock.specs.Image.{fl_label, fl_totals}
use Rattle.clock.proofs.ServingExact.{through}
use Rattle.clock.proofs.HomeExact.{excused-exact, ended, home-exact}
use Rattle.evaluation.specs.declared.way.Way.{Way}
use Rattle.evaluation.specs.Records.{Tables}
use Rattle.evaluation.specs.Tables.{record_f, leg_f}
use Rattle.evaluation.specs.Way.{start_way, way_on_f, through_f, way_f, homeward_f, plain_f}
use Rattle.evaluation.specs.Route.{kept_f, start_f}
use Rattle.evaluation.specs.Image.{fl_evaluation, fl_limits, Image}
use Rattle.evaluation.proofs.ClockExact.{leg-exact, carry-exact, carried-early}
use Rattle.evaluation.proofs.RouteExact.{joined, plain-clock, allowed-exact, start-exact}
use Rattle.placements.specs.Chosen.{placement_of}
use Rattle.placements.specs.Placed.{rested_f, placed_f, unplaced_f, least_to_f, least_f, least_by, totals_by, eval_by}
use Rattle.placements.proofs.PickExact.{kept-exact, ridden-fits, least-exact}

-- the way so far: the distance, the label and the last place
record Gone : Type 0 where
  far : ℕ
  label : Whole.Label
  prev : ℕ

abbrev fl_way : Gone → Way
fl_way w = record { distance = fl w.far; label = fl_label w.label; prev = w.prev }

module _ (s : Sheet) (S : Sized s) (t : Tables) (I : Image s t) where
  -- what is known after k calls
  record Ahead (k : ℕ) (w : Gone) : Type 0 where
    far-most : w.far ≤ k * most_number
    early : Early k w.label
    inside : Place s w.prev

  -- what a run comes to that goes on through these calls, from number j on, with the break at call p
  abbrev ends_at : ℕ → ℕ → Gone → List ℕ → Option Totals
  ends_at p j w calls =
      serve_all s p j w.prev (Some w.label) calls
      >>= λ l. distance_from s w.prev calls
      >>= λ d. drive s (last_of w.prev calls) 0
      >>= λ g. Some (ended (w.far + d) g.travel l)

  -- ---- one call more

  abbrev on : Gone → ℕ → Leg → Whole.Label → Gone
  on w c g m = record { far = w.far + g.length; label = m; prev = c }

  -- in whole numbers, along an open leg
  ends_on : (p j : ℕ) (w : Gone) (c : ℕ) (cs : List ℕ) (g : Leg) → drive s w.prev c ≡ Some g
      → ends_at p j w (c ∷ cs) ≡ (serve s (break_at s p j) j w.prev c w.label >>= λ m. ends_at p (suc j) (on w c g m) cs)
  unfolding serve_all
  ends_on p j w c cs g e = rw e (go (serve_at (customer s c) (break_at s p j) j g.travel w.label))
    where
      sums : (o : Option Whole.Label) (r : Option ℕ) (h : Option Leg)
          → (o >>= λ l. (r >>= λ d. Some (g.length + d)) >>= λ d. h >>= λ b. Some (ended (w.far + d) b.travel l))
          ≡ (o >>= λ l. r >>= λ d. h >>= λ b. Some (ended (w.far + g.length + d) b.travel l))
      sums None r h = refl
      sums (Some l) None h = refl
      sums (Some l) (Some d) h = ap (λ (n : ℕ). h >>= λ b. Some (ended n b.travel l)) (sym (add_assoc w.far g.length d))

      go : (o : Option Whole.Label)
          → (serve_all s p (suc j) c o cs
          >>= λ l. (distance_from s c cs >>= λ d. Some (g.length + d)) >>= λ d. drive s (last_of c cs) 0 >>= λ b. Some (ended (w.far + d) b.travel l))
          ≡ (o >>= λ m. ends_at p (suc j) (on w c g m) cs)
      go None = rw (served-none s 0 p (suc j) c cs) refl
      go (Some m) = sums (serve_all s p (suc j) c (Some m) cs) (distance_from s c cs) (drive s (last_of c cs) 0)

  -- on floats: it is reached, and served with the break that it has; what then follows is given
  on-exact : (k : ℕ) → k < most_calls → (w : Gone) → Ahead k w → (c : ℕ) → Place s c → (here : Option Break) → Holds SmallBreak here → (n p j : ℕ)
      → serve s here n w.prev c w.label ≡ serve s (break_at s p j) j w.prev c w.label
      → (cs : List ℕ) (next : Way → Option Scheduled) → ((v : Gone) → Ahead (suc k) v → next (fl_way v) ≡ option_map fl_totals (ends_at p (suc j) v cs))
      → (leg_f t w.prev c
      >>= λ g. serve_f (record_f t c) (option_map fl_break here) n g.time (fl_label w.label)
      >>= λ m. next (record { distance = Ieee.add binary64 (fl w.far) g.distance; label = m; prev = c }))
      ≡ option_map fl_totals (ends_at p j w (c ∷ cs))
  on-exact k few w A c q here H n p j same cs next rest =
      by-leg s w.prev c
      (λ e. ap (λ (o : Option Driven.Leg). o >>= reached) (looked ∙ ap (option_map fl_leg) e)
      ∙ sym (ap (option_map fl_totals) (unbound (serve_all s p j w.prev (Some w.label) (c ∷ cs)) _ (λ l. rw e refl))))
      (λ g e. ap (λ (o : Option Driven.Leg). o >>= reached) (looked ∙ ap (option_map fl_leg) e)
      ∙ ap (λ (o : Option Label). o >>= left (fl_leg g)) (carry-exact s S t I k few here H n w.prev c g e q (Some w.label) A.early)
      ∙ through (serve s here n w.prev c w.label) fl_label (left (fl_leg g)) fl_totals (λ m. ends_at p (suc j) (on w c g m) cs) (λ m f. goes g e m f)
      ∙ ap (option_map fl_totals) (ap (λ (o : Option Whole.Label). o >>= λ m. ends_at p (suc j) (on w c g m) cs) same ∙ sym (ends_on p j w c cs g e)))
    where
      looked : leg_f t w.prev c ≡ option_map fl_leg (drive s w.prev c)
      looked = leg-exact s S t I w.prev c A.inside q

      left : Driven.Leg → Label → Option Scheduled
      left g m = next (record { distance = Ieee.add binary64 (fl w.far) g.distance; label = m; prev = c })

      reached : Driven.Leg → Option Scheduled
      reached g = serve_f (record_f t c) (option_map fl_break here) n g.time (fl_label w.label) >>= left g

      goes : (g : Leg) → drive s w.prev c ≡ Some g → (m : Whole.Label) → serve s here n w.prev c w.label ≡ Some m
          → left (fl_leg g) (fl_label m) ≡ option_map fl_totals (ends_at p (suc j) (on w c g m) cs)
      goes g e m f =
          let near = (leg-small s S w.prev c g e).0 in
          ap (λ (x : Float). next (record { distance = x; label = fl_label m; prev = c })) (fl-sum w.far g.length (omega (arith, A.far-most, near)))
          ∙ rest (on w c g m)
          (record {
            far-most = omega (arith, A.far-most, near);
            early = subst (Holds (Early (suc k))) f (carried-early s S t I k few here H n w.prev c g e (Some w.label) A.early);
            inside = q;
          })

  -- ---- the calls after the break, or of a run with none

  -- a call without the break is served alike, whatever its number
  unbroken : (n p j a c : ℕ) (l : Whole.Label) → (p ≡ j → ⊥) → serve s None n a c l ≡ serve s (break_at s p j) j a c l
  unfolding serve_at
  unbroken n p j a c l h = rw (ne_eqb p j h)

  -- the way on through a call, and what then follows
  way_on : {A : Type 0} (w : Way) (c : ℕ) (cs : List ℕ) (next : Way → Option A)
      → (way_f t w (c ∷ cs) >>= next)
      ≡ (leg_f t w.prev c
      >>= λ g. serve_f (record_f t c) None 0 g.time w.label
      >>= λ m. way_f t (record { distance = Ieee.add binary64 w.distance g.distance; label = m; prev = c }) cs >>= next)
  unfolding through_f way_on_f
  way_on w c cs next = go (leg_f t w.prev c)
    where
      go : (o : Option Driven.Leg)
          → ((o >>= λ g. (serve_f (record_f t c) None 0 g.time w.label >>= λ l. Some (record { distance = Ieee.add binary64 w.distance g.distance; label = l; prev = c }))
          >>= λ v. way_f t v cs) >>= next)
          ≡ (o >>= λ g. serve_f (record_f t c) None 0 g.time w.label
          >>= λ m. way_f t (record { distance = Ieee.add binary64 w.distance g.distance; label = m; prev = c }) cs >>= next)
      go None = refl
      go (Some g) = served (serve_f (record_f t c) None 0 g.time w.label)
        where
          served : (o : Option Label)
              → (((o >>= λ l. Some (record { distance = Ieee.add binary64 w.distance g.distance; label = l; prev = c })) >>= λ v. way_f t v cs) >>= next)
              ≡ (o >>= λ m. way_f t (record { distance = Ieee.add binary64 w.distance g.distance; label = m; prev = c }) cs >>= next)
          served None = refl
          served (Some l) = refl

  plain-from : (k : ℕ) (w : Gone) → Ahead k w → (p j : ℕ) → p < j → (calls : List ℕ) → k + length calls ≤ most_calls → All (Place s) calls
      → plain_f t (fl_way w) calls ≡ option_map fl_totals (ends_at p j w calls)
  unfolding plain_f through_f serve_all
  plain-from k w A p j h [] few i =
      by-leg s w.prev 0 (λ e. rw (leg-exact s S t I w.prev 0 A.inside (depot-inside s S), e))
      (λ g e. let near = leg-small s S w.prev 0 g e in
      rw (leg-exact s S t I w.prev 0 A.inside (depot-inside s S), e, fl-sum w.far g.length (omega (arith, A.far-most, near.0)))
      (home-exact k (omega arith) (w.far + g.length) g.travel near.1 w.label A.early))
  plain-from k w A p j h (c ∷ cs) few i =
      way_on (fl_way w) c cs (homeward_f t)
      ∙ on-exact k (omega arith) w A c i.0 None tt 0 p j (unbroken 0 p j w.prev c w.label off) cs (λ v. plain_f t v cs)
      (λ v B. plain-from (suc k) v B p (suc j) (omega arith) cs (omega arith) i.1)
    where
      off : p ≡ j → ⊥
      off e = omega arith

  -- ---- with the break at a call

  module _ (b : Break) (rest-is : s.head.rest ≡ Some b) where
    break-small : SmallBreak b
    break-small = subst (Holds SmallBreak) rest-is S.rest-small

    -- the way through the first k of these calls, the break at the next, and the others
    abbrev rested_at : ℕ → Way → ℕ → List ℕ → Option Scheduled
    rested_at n w k calls =
        way_f t w (take k calls)
        >>= λ d. leg_f t d.prev (get_or calls k 0)
        >>= λ g. serve_f (record_f t (get_or calls k 0)) (Some (fl_break b)) n g.time d.label
        >>= λ l. plain_f t (record { distance = Ieee.add binary64 d.distance g.distance; label = l; prev = get_or calls k 0 }) (drop (suc k) calls)

    rested-from : (m : ℕ) (w : Gone) → Ahead m w → (k n j : ℕ) → n ≡ j + k → (calls : List ℕ) → k < length calls → m + length calls ≤ most_calls → All (Place s) calls
        → rested_at n (fl_way w) k calls ≡ option_map fl_totals (ends_at n j w calls)
    unfolding through_f
    rested-from m w A k n j e [] h few i = absurd (never h)
      where
        never : k < 0 → ⊥
        never h = omega arith
    rested-from m w A zero n j e (c ∷ cs) h few i =
        on-exact m (omega arith) w A c i.0 (Some b) break-small n n j here cs (λ v. plain_f t v cs)
        (λ v B. plain-from (suc m) v B n (suc j) (omega arith) cs (omega arith) i.1)
      where
        same : n ≡ j
        same = omega arith

        here : serve s (Some b) n w.prev c w.label ≡ serve s (break_at s n j) j w.prev c w.label
        here = rw (same, eq-eqb j j refl, rest-is) refl
    rested-from m w A (suc k) n j e (c ∷ cs) h few i =
        way_on (fl_way w) c (take k cs) _
        ∙ on-exact m (omega arith) w A c i.0 None tt 0 n j (unbroken 0 n j w.prev c w.label off) cs (λ v. rested_at n v k cs)
        (λ v B. rested-from (suc m) v B k n (suc j) (omega arith) cs (omega arith) (omega arith) i.1)
      where
        off : n ≡ j → ⊥
        off q = omega arith

  -- ---- a run

  module _ (calls : List ℕ) (few : length calls ≤ most_calls) (i : All (Place s) calls) where
    abbrev begin : Gone
    begin = record { far = 0; label = start; prev = 0 }

    begun-ahead : Ahead 0 begin
    begun-ahead = record { far-most = omega arith; early = start-early; inside = depot-inside s S }

    -- what it comes to with the break at call p
    abbrev ridden : ℕ → Option Totals
    ridden p = label_of s calls p >>= home s calls

    ends-whole : (p : ℕ) → ends_at p 1 begin calls ≡ ridden p
    unfolding home
    ends-whole p = go (label_of s calls p) (distance_from s 0 calls)
      where
        go : (o : Option Whole.Label) (r : Option ℕ)
            → (o >>= λ l. r >>= λ d. drive s (last_of 0 calls) 0 >>= λ g. Some (ended (0 + d) g.travel l))
            ≡ (o >>= λ l. r >>= λ d. drive s (last_of 0 calls) 0 >>= λ g. Some (ended d g.travel l))
        go None r = refl
        go (Some l) None = refl
        go (Some l) (Some d) = ap (λ (n : ℕ). drive s (last_of 0 calls) 0 >>= λ g. Some (ended n g.travel l)) (zero-add d)

    kept_run : (p : ℕ) → kept_f (fl_limits s) (option_map fl_totals (ridden p)) ≡ option_map fl_totals (ridden p >>= λ u. given (allowed s u) u)
    kept_run p = through (ridden p) fl_totals _ fl_totals (λ u. given (allowed s u) u) (λ u e. kept-exact s S u (ridden-fits s S calls few p u e))

    module _ (b : Break) (rest-is : s.head.rest ≡ Some b) where
      unplaced-exact : unplaced_f t (fl_break b) (fl_limits s) calls ≡ option_map fl_totals (excused_end s b rest-is calls (label_of s calls 0))
      unfolding unplaced_f
      unplaced-exact =
          ap (λ (o : Option Scheduled). o >>= λ x. kept_f (fl_limits s) (given (excused_f (fl_break b) x.duration) x))
          (plain-from 0 begin begun-ahead 0 1 (le_refl 1) calls (omega arith) i ∙ ap (option_map fl_totals) (ends-whole 0))
          ∙ through (ridden 0) fl_totals _ fl_totals (λ u. given (allowed s u && excused b u.duration) u) (λ u e. one u (ridden-fits s S calls few 0 u e))
        where
          one : (u : Totals) → TotalsFit u
              → kept_f (fl_limits s) (given (excused_f (fl_break b) (fl u.duration)) (fl_totals u)) ≡ option_map fl_totals (given (allowed s u && excused b u.duration) u)
          one u F =
              rw (excused-exact b (break-small b rest-is) u.duration F.duration-fits)
              (by-test (excused b u.duration) (λ y. rw (y, and-true (allowed s u)) (kept-exact s S u F)) (λ n. rw (n, and-false (allowed s u))))

      placed-exact : (k : ℕ) → k < length calls → placed_f t (fl_break b) (fl_limits s) calls k ≡ option_map fl_totals (kept_end s b rest-is calls (label_of s calls (suc k)))
      unfolding placed_f rested_f
      placed-exact k h =
          ap (kept_f (fl_limits s))
          (go (way_f t start_way (take k calls)) ∙ rested-from b rest-is 0 begin begun-ahead k (suc k) 1 (omega arith) calls h (omega arith) i ∙ ap (option_map fl_totals) (ends-whole (suc k)))
          ∙ kept_run (suc k)
        where
          c : ℕ
          c = get_or calls k 0

          left : Way → Driven.Leg → Label → Way
          left d g l = record { distance = Ieee.add binary64 d.distance g.distance; label = l; prev = c }

          -- what follows the break follows each step before it
          go : (o : Option Way)
              → ((o >>= λ d. leg_f t d.prev c >>= λ g. serve_f (record_f t c) (Some (fl_break b)) (suc k) g.time d.label >>= λ l. Some (left d g l))
              >>= λ w. plain_f t w (drop (suc k) calls))
              ≡ (o >>= λ d. leg_f t d.prev c >>= λ g. serve_f (record_f t c) (Some (fl_break b)) (suc k) g.time d.label >>= λ l. plain_f t (left d g l) (drop (suc k) calls))
          go None = refl
          go (Some d) = leg (leg_f t d.prev c)
            where
              leg : (o : Option Driven.Leg)
                  → ((o >>= λ g. serve_f (record_f t c) (Some (fl_break b)) (suc k) g.time d.label >>= λ l. Some (left d g l)) >>= λ w. plain_f t w (drop (suc k) calls))
                  ≡ (o >>= λ g. serve_f (record_f t c) (Some (fl_break b)) (suc k) g.time d.label >>= λ l. plain_f t (left d g l) (drop (suc k) calls))
              leg None = refl
              leg (Some g) = joined (serve_f (record_f t c) (Some (fl_break b)) (suc k) g.time d.label) (λ l. Some (left d g l)) (λ w. plain_f t w (drop (suc k) calls))

      least-run : least_f t (fl_break b) (fl_limits s) calls ≡ option_map fl_totals (least_ride s calls)
      unfolding least_to_f
      least-run =
          least-exact s S calls few b rest-is (least_to_f t (fl_break b) (fl_limits s) calls) unplaced-exact
          (λ k h. ap (pick_f (least_to_f t (fl_break b) (fl_limits s) calls k)) (placed-exact k h))

    -- ---- by the placement

    -- its totals are allowed
    least_kept : least_ride s calls ≡ (least_ride s calls >>= λ u. given (allowed s u) u)
    least_kept = go (least_ride s calls) refl
      where
        go : (o : Option Totals) → least_ride s calls ≡ o → o ≡ (o >>= λ u. given (allowed s u) u)
        go None e = refl
        go (Some u) e = rw (ride-at s calls u.place u (least_at s calls u e)).1 refl

    -- on a sheet without a break they are the clock's
    unbroken-least : s.head.rest ≡ None → least_ride s calls ≡ (clock s calls >>= λ u. given (allowed s u) u)
    unfolding ride_at ride placed
    unbroken-least z = go (ride_at s calls 0) refl ∙ plain
      where
        plain : ride_at s calls 0 ≡ (clock s calls >>= λ u. given (allowed s u) u)
        plain = rw (plain-clock s S t I calls few i z) (unplaced (ridden 0))
          where
            unplaced : (o : Option Totals) → (o >>= λ u. given (allowed s u && placed s.head.rest 0 (length calls) u.duration) u) ≡ (o >>= λ u. given (allowed s u) u)
            unplaced None = refl
            unplaced (Some u) = rw (z, and-true (allowed s u)) refl

        go : (o : Option Totals) → ride_at s calls 0 ≡ o → least_ride s calls ≡ o
        go (Some u) e = none-wins s calls u e
        go None e = other (least_ride s calls) refl
          where
            other : (o : Option Totals) → least_ride s calls ≡ o → o ≡ None
            other None q = refl
            other (Some u) q =
                let r = least_at s calls u q in
                let p = eqb-true u.place 0 (subst (λ (o : Option Break). placed o u.place (length calls) u.duration ≡ true) z (ride-at s calls u.place u r).2) in
                clash (sym e ∙ subst (λ (n : ℕ). ride_at s calls n ≡ Some u) p r)

    totals-exact : (p : Placement) → totals_by t (fl_limits s) p calls ≡ option_map fl_totals (Placements.totals_by (placement_of p) s calls >>= λ u. given (allowed s u) u)
    unfolding totals_by
    totals-exact Clock = allowed-exact s S t I calls few i
    totals-exact Least = go s.head.rest refl
      where
        go : (o : Option Break) → s.head.rest ≡ o → least_by t (fl_limits s) (option_map fl_break o) calls ≡ option_map fl_totals (least_ride s calls >>= λ u. given (allowed s u) u)
        go None z = allowed-exact s S t I calls few i ∙ ap (option_map fl_totals) (sym (unbroken-least z) ∙ least_kept)
        go (Some b) z = least-run b z ∙ ap (option_map fl_totals) least_kept

    pub sized-eval-by-exact : (p : Placement) → eval_by t (fl_limits s) p calls ≡ option_map fl_evaluation (Evaluations.eval_by (placement_of p) s calls)
    unfolding eval_by route_eval least_eval
    sized-eval-by-exact p = rw (totals-exact p) (go (Placements.totals_by (placement_of p) s calls)) ∙ ap (option_map fl_evaluation) (sym (is p))
      where
        is : (p : Placement) → Evaluations.eval_by (placement_of p) s calls ≡ (Placements.totals_by (placement_of p) s calls >>= eval_of s calls)
        is Clock = refl
        is Least = refl

        go : (o : Option Totals)
            → (option_map fl_totals (o >>= λ u. given (allowed s u) u) >>= λ u. Some (record { totals = u; start = start_f t (option_map fl_break s.head.rest) u.place calls }))
            ≡ option_map fl_evaluation (o >>= eval_of s calls)
        go None = refl
        go (Some u) = by-test (allowed s u) (λ y. rw (y, start-exact s S t I calls few i u.place)) (λ n. rw n)

-- ---- by the limits of the Domain

pub eval-by-exact : (s : Sheet) → Within s → (t : Tables) → Image s t → (calls : List ℕ) → WithinCalls s calls → (p : Placement)
    → eval_by t (fl_limits s) p calls ≡ option_map fl_evaluation (Evaluations.eval_by (placement_of p) s calls)
eval-by-exact s W t I calls C p = sized-eval-by-exact s (sized s W) t I calls (few-calls s calls C) (calls-inside s calls C) p
