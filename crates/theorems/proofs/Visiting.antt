-- Visits: of a run with a closed leg there are none; where the clock has an answer they come to the same totals, and no window is missed; where it has
-- none they are those of the sheet without its break. Assumes nothing.
use Prim.Native.Nat.{ℕ, suc, ◌+◌}
use mathlib.Core.Path.{◌≡◌, refl, sym, ap, ◌∙◌}
use mathlib.Core.Bool.{true, cond}
use mathlib.Core.List.{List, [], ◌∷◌}
use Rattle.std.specs.Prelude.{Option, None, Some}
use lib.Dec.{eqb-zero-suc}
use borrow.Author.Tests.{eqb-true}
use Rattle.basics.specs.Options.{◌>>=◌, present, value_or}
use Rattle.basics.proofs.OptionLaws.{same, clash}
use Rattle.definitions.specs.Load.{Load, no_load, plus}
use Rattle.definitions.specs.Sheet.{Break, Sheet, Leg, customer, drive, time}
use Rattle.definitions.specs.Window.{Entry, begins}
use Rattle.definitions.specs.Run.{ready, Label, start, place_after, serve, break_at, serve_all, last_of, distance_from, closed_from, first_closed, Totals, home, placed}
use Rattle.definitions.specs.Clock.{clock, start_of, place_or}
use Rattle.definitions.specs.Visits.{Route, arrives_at, ready_for, entered, visited, visits_from, windows_from, last_label, no_totals, closed_route, open_route, build_route}
use Rattle.theorems.proofs.Roads.{drive-has, distance-open}
use Rattle.theorems.proofs.Serving.{served-at, serve-leg}
use Rattle.theorems.proofs.Legality.{clock-own, ridden, distance-of}
use Rattle.theorems.proofs.Marking.{served-none}

-- ---- with a closed leg, and without one

module _ (s : Sheet) (calls : List ℕ) where
  pub route-closed : (leg : ℕ) → first_closed s calls ≡ Some leg → build_route s calls ≡ closed_route leg
  unfolding build_route
  route-closed leg e = rw (e, build_route) refl

  pub route-open : first_closed s calls ≡ None → build_route s calls ≡ open_route s calls
  unfolding build_route
  route-open e = rw (e, build_route) refl

-- ---- where the clock has an answer

module _ (s : Sheet) where
  -- along a leg that can be driven
  pub arrives-by : (l : Label) (a c : ℕ) (leg : Leg) → drive s a c ≡ Some leg → arrives_at s a c l ≡ l.time + leg.travel
  arrives-by l a c leg e = ap (λ (o : Option ℕ). l.time + value_or 0 o) (drive-has s a c leg e).1

  -- a call that is served is visited so
  pub visited-served : (here : Option Break) (k a c : ℕ) (l m : Label) → serve s here k a c l ≡ Some m
      → (visited s here k a c l ≡ m) × (present (entered s c (ready_for s here a c l)) ≡ true)
  unfolding visited
  visited-served here k a c l m q =
      let g = serve-leg s here k a c l m q in
      let (n, x, e, y, z) = served-at (customer s c) here k g.0.travel l m g.2 in
      let r : ready_for s here a c l ≡ n = ap (λ (t : ℕ). value_or t (ready here t)) (arrives-by l a c g.0 g.1) ∙ ap (λ (o : Option ℕ). value_or (l.time + g.0.travel) o) x in
      let f : entered s c (ready_for s here a c l) ≡ Some e = ap (λ (n : ℕ). entered s c n) r ∙ y in
      (ap (λ (o : Option Entry). by o) f ∙ z, ap (λ (o : Option Entry). present o) f)
    where
      by : Option Entry → Label
      by o =
          let n : Entry = value_or (record { start = begins (customer s c).window (ready_for s here a c l); lateness = 0; pay = 0 }) o in
          record { time = n.start + (customer s c).service; lateness = l.lateness + n.lateness; pay = l.pay + n.pay; place = place_after here k l.place }

  module _ (place : ℕ) where
    pub last-served : (k a : ℕ) (l : Label) (calls : List ℕ) (m : Label) → serve_all s place k a (Some l) calls ≡ Some m
        → (last_label s place k a l calls ≡ m) × (windows_from s place k a l calls ≡ [])
    unfolding serve_all last_label windows_from
    last-served k a l [] m q = (same q, refl)
    last-served k a l (c ∷ cs) m q = go (serve s (break_at s place k) k a c l) refl (λ n r. last-served (suc k) c n cs m r)
      where
        go : (o : Option Label) → serve s (break_at s place k) k a c l ≡ o
            → ((n : Label) → serve_all s place (suc k) c (Some n) cs ≡ Some m → (last_label s place (suc k) c n cs ≡ m) × (windows_from s place (suc k) c n cs ≡ []))
            → (last_label s place k a l (c ∷ cs) ≡ m) × (windows_from s place k a l (c ∷ cs) ≡ [])
        go None e ih = clash (sym (served-none s 0 place (suc k) c cs) ∙ ap (λ (o : Option Label). serve_all s place (suc k) c o cs) (sym e) ∙ q)
        go (Some n) e ih =
            let r = ih n (ap (λ (o : Option Label). serve_all s place (suc k) c o cs) (sym e) ∙ q) in
            let v = visited-served (break_at s place k) k a c l n e in (
              ap (λ (x : Label). last_label s place (suc k) c x cs) v.0 ∙ r.0,
              rw v.1 (ap (λ (x : Label). windows_from s place (suc k) c x cs) v.0 ∙ r.1),
            )

  -- a run that the clock has an answer for has no closed leg
  pub clock-open : (calls : List ℕ) (t : Totals) → clock s calls ≡ Some t → first_closed s calls ≡ None
  clock-open calls t e = distance-open s 1 0 calls t.distance (distance-of s (record { calls = calls; place = t.place }) t (clock-own s calls t e).0)

  -- the totals are the clock's, and no window is missed
  pub visits-clock : (calls : List ℕ) (t : Totals) → clock s calls ≡ Some t → ((build_route s calls).totals ≡ t) × (windows_from s t.place 1 0 start calls ≡ [])
  unfolding open_route
  visits-clock calls t e =
      let o = clock-own s calls t e in
      let l = ridden s calls t.place t o.0 in
      let v = last-served t.place 1 0 start calls l.0 l.1 in
      let roads = route-open s calls (clock-open calls t e) in (
        ap (λ (x : Route). x.totals) roads
            ∙ ap (λ (x : Option Totals). value_or no_totals (home s calls (last_label s (place_or x) 1 0 start calls))) e
            ∙ ap (λ (x : Label). value_or no_totals (home s calls x)) v.0
            ∙ ap (λ (x : Option Totals). value_or no_totals x) l.2,
        v.1,
      )

-- ---- where it has none

-- the sheet without its break
abbrev pub unrested : Sheet → Sheet
unrested s =
    record {
      head = record { places = s.head.places; capacity = s.head.capacity; fixed = s.head.fixed; max_distance = s.head.max_distance; max_duration = s.head.max_duration; rest = None };
      customers = s.customers;
      legs = record { distances = s.legs.distances; times = s.legs.times };
    }

module _ (s : Sheet) where
  unrested-visits : (k a : ℕ) (l : Label) (n : Load) (calls : List ℕ) → visits_from s 0 (suc k) a l n calls ≡ visits_from (unrested s) 0 (suc k) a l n calls
  unfolding visits_from visited
  unrested-visits k a l n [] = refl
  unrested-visits k a l n (c ∷ cs) = rw (eqb-zero-suc k, unrested-visits (suc k) c (visited s None (suc k) a c l) (plus n (customer s c).demand) cs) refl

  unrested-last : (k a : ℕ) (l : Label) (calls : List ℕ) → last_label s 0 (suc k) a l calls ≡ last_label (unrested s) 0 (suc k) a l calls
  unfolding last_label visited
  unrested-last k a l [] = refl
  unrested-last k a l (c ∷ cs) = rw (eqb-zero-suc k) (unrested-last (suc k) c (visited s None (suc k) a c l) cs)

  unrested-distance : (a : ℕ) (calls : List ℕ) → distance_from s a calls ≡ distance_from (unrested s) a calls
  unfolding drive
  unrested-distance a [] = refl
  unrested-distance a (c ∷ cs) = ap (λ (o : Option ℕ). drive s a c >>= λ l. o >>= λ d. Some (l.length + d)) (unrested-distance c cs)

  unrested-home : (calls : List ℕ) (l : Label) → home s calls l ≡ home (unrested s) calls l
  unfolding drive home
  unrested-home calls l =
      ap (λ (o : Option ℕ). o >>= λ d. drive s (last_of 0 calls) 0 >>= λ b. Some (record { distance = d; duration = l.time + b.travel; lateness = l.lateness; pay = l.pay; place = l.place }))
      (unrested-distance 0 calls)

  unrested-closed : (k a : ℕ) (calls : List ℕ) → closed_from s k a calls ≡ closed_from (unrested s) k a calls
  unfolding drive closed_from
  unrested-closed k a [] = refl
  unrested-closed k a (c ∷ cs) = ap (λ (o : Option ℕ). cond (present (drive s a c)) o (Some k)) (unrested-closed (suc k) c cs)

  unrested-place : (calls : List ℕ) → place_or (clock (unrested s) calls) ≡ 0
  unfolding placed
  unrested-place calls = go (clock (unrested s) calls) refl
    where
      go : (o : Option Totals) → clock (unrested s) calls ≡ o → place_or o ≡ 0
      go None e = refl
      go (Some t) e = eqb-true t.place 0 (clock-own (unrested s) calls t e).1

  -- an unplaceable break is left out: the visits are those of the run with place 0
  pub left_out : (calls : List ℕ) → first_closed s calls ≡ None → clock s calls ≡ None
      → ((build_route s calls).visits ≡ visits_from s 0 1 0 start no_load calls)
      × ((build_route s calls).totals ≡ value_or no_totals (home s calls (last_label s 0 1 0 start calls)))
      × ((build_route s calls).start ≡ None)
  unfolding open_route start_of
  left_out calls o e = rw (route-open s calls o) (rw e (refl, refl, refl))

  -- and so those of the sheet without its break
  abbrev Alike : Route → Route → Type 0
  Alike x y = (x.visits ≡ y.visits) × (x.totals ≡ y.totals) × (x.start ≡ y.start)

  pub visits-unclocked : (calls : List ℕ) → clock s calls ≡ None → Alike (build_route s calls) (build_route (unrested s) calls)
  unfolding open_route start_of
  visits-unclocked calls e = go (first_closed s calls) refl
    where
      go : (o : Option ℕ) → first_closed s calls ≡ o → Alike (build_route s calls) (build_route (unrested s) calls)
      go (Some leg) c = rw (route-closed s calls leg c, route-closed (unrested s) calls leg (sym (unrested-closed 1 0 calls) ∙ c)) (refl, refl, refl)
      go None c =
          rw (route-open s calls c, route-open (unrested s) calls (sym (unrested-closed 1 0 calls) ∙ c))
          (rw (e, unrested-place calls) (
            unrested-visits 0 0 start no_load calls,
            ap (value_or no_totals) (ap (home s calls) (unrested-last 0 0 start calls) ∙ unrested-home calls (last_label (unrested s) 0 1 0 start calls)),
            refl,
          ))
