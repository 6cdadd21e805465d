-- Violations: a closed leg alone; when the break is reported, when there is none at all, and how many there are at most. Assumes nothing.
use Prim.Native.Nat.{ℕ, suc, ◌+◌, ◌≤◌}
use native.Mathlib.Omega.{arith}
use native.Mathlib.Nat.{le_refl}
use mathlib.Core.Path.{◌≡◌, refl, sym, ap, subst, ◌∙◌}
use mathlib.Core.Bool.{Bool, true, false, not, ◌&&◌, ◌||◌, and-true, and-false, and_assoc, or-false, not-not}
use mathlib.Core.List.{List, [], ◌∷◌, ◌++◌, append_assoc}
use Rattle.std.specs.Prelude.{Option, None, Some}
use lib.ListN.{length, length-append}
use lib.Dec.{leb, eqb}
use borrow.Author.Tests.{le-leb}
use Rattle.basics.proofs.TestLaws.{by-test, not-both}
use Rattle.basics.specs.Options.{present, value_or}
use Rattle.basics.proofs.OptionLaws.{clash}
use Rattle.basics.proofs.ListLaws.{any_append, empty-append}
use Rattle.basics.specs.Lists.{is_empty, any}
use Rattle.definitions.specs.Load.{Load, no_load, seated, wheeled}
use Rattle.definitions.specs.Sheet.{Break, Sheet, Leg, drive}
use Rattle.definitions.specs.Window.{Entry}
use Rattle.definitions.specs.Limits.{within}
use Rattle.definitions.specs.Run.{serve_at, ready, Label, start, serve, break_at, serve_all, last_of, distance_from, first_closed, Totals, home, load, fits, allowed}
use Rattle.definitions.specs.Clock.{clock, counts, place_or}
use Rattle.definitions.specs.Evaluation.{route_eval, route_feasible}
use Rattle.definitions.specs.Visits.{Route, Violation, window_shut, break_not_placeable, over_capacity, over_distance, over_duration, over_wheelchairs, closed_leg, ready_for, entered, visited, windows_from, last_label, unless, overloads, no_totals, open_route, build_route}
use Rattle.definitions.specs.Lent.{violation_room}
use Rattle.theorems.proofs.Roads.{distance-on, distance-home, closed-distance, open-distance, home-is}
use Rattle.theorems.proofs.Legality.{plain, clocked, clock-closed, end, label_of}
use Rattle.theorems.proofs.Marking.{nothing-mapped}
use Rattle.theorems.proofs.Visiting.{route-closed, route-open, arrives-by, visited-served, visits-clock}

abbrev pub is_window : Violation → Bool
is_window (window_shut c r d) = true
is_window break_not_placeable = false
is_window (over_capacity l c) = false
is_window (over_distance d l) = false
is_window (over_duration d l) = false
is_window (over_wheelchairs l c) = false
is_window (closed_leg n) = false

abbrev pub is_break : Violation → Bool
is_break (window_shut c r d) = false
is_break break_not_placeable = true
is_break (over_capacity l c) = false
is_break (over_distance d l) = false
is_break (over_duration d l) = false
is_break (over_wheelchairs l c) = false
is_break (closed_leg n) = false

-- a violation of another kind, if it is there, changes nothing
quiet : (p : Violation → Bool) (l : List Violation) (b : Bool) (v : Violation) → p v ≡ false → any p (l ++ unless b v) ≡ any p l
quiet p l b v h = any_append p l (unless b v) ∙ ap (λ (t : Bool). any p l || t) (off b) ∙ or-false (any p l)
  where
    off : (b : Bool) → any p (unless b v) ≡ false
    off true = refl
    off false = rw h refl

empty-unless : (b : Bool) (v : Violation) → is_empty (unless b v) ≡ b
empty-unless true v = refl
empty-unless false v = refl

one : (b : Bool) (v : Violation) → length (unless b v) ≤ 1
one true v = omega arith
one false v = le_refl 1

module _ (s : Sheet) (place : ℕ) where
  only-windows : (k a : ℕ) (l : Label) (calls : List ℕ)
      → (any is_break (windows_from s place k a l calls) ≡ false) × (any is_window (windows_from s place k a l calls) ≡ not (is_empty (windows_from s place k a l calls)))
  unfolding windows_from
  only-windows k a l [] = (refl, refl)
  only-windows k a l (c ∷ cs) =
      let ih = only-windows (suc k) c (visited s (break_at s place k) k a c l) cs in
      by-test (present (entered s c (ready_for s (break_at s place k) a c l))) (λ t. rw t ih) (λ f. rw f (ih.0, refl))

  windows-room : (k a : ℕ) (l : Label) (calls : List ℕ) → length (windows_from s place k a l calls) ≤ length calls
  unfolding windows_from
  windows-room k a l [] = le_refl 0
  windows-room k a l (c ∷ cs) =
      let ih = windows-room (suc k) c (visited s (break_at s place k) k a c l) cs in
      by-test (present (entered s c (ready_for s (break_at s place k) a c l))) (λ t. rw t (omega arith)) (λ f. rw f (omega arith))

  -- a call that fails though its leg is open and the break is not there is reached after due
  shut : (k a c : ℕ) (leg : Leg) → drive s a c ≡ Some leg → (l : Label) → s.head.rest ≡ None → serve s (break_at s place k) k a c l ≡ None
      → present (entered s c (ready_for s (break_at s place k) a c l)) ≡ false
  unfolding serve_at ready
  shut k a c leg w l e q =
      subst (λ (o : Option Break). serve s o k a c l ≡ None → present (entered s c (ready_for s o a c l)) ≡ false) (sym nowhere)
      (λ r. ap (λ (t : ℕ). present (entered s c t)) (arrives-by s l a c leg w)
      ∙ ap (λ (o : Option Entry). present o) (nothing-mapped (entered s c (l.time + leg.travel)) _ (rw (w, serve_at) at r))) q
    where
      nowhere : break_at s place k ≡ None
      nowhere = rw e (by-test (eqb place k) (λ t. rw t refl) (λ f. rw f refl))

  -- without a break on the sheet only a window can fail, and then it is among the violations
  missed : s.head.rest ≡ None → (k a : ℕ) (l : Label) (calls : List ℕ) (d : ℕ) → distance_from s a calls ≡ Some d
      → serve_all s place k a (Some l) calls ≡ None → is_empty (windows_from s place k a l calls) ≡ false
  unfolding serve_all windows_from
  missed e k a l [] d h q = clash (sym q)
  missed e k a l (c ∷ cs) d h q = go (serve s (break_at s place k) k a c l) refl (λ m r. missed e (suc k) c m cs on.2 on.3 r)
    where
      on : (l : Leg) × (drive s a c ≡ Some l) × (e : ℕ) × (distance_from s c cs ≡ Some e) × (l.length + e ≡ d)
      on = distance-on s a c cs d h

      go : (o : Option Label) → serve s (break_at s place k) k a c l ≡ o → ((m : Label) → serve_all s place (suc k) c (Some m) cs ≡ None → is_empty (windows_from s place (suc k) c m cs) ≡ false)
          → is_empty (windows_from s place k a l (c ∷ cs)) ≡ false
      go None f ih = rw (shut k a c on.0 on.1 l e f) refl
      go (Some m) f ih =
          let v = visited-served s (break_at s place k) k a c l m f in
          rw v.1 (ap (λ (x : Label). is_empty (windows_from s place (suc k) c x cs)) v.0 ∙ ih m (ap (λ (o : Option Label). serve_all s place (suc k) c o cs) (sym f) ∙ q))

-- the break is reported only where no window is
break-room : (w : List Violation) (p : Bool) (n : ℕ) → length w ≤ suc n → length w + length (unless (not (p && is_empty w)) break_not_placeable) ≤ suc n
break-room [] p n h = let b = one (not (p && true)) break_not_placeable in omega arith
break-room (x ∷ w) p n h = rw (and-false p) (omega arith)

-- ---- the load

-- how many measures there are
abbrev measures : ℕ
measures = 2

quiet-load : (p : Violation → Bool) (b : List Violation) (l k : Load)
    → ((n m : ℕ) → (p (over_capacity n m) ≡ false) × (p (over_wheelchairs n m) ≡ false)) → any p (b ++ overloads l k) ≡ any p b
quiet-load p b l k h =
    let c = b ++ unless (seated l k) (over_capacity l.seats k.seats) in
    ap (any p) (sym (append_assoc b _ _)) ∙ quiet p c (wheeled l k) _ (h _ _).1 ∙ quiet p b (seated l k) _ (h _ _).0

few-overloads : (l k : Load) → length (overloads l k) ≤ measures
few-overloads l k =
    let seats = one (seated l k) (over_capacity l.seats k.seats) in
    let wheelchairs = one (wheeled l k) (over_wheelchairs l.wheelchairs k.wheelchairs) in
    rw (length-append (unless (seated l k) (over_capacity l.seats k.seats)) (unless (wheeled l k) (over_wheelchairs l.wheelchairs k.wheelchairs))) (omega arith)

-- an empty vehicle has none
none-overloads : (k : Load) → length (overloads no_load k) ≤ 0
none-overloads k = rw (le-leb 0 k.seats (omega arith), le-leb 0 k.wheelchairs (omega arith)) (le_refl 0)

module _ (s : Sheet) (calls : List ℕ) where
  -- the violations of a run in their order, from the windows missed, whether the break is reported, and the totals
  abbrev ordered : List Violation → Bool → Totals → List Violation
  ordered w q t =
      w
      ++ unless (not q) break_not_placeable
      ++ overloads (load s calls) s.head.capacity
      ++ unless (within s.head.max_distance t.distance) (over_distance t.distance (value_or 0 s.head.max_distance))
      ++ unless (within s.head.max_duration t.duration) (over_duration t.duration (value_or 0 s.head.max_duration))

  any-ordered : (p : Violation → Bool) → ((n m : ℕ) → ((p (over_capacity n m) ≡ false) × (p (over_wheelchairs n m) ≡ false)) × (p (over_distance n m) ≡ false) × (p (over_duration n m) ≡ false))
      → (w : List Violation) (q : Bool) (t : Totals) → any p (ordered w q t) ≡ any p w || (q && p break_not_placeable)
  any-ordered p h w q t =
      let b = w ++ unless (not q) break_not_placeable in
      let c = b ++ overloads (load s calls) s.head.capacity in
      quiet p (c ++ unless (within s.head.max_distance t.distance) (over_distance t.distance (value_or 0 s.head.max_distance))) (within s.head.max_duration t.duration) _ (h _ _).2
      ∙ quiet p c (within s.head.max_distance t.distance) _ (h _ _).1
      ∙ quiet-load p b (load s calls) s.head.capacity (λ n m. (h n m).0)
      ∙ any_append p w (unless (not q) break_not_placeable)
      ∙ ap (λ (u : Bool). any p w || u) (on q)
    where
      on : (q : Bool) → any p (unless (not q) break_not_placeable) ≡ q && p break_not_placeable
      on true = or-false (p break_not_placeable)
      on false = refl

  empty-ordered : (w : List Violation) (q : Bool) (t : Totals)
      → is_empty (ordered w q t) ≡ (is_empty w && not q && fits s calls && within s.head.max_distance t.distance && within s.head.max_duration t.duration)
  empty-ordered w q t = simp (empty-append, empty-unless)

  -- the three by the clock's answer
  abbrev missed_by : Option Totals → List Violation
  missed_by o = windows_from s (place_or o) 1 0 start calls

  abbrev reported_by : Option Totals → Bool
  reported_by o = present s.head.rest && not (present o) && is_empty (missed_by o)

  abbrev totals_by : Option Totals → Totals
  totals_by o = value_or no_totals (home s calls (last_label s (place_or o) 1 0 start calls))

  abbrev violations_by : Option Totals → List Violation
  violations_by o = ordered (missed_by o) (reported_by o) (totals_by o)

  -- a closed leg is the only violation of its run
  pub closed-alone : (leg : ℕ) → first_closed s calls ≡ Some leg → (build_route s calls).violations ≡ closed_leg leg ∷ []
  closed-alone leg e = ap (λ (r : Route). r.violations) (route-closed s calls leg e)

  totals-are : first_closed s calls ≡ None → totals_by (clock s calls) ≡ (build_route s calls).totals
  unfolding open_route
  totals-are o = sym (ap (λ (r : Route). r.totals) (route-open s calls o))

  violations-are : first_closed s calls ≡ None → (build_route s calls).violations ≡ violations_by (clock s calls)
  unfolding open_route
  violations-are o = ap (λ (r : Route). r.violations) (route-open s calls o)

  -- of a run without a closed leg the break is reported exactly when the sheet has one, the clock has no answer, and no window violation is reported
  pub break-reported : first_closed s calls ≡ None
      → any is_break (build_route s calls).violations ≡ (present s.head.rest && not (present (clock s calls)) && not (any is_window (build_route s calls).violations))
  break-reported roads = rw (violations-are roads) (go (clock s calls))
    where
      go : (o : Option Totals) → any is_break (violations_by o) ≡ (present s.head.rest && not (present o) && not (any is_window (violations_by o)))
      go o =
          let w = only-windows s (place_or o) 1 0 start calls in
          let b = any-ordered is_break (λ n m. ((refl, refl), refl, refl)) (missed_by o) (reported_by o) (totals_by o) in
          let a = any-ordered is_window (λ n m. ((refl, refl), refl, refl)) (missed_by o) (reported_by o) (totals_by o) in
          let e = is_empty (missed_by o) in
          rw (b, a, w.0, w.1, and-true (reported_by o), and-false (reported_by o), or-false (not e), not-not e) refl

  -- there is no violation exactly when the run fits and `route_eval` has an answer
  pub no-violation : is_empty (build_route s calls).violations ≡ (fits s calls && route_feasible s calls)
  unfolding route_feasible route_eval
  no-violation = by (first_closed s calls) refl
    where
      answered : (t : Totals) → clock s calls ≡ Some t → route_feasible s calls ≡ allowed s t
      answered t e = rw e (by-test (allowed s t) (λ t. rw t refl) (λ f. rw f refl))

      -- without a break on the sheet a window is missed, and with one the break is reported
      nowhere : (d : ℕ) → distance_from s 0 calls ≡ Some d → clock s calls ≡ None → (r : Option Break) → s.head.rest ≡ r → is_empty (missed_by None) ≡ true → is_empty (violations_by None) ≡ false
      nowhere d h e (Some b) r w = empty-ordered (missed_by None) (reported_by None) (totals_by None) ∙ rw (w, ap (λ (o : Option Break). present o) r) refl
      nowhere d h e None r w = not-both (is_empty (missed_by None)) w (missed s 0 r 1 0 start calls d h (none_left (label_of s calls 0) refl))
        where
          back : (b : Leg) × (drive s (last_of 0 calls) 0 ≡ Some b)
          back = distance-home s 0 calls d h

          none_left : (o : Option Label) → label_of s calls 0 ≡ o → o ≡ None
          none_left None q = refl
          none_left (Some l) q =
              clash (sym e
              ∙ clocked s calls back.0 back.1 l (ap (λ (o : Option Break). counts o back.0.travel (end s calls)) r ∙ plain s calls ∙ q) ∙ home-is s calls d back.0 h back.1 l)

      go : first_closed s calls ≡ None → (o : Option Totals) → clock s calls ≡ o → is_empty (violations_by o) ≡ (fits s calls && route_feasible s calls)
      go roads None e =
          let d = open-distance s 1 0 calls roads in
          by-test (is_empty (missed_by None)) (λ w. nowhere d.0 d.1 e s.head.rest refl w)
          (λ w. empty-ordered (missed_by None) (reported_by None) (totals_by None) ∙ rw w refl)
          ∙ rw e (sym (and-false (fits s calls)))
      go roads (Some t) e =
          let v = visits-clock s calls t e in
          ap (λ (w : List Violation). is_empty (ordered w (present s.head.rest && false && is_empty w) (totals_by (Some t)))) v.1
          ∙ ap (λ (u : Totals). is_empty (ordered [] (present s.head.rest && false && true) u)) (sym (ap totals_by e) ∙ totals-are roads ∙ v.0)
          ∙ empty-ordered [] (present s.head.rest && false && true) t
          ∙ rw (and-false (present s.head.rest)) (and_assoc (fits s calls) _ _ ∙ ap (λ (b : Bool). fits s calls && b) (sym (answered t e)))

      by : (o : Option ℕ) → first_closed s calls ≡ o → is_empty (build_route s calls).violations ≡ (fits s calls && route_feasible s calls)
      by (Some leg) e = rw (closed-alone leg e, clock-closed s calls (closed-distance s 1 0 calls leg e)) (sym (and-false (fits s calls)))
      by None e = rw (violations-are e) (go e (clock s calls) refl)

  -- how many there are at most: the windows missed, the break or none, the load or none, two limits
  room-ordered : (w : List Violation) (q : Bool) (t : Totals)
      → length (ordered w q t) ≤ length w + length (unless (not q) break_not_placeable) + length (overloads (load s calls) s.head.capacity) + 2
  room-ordered w q t =
      let d = one (within s.head.max_distance t.distance) (over_distance t.distance (value_or 0 s.head.max_distance)) in
      let l = one (within s.head.max_duration t.duration) (over_duration t.duration (value_or 0 s.head.max_duration)) in
      simp length-append (omega arith)

  -- where the windows missed are n and one more at most, so are they with the break
  room_within : first_closed s calls ≡ None → (n k : ℕ) → length (missed_by (clock s calls)) ≤ suc n → length (overloads (load s calls) s.head.capacity) ≤ k
      → length (build_route s calls).violations ≤ suc n + k + 2
  room_within roads n k w f =
      let o = clock s calls in
      let r = room-ordered (missed_by o) (reported_by o) (totals_by o) in
      let b = break-room (missed_by o) (present s.head.rest && not (present o)) n w in
      rw (violations-are roads) (omega arith)

open-room : (s : Sheet) (calls : List ℕ) → first_closed s calls ≡ None → length (build_route s calls).violations ≤ violation_room (length calls)
unfolding windows_from
open-room s [] o = let r = room_within s [] o 0 0 (omega arith) (none-overloads s.head.capacity) in omega arith
open-room s (c ∷ cs) o =
    let w = windows-room s (place_or (clock s (c ∷ cs))) 1 0 start (c ∷ cs) in
    let r = room_within s (c ∷ cs) o (length cs) measures w (few-overloads (load s (c ∷ cs)) s.head.capacity) in
    omega arith

-- the room that the violations need: four more than the calls
pub violations-room : (s : Sheet) (calls : List ℕ) → length (build_route s calls).violations ≤ violation_room (length calls)
violations-room s calls = go (first_closed s calls) refl
  where
    go : (o : Option ℕ) → first_closed s calls ≡ o → length (build_route s calls).violations ≤ violation_room (length calls)
    go None e = open-room s calls e
    go (Some leg) e = rw (closed-alone s calls leg e) (omega arith)
