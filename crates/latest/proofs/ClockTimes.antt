-- The times of the clock of crates/definitions, and whether a run is allowed by them. Assumes nothing.
use Prim.Native.Nat.{ℕ, suc, ◌+◌, max}
use native.Mathlib.Omega.{arith}
use mathlib.Core.Path.{◌≡◌, refl, sym, ap, ap₂, subst, ◌∙◌}
use mathlib.Core.Bool.{Bool, true, false, cond, ◌&&◌, ◌||◌, false≢true}
use mathlib.Core.List.{List, [], ◌∷◌}
use Rattle.std.specs.Prelude.{Option, None, Some, option_map}
use lib.Dec.{ltb, leb, eqb}
use borrow.Author.Tests.{ltb-true, ltb-false, lt-ltb, le-ltb, eqb-true, leb-true, leb-false}
use Rattle.basics.specs.Options.{◌>>=◌, holds, given, present}
use Rattle.basics.proofs.TestLaws.{by-test, not-both}
use Rattle.definitions.specs.Sheet.{Window, Break, Customer, Sheet, Leg, customer, drive, map_window, map_break, map_customer}
use Rattle.definitions.specs.Window.{Entry, enter}
use Rattle.definitions.specs.Limits.{within, excused}
use Rattle.definitions.specs.Run.{Label, start, break_start, too_late, ready, serve_at, last_of, distance_from, Totals}
use Rattle.definitions.specs.Run as Run
use Rattle.definitions.specs.Clock.{Clock, smaller, tick, clock_from, counts, clock, start_of}
use Rattle.definitions.specs.Clock as Clock
use Rattle.definitions.specs.Evaluation.{Evaluation, route_eval, route_feasible}
use Rattle.theorems.proofs.Roads.{home-is}
use Rattle.whole.specs.Infinity.{Ext, of, never, add_e, lt_e}
use Rattle.latest.specs.Times.{HoursOf, DayOf, TimesOf, later, sooner, less, above, opens_at, shuts_at, hours_of, day_of, leave, rested, set_out, serve, serves, entered, paused, home, in_time}
use Rattle.latest.proofs.Ways.{serve-broken, serve-whole}
use Rattle.latest.proofs.Bounding.{exts, less-is, sooner-time, leave-is, rested-is, gate, sooner-bound, or-goes, Known, Set}

-- ---- a label's time

abbrev pub time_e : Option Label → Ext
time_e None = never
time_e (Some l) = of l.time

abbrev pub times_e : Clock → TimesOf Ext
times_e x = record { before = time_e x.before; after = time_e x.after }

abbrev pub hours_e : Customer → HoursOf Ext
hours_e c = hours_of exts (map_customer of c)

abbrev pub break_e : Option ℕ → Break → DayOf Ext
break_e most b = day_of exts (option_map of most) (Some (map_break of b))

abbrev pub day_e : Sheet → DayOf Ext
day_e s = day_of exts (option_map of s.head.max_duration) (option_map (map_break of) s.head.rest)

later-max : (a b : ℕ) → later exts (of a) (of b) ≡ of (max a b)
later-max a b =
    by-test (ltb a b)
    (λ e. let h = ltb-true a b e in let m : b ≡ max a b = omega arith in rw e (ap of m))
    (λ e. let h = ltb-false a b e in let m : a ≡ max a b = omega arith in rw e (ap of m))

-- a call that is entered from a on, and left as f says
module _ (sv a : ℕ) (f : Entry → Label) (leaves : (e : Entry) → (f e).time ≡ e.start + sv) where
  abbrev hours_by : Option Window → Option ℕ → HoursOf Ext
  hours_by w p = record { ready = opens_at exts (option_map (map_window of) w); bound = shuts_at exts (option_map (map_window of) w) (option_map of p); service = of sv }

  left_at : (n r : ℕ) → n ≡ max a r + sv → of n ≡ add_e (later exts (of a) (of r)) (of sv)
  left_at n r e = ap of e ∙ sym (ap (λ (z : Ext). add_e z (of sv)) (later-max a r))

  enter-time : (w : Option Window) (p : Option ℕ) → time_e (enter w p a >>= λ e. Some (f e)) ≡ leave exts (hours_by w p) (of a)
  unfolding enter leave
  enter-time None p = left_at _ 0 (leaves _ ∙ (let m : a + sv ≡ max a 0 + sv = omega arith in m))
  enter-time (Some w) None =
      by-test (ltb w.due a)
      (λ t. let h = ltb-true w.due a t in rw (t, le-ltb a (w.due + 1) (omega arith)))
      (λ t. let h = ltb-false w.due a t in rw (t, lt-ltb a (w.due + 1) (omega arith)) (left_at _ w.ready (leaves _)))
  enter-time (Some w) (Some p) = left_at _ w.ready (leaves _)

rested-time : (most : Option ℕ) (b : Break) (a : ℕ) → rested exts (break_e most b) (of a) ≡ cond (too_late b a) never (of (break_start b a + b.duration))
unfolding rested
rested-time most b a =
    rw (later-max a b.earliest)
    (by-test (too_late b a)
    (λ t. let h = ltb-true b.latest (break_start b a) t in rw (t, le-ltb (break_start b a) (b.latest + 1) (omega arith)))
    (λ t. let h = ltb-false b.latest (break_start b a) t in rw (t, lt-ltb (break_start b a) (b.latest + 1) (omega arith))))

module _ (c : Customer) (k tr : ℕ) where
  serve-plain : (o : Option Label) → time_e (o >>= serve_at c None k tr) ≡ leave exts (hours_e c) (add_e (time_e o) (of tr))
  unfolding serve_at ready leave
  serve-plain None = refl
  serve-plain (Some l) = enter-time c.service (l.time + tr) _ (λ e. refl) c.window c.penalty

  serve-rested : (most : Option ℕ) (b : Break) (o : Option Label) → time_e (o >>= serve_at c (Some b) k tr) ≡ leave exts (hours_e c) (rested exts (break_e most b) (add_e (time_e o) (of tr)))
  unfolding serve_at ready leave rested
  serve-rested most b None = refl
  serve-rested most b (Some l) = go (rested exts (break_e most b) (of (l.time + tr))) (rested-time most b (l.time + tr))
    where
      go : (r : Ext) → r ≡ cond (too_late b (l.time + tr)) never (of (break_start b (l.time + tr) + b.duration))
          → time_e (serve_at c (Some b) k tr l) ≡ leave exts (hours_e c) r
      go r e =
          by-test (too_late b (l.time + tr)) (λ t. rw (e, t))
          (λ t. rw (e, t) (enter-time c.service (break_start b (l.time + tr) + b.duration) _ (λ e. refl) c.window c.penalty))

sooner-of : (p q : Option Label) → time_e (Clock.sooner p q) ≡ sooner exts (time_e q) (time_e p)
sooner-of None None = refl
sooner-of None (Some m) = refl
sooner-of (Some l) None = refl
sooner-of (Some l) (Some m) =
    by-test (ltb m.time l.time) (λ t. rw t)
    (λ f. rw f (by-test (eqb m.time l.time && ltb m.pay l.pay) (λ t. rw t (ap of (eqb-true m.time l.time (first (eqb m.time l.time) _ t)))) (λ g. rw g)))
  where
    first : (a b : Bool) → a && b ≡ true → a ≡ true
    first true b e = refl
    first false b e = e

-- ---- call by call

-- how long the way takes
abbrev pub travel_of : Option Leg → ℕ
travel_of None = 0
travel_of (Some g) = g.travel

-- without a break on the sheet there is no time after it
abbrev pub Alone : Sheet → Clock → Type 0
Alone s x = s.head.rest ≡ None → x.after ≡ None

module _ (s : Sheet) where
  abbrev pub road_e : ℕ → ℕ → Ext
  road_e a b = of (travel_of (drive s a b))

  abbrev pub place_e : ℕ → HoursOf Ext
  place_e c = hours_e (customer s c)

  abbrev pub serves_e : TimesOf Ext → ℕ → List ℕ → TimesOf Ext
  serves_e t a calls = serves exts road_e place_e (day_e s) t a calls

  tick-times : (k a c : ℕ) (g : Leg) → drive s a c ≡ Some g → (x : Clock) → Alone s x → times_e (tick s k a c x) ≡ serve exts (day_e s) (place_e c) (road_e a c) (times_e x)
  tick-times k a c g way x alone = go s.head.rest alone
    where
      tr : ℕ
      tr = g.travel

      along : (here : Option Break) (o : Option Label) → time_e (o >>= Run.serve s here k a c) ≡ time_e (o >>= serve_at (customer s c) here k tr)
      along here None = refl
      along here (Some l) = rw way

      go : (o : Option Break) → (o ≡ None → x.after ≡ None)
          → record {
            before = time_e (x.before >>= Run.serve s None k a c);
            after = time_e (Clock.sooner (x.after >>= Run.serve s None k a c) (o >>= λ b. x.before >>= Run.serve s (Some b) k a c));
          }
          ≡ serve exts (day_of exts (option_map of s.head.max_duration) (option_map (map_break of) o)) (place_e c) (road_e a c) (times_e x)
      go None h =
          rw (h refl)
          (ap (λ (z : Ext). record { before = z; after = never }) (along None x.before ∙ serve-plain (customer s c) k tr x.before)
          ∙ serve-whole exts (day_of exts (option_map of s.head.max_duration) None) (place_e c) (of tr) (record { before = time_e x.before; after = never }) refl
          ∙ ap (λ (o : Option Leg). serve exts (day_of exts (option_map of s.head.max_duration) None) (place_e c) (of (travel_of o)) (record { before = time_e x.before; after = never })) (sym way))
      go (Some b) h =
          ap₂ (λ (y z : Ext). record { before = y; after = z }) (along None x.before ∙ serve-plain (customer s c) k tr x.before)
          (sooner-of (x.after >>= Run.serve s None k a c) (x.before >>= Run.serve s (Some b) k a c)
          ∙ ap₂ (sooner exts) (along (Some b) x.before ∙ serve-rested (customer s c) k tr s.head.max_duration b x.before) (along None x.after ∙ serve-plain (customer s c) k tr x.after))
          ∙ serve-broken exts (break_e s.head.max_duration b) (place_e c) (of tr) (times_e x) refl
          ∙ ap (λ (o : Option Leg). serve exts (break_e s.head.max_duration b) (place_e c) (of (travel_of o)) (times_e x)) (sym way)

  tick-alone : (k a c : ℕ) (x : Clock) → Alone s x → Alone s (tick s k a c x)
  tick-alone k a c x alone e =
      ap₂ (λ (m : Option Label) (o : Option Break). Clock.sooner (m >>= Run.serve s None k a c) (o >>= λ b. x.before >>= Run.serve s (Some b) k a c)) (alone e) e

  -- the legs between these places are open
  abbrev pub Open : ℕ → List ℕ → Type 0
  Open a [] = Unit {0}
  Open a (c ∷ cs) = ((g : Leg) × (drive s a c ≡ Some g)) × Open c cs

  pub clock-times : (k a : ℕ) (x : Clock) (cs : List ℕ) → Open a cs → Alone s x → times_e (clock_from s k a x cs) ≡ serves_e (times_e x) a cs
  unfolding clock_from serves
  clock-times k a x [] o alone = refl
  clock-times k a x (c ∷ cs) o alone =
      clock-times (suc k) c (tick s k a c x) cs o.1 (tick-alone k a c x alone)
      ∙ ap (λ (t : TimesOf Ext). serves_e t c cs) (tick-times k a c o.0.0 o.0.1 x alone)

  pub clock-alone : (k a : ℕ) (x : Clock) (cs : List ℕ) → Alone s x → Alone s (clock_from s k a x cs)
  unfolding clock_from
  clock-alone k a x [] alone = alone
  clock-alone k a x (c ∷ cs) alone = clock-alone (suc k) c (tick s k a c x) cs (tick-alone k a c x alone)

-- ---- the time with the break taken is not the sooner one

-- whatever bound the second stays below, the first does too
abbrev pub NoLater : Ext → Ext → Type 0
NoLater x y = (u : Ext) → lt_e y u ≡ true → lt_e x u ≡ true

added-later : (x y : Ext) (d : ℕ) → NoLater x y → NoLater (add_e x (of d)) (add_e y (of d))
added-later x y d L u e = less-is x u d ∙ L (less exts u (of d)) (sym (less-is y u d) ∙ e)

sum-later : (x : Ext) (d : ℕ) → NoLater x (add_e x (of d))
sum-later (of n) d never e = refl
sum-later (of n) d (of m) e = let h = ltb-true (n + d) m e in lt-ltb n m (omega arith)
sum-later never d u e = e

left_both : (a b : Bool) → a && b ≡ true → a ≡ true
left_both true b e = refl
left_both false b e = e

module _ (day : DayOf Ext) (K : Known day) (hours : HoursOf Ext) (S : Set hours) where
  left-later : (x y : Ext) → NoLater x y → NoLater (leave exts hours x) (leave exts hours y)
  left-later x y L u e =
      let is : (z : Ext) → lt_e (leave exts hours z) u ≡ lt_e z (entered exts hours u) = λ z. leave-is hours S.r S.sv S.ready-is S.service-is z u in
      is x ∙ L (entered exts hours u) (sym (is y) ∙ e)

  rested-later : (x : Ext) → NoLater x (rested exts day x)
  unfolding paused
  rested-later x u e =
      let st = sooner exts (less exts u day.pause) day.latest in
      let a = sym (gate x st (lt_e day.earliest st)) ∙ sym (rested-is day K.e K.p K.earliest-is K.pause-is x u) ∙ e in
      let b = sym (sooner-bound x (less exts u day.pause) day.latest) ∙ left_both (lt_e x st) (lt_e day.earliest st) a in
      let c = left_both (lt_e x (less exts u day.pause)) (lt_e x day.latest) b in
      sum-later x K.p u (less-is x u K.p ∙ ap (λ (z : Ext). lt_e x (less exts u z)) (sym K.pause-is) ∙ c)

  serve-later : day.broken ≡ true → (m : ℕ) (t : TimesOf Ext) → NoLater t.before t.after
      → NoLater (serve exts day hours (of m) t).before (serve exts day hours (of m) t).after
  serve-later b m t L =
      subst (λ (w : TimesOf Ext). NoLater w.before w.after) (serve-broken exts day hours (of m) t b)
      (λ u e. either (lt_e broken u) (lt_e carried u) (sym (sooner-time broken carried u) ∙ e) (left-later a (rested exts day a) (rested-later a) u)
      (left-later a (add_e t.after (of m)) (added-later t.before t.after m L) u))
    where
      a : Ext
      a = add_e t.before (of m)

      broken : Ext
      broken = leave exts hours (rested exts day a)

      carried : Ext
      carried = leave exts hours (add_e t.after (of m))

      either : (x y : Bool) {z : Bool} → x || y ≡ true → (x ≡ true → z ≡ true) → (y ≡ true → z ≡ true) → z ≡ true
      either true y e f g = f refl
      either false y e f g = g e

-- ---- by the sheet

pub set-hours : (c : Customer) → Set (hours_e c)
set-hours c = record { r = opening c.window; sv = c.service; ready-is = opening-is c.window; service-is = refl }
  where
    opening : Option Window → ℕ
    opening None = 0
    opening (Some w) = w.ready

    opening-is : (w : Option Window) → opens_at exts (option_map (map_window of) w) ≡ of (opening w)
    opening-is None = refl
    opening-is (Some w) = refl

pub known-day : (most : Option ℕ) (o : Option Break) → Known (day_of exts (option_map of most) (option_map (map_break of) o))
known-day most None = record { e = 0; p = 0; earliest-is = refl; pause-is = refl }
known-day most (Some b) = record { e = b.earliest; p = b.duration; earliest-is = refl; pause-is = refl }

module _ (s : Sheet) where
  pub serves-later : (day_e s).broken ≡ true → (t : TimesOf Ext) (a : ℕ) (cs : List ℕ) → NoLater t.before t.after → NoLater (serves_e s t a cs).before (serves_e s t a cs).after
  unfolding serves
  serves-later b t a [] L = L
  serves-later b t a (c ∷ cs) L =
      serves-later b (serve exts (day_e s) (place_e s c) (road_e s a c) t) c cs
      (serve-later (day_e s) (known-day s.head.max_duration s.head.rest) (place_e s c) (set-hours (customer s c)) b (travel_of (drive s a c)) t L)

-- ---- home

above-is : (o : Option ℕ) (n : ℕ) → within o n ≡ lt_e (of n) (above exts (option_map of o))
above-is None n = refl
above-is (Some m) n =
    by-test (leb n m) (λ t. let h = leb-true n m t in t ∙ sym (lt-ltb n (m + 1) (omega arith))) (λ f. let h = leb-false n m f in f ∙ sym (le-ltb n (m + 1) (omega arith)))

-- the label that counts is home in time
abbrev pub home_in : Option ℕ → Option Break → ℕ → Clock → Bool
home_in most rest back x = holds (counts rest back x) (λ l. within most (l.time + back))

home-plain : (most : Option ℕ) (back : ℕ) (x : Clock) → x.after ≡ None → home_in most None back x ≡ in_time exts (times_e x) (of back) (home exts (day_of exts (option_map of most) None))
unfolding in_time
home-plain most back x e = rw e (go x.before)
  where
    go : (o : Option Label) → holds o (λ l. within most (l.time + back)) ≡ (lt_e (add_e (time_e o) (of back)) (above exts (option_map of most)) || false)
    go None = refl
    go (Some l) = above-is most (l.time + back) ∙ or-goes (lt_e (of (l.time + back)) (above exts (option_map of most)))

home-broken : (most : Option ℕ) (b : Break) (back : ℕ) (x : Clock) → NoLater (time_e x.before) (time_e x.after)
    → home_in most (Some b) back x ≡ in_time exts (times_e x) (of back) (home exts (break_e most b))
unfolding in_time
home-broken most b back x L = go x.before x.after L
  where
    long : Ext
    long = above exts (option_map of most)

    late : (m : Option Label) → holds m (λ l. within most (l.time + back)) ≡ lt_e (add_e (time_e m) (of back)) long
    late None = refl
    late (Some l) = above-is most (l.time + back)

    go : (o m : Option Label) → NoLater (time_e o) (time_e m)
        → holds (cond (holds o (λ l. excused b (l.time + back))) o m) (λ l. within most (l.time + back))
        ≡ (lt_e (add_e (time_e o) (of back)) (sooner exts long (of b.earliest)) || lt_e (add_e (time_e m) (of back)) long)
    go None m N = late m
    go (Some l) m N =
        let n = l.time + back in
        let split = sooner-bound (of n) long (of b.earliest) in
        by-test (excused b n)
        (λ t. rw (split, t)
        (by-test (lt_e (of n) long) (λ y. above-is most n ∙ rw y)
        (λ f. above-is most n ∙ rw f (after (lt_e (add_e (time_e m) (of back)) long) (λ y. not-both (lt_e (of n) long) (added-later (of l.time) (time_e m) back N long y) f)))))
        (λ t. rw (split, t) (late m ∙ none_first (lt_e (of n) long) (lt_e (add_e (time_e m) (of back)) long)))
      where
        after : (z : Bool) → (z ≡ true → false ≡ z) → false ≡ z
        after true e = e refl
        after false e = refl

        none_first : (x y : Bool) → y ≡ (x && false) || y
        none_first true y = refl
        none_first false y = refl

-- ---- a run

module _ (s : Sheet) (run : List ℕ) (d : ℕ) (far : distance_from s 0 run ≡ Some d) (g : Leg) (last : drive s (last_of 0 run) 0 ≡ Some g) (open-all : Open s 0 run) where
  abbrev end : Clock
  end = clock_from s 1 0 (record { before = Some start; after = None }) run

  feasible-by : route_feasible s run ≡ within s.head.max_distance d && home_in s.head.max_duration s.head.rest g.travel end
  unfolding route_feasible route_eval clock
  feasible-by = rw last (go (counts s.head.rest g.travel end))
    where
      eval : Totals → Option Evaluation
      eval t = given (Run.allowed s t) (record { totals = t; start = start_of s (record { calls = run; place = t.place }) })

      go : (o : Option Label) → present ((o >>= Run.home s run) >>= eval) ≡ within s.head.max_distance d && holds o (λ l. within s.head.max_duration (l.time + g.travel))
      go None = none-there (within s.head.max_distance d)
        where
          none-there : (x : Bool) → false ≡ x && false
          none-there true = refl
          none-there false = refl
      go (Some l) =
          rw (home-is s run d g far last l)
          (by-test (within s.head.max_distance d && within s.head.max_duration (l.time + g.travel)) (λ t. rw t) (λ f. rw f))

  times-end : times_e end ≡ serves_e s (set_out exts) 0 run
  times-end = clock-times s 1 0 (record { before = Some start; after = None }) run open-all (λ e. refl)

  -- by the times at which the calls are left
  pub feasible-is : route_feasible s run ≡ within s.head.max_distance d && in_time exts (serves_e s (set_out exts) 0 run) (of g.travel) (home exts (day_e s))
  feasible-is =
      feasible-by
      ∙ ap (λ (b : Bool). within s.head.max_distance d && b)
      (in-time s.head.rest (clock-alone s 1 0 (record { before = Some start; after = None }) run (λ e. refl)) later-end
      ∙ ap (λ (t : TimesOf Ext). in_time exts t (of g.travel) (home exts (day_e s))) times-end)
    where
      later-end : (day_e s).broken ≡ true → NoLater (time_e end.before) (time_e end.after)
      later-end b = subst (λ (t : TimesOf Ext). NoLater t.before t.after) (sym times-end) (serves-later s b (set_out exts) 0 run (λ u e. absurd (false≢true e)))

      in-time : (o : Option Break) → (o ≡ None → end.after ≡ None)
          → ((day_of exts (option_map of s.head.max_duration) (option_map (map_break of) o)).broken ≡ true → NoLater (time_e end.before) (time_e end.after))
          → home_in s.head.max_duration o g.travel end ≡ in_time exts (times_e end) (of g.travel) (home exts (day_of exts (option_map of s.head.max_duration) (option_map (map_break of) o)))
      in-time None a l = home-plain s.head.max_duration g.travel end (a refl)
      in-time (Some b) a l = home-broken s.head.max_duration b g.travel end (l refl)
