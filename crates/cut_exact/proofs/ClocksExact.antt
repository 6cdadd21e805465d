-- On a sheet within the limits the clocks of a stretch on floats, with a break and without one, are those of its calls as a run of crates/definitions. Assumes nothing.
use Prim.Native.Nat.{ℕ, zero, suc, ◌+◌, ◌-◌, ◌*◌, ◌≤◌, ◌<◌}
use native.Mathlib.Omega.{arith}
use native.Mathlib.Numerals.{add-one}
use native.Mathlib.Nat.{add-zero, mul-zero, zero-add, le_of_lt, suc-ne-zero}
use mathlib.Core.Path.{◌≡◌, refl, sym, ap, ap₂, subst, ◌∙◌}
use mathlib.Core.List.{List, [], ◌∷◌, ◌++◌}
use Rattle.std.specs.Prelude.{Option, None, Some, option_map}
use lib.ListN.{length, get_or, take}
use lib.Seq.{take-suc, length-take-le}
use lib.Dec.{eqb}
use lib.Ieee as Ieee
use lib.Ieee.{Float, binary64}
use borrow.Author.Tests.{ltb-true, ltb-false, ne_eqb}
use Rattle.basics.proofs.TestLaws.{by-test}
use Rattle.basics.specs.Options.{◌>>=◌, Holds}
use Rattle.basics.proofs.OptionLaws.{same}
use Rattle.basics.specs.Lists.{All}
use Rattle.bounds.specs.Sized.{Small, SmallWindow, SmallCustomer, SmallBreak, Sized, Place}
use Rattle.basics.proofs.ListLaws.{all_take}
use Rattle.bounds.proofs.Inside.{depot-inside, call-inside, leg-small, customer-small}
use Rattle.bounds.specs.Bounds.{most_pay, Early, EarlyClock, ready_by}
use Rattle.bounds.proofs.BoundLaws.{enter-most, late-pay-most, serve-all-most, clock-early, start-early}
use Rattle.definitions.specs.Domain.{most_calls, most_penalty}
use Rattle.definitions.specs.Sheet.{Window, Break, Customer, Sheet, customer, Leg, drive}
use Rattle.definitions.specs.Window.{late, lateness, Entry, enter}
use Rattle.definitions.specs.Run.{Label, start, ready, serve_at, serve, serve_all, break_at, last_of, distance_from, Totals, home}
use Rattle.definitions.specs.Clock.{Clock, tick, clock_from, counts, clock}
use Rattle.theorems.proofs.Roads.{by-leg, distance-home, home-is, home_by}
use Rattle.theorems.proofs.Legality.{label_of, clock-closed}
use Rattle.theorems.proofs.Labels.{serve-more}
use Rattle.whole.specs.Whole.{fl, limit}
use Rattle.whole.proofs.WholeLaws.{fl-add, fl-sub, fl-mul}
use Rattle.whole.proofs.LargerLaws.{larger-fl}
use Rattle.models.specs.Image.{fl_window, fl_break, fl_customer}
use Rattle.models.proofs.Exact.{late-exact}
use Rattle.clock.specs.Clock.{push_f}
use Rattle.clock.specs.Image.{fl_totals, fl_clock}
use Rattle.clock.proofs.ServingExact.{through}
use Rattle.clock.proofs.HomeExact.{finish-exact}
use Rattle.distance.proofs.Exact.{fl_leg}
use Rattle.evaluation.specs.Records.{Tables}
use Rattle.evaluation.specs.Tables.{record_f, leg_f, place_before}
use Rattle.evaluation.specs.Image.{Image}
use Rattle.evaluation.proofs.ClockExact.{record-exact, leg-exact, tick-exact}
use Rattle.evaluation.proofs.RouteExact.{plain-clock}
use Rattle.cut_runs.specs.declared.visit.Elapsed.{Elapsed}
use Rattle.cut_runs.specs.Stretch.{joined_f, way_of}
use Rattle.cut_runs.specs.Runs.{charge_f, enter_f, visit_f, timed_of, clock_of, End, end_of, back_of}
use Rattle.cut_runs.proofs.Clocks.{ended, end-closed, end-finished}
use Rattle.cut_exact.proofs.StretchExact.{gone, place-last, has-gone, place_inside, way-exact}

-- before the first call
abbrev begun : Clock
begun = record { before = Some start; after = None }

-- ---- the images

abbrev pub fl_timed : Label → Elapsed
fl_timed l = record { time = fl l.time; late_cost = fl l.pay }

abbrev pub fl_end : Totals → End
fl_end t = record { distance = fl t.distance; duration = fl t.duration; pay = fl t.pay }

-- ---- a call without a break

module _ (k : ℕ) (few : k < most_calls) where
  module _ (r paid : ℕ) (h : r ≤ ready_by k) (p : paid ≤ k * most_pay) where
    abbrev entered : Entry → Elapsed
    entered e = record { time = fl e.start; late_cost = fl (paid + e.pay) }

    enter-exact : (w : Option Window) → Holds SmallWindow w → (q : Option ℕ) → Holds (λ (n : ℕ). n ≤ most_penalty) q
        → enter_f (option_map fl_window w) (option_map fl q) (fl r) (fl paid) ≡ option_map entered (enter w q r)
    unfolding enter_f charge_f enter
    enter-exact None W q Q = rw (add-zero paid)
    enter-exact (Some w) W None Q =
        rw (late-exact w r (omega arith) (omega arith) (omega arith), larger-fl r w.ready (omega arith) (omega arith))
        (by-test (late w r) (λ t. rw t) (λ f. rw (f, add-zero paid)))
    enter-exact (Some w) W (Some q) Q =
        let due = late-pay-most w q k r few Q h in
        rw (late-exact w r (omega arith) (omega arith) (omega arith), larger-fl r w.ready (omega arith) (omega arith))
        (by-test (late w r)
        (λ t. let i = ltb-true w.due r t in
        rw (t, fl-sub r w.due (omega arith) (omega arith) (le_of_lt i), fl-mul q (lateness w r) (omega arith) (omega arith), fl-add paid (q * lateness w r) (omega arith) (omega (arith, due))))
        (λ f. let i = ltb-false w.due r f in
        let z : r - w.due ≡ 0 = omega arith in
        rw (f, z, mul-zero, add-zero paid)))

  -- the call is left as it is served
  visit-exact : (c : Customer) → SmallCustomer c → (j travel : ℕ) → Small travel → (l : Label) → Early k l
      → visit_f (fl_customer c) (fl (l.time + travel)) (fl l.pay) ≡ option_map fl_timed (serve_at c None j travel l)
  unfolding visit_f serve_at ready
  visit-exact c C j travel near l E =
      let r = l.time + travel in
      let h : r ≤ ready_by k = omega arith in
      rw (enter-exact r l.pay h E.pay-most c.window C.window-small c.penalty C.penalty-small)
      (through (enter c.window c.penalty r) _ _ fl_timed _ (λ e q. let s = enter-most k few c.window c.penalty C.window-small C.penalty-small r h e q in
      rw (fl-add e.start c.service (omega arith) (omega (arith, C.service-small)))))

-- ---- one call more at the end

-- the clock, one call more
clock-snoc : (s : Sheet) (j a : ℕ) (x : Clock) (l : List ℕ) (c : ℕ) → clock_from s j a x (l ++ (c ∷ [])) ≡ tick s (j + length l) (last_of a l) c (clock_from s j a x l)
unfolding clock_from
clock-snoc s j a x [] c = ap (λ (n : ℕ). tick s n a c x) (sym (add-zero j))
clock-snoc s j a x (d ∷ l) c = clock-snoc s (suc j) d (tick s j a d x) l c ∙ ap (λ (n : ℕ). tick s n (last_of d l) c (clock_from s (suc j) d (tick s j a d x) l)) (shift j (length l))
  where
    shift : (j n : ℕ) → suc j + n ≡ j + suc n
    shift j n = omega arith

-- home, by its parts
home-parts : (s : Sheet) (calls : List ℕ) (l : Label) → home s calls l ≡ (distance_from s 0 calls >>= λ d. drive s (last_of 0 calls) 0 >>= λ b. Some (home_by s calls d b.travel l))
unfolding home
home-parts s calls l = refl

-- ---- the calls of a stretch

module _ (s : Sheet) (S : Sized s) (t : Tables) (I : Image s t) (st : List ℕ) (inside : All (Place s) st) where
  -- the label after the first m calls, with the break at call p
  abbrev pub after : ℕ → ℕ → Option Label
  after p m = label_of s (take m st) p

  pub after-early : (p m : ℕ) → m ≤ length st → m ≤ most_calls → Holds (Early m) (after p m)
  after-early p m h few =
      let l = length-take-le m st h in
      subst (λ (n : ℕ). Holds (Early n) (after p m)) l (serve-all-most s S p (take m st) (omega (arith, l)))

  pub after_more : (p m : ℕ) → m < length st → after p (suc m) ≡ (after p m >>= serve s (break_at s p (suc m)) (suc m) (place_before st m) (get_or st m 0))
  after_more p m h =
      ap (λ (l : List ℕ). label_of s l p) (take-suc st m 0 h)
      ∙ serve-more s p 1 0 (Some start) (take m st) (get_or st m 0)
      ∙ ap₂ (λ (n a : ℕ). after p m >>= serve s (break_at s p n) n a (get_or st m 0)) (number (length (take m st)) (length-take-le m st (le_of_lt h))) (place-last s st m (le_of_lt h))
    where
      number : (n : ℕ) → n ≡ m → 1 + n ≡ suc m
      number n e = omega arith

  -- the first leg's time stands alone
  joined-time : (m n d : ℕ) → (m ≡ 0 → n ≡ 0) → n ≤ limit → d ≤ limit → joined_f (fl n) (fl d) (eqb m 0) ≡ fl (n + d)
  joined-time zero n d z h k = let e = z refl in rw (e, zero-add d) refl
  joined-time (suc m) n d z h k = rw (ne_eqb (suc m) 0 (suc-ne-zero m)) (fl-add n d h k)

  timed-exact : (m : ℕ) → m ≤ length st → m ≤ most_calls → timed_of t st m ≡ option_map fl_timed (after 0 m)
  unfolding timed_of serve_all
  timed-exact zero h few = refl
  timed-exact (suc m) h few =
      rw (timed-exact m (le_of_lt h) (le_of_lt few))
      (through (after 0 m) fl_timed _ fl_timed (serve s None (suc m) (place_before st m) (get_or st m 0))
      (λ x e. one x (subst (Holds (Early m)) e (after-early 0 m (le_of_lt h) (le_of_lt few))) e)
      ∙ ap (option_map fl_timed) (sym (after_more 0 m h ∙ ap (λ (o : Option Break). after 0 m >>= serve s o (suc m) (place_before st m) (get_or st m 0)) nowhere)))
    where
      nowhere : break_at s 0 (suc m) ≡ None
      nowhere = rw (ne_eqb 0 (suc m) (λ (e : 0 ≡ suc m). suc-ne-zero m (sym e))) refl

      none_yet : (m : ℕ) (x : Label) → after 0 m ≡ Some x → m ≡ 0 → x.time ≡ 0
      none_yet zero x e z = ap (λ (o : Label). o.time) (sym (same e))
      none_yet (suc m) x e z = absurd (suc-ne-zero m z)

      one : (x : Label) → Early m x → after 0 m ≡ Some x
          → (leg_f t (place_before st m) (get_or st m 0) >>= λ g. visit_f (record_f t (get_or st m 0)) (joined_f (fl x.time) g.time (eqb m 0)) (fl x.pay))
          ≡ option_map fl_timed (serve s None (suc m) (place_before st m) (get_or st m 0) x)
      one x E e =
          let c = get_or st m 0 in
          let a = place_before st m in
          let p = call-inside s S st m inside in
          by-leg s a c (λ q. rw (leg-exact s S t I a c (place_inside s st S inside m) p, q))
          (λ g q. let near = (leg-small s S a c g q).1 in
          rw (
            record-exact s S t I c p,
            leg-exact s S t I a c (place_inside s st S inside m) p,
            q,
            joined-time m x.time g.travel (none_yet m x e) (omega (arith, E.time-most)) (omega (arith, near)),
          )
          (visit-exact m few (customer s c) (customer-small s S c) (suc m) g.travel near x E))

  -- ---- home

  module _ (m : ℕ) (h : m ≤ length st) (few : m ≤ most_calls) where
    abbrev run : List ℕ
    run = take m st

    run_inside : All (Place s) run
    run_inside = all_take (Place s) m st inside

    run-few : length run ≤ most_calls
    run-few = omega (arith, length-take-le m st h)

    back-exact : back_of t st m ≡ option_map fl_leg (drive s (last_of 0 run) 0)
    back-exact =
        leg-exact s S t I (place_before st m) 0 (place_inside s st S inside m) (depot-inside s S)
        ∙ ap (λ (a : ℕ). option_map fl_leg (drive s a 0)) (sym (place-last s st m h))

    way_same : way_of (leg_f t) st m ≡ option_map fl (distance_from s 0 run)
    way_same = way-exact s st S inside (leg_f t) (leg-exact s S t I) m h few

    -- what is made of distance and time at home is the image of what is made of the totals
    pub home-through : {A B : Type 0} (image : B → A) (l : Label) (f : Float → Float → Option A) (g : Totals → Option B)
        → ((d : ℕ) (w : Leg) → drive s (last_of 0 run) 0 ≡ Some w → home s run l ≡ Some (home_by s run d w.travel l)
        → f (fl d) (fl w.travel) ≡ option_map image (g (home_by s run d w.travel l)))
        → (way_of (leg_f t) st m >>= λ far. back_of t st m >>= λ back. f far back.time) ≡ option_map image (home s run l >>= g)
    home-through image l f g same =
        rw (way_same, back-exact) (go (distance_from s 0 run) (drive s (last_of 0 run) 0) refl refl ∙ ap (λ (o : Option Totals). option_map image (o >>= g)) (sym (home-parts s run l)))
      where
        go : (o : Option ℕ) (p : Option Leg) → distance_from s 0 run ≡ o → drive s (last_of 0 run) 0 ≡ p
            → (option_map fl o >>= λ far. option_map fl_leg p >>= λ back. f far back.time)
            ≡ option_map image ((o >>= λ d. p >>= λ w. Some (home_by s run d w.travel l)) >>= g)
        go None p e q = refl
        go (Some d) None e q = refl
        go (Some d) (Some w) e q = same d w q (home-is s run d w e q l)

    end-plain : s.head.rest ≡ None → end_of t st m None ≡ option_map fl_end (clock s run)
    unfolding end_of
    end-plain z =
        rw (timed-exact m h few, plain-clock s S t I run run-few run_inside z)
        (through (after 0 m) fl_timed _ fl_end (home s run) (λ l e. one l (subst (Holds (Early m)) e (after-early 0 m h few))))
      where
        one : (l : Label) → Early m l
            → (way_of (leg_f t) st m >>= λ far. back_of t st m >>= λ back. Some (record { distance = far; duration = Ieee.add binary64 (fl l.time) back.time; pay = fl l.pay }))
            ≡ option_map fl_end (home s run l)
        one l E =
            home-through fl_end l (λ far back. Some (record { distance = far; duration = Ieee.add binary64 (fl l.time) back; pay = fl l.pay })) Some
            (λ d w q is. ap (λ (x : Float). Some (record { distance = fl d; duration = x; pay = fl l.pay }))
            (fl-add l.time w.travel (omega (arith, E.time-most)) (omega (arith, (leg-small s S (last_of 0 run) 0 w q).1))))
            ∙ ap (option_map fl_end) (whole (home s run l))
          where
            whole : (o : Option Totals) → (o >>= λ u. Some u) ≡ o
            whole None = refl
            whole (Some u) = refl

    -- ---- with a break

    module _ (b : Break) (z : s.head.rest ≡ Some b) where
      -- the clock of the first calls of the run, in whole numbers
      abbrev ticked : ℕ → Clock
      ticked k = clock_from s 1 0 begun (take k st)

      ticked-early : (k : ℕ) → k ≤ length st → k ≤ most_calls → EarlyClock k (ticked k)
      ticked-early k l f = clock-early s S k f 0 1 0 begun (take k st) (omega (arith, length-take-le k st l)) (record { before-early = start-early; after-early = tt })

      ticks-more : (k : ℕ) → k < length st → ticked (suc k) ≡ tick s (k + 1) (place_before st k) (get_or st k 0) (ticked k)
      ticks-more k l =
          ap (clock_from s 1 0 begun) (take-suc st k 0 l)
          ∙ clock-snoc s 1 0 begun (take k st) (get_or st k 0)
          ∙ ap₂ (λ (n a : ℕ). tick s n a (get_or st k 0) (ticked k)) (number (length (take k st)) k (length-take-le k st (le_of_lt l))) (place-last s st k (le_of_lt l))
        where
          number : (a k : ℕ) → a ≡ k → 1 + a ≡ k + 1
          number a k e = omega arith

      -- it goes on as far as no leg is closed
      clock-exact : (k : ℕ) → k ≤ length st → k ≤ most_calls → clock_of t st (fl_break b) k ≡ (gone s st k >>= λ _. Some (fl_clock b (place_before st k) (k + 1) (ticked k)))
      unfolding clock_of gone place_before clock_from
      clock-exact zero l f = refl
      clock-exact (suc k) l f =
          rw (clock-exact k (le_of_lt l) (le_of_lt f), leg-exact s S t I (place_before st k) (get_or st k 0) (place_inside s st S inside k) (call-inside s S st k inside))
          (go (gone s st k) (drive s (place_before st k) (get_or st k 0)) refl)
        where
          go : (o : Option ℕ) (p : Option Leg) → drive s (place_before st k) (get_or st k 0) ≡ p
              → ((o >>= λ _. Some (fl_clock b (place_before st k) (k + 1) (ticked k)))
              >>= λ x. option_map fl_leg p >>= λ g. Some (push_f x (get_or st k 0) (record_f t (get_or st k 0)) g.time))
              ≡ ((o >>= λ g. p >>= λ l. Some (g + l.length)) >>= λ _. Some (fl_clock b (get_or st k 0) (suc k + 1) (ticked (suc k))))
          go None p q = refl
          go (Some g) None q = refl
          go (Some g) (Some w) q =
              ap Some
              (tick-exact s S t I b z k f (k + 1) (place_before st k) (get_or st k 0) w q (call-inside s S st k inside) (ticked k) (ticked-early k (le_of_lt l) (le_of_lt f))
              ∙ ap₂ (λ (n : ℕ) (x : Clock). fl_clock b (get_or st k 0) n x) (ap (λ (n : ℕ). n + 1) (add-one k)) (sym (ticks-more k l)))

      -- the clock of a run whose way home is open
      clock-open : (w : Leg) → drive s (last_of 0 run) 0 ≡ Some w → clock s run ≡ (counts (Some b) w.travel (ticked m) >>= home s run)
      unfolding clock
      clock-open w q = rw (q, z) refl

      end-open : (d : ℕ) → distance_from s 0 run ≡ Some d → (w : Leg) → drive s (last_of 0 run) 0 ≡ Some w → end_of t st m (Some (fl_break b)) ≡ option_map fl_end (clock s run)
      end-open d e w q =
          let g = has-gone s st m h d e in
          let here = fl_clock b (place_before st m) (m + 1) (ticked m) in
          let near = (leg-small s S (last_of 0 run) 0 w q).1 in
          end-finished t st m (fl d) (fl_leg w) (way_same ∙ ap (option_map fl) e) (back-exact ∙ ap (option_map fl_leg) q) (fl_break b) here _
          (clock-exact m h few ∙ ap (λ (o : Option ℕ). o >>= λ _. Some here) g.1)
          (finish-exact m few d w.travel near b (subst (Holds SmallBreak) z S.rest-small) (place_before st m) (m + 1) (ticked m) (ticked-early m h few))
          ∙ go (counts (Some b) w.travel (ticked m))
          ∙ ap (option_map fl_end) (sym (clock-open w q))
        where
          go : (o : Option Label) → ended (fl d) (option_map fl_totals (o >>= λ l. Some (home_by s run d w.travel l))) ≡ option_map fl_end (o >>= home s run)
          go None = refl
          go (Some l) = ap (option_map fl_end) (sym (home-is s run d w e q l))

      end-broken : end_of t st m (Some (fl_break b)) ≡ option_map fl_end (clock s run)
      end-broken = go (distance_from s 0 run) refl
        where
          go : (o : Option ℕ) → distance_from s 0 run ≡ o → end_of t st m (Some (fl_break b)) ≡ option_map fl_end (clock s run)
          go None e = end-closed t st m (way_same ∙ ap (option_map fl) e) (Some (fl_break b)) ∙ sym (ap (option_map fl_end) (clock-closed s run e))
          go (Some d) e = let w = distance-home s 0 run d e in end-open d e w.0 w.1

    pub end-exact : end_of t st m (option_map fl_break s.head.rest) ≡ option_map fl_end (clock s run)
    end-exact = go s.head.rest refl
      where
        go : (o : Option Break) → s.head.rest ≡ o → end_of t st m (option_map fl_break o) ≡ option_map fl_end (clock s run)
        go None z = end-plain z
        go (Some b) z = end-broken b z
