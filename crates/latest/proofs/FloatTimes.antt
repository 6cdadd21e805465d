-- Floats that hold whole numbers reckon times and bounds as the whole numbers do. Assumes nothing.
use Prim.Native.Nat.{ℕ, ◌+◌, ◌*◌, ◌≤◌}
use native.Mathlib.Omega.{arith}
use mathlib.Core.Path.{◌≡◌, refl, sym, ap, ap₂, subst, ◌∙◌}
use mathlib.Core.Bool.{Bool, true, false, cond, ◌||◌, false≢true}
use lib.Ieee as Ieee
use lib.Ieee.{Float, binary64, inf, fin}
use borrow.Author.Tests.{ltb-true}
use Rattle.basics.proofs.TestLaws.{by-test}
use Rattle.definitions.specs.Domain.{most_number}
use Rattle.whole.specs.Whole.{fl, limit, Is}
use Rattle.whole.proofs.WholeLaws.{fl-is, fl-sub}
use Rattle.whole.specs.Infinity.{Ext, of, never, fx, Fit, add_e, lt_e}
use Rattle.whole.proofs.InfinityLaws.{fx-add, fx-lt}
use Rattle.latest.specs.Times.{HoursOf, DayOf, TimesOf, later, sooner, less, leave, rested, serve, entered, paused, back, in_time}
use Rattle.latest.specs.Floats.{floats}
use Rattle.latest.proofs.Ways.{serve-broken, serve-whole, back-broken, back_whole}
use Rattle.latest.proofs.Bounding.{exts, sub_e}

-- ---- held in floats

abbrev pub fx_hours : HoursOf Ext → HoursOf Float
fx_hours s = record { ready = fx s.ready; bound = fx s.bound; service = fx s.service }

abbrev pub fx_day : DayOf Ext → DayOf Float
fx_day d =
    record {
      long = fx d.long;
      spare = fx d.spare;
      broken = d.broken;
      earliest = fx d.earliest;
      latest = fx d.latest;
      pause = fx d.pause;
    }

abbrev pub fx_times : TimesOf Ext → TimesOf Float
fx_times t = record { before = fx t.before; after = fx t.after }

-- ---- small numbers

abbrev pub Upto : ℕ → Ext → Type 0
Upto m (of n) = n ≤ m
Upto m never = Unit {0}

pub fit : (m : ℕ) (x : Ext) → m ≤ limit → Upto m x → Fit x
fit m (of n) h u = omega arith
fit m never h u = tt

grow : (m n : ℕ) (x : Ext) → m ≤ n → Upto m x → Upto n x
grow m n (of k) h u = omega arith
grow m n never h u = tt

sum-upto : (m n : ℕ) (x y : Ext) → Upto m x → Upto n y → Upto (m + n) (add_e x y)
sum-upto m n (of a) (of b) u v = omega arith
sum-upto m n (of a) never u v = tt
sum-upto m n never y u v = tt

module _ (m : ℕ) (x y : Ext) (u : Upto m x) (v : Upto m y) where
  later-upto : Upto m (later exts x y)
  later-upto = by-test (lt_e x y) (λ t. rw t v) (λ f. rw f u)

  pub sooner-upto : Upto m (sooner exts x y)
  sooner-upto = by-test (lt_e x y) (λ t. rw t u) (λ f. rw f v)

less_upto : (m : ℕ) (u d : Ext) → Upto m u → Upto m (less exts u d)
less_upto m u d h = by-test (lt_e d u) (λ t. rw t (taken u d h)) (λ f. rw f (omega arith))
  where
    taken : (u d : Ext) → Upto m u → Upto m (sub_e u d)
    taken (of a) (of b) h = omega arith
    taken (of a) never h = omega arith
    taken never d h = tt

-- ---- the operations

module _ (x y : Ext) (p : Fit x) (q : Fit y) where
  later-fx : later floats (fx x) (fx y) ≡ fx (later exts x y)
  later-fx = rw (fx-lt x y p q) (by-test (lt_e x y) (λ t. rw t) (λ f. rw f))

  pub sooner-fx : sooner floats (fx x) (fx y) ≡ fx (sooner exts x y)
  sooner-fx = rw (fx-lt x y p q) (by-test (lt_e x y) (λ t. rw t) (λ f. rw f))

inf-sub : (x : Float) (a : ℕ) → Is x a → Ieee.sub binary64 (inf false) x ≡ inf false
unfolding Ieee.sub Ieee.add Ieee.neg
inf-sub (fin s m e) a p = refl
inf-sub Ieee.nan a p = elim p [ ]
inf-sub (inf _) a p = elim p [ ]

less-fx : (u d : Ext) → Fit u → Fit d → less floats (fx u) (fx d) ≡ fx (less exts u d)
less-fx u d p q = rw (fx-lt d u q p) (by-test (lt_e d u) (λ t. rw t (taken u d p q t)) (λ f. rw f))
  where
    taken : (u d : Ext) → Fit u → Fit d → lt_e d u ≡ true → Ieee.sub binary64 (fx u) (fx d) ≡ fx (sub_e u d)
    taken (of a) (of b) p q t = let h = ltb-true b a t in fl-sub a b p q (omega arith)
    taken never (of b) p q t = inf-sub (fl b) b (fl-is b q)
    taken u never p q t = absurd (false≢true t)

-- ---- a call

pub record SmallHours (s : HoursOf Ext) : Type 0 where
  pub ready-small : Upto most_number s.ready
  pub bound-small : Upto (most_number + 1) s.bound
  pub service-small : Upto most_number s.service

pub record SmallDay (d : DayOf Ext) : Type 0 where
  pub long-small : Upto (most_number + 1) d.long
  pub spare-small : Upto (most_number + 1) d.spare
  pub earliest-small : Upto most_number d.earliest
  pub latest-small : Upto (most_number + 1) d.latest
  pub pause-small : Upto most_number d.pause

pub record Times (m : ℕ) (t : TimesOf Ext) : Type 0 where
  pub before-upto : Upto m t.before
  pub after-upto : Upto m t.after

-- what a call adds at the most
abbrev pub each : ℕ
each = 3 * most_number

module _ (hours : HoursOf Ext) (S : SmallHours hours) where
  module _ (m : ℕ) (low : most_number ≤ m) (high : m + most_number ≤ limit) (a : Ext) (h : Upto m a) where
    begun : Upto m (later exts a hours.ready)
    begun = later-upto m a hours.ready h (grow most_number m hours.ready low S.ready-small)

    leave-fx : leave floats (fx_hours hours) (fx a) ≡ fx (leave exts hours a)
    unfolding leave
    leave-fx =
        let fa = fit m a (omega arith) h in
        let fr = fit most_number hours.ready (omega arith) S.ready-small in
        let fs = fit most_number hours.service (omega arith) S.service-small in
        rw (fx-lt a hours.bound fa (fit (most_number + 1) hours.bound (omega arith) S.bound-small))
        (by-test (lt_e a hours.bound)
        (λ t. rw t (ap (λ (z : Float). Ieee.add binary64 z (fx hours.service)) (later-fx a hours.ready fa fr)
        ∙ fx-add (later exts a hours.ready) hours.service (fit m (later exts a hours.ready) (omega arith) begun) fs))
        (λ f. rw f))

    leave-upto : Upto (m + most_number) (leave exts hours a)
    unfolding leave
    leave-upto = by-test (lt_e a hours.bound) (λ t. rw t (sum-upto m most_number (later exts a hours.ready) hours.service begun S.service-small)) (λ f. rw f tt)

  module _ (u : Ext) (h : Upto (most_number + 1) u) where
    abbrev begin : Ext
    begin = less exts u hours.service

    begin-upto : Upto (most_number + 1) begin
    begin-upto = less_upto (most_number + 1) u hours.service h

    entered-fx : entered floats (fx_hours hours) (fx u) ≡ fx (entered exts hours u)
    unfolding entered
    entered-fx =
        let fr = fit most_number hours.ready (omega arith) S.ready-small in
        let fb = fit (most_number + 1) begin (omega arith) begin-upto in
        let fd = fit (most_number + 1) hours.bound (omega arith) S.bound-small in
        ap (λ (z : Float). cond (Ieee.lt (fx hours.ready) z) (sooner floats z (fx hours.bound)) (fl 0))
        (less-fx u hours.service (fit (most_number + 1) u (omega arith) h) (fit most_number hours.service (omega arith) S.service-small))
        ∙ rw (fx-lt hours.ready begin fr fb) (by-test (lt_e hours.ready begin) (λ t. rw t (sooner-fx begin hours.bound fb fd)) (λ f. rw f))

    entered-upto : Upto (most_number + 1) (entered exts hours u)
    unfolding entered
    entered-upto = by-test (lt_e hours.ready begin) (λ t. rw t (sooner-upto (most_number + 1) begin hours.bound begin-upto S.bound-small)) (λ f. rw f (omega arith))

module _ (day : DayOf Ext) (D : SmallDay day) where
  module _ (m : ℕ) (low : most_number ≤ m) (high : m + most_number ≤ limit) (a : Ext) (h : Upto m a) where
    abbrev start : Ext
    start = later exts a day.earliest

    start-upto : Upto m start
    start-upto = later-upto m a day.earliest h (grow most_number m day.earliest low D.earliest-small)

    rested-fx : rested floats (fx_day day) (fx a) ≡ fx (rested exts day a)
    unfolding rested
    rested-fx =
        let fs = fit m start (omega arith) start-upto in
        ap (λ (z : Float). cond (Ieee.lt z (fx day.latest)) (Ieee.add binary64 z (fx day.pause)) (inf false))
        (later-fx a day.earliest (fit m a (omega arith) h) (fit most_number day.earliest (omega arith) D.earliest-small))
        ∙ rw (fx-lt start day.latest fs (fit (most_number + 1) day.latest (omega arith) D.latest-small))
        (by-test (lt_e start day.latest) (λ t. rw t (fx-add start day.pause fs (fit most_number day.pause (omega arith) D.pause-small))) (λ f. rw f))

    rested-upto : Upto (m + most_number) (rested exts day a)
    unfolding rested
    rested-upto = by-test (lt_e start day.latest) (λ t. rw t (sum-upto m most_number start day.pause start-upto D.pause-small)) (λ f. rw f tt)

  module _ (u : Ext) (h : Upto (most_number + 1) u) where
    abbrev start-by : Ext
    start-by = sooner exts (less exts u day.pause) day.latest

    cut-upto : Upto (most_number + 1) (less exts u day.pause)
    cut-upto = less_upto (most_number + 1) u day.pause h

    by-upto : Upto (most_number + 1) start-by
    by-upto = sooner-upto (most_number + 1) (less exts u day.pause) day.latest cut-upto D.latest-small

    paused-fx : paused floats (fx_day day) (fx u) ≡ fx (paused exts day u)
    unfolding paused
    paused-fx =
        let less-is = less-fx u day.pause (fit (most_number + 1) u (omega arith) h) (fit most_number day.pause (omega arith) D.pause-small) in
        let cut = less exts u day.pause in
        let by-is = sooner-fx cut day.latest (fit (most_number + 1) cut (omega arith) cut-upto) (fit (most_number + 1) day.latest (omega arith) D.latest-small) in
        ap (λ (z : Float). cond (Ieee.lt (fx day.earliest) z) z (fl 0)) (ap (λ (z : Float). sooner floats z (fx day.latest)) less-is ∙ by-is)
        ∙ rw (fx-lt day.earliest start-by (fit most_number day.earliest (omega arith) D.earliest-small) (fit (most_number + 1) start-by (omega arith) by-upto))
        (by-test (lt_e day.earliest start-by) (λ t. rw t) (λ f. rw f))

    paused-upto : Upto (most_number + 1) (paused exts day u)
    unfolding paused
    paused-upto = by-test (lt_e day.earliest start-by) (λ t. rw t by-upto) (λ f. rw f (omega arith))

  module _ (hours : HoursOf Ext) (S : SmallHours hours) (n : ℕ) (near : n ≤ most_number) where
    -- ---- forward

    module _ (m : ℕ) (low : most_number ≤ m) (high : m + each ≤ limit) (t : TimesOf Ext) (T : Times m t) where
      module _ (x : Ext) (h : Upto m x) where
        abbrev there : Ext
        there = add_e x (of n)

        there-fx : Ieee.add binary64 (fx x) (fl n) ≡ fx there
        there-fx = fx-add x (of n) (fit m x (omega arith) h) (omega arith)

        there-upto : Upto (m + most_number) there
        there-upto = sum-upto m most_number x (of n) h near

        left-fx : leave floats (fx_hours hours) (Ieee.add binary64 (fx x) (fl n)) ≡ fx (leave exts hours there)
        left-fx = ap (leave floats (fx_hours hours)) there-fx ∙ leave-fx hours S (m + most_number) (omega arith) (omega arith) there there-upto

        left-upto : Upto (m + most_number + most_number) (leave exts hours there)
        left-upto = leave-upto hours S (m + most_number) (omega arith) (omega arith) there there-upto

      abbrev rest : Ext
      rest = rested exts day (add_e t.before (of n))

      rest-upto : Upto (m + most_number + most_number) rest
      rest-upto = rested-upto (m + most_number) (omega arith) (omega arith) (there t.before T.before-upto) (there-upto t.before T.before-upto)

      broken-fx : leave floats (fx_hours hours) (rested floats (fx_day day) (Ieee.add binary64 (fx t.before) (fl n))) ≡ fx (leave exts hours rest)
      broken-fx =
          ap (λ (z : Float). leave floats (fx_hours hours) (rested floats (fx_day day) z)) (there-fx t.before T.before-upto)
          ∙ ap (leave floats (fx_hours hours)) (rested-fx (m + most_number) (omega arith) (omega arith) (there t.before T.before-upto) (there-upto t.before T.before-upto))
          ∙ leave-fx hours S (m + most_number + most_number) (omega arith) (omega arith) rest rest-upto

      broken-upto : Upto (m + each) (leave exts hours rest)
      broken-upto =
          grow (m + most_number + most_number + most_number) (m + each) (leave exts hours rest) (omega arith)
          (leave-upto hours S (m + most_number + most_number) (omega arith) (omega arith) rest rest-upto)

      abbrev onward : Ext
      onward = leave exts hours (add_e t.after (of n))

      onward-upto : Upto (m + each) onward
      onward-upto = grow (m + most_number + most_number) (m + each) onward (omega arith) (left-upto t.after T.after-upto)

      pub serve-fx : serve floats (fx_day day) (fx_hours hours) (fl n) (fx_times t) ≡ fx_times (serve exts day hours (of n) t)
      serve-fx =
          by-test day.broken
          (λ b. sym (serve-broken floats (fx_day day) (fx_hours hours) (fl n) (fx_times t) b)
          ∙ ap₂ (λ (x y : Float). record { before = x; after = y }) (left-fx t.before T.before-upto)
          (ap₂ (sooner floats) broken-fx (left-fx t.after T.after-upto)
          ∙ sooner-fx (leave exts hours rest) onward (fit (m + each) (leave exts hours rest) high broken-upto) (fit (m + each) onward high onward-upto))
          ∙ ap fx_times (serve-broken exts day hours (of n) t b))
          (λ b. sym (serve-whole floats (fx_day day) (fx_hours hours) (fl n) (fx_times t) b)
          ∙ ap (λ (x : Float). record { before = x; after = fx t.after }) (left-fx t.before T.before-upto)
          ∙ ap fx_times (serve-whole exts day hours (of n) t b))

      pub serve-upto : Times (m + each) (serve exts day hours (of n) t)
      serve-upto =
          let left = grow (m + most_number + most_number) (m + each) (leave exts hours (add_e t.before (of n))) (omega arith) (left-upto t.before T.before-upto) in
          by-test day.broken
          (λ b. subst (Times (m + each)) (serve-broken exts day hours (of n) t b)
          (record { before-upto = left; after-upto = sooner-upto (m + each) (leave exts hours rest) onward broken-upto onward-upto }))
          (λ b. subst (Times (m + each)) (serve-whole exts day hours (of n) t b) (record { before-upto = left; after-upto = grow m (m + each) t.after (omega arith) T.after-upto }))

    -- ---- back

    module _ (u : TimesOf Ext) (U : Times (most_number + 1) u) where
      module _ (x : Ext) (h : Upto (most_number + 1) x) where
        back-to-fx : entered floats (fx_hours hours) (less floats (fx x) (fl n)) ≡ fx (entered exts hours (less exts x (of n)))
        back-to-fx =
            ap (entered floats (fx_hours hours)) (less-fx x (of n) (fit (most_number + 1) x (omega arith) h) (omega arith))
            ∙ entered-fx hours S (less exts x (of n)) (less_upto (most_number + 1) x (of n) h)

        back-to-upto : Upto (most_number + 1) (entered exts hours (less exts x (of n)))
        back-to-upto = entered-upto hours S (less exts x (of n)) (less_upto (most_number + 1) x (of n) h)

      abbrev plain : Ext
      plain = entered exts hours (less exts u.before (of n))

      abbrev after : Ext
      after = entered exts hours (less exts u.after (of n))

      pub back-fx : back floats (fx_day day) (fx_hours hours) (fl n) (fx_times u) ≡ fx_times (back exts day hours (of n) u)
      back-fx =
          let P = back-to-upto u.before U.before-upto in
          let A = back-to-upto u.after U.after-upto in
          let p = paused-upto after A in
          by-test day.broken
          (λ b. sym (back-broken floats (fx_day day) (fx_hours hours) (fl n) (fx_times u) b)
          ∙ ap₂ (λ (x y : Float). record { before = later floats x (paused floats (fx_day day) y); after = y }) (back-to-fx u.before U.before-upto) (back-to-fx u.after U.after-upto)
          ∙ ap (λ (x : Float). record { before = x; after = fx after })
          (ap (later floats (fx plain)) (paused-fx after A)
          ∙ later-fx plain (paused exts day after) (fit (most_number + 1) plain (omega arith) P) (fit (most_number + 1) (paused exts day after) (omega arith) p))
          ∙ ap fx_times (back-broken exts day hours (of n) u b))
          (λ b. sym (back_whole floats (fx_day day) (fx_hours hours) (fl n) (fx_times u) b)
          ∙ ap (λ (x : Float). record { before = x; after = fx u.after }) (back-to-fx u.before U.before-upto)
          ∙ ap fx_times (back_whole exts day hours (of n) u b))

      pub back-upto : Times (most_number + 1) (back exts day hours (of n) u)
      back-upto =
          let P = back-to-upto u.before U.before-upto in
          let A = back-to-upto u.after U.after-upto in
          by-test day.broken
          (λ b. subst (Times (most_number + 1)) (back-broken exts day hours (of n) u b)
          (record { before-upto = later-upto (most_number + 1) plain (paused exts day after) P (paused-upto after A); after-upto = A }))
          (λ b. subst (Times (most_number + 1)) (back_whole exts day hours (of n) u b) (record { before-upto = P; after-upto = U.after-upto }))

-- ---- both

pub in-time-fx : (m n : ℕ) → m + most_number ≤ limit → n ≤ most_number → (t u : TimesOf Ext) → Times m t → Times (most_number + 1) u
    → in_time floats (fx_times t) (fl n) (fx_times u) ≡ in_time exts t (of n) u
unfolding in_time
in-time-fx m n high near t u T U =
    ap₂ (λ (x y : Bool). x || y) (one t.before u.before T.before-upto U.before-upto) (one t.after u.after T.after-upto U.after-upto)
  where
    one : (x v : Ext) → Upto m x → Upto (most_number + 1) v → Ieee.lt (Ieee.add binary64 (fx x) (fl n)) (fx v) ≡ lt_e (add_e x (of n)) v
    one x v h k =
        ap (λ (z : Float). Ieee.lt z (fx v)) (fx-add x (of n) (fit m x (omega arith) h) (omega arith))
        ∙ fx-lt (add_e x (of n)) v (fit (m + most_number) (add_e x (of n)) high (sum-upto m most_number x (of n) h near)) (fit (most_number + 1) v (omega arith) k)
