-- In whole numbers with an infinity: a time stays below a bound exactly when the time before it stays below the bound before that. Assumes nothing.
use Prim.Native.Nat.{ℕ, ◌+◌, ◌-◌}
use native.Mathlib.Omega.{arith}
use mathlib.Core.Path.{◌≡◌, refl, sym, ap, ap₂, ◌∙◌}
use mathlib.Core.Bool.{Bool, true, false, cond, ◌&&◌, ◌||◌}
use lib.Dec.{ltb}
use borrow.Author.Tests.{ltb-true, ltb-false, lt-ltb, le-ltb}
use Rattle.basics.proofs.TestLaws.{by-test}
use Rattle.whole.specs.Infinity.{Ext, of, never, add_e, lt_e}
use Rattle.whole.proofs.Numbers.{ltb_iff}
use Rattle.latest.specs.Times.{Arithmetic, HoursOf, DayOf, TimesOf, later, sooner, less, leave, rested, serve, entered, paused, back, in_time}
use Rattle.latest.proofs.Ways.{serve-broken, serve-whole, back-broken, back_whole}

abbrev pub sub_e : Ext → Ext → Ext
sub_e (of a) (of b) = of (a - b)
sub_e (of a) never = of 0
sub_e never b = never

abbrev pub exts : Arithmetic Ext
exts = record { lt = lt_e; plus = add_e; minus = sub_e; nought = of 0; one = of 1; top = never }

-- ---- tests

below_none : (t : Ext) → lt_e t (of 0) ≡ false
below_none (of n) = le-ltb n 0 (omega arith)
below_none never = refl

and-comes : (x : Bool) → x ≡ x && true
and-comes true = refl
and-comes false = refl

and-goes : (x : Bool) → false ≡ x && false
and-goes true = refl
and-goes false = refl

or-comes : (x : Bool) → true ≡ x || true
or-comes true = refl
or-comes false = refl

pub or-goes : (x : Bool) → x ≡ x || false
or-goes true = refl
or-goes false = refl

or_later : (x y z : Bool) → x || (y || z) ≡ (x || y) || z
or_later true y z = refl
or_later false y z = refl

turned : (x y z : Bool) → x && (y && z) ≡ (y && x) && z
turned true true z = refl
turned true false z = refl
turned false true z = refl
turned false false z = refl

-- a bound that there may be, and a time that may come
pub gate : (t q : Ext) (b : Bool) → lt_e t (cond b q (of 0)) ≡ lt_e t q && b
gate t q true = and-comes (lt_e t q)
gate t q false = below_none t ∙ and-goes (lt_e t q)

comes : (t u : Ext) (b : Bool) → lt_e (cond b t never) u ≡ b && lt_e t u
comes t u true = refl
comes t u false = refl

-- ---- so much later, or a bound so much earlier

pub less-is : (t u : Ext) (d : ℕ) → lt_e (add_e t (of d)) u ≡ lt_e t (less exts u (of d))
less-is never u d = refl
less-is (of n) never d = refl
less-is (of n) (of m) d =
    by-test (ltb d m)
    (λ y. let h = ltb-true d m y in rw y (ltb_iff (n + d) m n (m - d) (λ x. omega arith) (λ x. omega arith)))
    (λ f. let h = ltb-false d m f in rw f (ltb_iff (n + d) m n 0 (λ x. omega arith) (λ x. omega arith)))

-- ---- the sooner and the later of two

pub sooner-time : (x y u : Ext) → lt_e (sooner exts x y) u ≡ lt_e x u || lt_e y u
sooner-time never y u = refl
sooner-time (of a) never u = or-goes (lt_e (of a) u)
sooner-time (of a) (of b) never = by-test (ltb a b) (λ e. rw e) (λ e. rw e)
sooner-time (of a) (of b) (of m) =
    by-test (ltb a b)
    (λ e. let h = ltb-true a b e in
    rw e (by-test (ltb a m) (λ y. rw y) (λ n. let i = ltb-false a m n in rw (n, le-ltb b m (omega arith)))))
    (λ e. let h = ltb-false a b e in
    rw e (by-test (ltb a m) (λ y. let i = ltb-true a m y in rw (y, lt-ltb b m (omega arith))) (λ n. rw n)))

later-bound : (t x y : Ext) → lt_e t (later exts x y) ≡ lt_e t x || lt_e t y
later-bound never x y = refl
later-bound (of n) never y = refl
later-bound (of n) (of a) never = or-comes (ltb n a)
later-bound (of n) (of a) (of b) =
    by-test (ltb a b)
    (λ e. let h = ltb-true a b e in
    rw e (by-test (ltb n a) (λ y. let i = ltb-true n a y in rw (y, lt-ltb n b (omega arith))) (λ f. rw f)))
    (λ e. let h = ltb-false a b e in
    rw e (by-test (ltb n a) (λ y. rw y) (λ f. let i = ltb-false n a f in rw (f, le-ltb n b (omega arith)))))

later-time : (x y u : Ext) → lt_e (later exts x y) u ≡ lt_e x u && lt_e y u
later-time never y u = refl
later-time (of a) never u = and-goes (lt_e (of a) u)
later-time (of a) (of b) never = by-test (ltb a b) (λ e. rw e) (λ e. rw e)
later-time (of a) (of b) (of m) =
    by-test (ltb a b)
    (λ e. let h = ltb-true a b e in
    rw e (by-test (ltb a m) (λ y. rw y) (λ n. let i = ltb-false a m n in rw (n, le-ltb b m (omega arith)))))
    (λ e. let h = ltb-false a b e in
    rw e (by-test (ltb a m) (λ y. let i = ltb-true a m y in rw (y, lt-ltb b m (omega arith))) (λ n. rw n)))

pub sooner-bound : (t x y : Ext) → lt_e t (sooner exts x y) ≡ lt_e t x && lt_e t y
sooner-bound never x y = refl
sooner-bound (of n) never y = refl
sooner-bound (of n) (of a) never = and-comes (ltb n a)
sooner-bound (of n) (of a) (of b) =
    by-test (ltb a b)
    (λ e. let h = ltb-true a b e in
    rw e (by-test (ltb n a) (λ y. let i = ltb-true n a y in rw (y, lt-ltb n b (omega arith))) (λ f. rw f)))
    (λ e. let h = ltb-false a b e in
    rw e (by-test (ltb n a) (λ y. rw y) (λ f. let i = ltb-false n a f in rw (f, le-ltb n b (omega arith)))))

-- ---- a call

module _ (hours : HoursOf Ext) (r sv : ℕ) (ready-is : hours.ready ≡ of r) (service-is : hours.service ≡ of sv) where
  pub leave-is : (a u : Ext) → lt_e (leave exts hours a) u ≡ lt_e a (entered exts hours u)
  unfolding leave entered
  leave-is a u =
      rw (ready-is, service-is)
      (comes (add_e (later exts a (of r)) (of sv)) u (lt_e a hours.bound)
      ∙ ap (λ (b : Bool). lt_e a hours.bound && b) (less-is (later exts a (of r)) u sv ∙ later-time a (of r) (less exts u (of sv)))
      ∙ turned (lt_e a hours.bound) (lt_e a (less exts u (of sv))) (lt_e (of r) (less exts u (of sv)))
      ∙ ap (λ (b : Bool). b && lt_e (of r) (less exts u (of sv))) (sym (sooner-bound a (less exts u (of sv)) hours.bound))
      ∙ sym (gate a (sooner exts (less exts u (of sv)) hours.bound) (lt_e (of r) (less exts u (of sv)))))

module _ (day : DayOf Ext) (e p : ℕ) (earliest-is : day.earliest ≡ of e) (pause-is : day.pause ≡ of p) where
  pub rested-is : (a u : Ext) → lt_e (rested exts day a) u ≡ lt_e a (paused exts day u)
  unfolding rested paused
  rested-is a u =
      rw (earliest-is, pause-is)
      (let start = later exts a (of e) in
      let q = sooner exts (less exts u (of p)) day.latest in
      comes (add_e start (of p)) u (lt_e start day.latest)
      ∙ ap (λ (b : Bool). lt_e start day.latest && b) (less-is start u p)
      ∙ and-turned (lt_e start day.latest) (lt_e start (less exts u (of p)))
      ∙ sym (sooner-bound start (less exts u (of p)) day.latest)
      ∙ later-time a (of e) q
      ∙ sym (gate a q (lt_e (of e) q)))
    where
      and-turned : (x y : Bool) → x && y ≡ y && x
      and-turned true true = refl
      and-turned true false = refl
      and-turned false true = refl
      and-turned false false = refl

-- ---- both times

-- numbers where an infinity makes no sense
pub record Known (day : DayOf Ext) : Type 0 where
  pub e : ℕ
  pub p : ℕ
  pub earliest-is : day.earliest ≡ of e
  pub pause-is : day.pause ≡ of p

pub record Set (hours : HoursOf Ext) : Type 0 where
  pub r : ℕ
  pub sv : ℕ
  pub ready-is : hours.ready ≡ of r
  pub service-is : hours.service ≡ of sv

-- without a break no time with it taken comes
abbrev pub Whole : DayOf Ext → TimesOf Ext → Type 0
Whole day t = day.broken ≡ false → t.after ≡ never

module _ (day : DayOf Ext) (K : Known day) (hours : HoursOf Ext) (S : Set hours) (m n : ℕ) (t u : TimesOf Ext) (W : Whole day t) where
  abbrev here : Ext
  here = add_e t.before (of m)

  abbrev carried : Ext
  carried = add_e t.after (of m)

  left : (a v : Ext) → lt_e (add_e (leave exts hours a) (of n)) v ≡ lt_e a (entered exts hours (less exts v (of n)))
  left a v = less-is (leave exts hours a) v n ∙ leave-is hours S.r S.sv S.ready-is S.service-is a (less exts v (of n))

  turn-broken : day.broken ≡ true → in_time exts (serve exts day hours (of m) t) (of n) u ≡ in_time exts t (of m) (back exts day hours (of n) u)
  unfolding in_time
  turn-broken b =
      let after = entered exts hours (less exts u.after (of n)) in
      let plain = entered exts hours (less exts u.before (of n)) in
      let broken = leave exts hours (rested exts day here) in
      ap (λ (w : TimesOf Ext). lt_e (add_e w.before (of n)) u.before || lt_e (add_e w.after (of n)) u.after) (sym (serve-broken exts day hours (of m) t b))
      ∙ ap₂ (λ (x y : Bool). x || y) (left here u.before)
      (less-is (sooner exts broken (leave exts hours carried)) u.after n
      ∙ sooner-time broken (leave exts hours carried) (less exts u.after (of n))
      ∙ ap₂ (λ (x y : Bool). x || y)
      (leave-is hours S.r S.sv S.ready-is S.service-is (rested exts day here) (less exts u.after (of n)) ∙ rested-is day K.e K.p K.earliest-is K.pause-is here after)
      (leave-is hours S.r S.sv S.ready-is S.service-is carried (less exts u.after (of n))))
      ∙ or_later (lt_e here plain) (lt_e here (paused exts day after)) (lt_e carried after)
      ∙ ap (λ (x : Bool). x || lt_e carried after) (sym (later-bound here plain (paused exts day after)))
      ∙ ap (λ (w : TimesOf Ext). lt_e here w.before || lt_e carried w.after) (back-broken exts day hours (of n) u b)

  turn-whole : day.broken ≡ false → in_time exts (serve exts day hours (of m) t) (of n) u ≡ in_time exts t (of m) (back exts day hours (of n) u)
  unfolding in_time
  turn-whole b =
      let no = W b in
      ap (λ (w : TimesOf Ext). lt_e (add_e w.before (of n)) u.before || lt_e (add_e w.after (of n)) u.after) (sym (serve-whole exts day hours (of m) t b))
      ∙ ap₂ (λ (x : Bool) (y : Ext). x || lt_e (add_e y (of n)) u.after) (left here u.before) no
      ∙ ap (λ (y : Ext). lt_e here (entered exts hours (less exts u.before (of n))) || lt_e (add_e y (of m)) u.after) (sym no)
      ∙ ap (λ (w : TimesOf Ext). lt_e here w.before || lt_e carried w.after) (back_whole exts day hours (of n) u b)

  -- a call more is a bound more
  pub turn : in_time exts (serve exts day hours (of m) t) (of n) u ≡ in_time exts t (of m) (back exts day hours (of n) u)
  turn = by-test day.broken turn-broken turn-whole
