-- The clock as a run grows by a call: labels that are gone stay gone, and the clock of a stretch is that of its parts, one after the other. Assumes nothing.
use Prim.Native.Nat.{ℕ, ◌+◌, ◌≤◌, ◌<◌}
use native.Mathlib.Numerals.{add-one}
use mathlib.Core.Path.{◌≡◌, refl, ap, ◌∙◌}
use mathlib.Core.Bool.{false}
use mathlib.Core.List.{List, [], ◌∷◌, ◌++◌}
use Rattle.std.specs.Prelude.{Option, None, Some}
use lib.ListN.{length, get_or, drop, drop_of_length-le}
use lib.Seq.{drop-cons}
use lib.Ieee as Ieee
use lib.Ieee.{Float, binary64}
use Rattle.basics.specs.Options.{◌>>=◌}
use Rattle.basics.proofs.OptionLaws.{unbound}
use Rattle.definitions.specs.Sheet.{CustomerOf}
use Rattle.definitions.specs.Run.{last_of}
use Rattle.distance.specs.declared.leg.Leg.{Leg}
use Rattle.clock.specs.Records.{ClockF}
use Rattle.clock.specs.Clock.{push_f, alive_f}
use Rattle.clock.proofs.Gone.{Gone, not-alive, push-gone, finish-gone}
use Rattle.evaluation.specs.Records.{Tables}
use Rattle.evaluation.specs.Tables.{record_f, leg_f}
use Rattle.evaluation.specs.Schedule.{TimedF, timed, tick_f, clock_from_f, clock_home_f, end_f}

-- ---- labels that are gone

-- a run whose labels are gone, or that a closed leg has ended, comes to nothing
home-gone : (t : Tables) (x : TimedF) → Gone x.clock → clock_home_f t x ≡ None
home-gone t x g = unbound (leg_f t x.clock.prev 0) _ (λ l. finish-gone _ _ x.clock g)

gone-on : (t : Tables) (x : TimedF) (calls : List ℕ) → Gone x.clock → (clock_from_f t x calls >>= clock_home_f t) ≡ None
unfolding clock_from_f
gone-on t x [] g = home-gone t x g
gone-on t x (c ∷ cs) g = go (leg_f t x.clock.prev c) (λ l. gone-on t (after l) cs (push-gone x.clock c (record_f t c) l.time g))
  where
    after : Leg → TimedF
    after l = timed (push_f x.clock c (record_f t c) l.time) (Ieee.add binary64 x.distance l.distance)

    go : (o : Option Leg) → ((l : Leg) → (clock_from_f t (after l) cs >>= clock_home_f t) ≡ None)
        → (((o >>= λ l. Some (after l)) >>= λ y. clock_from_f t y cs) >>= clock_home_f t) ≡ None
    go None ih = refl
    go (Some l) ih = ih l

-- no run that goes on from here has a way to place the break either
pub end-gone : (t : Tables) (x : ClockF) (far : Float) (calls : List ℕ) → alive_f x ≡ false → end_f t x far calls ≡ None
unfolding end_f
end-gone t x far calls e = gone-on t (timed x far) calls (not-alive x e)

-- ---- a stretch in two parts

pub clock-append : (t : Tables) (x : TimedF) (l m : List ℕ) → clock_from_f t x (l ++ m) ≡ (clock_from_f t x l >>= λ y. clock_from_f t y m)
unfolding clock_from_f
clock-append t x [] m = refl
clock-append t x (c ∷ l) m = go (tick_f t x c) (λ y. clock-append t y l m)
  where
    go : (o : Option TimedF) → ((y : TimedF) → clock_from_f t y (l ++ m) ≡ (clock_from_f t y l >>= λ z. clock_from_f t z m))
        → (o >>= λ y. clock_from_f t y (l ++ m)) ≡ ((o >>= λ y. clock_from_f t y l) >>= λ y. clock_from_f t y m)
    go None ih = refl
    go (Some y) ih = ih y

-- grown by one call
pub clock-grown : (t : Tables) (x : TimedF) (l : List ℕ) (c : ℕ) → clock_from_f t x (l ++ (c ∷ [])) ≡ (clock_from_f t x l >>= λ y. tick_f t y c)
unfolding clock_from_f
clock-grown t x l c = clock-append t x l (c ∷ []) ∙ ap (λ (f : TimedF → Option TimedF). clock_from_f t x l >>= f) (λ i y. once (tick_f t y c) i)
  where
    once : (o : Option TimedF) → (o >>= λ y. Some y) ≡ o
    once None = refl
    once (Some y) = refl

pub last-append : (a : ℕ) (l m : List ℕ) → last_of a (l ++ m) ≡ last_of (last_of a l) m
last-append a [] m = refl
last-append a (c ∷ l) m = last-append c l m

-- ---- the loop over a run: what is left of it from call i on

module _ (t : Tables) (route : List ℕ) (x : ClockF) (far : Float) (i : ℕ) where
  module _ (g : Option Leg) (h : i < length route) (eg : g ≡ leg_f t x.prev (get_or route i 0)) where
    -- the leg to the call is closed
    pub end-closed : g ≡ None → end_f t x far (drop i route) ≡ None
    unfolding end_f clock_from_f
    end-closed e = rw (drop-cons route i 0 h, ← eg, e)

    pub end-turn : (l : Leg) → g ≡ Some l → (y : ClockF) (c : CustomerOf Float) → c ≡ record_f t (get_or route i 0) → y ≡ push_f x (get_or route i 0) c l.time
        → end_f t x far (drop i route) ≡ end_f t y (Ieee.add binary64 far l.distance) (drop (i + 1) route)
    unfolding end_f clock_from_f
    end-turn l el y c ec ey = rw (drop-cons route i 0 h, ← eg, el, ey, ec, add-one)

  pub end-last : length route ≤ i → end_f t x far (drop i route) ≡ clock_home_f t (timed x far)
  unfolding end_f clock_from_f
  end-last h = rw (drop_of_length-le route h)
