-- The clocks of a stretch as it grows by a call, and when they end no run any more. Assumes nothing.
use Prim.Native.Nat.{ℕ, suc, ◌≤◌}
use native.Mathlib.Decide.{le_ind}
use mathlib.Core.Path.{◌≡◌, refl, sym, ap, subst}
use mathlib.Core.Bool.{false}
use mathlib.Core.List.{List}
use Rattle.std.specs.Prelude.{Option, None, Some}
use lib.ListN.{get_or}
use lib.Dec.{eqb}
use lib.Ieee.{Float, binary64, add}
use Rattle.basics.specs.Options.{◌>>=◌, Holds}
use Rattle.basics.proofs.OptionLaws.{unbound}
use Rattle.definitions.specs.Sheet.{BreakOf}
use Rattle.models.specs.declared.placement.Placement.{Placement}
use Rattle.models.specs.declared.placement.Placement.TheVariants.{Clock, Least}
use Rattle.models.specs.Limits.{allow_f}
use Rattle.distance.specs.declared.leg.Leg.{Leg}
use Rattle.clock.specs.Records.{ClockF}
use Rattle.clock.specs.Clock.{push_f, alive_f, finish_f}
use Rattle.clock.specs.declared.schedule.Scheduled.{Scheduled}
use Rattle.clock.proofs.Gone.{Gone, not-alive, push-gone, finish-gone}
use Rattle.evaluation.specs.Records.{Tables}
use Rattle.evaluation.specs.Tables.{record_f, leg_f, place_before}
use Rattle.cut_runs.specs.declared.visit.Elapsed.{Elapsed}
use Rattle.cut_runs.specs.Stretch.{joined_f, way_of}
use Rattle.cut_runs.specs.Runs.{Instance, visit_f, timed_of, clock_of, End, back_of, end_of, least_end, end_by, end_in, allowed_f, pay_f}

-- ---- the end of a run by its placement

-- without a break both placements are the plain way
pub plain_end : (I : Instance) → I.limits.rest ≡ None → (st : List ℕ) (m : ℕ) → end_in I st m ≡ end_of I.tables st m None
unfolding end_by least_end
plain_end I e st m = go I.placement
  where
    go : (p : Placement) → end_by I.tables st m I.limits p ≡ end_of I.tables st m None
    go Clock = rw e
    go Least = rw e

pub clock-end : (I : Instance) → I.placement ≡ Clock → (b : BreakOf Float) → I.limits.rest ≡ Some b → (st : List ℕ) (m : ℕ)
    → end_in I st m ≡ end_of I.tables st m (Some b)
unfolding end_by
clock-end I p b e st m = rw (p, e)

-- what the break clock reports of a run that is so far, as its end
abbrev pub ended : Float → Option Scheduled → Option End
ended far o = o >>= λ s. Some (record { distance = far; duration = s.duration; pay = s.cost })

-- ---- the end of a run decides whether it is allowed, and what is paid

module _ (I : Instance) (st : List ℕ) (m : ℕ) where
  abbrev end_is : Option End → Type 0
  end_is o = end_in I st m ≡ o

  pub not-ended : end_is None → allowed_f I st m ≡ false
  unfolding allowed_f
  not-ended e = rw e

  module _ (x : End) (e : end_is (Some x)) where
    pub allowed-is : allowed_f I st m ≡ allow_f I.limits.max_distance I.limits.max_duration x.distance x.duration
    unfolding allowed_f
    allowed-is = rw e

    pub pay-is : pay_f I st m ≡ x.pay
    unfolding pay_f
    pay-is = rw e

module _ (t : Tables) (st : List ℕ) where
  -- a run without a way has no end
  pub end-closed : (k : ℕ) → way_of (leg_f t) st k ≡ None → (rest : Option (BreakOf Float)) → end_of t st k rest ≡ None
  unfolding end_of
  end-closed k e None = unbound (timed_of t st k) _ (λ x. rw e)
  end-closed k e (Some b) = unbound (clock_of t st b k) _ (λ x. rw e)

  -- ---- without a break

  pub timed-more : (m : ℕ) (x : Elapsed) (g : Leg) → timed_of t st m ≡ Some x → leg_f t (place_before st m) (get_or st m 0) ≡ Some g
      → timed_of t st (suc m) ≡ visit_f (record_f t (get_or st m 0)) (joined_f x.time g.time (eqb m 0)) x.late_cost
  unfolding timed_of
  timed-more m x g e eg = rw (e, eg)

  -- a window that is shut ends every longer run
  timed-none : (m : ℕ) → timed_of t st m ≡ None → timed_of t st (suc m) ≡ None
  unfolding timed_of
  timed-none m e = rw e

  pub timed-shut : (m : ℕ) → timed_of t st m ≡ None → (k : ℕ) → m ≤ k → timed_of t st k ≡ None
  timed-shut m e k h = le_ind (λ (n : ℕ). timed_of t st n ≡ None) e (λ n _ r. timed-none n r) k h

  pub end-shut : (k : ℕ) → timed_of t st k ≡ None → end_of t st k None ≡ None
  unfolding end_of
  end-shut k e = rw e

  module _ (k : ℕ) (far : Float) (back : Leg) (ef : way_of (leg_f t) st k ≡ Some far) (eb : back_of t st k ≡ Some back) where
    pub end-timed : (x : Elapsed) → timed_of t st k ≡ Some x
        → end_of t st k None ≡ Some (record { distance = far; duration = add binary64 x.time back.time; pay = x.late_cost })
    unfolding end_of
    end-timed x e = rw (e, ef, eb)

    pub end-finished : (b : BreakOf Float) (x : ClockF) (o : Option Scheduled) → clock_of t st b k ≡ Some x → finish_f far back.time x ≡ o
        → end_of t st k (Some b) ≡ ended far o
    unfolding end_of
    end-finished b x o e eo = rw (e, ef, eb, eo)

  -- ---- with one

  module _ (b : BreakOf Float) where
    pub clock-more : (m : ℕ) (x : ClockF) (g : Leg) → clock_of t st b m ≡ Some x → leg_f t (place_before st m) (get_or st m 0) ≡ Some g
        → clock_of t st b (suc m) ≡ Some (push_f x (get_or st m 0) (record_f t (get_or st m 0)) g.time)
    unfolding clock_of
    clock-more m x g e eg = rw (e, eg)

    -- a clock with no label left ends no longer run
    gone-more : (m : ℕ) → Holds Gone (clock_of t st b m) → Holds Gone (clock_of t st b (suc m))
    unfolding clock_of
    gone-more m = go (clock_of t st b m) (leg_f t (place_before st m) (get_or st m 0))
      where
        go : (o : Option ClockF) (g : Option Leg) → Holds Gone o
            → Holds Gone (o >>= λ x. g >>= λ l. Some (push_f x (get_or st m 0) (record_f t (get_or st m 0)) l.time))
        go None g z = tt
        go (Some x) None z = tt
        go (Some x) (Some l) z = push-gone x _ _ _ z

    clock-dead : (m : ℕ) (x : ClockF) → clock_of t st b m ≡ Some x → alive_f x ≡ false → (k : ℕ) → m ≤ k → Holds Gone (clock_of t st b k)
    clock-dead m x e z k h =
        le_ind (λ (n : ℕ). Holds Gone (clock_of t st b n)) (subst (Holds Gone) (sym e) (not-alive x z)) (λ n _ r. gone-more n r) k h

    pub end-dead : (m : ℕ) (x : ClockF) → clock_of t st b m ≡ Some x → alive_f x ≡ false → (k : ℕ) → m ≤ k → end_of t st k (Some b) ≡ None
    unfolding end_of
    end-dead m x e z k h = go (clock_of t st b k) (clock-dead m x e z k h)
      where
        go : (o : Option ClockF) → Holds Gone o
            → (o >>= λ y. way_of (leg_f t) st k >>= λ far. back_of t st k >>= λ back. ended far (finish_f far back.time y)) ≡ None
        go None g = refl
        go (Some y) g = unbound (way_of (leg_f t) st k) _ (λ far. unbound (back_of t st k) _ (λ back. ap (ended far) (finish-gone far back.time y g)))
