-- On whole numbers within the limits a call is served on floats as in crates/definitions. Assumes nothing.
use Prim.Native.Nat.{ℕ, ◌+◌, ◌-◌, ◌*◌, ◌≤◌, ◌<◌, max}
use native.Mathlib.Omega.{arith}
use native.Mathlib.Nat.{add-zero, mul-zero}
use mathlib.Core.Path.{◌≡◌, refl}
use Rattle.std.specs.Prelude.{Option, None, Some, option_map}
use borrow.Author.Tests.{ltb-false}
use lib.Ieee as Ieee
use lib.Ieee.{binary64}
use Rattle.basics.proofs.TestLaws.{by-test}
use Rattle.basics.specs.Options.{◌>>=◌, Holds}
use Rattle.definitions.specs.Domain.{most_calls, most_penalty}
use Rattle.definitions.specs.Sheet.{Window, Break, Customer}
use Rattle.definitions.specs.Window.{late, lateness, Entry, enter}
use Rattle.definitions.specs.Run as Whole
use Rattle.definitions.specs.Run.{break_start, too_late, ready, place_after, serve_at}
use Rattle.definitions.specs.Clock.{smaller, sooner}
use Rattle.bounds.specs.Sized.{Small, SmallWindow, SmallBreak, SmallCustomer}
use Rattle.bounds.specs.Bounds.{Early, arrive_by, ready_by, LabelFits}
use Rattle.bounds.proofs.BoundLaws.{ready-most, enter-most, late-pay-most}
use Rattle.whole.specs.Whole.{fl}
use Rattle.whole.proofs.WholeLaws.{fl-add, fl-mul, fl-lt, fl-eq}
use Rattle.whole.proofs.LargerLaws.{larger-fl}
use Rattle.models.specs.Image.{fl_window, fl_break, fl_customer}
use Rattle.models.specs.Window.{waiting_f}
use Rattle.models.proofs.Exact.{late-exact, waiting-exact, lateness-exact}
use Rattle.clock.specs.Serving.{ready_f, place_after_f, charge_f, enter_f, leave_f, serve_f, smaller_f, earlier_f}
use Rattle.clock.specs.Image.{fl_label}

-- an answer that goes on only where there is one, in floats and in whole numbers
pub through : {A B C D : Type 0} (o : Option A) (f : A → C) (g : C → Option D) (h : B → D) (k : A → Option B) → ((a : A) → o ≡ Some a → g (f a) ≡ option_map h (k a))
    → (option_map f o >>= g) ≡ option_map h (o >>= k)
through None f g h k e = refl
through (Some a) f g h k e = e a refl

-- ---- the break at a call

module _ (k : ℕ) (few : k < most_calls) where
  pub ready-exact : (here : Option Break) → Holds SmallBreak here → (t : ℕ) → t ≤ arrive_by k → ready_f (option_map fl_break here) (fl t) ≡ option_map fl (ready here t)
  unfolding ready_f ready
  ready-exact None H t h = refl
  ready-exact (Some b) H t h =
      rw (larger-fl t b.earliest (omega arith) (omega arith), fl-lt b.latest (break_start b t) (omega arith) (omega arith), fl-add (break_start b t) b.duration (omega arith) (omega arith))
      (by-test (too_late b t) (λ e. rw e) (λ e. rw e))

  pub place-exact : (here : Option Break) (j place : ℕ) → place_after_f (option_map fl_break here) j place ≡ place_after here j place
  place-exact None j place = refl
  place-exact (Some b) j place = refl

  -- ---- the window

  module _ (l : Whole.Label) (E : Early k l) (r : ℕ) (h : r ≤ ready_by k) where
    -- the label as service starts
    abbrev entered : Entry → Whole.Label
    entered e = record { time = e.start; lateness = l.lateness + e.lateness; pay = l.pay + e.pay; place = l.place }

    module _ (w : Window) (W : SmallWindow w) where
      waits : Ieee.add binary64 (fl r) (waiting_f (fl_window w) (fl r)) ≡ fl (max r w.ready)
      waits =
          let z : r + (w.ready - r) ≡ max r w.ready = omega arith in
          rw (waiting-exact w r (omega arith) (omega arith) (omega arith), fl-add r (w.ready - r) (omega arith) (omega arith), z)

    pub enter-exact : (w : Option Window) → Holds SmallWindow w → (p : Option ℕ) → Holds (λ (n : ℕ). n ≤ most_penalty) p
        → enter_f (option_map fl_window w) (option_map fl p) (fl r) (fl_label l) ≡ option_map (λ (e : Entry). fl_label (entered e)) (enter w p r)
    unfolding enter_f charge_f enter
    enter-exact None W p P = rw (add-zero l.lateness, add-zero l.pay)
    enter-exact (Some w) W None P =
        rw (late-exact w r (omega arith) (omega arith) (omega arith), waits w W)
        (by-test (late w r) (λ t. rw t) (λ f. rw (f, add-zero l.lateness, add-zero l.pay)))
    enter-exact (Some w) W (Some p) P =
        let due = late-pay-most w p k r few P h in
        rw (late-exact w r (omega arith) (omega arith) (omega arith), waits w W, lateness-exact w r (omega arith) (omega arith) (omega arith), fl-mul p (lateness w r) (omega arith) (omega arith))
        (rw (fl-add l.lateness (lateness w r) (omega arith) (omega arith), fl-add l.pay (p * lateness w r) (omega arith) (omega (arith, due)))
        (by-test (late w r) (λ t. rw t)
        (λ f. let i = ltb-false w.due r f in
        let z : r - w.due ≡ 0 = omega arith in
        rw (f, z, mul-zero, add-zero l.lateness, add-zero l.pay))))

  -- ---- a call

  module _ (c : Customer) (C : SmallCustomer c) (here : Option Break) (H : Holds SmallBreak here) (j travel : ℕ) (near : Small travel) (l : Whole.Label) (E : Early k l) where
    pub serve-exact : serve_f (fl_customer c) (option_map fl_break here) j (fl travel) (fl_label l) ≡ option_map fl_label (serve_at c here j travel l)
    unfolding serve_f serve_at
    serve-exact =
        rw (fl-add l.time travel (omega arith) (omega arith), ready-exact here H (l.time + travel) (omega arith), place-exact here j l.place)
        (through (ready here (l.time + travel)) fl _ fl_label _ (λ r e. from r (ready-most here H k (l.time + travel) (omega arith) r e)))
      where
        leaves : (e : Entry) → Whole.Label
        leaves e = record { time = e.start + c.service; lateness = l.lateness + e.lateness; pay = l.pay + e.pay; place = place_after here j l.place }

        from : (r : ℕ) → r ≤ ready_by k
            → (enter_f (option_map fl_window c.window) (option_map fl c.penalty) (fl r) (fl_label l) >>= λ m. Some (leave_f (fl c.service) (place_after here j l.place) m))
            ≡ option_map fl_label (enter c.window c.penalty r >>= λ e. Some (leaves e))
        from r h =
            rw (enter-exact l E r h c.window C.window-small c.penalty C.penalty-small)
            (through (enter c.window c.penalty r) _ _ fl_label _ (λ e q. let s = enter-most k few c.window c.penalty C.window-small C.penalty-small r h e q in
            rw (fl-add e.start c.service (omega arith) (omega (arith, C.service-small)))))

-- ---- two labels

pub smaller-exact : (y x : Whole.Label) → LabelFits y → LabelFits x → smaller_f (fl_label y) (fl_label x) ≡ smaller y x
smaller-exact y x Y X =
    rw (fl-lt y.time x.time Y.time-fits X.time-fits, fl-eq y.time x.time Y.time-fits X.time-fits, fl-lt y.pay x.pay Y.pay-fits X.pay-fits)

pub earlier-exact : (x y : Option Whole.Label) → Holds LabelFits x → Holds LabelFits y → earlier_f (option_map fl_label x) (option_map fl_label y) ≡ option_map fl_label (sooner x y)
unfolding earlier_f
earlier-exact None y X Y = refl
earlier-exact (Some x) None X Y = refl
earlier-exact (Some x) (Some y) X Y = rw (smaller-exact y x Y X) (by-test (smaller y x) (λ t. rw t) (λ f. rw f))
