-- On whole numbers within the limits the clock ends a run as in crates/definitions. Assumes nothing.
use Prim.Native.Nat.{ℕ, ◌+◌, ◌≤◌}
use native.Mathlib.Omega.{arith}
use mathlib.Core.Path.{◌≡◌, refl, ap, subst, ◌∙◌}
use Rattle.std.specs.Prelude.{Option, None, Some, option_map}
use Rattle.basics.proofs.TestLaws.{by-test}
use Rattle.basics.specs.Options.{◌>>=◌, holds, Holds}
use Rattle.definitions.specs.Domain.{most_calls}
use Rattle.definitions.specs.Sheet.{Break}
use Rattle.definitions.specs.Limits.{excused}
use Rattle.definitions.specs.Run as Whole
use Rattle.definitions.specs.Run.{Totals}
use Rattle.definitions.specs.Clock.{Clock, counts}
use Rattle.bounds.specs.Sized.{Small, SmallBreak}
use Rattle.bounds.specs.Bounds.{Early, EarlyClock}
use Rattle.whole.specs.Whole.{limit, fl}
use Rattle.whole.proofs.WholeLaws.{fl-add, fl-lt}
use Rattle.models.specs.Image.{fl_break}
use Rattle.clock.specs.declared.schedule.Label.{Label}
use Rattle.clock.specs.Clock.{excused_f, is_excused_f, counts_f, home_f, finish_f}
use Rattle.clock.specs.Image.{fl_label, fl_totals, fl_clock}
use Rattle.clock.proofs.ServingExact.{through}

-- the edge of the break
pub excused-exact : (b : Break) → SmallBreak b → (home : ℕ) → home ≤ limit → excused_f (fl_break b) (fl home) ≡ excused b home
excused-exact b B home h = fl-lt home b.earliest h (omega (arith, B))

-- the totals of a label that has `far` behind it and `back` before it
abbrev pub ended : ℕ → ℕ → Whole.Label → Totals
ended far back l = record { distance = far; duration = l.time + back; lateness = l.lateness; pay = l.pay; place = l.place }

module _ (n : ℕ) (few : n ≤ most_calls) (far back : ℕ) (near : Small back) where
  pub home-exact : (l : Whole.Label) → Early n l → Some (home_f (fl far) (fl back) (fl_label l)) ≡ option_map fl_totals (Some (ended far back l))
  home-exact l E = rw (fl-add l.time back (omega arith) (omega arith))

  module _ (b : Break) (B : SmallBreak b) where
    is-excused-exact : (o : Option Whole.Label) → Holds (Early n) o → is_excused_f (fl_break b) (fl back) (option_map fl_label o) ≡ holds o (λ l. excused b (l.time + back))
    is-excused-exact None E = refl
    is-excused-exact (Some l) E = rw (fl-add l.time back (omega arith) (omega arith)) (excused-exact b B (l.time + back) (omega arith))

    counts-exact : (a j : ℕ) (x : Clock) → EarlyClock n x → counts_f (fl back) (fl_clock b a j x) ≡ option_map fl_label (counts (Some b) back x)
    unfolding counts_f
    counts-exact a j x E =
        rw (is-excused-exact x.before E.before-early) (by-test (holds x.before (λ l. excused b (l.time + back))) (λ e. rw e) (λ e. rw e))

    counts-early : (x : Clock) → EarlyClock n x → Holds (Early n) (counts (Some b) back x)
    counts-early x E = by-test (holds x.before (λ l. excused b (l.time + back))) (λ e. rw e E.before-early) (λ e. rw e E.after-early)

    pub finish-exact : (a j : ℕ) (x : Clock) → EarlyClock n x → finish_f (fl far) (fl back) (fl_clock b a j x) ≡ option_map fl_totals (counts (Some b) back x >>= λ l. Some (ended far back l))
    unfolding finish_f
    finish-exact a j x E =
        ap (λ (o : Option Label). o >>= λ l. Some (home_f (fl far) (fl back) l)) (counts-exact a j x E)
        ∙ through (counts (Some b) back x) fl_label (λ l. Some (home_f (fl far) (fl back) l)) fl_totals (λ l. Some (ended far back l)) (λ l e. home-exact l (subst (Holds (Early n)) e (counts-early x E)))
