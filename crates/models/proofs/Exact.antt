-- On whole numbers up to 2 ^ 53 windows and limits on floats are those of crates/definitions. Assumes nothing.
use Prim.Native.Nat.{ℕ, zero-le, ◌-◌, ◌≤◌}
use native.Mathlib.Nat.{zero-add}
use native.Mathlib.Omega.{arith}
use mathlib.Core.Path.{◌≡◌, refl, ◌∙◌}
use mathlib.Core.Bool.{◌&&◌}
use Rattle.std.specs.Prelude.{Option, None, Some, option_map}
use lib.Dec.{ltb}
use borrow.Author.Tests.{ltb-true, ltb-false}
use lib.Ieee as Ieee
use lib.Ieee.{binary64}
use Rattle.basics.proofs.TestLaws.{by-test}
use Rattle.basics.specs.Options.{Holds, value_or}
use Rattle.definitions.specs.Sheet.{Window}
use Rattle.definitions.specs.Window.{due_of, late, waiting, lateness}
use Rattle.definitions.specs.Limits.{within}
use Rattle.whole.specs.Whole.{fl, limit}
use Rattle.whole.proofs.WholeLaws.{fl-sub, fl-lt, fl-le}
use Rattle.whole.proofs.DifferenceLaws.{fl-diff, diff-lt-fl}
use Rattle.models.specs.Window.{late_f, waiting_f, lateness_f, due_f}
use Rattle.models.specs.Limits.{limit_f, within_f, allow_f}
use Rattle.models.specs.Image.{fl_window}

module _ (w : Window) (a : ℕ) (r : w.ready ≤ limit) (d : w.due ≤ limit) (h : a ≤ limit) where
  pub late-exact : late_f (fl_window w) (fl a) ≡ late w a
  late-exact = fl-lt w.due a d h

  pub waiting-exact : waiting_f (fl_window w) (fl a) ≡ fl (waiting w a)
  waiting-exact =
      rw (fl-lt a w.ready h r)
      (by-test (ltb a w.ready) (λ t. let i = ltb-true a w.ready t in rw t (fl-sub w.ready a r h (omega arith)))
      (λ f. let i = ltb-false a w.ready f in let z : 0 ≡ w.ready - a = omega arith in rw (f, ← z)))

  on-time : Ieee.lt (Ieee.sub binary64 (fl a) (fl w.due)) (fl 0) ≡ ltb a w.due
  on-time = rw (fl-diff a w.due h d) (diff-lt-fl a w.due 0 h d zero-le ∙ rw (zero-add w.due))

  pub lateness-exact : lateness_f (fl_window w) (fl a) ≡ fl (lateness w a)
  lateness-exact =
      rw on-time
      (by-test (ltb a w.due) (λ t. let i = ltb-true a w.due t in let z : 0 ≡ a - w.due = omega arith in rw (t, ← z))
      (λ f. rw f (fl-sub a w.due h d (ltb-false a w.due f))))

pub due-exact : (o : Option Window) → due_f (option_map fl_window o) ≡ fl (due_of o)
due-exact None = refl
due-exact (Some w) = refl

pub limit-exact : (o : Option ℕ) → limit_f (option_map fl o) ≡ fl (value_or 0 o)
limit-exact None = refl
limit-exact (Some n) = refl

-- a limit that is given is at most 2 ^ 53
abbrev pub Small : Option ℕ → Type 0
Small o = Holds (λ (n : ℕ). n ≤ limit) o

pub within-exact : (o : Option ℕ) (n : ℕ) → Small o → n ≤ limit → within_f (option_map fl o) (fl n) ≡ within o n
within-exact None n s h = refl
within-exact (Some m) n s h = fl-le n m h s

pub allow-exact : (o p : Option ℕ) (distance duration : ℕ) → Small o → Small p → distance ≤ limit → duration ≤ limit
    → allow_f (option_map fl o) (option_map fl p) (fl distance) (fl duration) ≡ within o distance && within p duration
allow-exact o p distance duration s t h k = rw (within-exact o distance s h, within-exact p duration t k)
