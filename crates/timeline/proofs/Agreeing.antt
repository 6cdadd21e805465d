-- Readiness by the break's start as the stops have it is that of the visits, at every call of a run and for every place of the break. Assumes nothing.
use Prim.Native.Nat.{ℕ, suc, ◌<◌}
use native.Mathlib.Omega.{arith}
use mathlib.Core.Path.{◌≡◌, refl, sym, ap, subst, ◌∙◌}
use mathlib.Core.Bool.{true, false}
use mathlib.Core.List.{List, [], ◌∷◌}
use Rattle.std.specs.Prelude.{Option, None, Some}
use lib.Dec.{eqb}
use borrow.Author.Tests.{eq-eqb, eqb-true, eqb-false}
use Rattle.basics.specs.Options.{value_or}
use Rattle.basics.proofs.TestLaws.{by-test}
use Rattle.definitions.specs.Load.{Load, plus}
use Rattle.definitions.specs.Sheet.{Break, Sheet, customer}
use Rattle.definitions.specs.Run.{too_late, ready, Label, break_at}
use Rattle.definitions.specs.Visits.{arrives_at, ready_for, visited}
use Rattle.definitions.specs.Timeline.{rest_start, stops_from, rest_of}
use Rattle.visits.proofs.Resting.{ready_at, Agrees, ready-plain, agrees-past}
use Rattle.timeline.proofs.Stops.{rest-here, rest-later}

module _ (s : Sheet) (place : ℕ) where
  -- at the call itself
  ready-here : (k a c : ℕ) (l : Label) → eqb place k ≡ true → (r : Option Break) → s.head.rest ≡ r
      → ready_at s place (rest_start s.head.rest (arrives_at s a c l)) k (arrives_at s a c l) ≡ ready_for s (break_at s place k) a c l
  unfolding ready
  ready-here k a c l e None r = rw (e, r) refl
  ready-here k a c l e (Some b) r = rw (e, r) (by-test (too_late b (arrives_at s a c l)) (λ y. rw y refl) (λ n. rw n refl))

  pub agrees-stops : (k a : ℕ) (l : Label) (n : Load) (calls : List ℕ) → Agrees s place (rest_of (stops_from s place k a l n calls)) k a l calls
  agrees-stops k a l n [] = tt
  agrees-stops k a l n (c ∷ cs) =
      by-test (eqb place k)
      (λ y. let here = eqb-true place k y in
      subst (λ (o : Option ℕ). Agrees s place o k a l (c ∷ cs)) (sym (rest-here s place k a l n c cs here))
      (ready-here k a c l y s.head.rest refl, agrees-past s place _ (suc k) c _ cs (omega arith)))
      (λ f. let away : break_at s place k ≡ None = rw f refl in
      let load = plus n (customer s c).demand in
      subst (λ (o : Option ℕ). Agrees s place o k a l (c ∷ cs)) (sym (rest-later s place k a l n c cs (eqb-false place k f))) (
        ready-plain s place (later load) k (arrives_at s a c l) f,
        subst (λ (h : Option Break). Agrees s place (later load) (suc k) c (visited s h k a c l) cs) (sym away) (agrees-stops (suc k) c (visited s None k a c l) load cs),
      ))
    where
      later : Load → Option ℕ
      later load = rest_of (stops_from s place (suc k) c (visited s None k a c l) load cs)
