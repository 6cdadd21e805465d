-- To drop the calls too heavy alone first changes nothing: the same calls stay, and the same positions are dropped, in the same order. Assumes nothing.
use Prim.Native.Nat.{ℕ, suc, ◌+◌, ◌<◌}
use native.Mathlib.Omega.{arith}
use mathlib.Core.Path.{◌≡◌, refl, sym, ap, ap₂, ◌∙◌}
use mathlib.Core.Bool.{Bool, false, cond}
use mathlib.Core.List.{List, [], ◌∷◌, ◌++◌}
use lib.ListN.{length, get_or, length-map}
use lib.Dec.{eqb}
use borrow.Author.Tests.{eq-eqb, ne_eqb}
use Rattle.basics.specs.Lists.{only, All}
use Rattle.basics.proofs.TestLaws.{by-test}
use Rattle.definitions.specs.Drop.{call_at, calls_at}
use Rattle.cut_runs.specs.Runs.{Instance}
use Rattle.cut_drops.specs.Drops.{drops_f}
use Rattle.cut_heavy.specs.Heavy.{spread}
use Rattle.cut_heavy.proofs.Onward.{joins, stays, goes, each-once, drops-are}

module _ (I : Instance) where
  -- no position before p is dropped
  not-before : (calls kept : List ℕ) (p q : ℕ) → 0 < q → q < p → eqb (get_or (goes I kept p calls) 0 0) q ≡ false
  unfolding goes
  not-before [] kept p q z h = ne_eqb 0 q (λ e. omega arith)
  not-before (c ∷ calls) kept p q z h =
      by-test (joins I kept c) (λ t. rw t (not-before calls (kept ++ (c ∷ [])) (suc p) q z (omega arith))) (λ f. rw f (ne_eqb p q (λ e. omega arith)))

  module _ (fits : ℕ → Bool) where
    -- a call that does not fit alone never stays
    abbrev pub Bars : ℕ → Type 0
    Bars c = fits c ≡ false → (kept : List ℕ) → joins I kept c ≡ false

    -- the same calls stay
    pub stays_same : (calls kept : List ℕ) → All Bars calls → stays I kept calls ≡ stays I kept (only fits calls)
    unfolding stays
    stays_same [] kept a = refl
    stays_same (c ∷ calls) kept a =
        by-test (fits c)
        (λ t. rw t (ap₂ (cond (joins I kept c)) (ap (λ (l : List ℕ). c ∷ l) (stays_same calls (kept ++ (c ∷ [])) a.1)) (stays_same calls kept a.1)))
        (λ f. rw (f, a.0 f kept) (stays_same calls kept a.1))

    -- the same positions are dropped
    pub goes_same : (calls kept : List ℕ) (p q : ℕ) → 0 < q → All Bars calls → goes I kept p calls ≡ spread fits calls p q (goes I kept q (only fits calls))
    unfolding goes spread
    goes_same [] kept p q z a = refl
    goes_same (c ∷ calls) kept p q z a =
        by-test (fits c)
        (λ t.
        by-test (joins I kept c)
        (λ s. rw (t, s, not-before (only fits calls) (kept ++ (c ∷ [])) (suc q) q z (omega arith)) (goes_same calls (kept ++ (c ∷ [])) (suc p) (suc q) (omega arith) a.1))
        (λ n. rw (t, n, eq-eqb q q refl) (ap (λ (l : List ℕ). p ∷ l) (goes_same calls kept (suc p) (suc q) (omega arith) a.1))))
        (λ f. rw (f, a.0 f kept) (ap (λ (l : List ℕ). p ∷ l) (goes_same calls kept (suc p) q z a.1)))

    module _ (tour : List ℕ) (a : All Bars tour) where
      abbrev light : List ℕ
      light = only fits tour

      pub held_same : calls_at tour (drops_f I tour).held ≡ calls_at light (drops_f I light).held
      held_same = (drops-are I tour).stay ∙ stays_same tour [] a ∙ sym (drops-are I light).stay

      pub dropped-same : (drops_f I tour).dropped ≡ spread fits tour 1 1 (drops_f I light).dropped
      dropped-same = (drops-are I tour).go ∙ goes_same tour [] 1 1 (omega arith) a ∙ ap (spread fits tour 1 1) (sym (drops-are I light).go)

  -- each call of a tour is held or dropped
  pub each-counted : (tour : List ℕ) → length (drops_f I tour).held + length (drops_f I tour).dropped ≡ length tour
  each-counted tour =
      let D = drops-are I tour in
      omega (arith, each-once I tour [] 1, ap length D.stay, ap length D.go, length-map (drops_f I tour).held (call_at tour))
