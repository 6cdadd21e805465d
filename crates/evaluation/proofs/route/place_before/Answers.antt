-- `route::place_before` meets its contract. Assumes nothing.
use Prim.Native.Nat.{ℕ, zero, suc, ◌-◌}
use native.Mathlib.Omega.{arith}
use mathlib.Core.Path.{◌≡◌, refl, ◌∙◌}
use mathlib.Core.List.{List}
use lib.ListN.{get_or}
use Rattle.evaluation.specs.Tables.{place_before}
use Rattle.evaluation.proofs.route.place_before.Goals as goal

before : (route : List ℕ) (k : ℕ) → (k ≡ 0 → ⊥) → get_or route (k - 1) 0 ≡ place_before route k
unfolding place_before
before route zero h = absurd (h refl)
before route (suc k) h = let e : suc k - 1 ≡ k = omega arith in rw e

pub returns-then-k-eq0 : goal.returns-then-k-eq0
unfolding place_before
returns-then-k-eq0 c = rw c.if-k-eq0.true refl

pub returns-else-k-eq0 : goal.returns-else-k-eq0
returns-else-k-eq0 c = let a = c.args in c.call_at.ensures ∙ before a.route.now a.k c.if-k-eq0.false
