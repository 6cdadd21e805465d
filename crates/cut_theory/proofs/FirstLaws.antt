-- What the search for the first number at which a test fails finds, and that a loop which searches finds the same. Assumes nothing.
use Prim.Native.Nat.{ℕ, zero, suc, ◌+◌, ◌<◌, ◌≤◌}
use native.Mathlib.Nat.{le_refl, le_antisymm, eq-or-lt_of_le}
use native.Mathlib.Omega.{arith}
use mathlib.Core.Path.{◌≡◌, refl, ap, subst, ◌∙◌}
use mathlib.Core.Logic.{⊎_elim}
use mathlib.Core.Bool.{Bool, true, false}
use Rattle.std.specs.Prelude.{None, Some}
use lib.Dec.{ltb}
use borrow.Author.Tests.{ltb-true, ltb-false}
use Rattle.basics.proofs.TestLaws.{by-test, not-both}
use Rattle.cut_theory.specs.First.{find, FirstOf}

-- the test passes throughout, or k is the first at which it fails
pub data Found (p : ℕ → Bool) (f j : ℕ) : Type 0 where
  passed : find p f j ≡ None → ((k : ℕ) → j ≤ k → k < j + f → p k ≡ true) → Found p f j
  stopped : (k : ℕ) → find p f j ≡ Some k → j ≤ k → k < j + f → p k ≡ false → ((m : ℕ) → j ≤ m → m < k → p m ≡ true) → Found p f j

-- ---- what the search finds

pub found : (p : ℕ → Bool) (f j : ℕ) → Found p f j
unfolding find
found p zero j = passed refl (λ k a b. absurd (clash k a b))
  where
    clash : (k : ℕ) → j ≤ k → k < j + 0 → ⊥
    clash k a b = omega arith
found p (suc f) j = go (p j) refl (found p f (suc j))
  where
    here : (P : ℕ → Type 0) → P j → ((k : ℕ) → suc j ≤ k → P k) → (k : ℕ) → j ≤ k → P k
    here P h r k l = ⊎_elim (λ e. subst P e h) (λ g. r k g) (eq-or-lt_of_le l)

    go : (b : Bool) → p j ≡ b → Found p f (suc j) → Found p (suc f) j
    go false e r = stopped j (rw e refl) (le_refl j) (omega arith) e (λ m a b. absurd (clash m a b))
      where
        clash : (m : ℕ) → j ≤ m → m < j → ⊥
        clash m a b = omega arith
    go true e (passed n a) = passed (rw e n) (here (λ (k : ℕ). k < j + suc f → p k ≡ true) (λ _. e) (λ k l b. a k l (omega arith)))
    go true e (stopped k s l b x a) = stopped k (rw e s) (omega arith) (omega arith) x (here (λ (m : ℕ). m < k → p m ≡ true) (λ _. e) (λ m l b. a m l b))

-- ---- what a loop has found is what the search finds

pub first-none : (p : ℕ → Bool) (n r : ℕ) → FirstOf p n r → n ≤ r → find p n 0 ≡ None
first-none p n r F h = go (found p n 0)
  where
    go : Found p n 0 → find p n 0 ≡ None
    go (passed e a) = e
    go (stopped k e l b x a) = not-both (p k) (F.passes k (omega arith)) x

pub first_some : (p : ℕ → Bool) (n r : ℕ) → FirstOf p n r → r < n → find p n 0 ≡ Some r
first_some p n r F h = go (found p n 0)
  where
    go : Found p n 0 → find p n 0 ≡ Some r
    go (passed e a) = not-both (p r) (a r (omega arith) (omega arith)) (F.fails h)
    go (stopped k e l b x a) =
        by-test (ltb k r) (λ t. not-both (p k) (F.passes k (ltb-true k r t)) x)
        (λ f. by-test (ltb r k) (λ t. not-both (p r) (a r (omega arith) (ltb-true r k t)) (F.fails h))
        (λ g. e ∙ ap Some (le_antisymm (ltb-false r k g) (ltb-false k r f))))
