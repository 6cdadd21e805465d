-- The drop rule: every beginning of what is held in the end has a cutting (`held_all`), and it comes about by removals of last calls of shortest uncuttable beginnings alone (`settles`).
-- Assumes nothing.
use Prim.Native.Nat.{ℕ, zero, suc, ◌<◌, ◌≤◌}
use native.Mathlib.Nat.{le_refl}
use native.Mathlib.Omega.{arith}
use mathlib.Core.Path.{◌≡◌, refl, subst}
use mathlib.Core.Bool.{Bool}
use mathlib.Core.List.{List}
use Rattle.std.specs.Prelude.{None, Some}
use lib.ListN.{length}
use Rattle.basics.proofs.TestLaws.{not-both}
use Rattle.basics.specs.Lists.{without}
use Rattle.basics.proofs.ListLaws.{length_without}
use Rattle.cut_theory.proofs.FirstLaws.{Found, passed, stopped, found}
use Rattle.cut_theory.specs.Drop.{stuck, onward, settle, held, AllHave, Settles, stop, drop}

module _ {A : Type 0} (have : List A → ℕ → Bool) where
  -- ---- the process comes to what is held

  settles-in : (f : ℕ) (l : List A) → length l ≤ f → Settles have l (settle have f l)
  unfolding settle
  settles-in zero l h = stop (λ k b. absurd (clash k b))
    where
      clash : (k : ℕ) → k < length l → ⊥
      clash k b = omega arith
  settles-in (suc f) l h = go (found (λ k. have l (suc k)) (length l) 0) (λ r b. settles-in f r b)
    where
      go : Found (λ k. have l (suc k)) (length l) 0 → ((r : List A) → length r ≤ f → Settles have r (settle have f r)) → Settles have l (onward have (stuck have l) l (λ r. settle have f r))
      go (passed n a) ih = rw n (stop (λ k b. a k (omega arith) (omega arith)))
      go (stopped k s l₀ b x a) ih = rw s (drop {l = l} k (omega arith) x (λ m c. a m (omega arith) c) (ih (without k l) (omega (arith, length_without k l (omega arith)))))

  pub settles : (l : List A) → Settles have l (held have l)
  settles l = settles-in (length l) l (le_refl (length l))

  -- whatever it ends with, every beginning of that has a cutting
  pub settles-all : {l r : List A} → Settles have l r → AllHave have r
  settles-all (stop h) = h
  settles-all (drop k b x a s) = settles-all s

  pub held_all : (l : List A) → AllHave have (held have l)
  held_all l = settles-all (settles l)

  -- a list whose every beginning has a cutting is held have as it is
  pub held_same : (l : List A) → AllHave have l → held have l ≡ l
  held_same l h = same (settles l) h
    where
      same : {r : List A} → Settles have l r → AllHave have l → r ≡ l
      same (stop _) h = refl
      same (drop k b x a s) h = not-both (have l (suc k)) (h k b) x

  -- ---- one turn: nothing is stuck, or the call at k goes

  pub held-done : (l : List A) → stuck have l ≡ None → held have l ≡ l
  unfolding settle
  held-done l e = go (length l)
    where
      go : (f : ℕ) → settle have f l ≡ l
      go zero = refl
      go (suc f) = rw e refl

  pub held-less : (l : List A) (k : ℕ) → k < length l → stuck have l ≡ Some k → held have l ≡ held have (without k l)
  unfolding settle
  held-less l k b e = subst (λ (f : ℕ). settle have f l ≡ held have (without k l)) (length_without k l b) go
    where
      go : settle have (suc (length (without k l))) l ≡ settle have (length (without k l)) (without k l)
      go = rw e refl
