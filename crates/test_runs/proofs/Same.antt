-- Lists that are the same. Assumes nothing.
use Prim.Native.Nat.{ℕ}
use mathlib.Core.Path.{◌≡◌, refl}
use mathlib.Core.Bool.{Bool, true, false≢true}
use mathlib.Core.List.{List, [], ◌∷◌}
use borrow.Author.Tests.{eqb-true, eq-eqb}
use Rattle.basics.proofs.TestLaws.{same_test, both, and-true}
use Rattle.test_runs.specs.Alike.{same_list}

pub same-itself : (l : List ℕ) → same_list l l ≡ true
unfolding same_list
same-itself [] = refl
same-itself (x ∷ l) = and-true _ _ (eq-eqb x x refl) (same-itself l)

pub same-is : (l m : List ℕ) → same_list l m ≡ true → l ≡ m
unfolding same_list
same-is [] [] h = refl
same-is [] (y ∷ m) h = absurd (false≢true h)
same-is (x ∷ l) [] h = absurd (false≢true h)
same-is (x ∷ l) (y ∷ m) h = let b = both _ _ h in rw (eqb-true x y b.0, same-is l m b.1)

-- a test that holds where, and only where, two lists are one
pub decided : (r : Bool) (l m : List ℕ) → (r ≡ true → l ≡ m) × (l ≡ m → r ≡ true) → r ≡ same_list l m
decided r l m h = same_test r (same_list l m) (λ t. rw (h.0 t) (same-itself m)) (λ t. h.1 (same-is l m t))
