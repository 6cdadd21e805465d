-- Sums over lists turned round or parted. Assumes nothing.
use Prim.Native.Nat.{ℕ, ◌+◌}
use native.Mathlib.Omega.{arith}
use mathlib.Core.Path.{◌≡◌, refl, sym, ap, ◌∙◌}
use mathlib.Core.List.{List, [], ◌∷◌, reverse, reverse_aux}
use lib.ListN.{length, take, drop, take-append-drop}
use Rattle.basics.specs.Lists.{sum}
use Rattle.basics.proofs.ListLaws.{sum-append}

module _ {A : Type 0} where
  sum-reverse_aux : (f : A → ℕ) (xs ys : List A) → sum f (reverse_aux xs ys) ≡ sum f xs + sum f ys
  sum-reverse_aux f [] ys = omega arith
  sum-reverse_aux f (x ∷ xs) ys = omega (arith, sum-reverse_aux f xs (x ∷ ys))

  pub sum-reverse : (f : A → ℕ) (xs : List A) → sum f (reverse xs) ≡ sum f xs
  sum-reverse f xs = omega (arith, sum-reverse_aux f xs [])

  pub sum-split : (f : A → ℕ) (n : ℕ) (xs : List A) → sum f (take n xs) + sum f (drop n xs) ≡ sum f xs
  sum-split f n xs = sym (sum-append f (take n xs) (drop n xs)) ∙ ap (sum f) (take-append-drop n xs)

  pub length-is-sum : (xs : List A) → sum (λ (x : A). 1) xs ≡ length xs
  length-is-sum [] = refl
  length-is-sum (x ∷ xs) = omega (arith, length-is-sum xs)
