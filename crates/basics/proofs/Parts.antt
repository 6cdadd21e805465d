-- Parts of lists: the beginning of so many elements, and the rest from a place on. Assumes nothing.
use Prim.Native.Nat.{ℕ, zero, suc, ◌+◌, ◌-◌, ◌≤◌}
use native.Mathlib.Nat.{add-zero, add-suc}
use native.Mathlib.Omega.{arith}
use mathlib.Core.Path.{◌≡◌, refl, sym, ap, ◌∙◌}
use mathlib.Core.Bool.{true}
use mathlib.Core.List.{List, [], ◌∷◌}
use lib.ListN.{length, take, drop, length-append, take-append-drop, length-drop}
use lib.Seq.{length-take-le, take-take, take-nil, take_all}
use lib.Dec.{leb}
use borrow.Author.Tests.{leb-true, le-leb}
use Rattle.basics.specs.Lists.{without}

module _ {A : Type 0} where
  -- ---- lists that begin alike

  -- a part of a list lies in its beginning
  take-drop : (i m : ℕ) (l : List A) → take m (drop i l) ≡ drop i (take (m + i) l)
  take-drop zero m l = ap (λ (n : ℕ). take n l) (sym (add-zero m))
  take-drop (suc i) m [] = take-nil m ∙ sym (ap (drop (suc i)) (take-nil (m + suc i)))
  take-drop (suc i) m (x ∷ l) = take-drop i m l ∙ ap (λ (n : ℕ). drop (suc i) (take n (x ∷ l))) (sym (add-suc m i))

  pub parts-alike : (q : ℕ) (l l' : List A) → take q l ≡ take q l' → (i m : ℕ) → m + i ≤ q → take m (drop i l) ≡ take m (drop i l')
  parts-alike q l l' e i m h =
      take-drop i m l ∙ ap (drop i) (sym (take-take (m + i) q l h) ∙ ap (take (m + i)) e ∙ take-take (m + i) q l' h) ∙ sym (take-drop i m l')

  -- a list without an element is as before up to it
  pub without-alike : (q : ℕ) (l : List A) → take q (without q l) ≡ take q l
  without-alike q [] = refl
  without-alike zero (x ∷ l) = refl
  without-alike (suc q) (x ∷ l) = ap (λ (m : List A). x ∷ m) (without-alike q l)

  -- ---- how long they are

  pub shorter : (m : ℕ) (l : List A) → length (take m l) ≤ length l
  shorter m l = omega (arith, ap length (take-append-drop m l), length-append (take m l) (drop m l))

  pub long-alike : (m : ℕ) (l l' : List A) → take m l ≡ take m l' → leb m (length l) ≡ true → leb m (length l') ≡ true
  long-alike m l l' e t = le-leb m (length l') (omega (arith, length-take-le m l (leb-true m (length l) t), ap length e, shorter m l'))

  -- ---- the rest of a list of n from i on, as a part of n - i elements

  pub rest-is : (n i : ℕ) (l : List A) → length l ≡ n → take (n - i) (drop i l) ≡ drop i l
  rest-is n i l e = take_all (n - i) (drop i l) (omega (arith, length-drop i l))

  pub rest-long : (n i : ℕ) (l : List A) → length l ≡ n → length (take (n - i) (drop i l)) ≡ n - i
  rest-long n i l e = ap length (rest-is n i l e) ∙ length-drop i l ∙ ap (λ (k : ℕ). k - i) e
