-- A list written at the front of a lent one, element by element. Assumes nothing.
use Prim.Native.Nat.{ℕ, zero, suc, ◌+◌, ◌<◌, ◌≤◌}
use native.Mathlib.Omega.{arith}
use native.Mathlib.Nat.{add-zero}
use native.Mathlib.Numerals.{add-one}
use mathlib.Core.Path.{◌≡◌, sym, ap, ◌∙◌}
use mathlib.Core.List.{List, [], ◌∷◌, ◌++◌}
use lib.ListN.{length, get_or, set, take, drop, length-append, length-drop}
use lib.Seq.{drop-cons, set-append_seam, append_snoc, take_all, take-append_seam}
use Rattle.basics.specs.Lists.{count}
use Rattle.basics.proofs.ListLaws.{length-count}
use Rattle.definitions.specs.Room.{written}

module _ {A : Type 0} where
  pub length-written : (l old : List A) → length l ≤ length old → length (written l old) ≡ length old
  length-written l old h = omega (arith, length-append l (drop (length l) old), length-drop (length l) old)

  pub front-written : (l old : List A) → take (length l) (written l old) ≡ l
  front-written l old = take-append_seam l (drop (length l) old)

  -- over a list of its length
  pub written_over : (l old : List A) → length old ≡ length l → written l old ≡ l
  written_over l old e = sym (take_all (length l) (written l old) (omega (arith, length-written l old (omega arith)))) ∙ front-written l old

  -- the first n elements of a lent list, lent by themselves and come back as l
  pub given_back : (l old : List A) (n : ℕ) → length l ≡ n → l ++ drop n old ≡ written l old
  given_back l old n e = ap (λ (m : ℕ). l ++ drop m old) (sym e)

  -- one element more, at k
  pub written-more : (l old : List A) (k : ℕ) (x : A) → length l ≡ k → k < length old → set (written l old) k x ≡ written (l ++ (x ∷ [])) old
  written-more l old k x e h =
      let b : length l < length old = omega arith in
      ap (λ (n : ℕ). set (written l old) n x) (sym e)
      ∙ ap (λ (t : List A). set (l ++ t) (length l) x) (drop-cons old (length l) x b)
      ∙ set-append_seam l (get_or old (length l) x) (drop (suc (length l)) old) x
      ∙ sym (append_snoc l x (drop (suc (length l)) old))
      ∙ ap (λ (n : ℕ). l ++ (x ∷ []) ++ drop n old) (sym (length-append l (x ∷ []) ∙ add-one (length l)))

pub count-snoc : (a n : ℕ) → count a (suc n) ≡ count a n ++ ((a + n) ∷ [])
count-snoc a zero = ap (λ (x : ℕ). x ∷ []) (sym (add-zero a))
count-snoc a (suc n) = ap (λ (l : List ℕ). a ∷ l) (count-snoc (suc a) n ∙ ap (λ (x : ℕ). count (suc a) n ++ (x ∷ [])) (shift a n))
  where
    shift : (a n : ℕ) → suc a + n ≡ a + suc n
    shift a n = omega arith

pub numbered_more : (old : List ℕ) (from k : ℕ) → k < length old → set (written (count from k) old) k (from + k) ≡ written (count from (k + 1)) old
numbered_more old from k h =
    written-more (count from k) old k (from + k) (length-count from k) h
    ∙ ap (λ (l : List ℕ). written l old) (sym (count-snoc from k) ∙ ap (count from) (sym (add-one k)))
