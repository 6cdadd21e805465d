-- A list at the front of an array of 128, element by element, and its parts. Assumes nothing.
use Prim.Native.Nat.{ℕ, zero, suc, ◌+◌, ◌-◌, ◌<◌, ◌≤◌}
use native.Mathlib.Omega.{arith}
use native.Mathlib.Nat.{sub-zero, zero-sub}
use native.Mathlib.Numerals.{add-one}
use mathlib.Core.Path.{◌≡◌, refl, sym, ap, ap₂, ◌∙◌}
use mathlib.Core.List.{List, [], ◌∷◌, ◌++◌, append_assoc}
use lib.ListN.{length, get_or, set, take, drop, length-append, length-take, length-set}
use lib.Seq.{take-suc, take-suc-set, take_all, length-take-le, get_or-take, take-nil, take_at}
use Rattle.improve_runs.specs.RunLists.{room, Front}

module _ {A : Type 0} where
  -- one element more, at k
  pub front-more : {l a : List A} → Front l a → (k : ℕ) (x : A) → length l ≡ k → k < room → Front (l ++ (x ∷ [])) (set a k x)
  front-more {l} {a} F k x e h =
      let inside : length l < length a = omega (arith, F.long) in
      record {
        long = length-set a k x ∙ F.long;
        fits = omega (arith, length-append l (x ∷ []));
        is =
            ap₂ (λ (n i : ℕ). take n (set a i x)) (length-append l (x ∷ []) ∙ add-one (length l)) (sym e)
            ∙ take-suc-set a (length l) x inside
            ∙ ap (λ (t : List A). t ++ (x ∷ [])) F.is;
      }

  -- the first n elements of an array
  pub front-take : (a : List A) (n : ℕ) → length a ≡ room → n ≤ room → Front (take n a) a
  front-take a n long h =
      let e : length (take n a) ≡ n = length-take-le n a (omega arith) in
      record { long = long; fits = omega arith; is = ap (λ (m : ℕ). take m a) e }

  pub front_same : {l m a : List A} → l ≡ m → Front l a → Front m a
  front_same {a} e F = rw e at F

  -- a list and what stands behind it
  pub front-of : (l rest : List A) → length (l ++ rest) ≡ room → Front l (l ++ rest)
  front-of l rest long = record { long = long; fits = omega (arith, length-append l rest); is = take_at l rest (length l) refl }

  -- what stands at i
  pub front_at : {l a : List A} → Front l a → (i : ℕ) (d : A) → i < length l → get_or a i d ≡ get_or l i d
  front_at {l} {a} F i d h = sym (get_or-take (length l) a i d h) ∙ ap (λ (t : List A). get_or t i d) F.is

  -- ---- a part

  -- from f up to t
  pub part-is : (l : List A) (f t : ℕ) → take (t - f) (drop f l) ≡ drop f (take t l)
  part-is l zero t = ap (λ (n : ℕ). take n l) (sub-zero t)
  part-is [] (suc f) t = take-nil (t - suc f) ∙ sym (ap (drop (suc f)) (take-nil t))
  part-is (x ∷ l) (suc f) zero = ap (λ (n : ℕ). take n (drop f l)) (zero-sub (suc f))
  part-is (x ∷ l) (suc f) (suc t) = let e : suc t - suc f ≡ t - f = omega arith in ap (λ (n : ℕ). take n (drop f l)) e ∙ part-is l f t

  pub part-short : (l : List A) (f t : ℕ) → length (take (t - f) (drop f l)) ≤ t - f
  part-short l f t = simp length-take (omega arith)

  pub front-part : {l a : List A} → Front l a → (f t : ℕ) → t ≡ length l → take (t - f) (drop f a) ≡ drop f l
  front-part {l} {a} F f t e = part-is a f t ∙ ap (λ (n : ℕ). drop f (take n a)) e ∙ ap (drop f) F.is

  -- ---- another list copied behind the first elements, element by element

  pub pasted-more : (to from new : List A) (at k : ℕ) (x d : A) → length to ≡ room → at + length from ≤ room → k < length from → x ≡ get_or from k d
      → Front (take at to ++ take k from) new → Front (take at to ++ take (k + 1) from) (set new (at + k) x)
  pasted-more to from new at k x d long h b e F =
      let front : length (take at to) ≡ at = length-take-le at to (omega arith) in
      let done : length (take k from) ≡ k = length-take-le k from (omega arith) in
      let more : take (k + 1) from ≡ take k from ++ (x ∷ []) = ap (λ (n : ℕ). take n from) (add-one k) ∙ take-suc from k d b ∙ ap (λ (y : A). take k from ++ (y ∷ [])) (sym e) in
      front_same (append_assoc (take at to) (take k from) (x ∷ []) ∙ ap (λ (t : List A). take at to ++ t) (sym more))
      (front-more F (at + k) x (length-append (take at to) (take k from) ∙ ap₂ (λ (m n : ℕ). m + n) front done) (omega arith))

  -- a whole array
  pub pasted-whole : (from a : List A) → length from ≡ room → Front from a → a ≡ from
  pasted-whole from a long F = sym (take_all (length from) a (omega (arith, F.long))) ∙ F.is

  -- two lists, one behind the other
  pub pasted-twice : (b c first second : List A) (n : ℕ) → length first ≡ n → Front first b → Front (take n b ++ second) c → Front (first ++ second) c
  pasted-twice b c first second n e F G =
      front_same (ap (λ (m : ℕ). take m b ++ second) (sym e) ∙ ap (λ (l : List A). l ++ second) F.is) G
