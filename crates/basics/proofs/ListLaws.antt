-- The laws of the words on lists. Assumes nothing.
use Prim.Native.Nat.{ℕ, zero, suc, ◌+◌, ◌<◌}
use native.Mathlib.Omega.{arith}
use native.Mathlib.Nat.{not-suc-le-zero, zero-add, add_assoc}
use mathlib.Core.Path.{◌≡◌, refl, sym, ap, ◌∙◌}
use mathlib.Core.Bool.{Bool, true, false, not, ◌&&◌, ◌||◌}
use mathlib.Core.List.{List, [], ◌∷◌, ◌++◌, map}
use lib.ListN.{length, get_or, take, drop}
use Rattle.basics.proofs.TestLaws.{by-test, both, or_left, or_right, or-false, not-false, not-of-true}
use Rattle.basics.specs.Lists.{is_empty, all, any, sum, without, In, first, next, All, count, Passes, Fails}

pub length-count : (a n : ℕ) → length (count a n) ≡ n
length-count a zero = refl
length-count a (suc n) = ap suc (length-count (suc a) n)

module _ {A : Type 0} where
  pub length_without : (k : ℕ) (l : List A) → k < length l → suc (length (without k l)) ≡ length l
  length_without k [] h = absurd (not-suc-le-zero h)
  length_without zero (x ∷ l) h = refl
  length_without (suc k) (x ∷ l) h = ap suc (length_without k l (omega arith))

  pub sum-append : (f : A → ℕ) (l m : List A) → sum f (l ++ m) ≡ sum f l + sum f m
  sum-append f [] m = sym (zero-add (sum f m))
  sum-append f (x ∷ l) m = ap (λ (n : ℕ). f x + n) (sum-append f l m) ∙ sym (add_assoc (f x) (sum f l) (sum f m))

  pub any_append : (p : A → Bool) (l m : List A) → any p (l ++ m) ≡ any p l || any p m
  any_append p [] m = refl
  any_append p (x ∷ l) m = by-test (p x) (λ t. rw t refl) (λ f. rw f (any_append p l m))

  pub empty-append : (l m : List A) → is_empty (l ++ m) ≡ is_empty l && is_empty m
  empty-append [] m = refl
  empty-append (x ∷ l) m = refl

  pub all-parts : (p : A → Bool) (l m : List A) → all p (l ++ m) ≡ true → (all p l ≡ true) × (all p m ≡ true)
  all-parts p [] m h = (refl, h)
  all-parts p (x ∷ l) m h = let b = both (p x) _ h in let r = all-parts p l m b.1 in (rw b.0 r.0, r.1)

  pub all-imp : (P Q : A → Type 0) → ((x : A) → P x → Q x) → (l : List A) → All P l → All Q l
  all-imp P Q h [] a = tt
  all-imp P Q h (x ∷ l) a = (h x a.0, all-imp P Q h l a.1)

  pub all_append : (P : A → Type 0) (l m : List A) → All P l → All P m → All P (l ++ m)
  all_append P [] m a b = b
  all_append P (x ∷ l) m a b = (a.0, all_append P l m a.1 b)

  pub in_all : (P : A → Type 0) {x : A} {l : List A} → All P l → In x l → P x
  in_all P a first = a.0
  in_all P a (next i) = in_all P a.1 i

  pub any-fails : (p : A → Bool) (l : List A) → any p l ≡ false → Fails p l
  any-fails p [] h = tt
  any-fails p (x ∷ l) h = (or_left (p x) (any p l) h, any-fails p l (or_right (p x) (any p l) h))

  pub fails-any : (p : A → Bool) (l : List A) → Fails p l → any p l ≡ false
  fails-any p [] h = refl
  fails-any p (x ∷ l) h = or-false (p x) (any p l) h.0 (fails-any p l h.1)

  pub fails-not : (p : A → Bool) (l : List A) → Fails (λ (x : A). not (p x)) l → Passes p l
  fails-not p l h = all-imp (λ (x : A). not (p x) ≡ false) (λ (x : A). p x ≡ true) (λ x e. not-false (p x) e) l h

  pub not-fails : (p : A → Bool) (l : List A) → Passes p l → Fails (λ (x : A). not (p x)) l
  not-fails p l h = all-imp (λ (x : A). p x ≡ true) (λ (x : A). not (p x) ≡ false) (λ x e. not-of-true (p x) e) l h

pub all_map : {A B : Type 0} (P : B → Type 0) (g : A → B) (l : List A) → All (λ (x : A). P (g x)) l → All P (map g l)
all_map P g [] a = tt
all_map P g (x ∷ l) a = (a.0, all_map P g l a.1)

module _ {A : Type 0} (P : A → Type 0) where
  -- what each element has, and the default, a lookup has
  pub all_get_d : (l : List A) (i : ℕ) (d : A) → All P l → P d → P (get_or l i d)
  all_get_d [] i d a h = h
  all_get_d (x ∷ l) zero d a h = a.0
  all_get_d (x ∷ l) (suc i) d a h = all_get_d l i d a.1 h

  pub all_take : (n : ℕ) (l : List A) → All P l → All P (take n l)
  all_take zero l a = tt
  all_take (suc n) [] a = tt
  all_take (suc n) (x ∷ l) a = (a.0, all_take n l a.1)

  pub all_drop : (n : ℕ) (l : List A) → All P l → All P (drop n l)
  all_drop zero l a = a
  all_drop (suc n) [] a = tt
  all_drop (suc n) (x ∷ l) a = all_drop n l a.1

pub take-map : {A B : Type 0} (g : A → B) (n : ℕ) (l : List A) → take n (map g l) ≡ map g (take n l)
take-map g zero l = refl
take-map g (suc n) [] = refl
take-map {B = B} g (suc n) (x ∷ l) = ap (λ (r : List B). g x ∷ r) (take-map g n l)
