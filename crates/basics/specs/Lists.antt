-- Words on lists.
use Rattle.std.specs.Prelude.{ℕ, zero, suc, ◌+◌, ◌<◌, ◌≡◌, Bool, true, false, cond, ◌&&◌, ◌||◌, List, [], ◌∷◌}

module _ {A : Type 0} where
  abbrev pub is_empty : List A → Bool
  is_empty [] = true
  is_empty (x ∷ l) = false

  -- the test holds of each element
  abbrev pub all : (A → Bool) → List A → Bool
  all p [] = true
  all p (x ∷ l) = p x && all p l

  -- the test holds of some element
  abbrev pub any : (A → Bool) → List A → Bool
  any p [] = false
  any p (x ∷ l) = p x || any p l

  abbrev pub sum : (A → ℕ) → List A → ℕ
  sum f [] = 0
  sum f (x ∷ l) = f x + sum f l

  -- the list without its element number k, from 0
  abbrev pub without : ℕ → List A → List A
  without k [] = []
  without zero (x ∷ l) = l
  without (suc k) (x ∷ l) = x ∷ without k l

  -- the elements for which the test holds, in order
  abbrev pub only : (A → Bool) → List A → List A
  only p [] = []
  only p (x ∷ l) = cond (p x) (x ∷ only p l) (only p l)

  -- x is an element
  pub data In (x : A) : List A → Type 0 where
    first : {l : List A} → In x (x ∷ l)
    next : {y : A} {l : List A} → In x l → In x (y ∷ l)

  -- each element has the property
  abbrev pub All : (A → Type 0) → List A → Type 0
  All P [] = Unit {0}
  All P (x ∷ l) = P x × All P l

  -- the same elements, each as often: every sum over the one is the sum over the other
  abbrev pub Same : List A → List A → Type 0
  Same xs ys = (f : A → ℕ) → sum f xs ≡ sum f ys

-- a, a + 1, .. : n numbers
abbrev pub count : ℕ → ℕ → List ℕ
count a zero = []
count a (suc n) = a ∷ count (suc a) n

-- each number is above the one before, the first above a
abbrev pub Rising : ℕ → List ℕ → Type 0
Rising a [] = Unit {0}
Rising a (x ∷ l) = (a < x) × Rising x l

module _ {A : Type 0} where
  -- each element passes the test; each fails it
  abbrev pub Passes : (A → Bool) → List A → Type 0
  Passes p l = All (λ (x : A). p x ≡ true) l

  abbrev pub Fails : (A → Bool) → List A → Type 0
  Fails p l = All (λ (x : A). p x ≡ false) l
