-- The reader refuses by the leftmost bad word: every word before it has no fault, and it has the fault named, stands behind F, or is missing. What stands behind it does not matter.
use Prim.Native.Nat.{ℕ, zero, suc, ◌+◌, ◌≤◌, ◌<◌}
use native.Mathlib.Omega.{arith}
use native.Mathlib.Nat.{not-suc-le-zero}
use mathlib.Core.Path.{◌≡◌, refl, ap, subst, ◌∙◌}
use mathlib.Core.Logic.{◌⊎◌, inl, inr}
use mathlib.Core.Bool.{Bool, true, false, cond}
use mathlib.Core.List.{List, [], ◌∷◌, ◌++◌}
use Rattle.std.specs.Prelude.{Option, None, Some}
use lib.ListN.{length, get_or}
use lib.Dec.{eqb}
use borrow.Author.Tests.{eqb-true}
use Rattle.basics.proofs.TestLaws.{by-test}
use Rattle.definitions.specs.Words.{Word, word, words_of, left_over}
use Rattle.definitions.specs.Room.{short}
use Rattle.definitions.specs.Reader.{State, start, next, fault_at, Outcome, accepted, refused, behind, unless, walk, sheet_of, tour_of, refused_at, answer, read_words, read, reader_needs, read_into}

index : {n m i j : ℕ} → refused n i ≡ refused m j → i ≡ j
index e = cc

never-refused : {A : Type 0} {n j : ℕ} → accepted ≡ refused n j → A
never-refused e = let z : ◌≡◌ {A = ℕ} 0 1 = cc in absurd (clash z)
  where
    clash : ◌≡◌ {A = ℕ} 0 1 → ⊥
    clash z = omega arith

behind-index : (i : ℕ) (ws : List Word) (left : Bool) (n j : ℕ) → behind i ws left ≡ refused n j → i ≡ j
behind-index i [] false n j e = never-refused e
behind-index i [] true n j e = index e
behind-index i (w ∷ ws) left n j e = index e

-- the word that is named is none of those before
at-or-behind : (s : State) (i : ℕ) (ws : List Word) (left : Bool) (n j : ℕ) → walk s i ws left ≡ refused n j → i ≤ j
unfolding walk
at-or-behind s i [] left n j e = omega (arith, index e)
at-or-behind s i (w ∷ ws) left n j e = go (λ f. at-or-behind (next s w) (suc i) ws left n j f) (fault_at s i w) e
  where
    go : (walk (next s w) (suc i) ws left ≡ refused n j → suc i ≤ j) → (o : Option ℕ)
        → unless o i (cond (eqb w.kind 0xF) (behind (suc i) ws left) (walk (next s w) (suc i) ws left)) ≡ refused n j → i ≤ j
    go ih (Some m) f = omega (arith, index f)
    go ih None f =
        by-test (eqb w.kind 0xF)
        (λ t. omega (arith, behind-index (suc i) ws left n j (rw t at f)))
        (λ t. omega (arith, ih (rw t at f)))

pub leftmost : (s : State) (i : ℕ) (xs ys zs : List Word) (left left' : Bool) (n j : ℕ) → walk s i (xs ++ ys) left ≡ refused n j → j < i + length xs
    → walk s i (xs ++ zs) left' ≡ refused n j
unfolding walk
leftmost s i [] ys zs left left' n j e h = absurd (too-early (at-or-behind s i ys left n j e))
  where
    too-early : i ≤ j → ⊥
    too-early l = omega arith
leftmost s i (w ∷ xs) ys zs left left' n j e h =
    go (λ f. leftmost (next s w) (suc i) xs ys zs left left' n j f (omega arith)) (fault_at s i w) e
  where
    on : List Word → Bool → Outcome
    on ws l = cond (eqb w.kind 0xF) (behind (suc i) (xs ++ ws) l) (walk (next s w) (suc i) (xs ++ ws) l)

    after : (us : List Word) → j < i + suc (length us) → behind (suc i) (us ++ ys) left ≡ refused n j → behind (suc i) (us ++ zs) left' ≡ refused n j
    after [] k f = absurd (too_far (behind-index (suc i) ys left n j f))
      where
        too_far : suc i ≡ j → ⊥
        too_far x = omega arith
    after (u ∷ us) k f = f

    go : (walk (next s w) (suc i) (xs ++ ys) left ≡ refused n j → walk (next s w) (suc i) (xs ++ zs) left' ≡ refused n j) → (o : Option ℕ)
        → unless o i (on ys left) ≡ refused n j → unless o i (on zs left') ≡ refused n j
    go ih (Some m) f = f
    go ih None f =
        by-test (eqb w.kind 0xF)
        (λ t. rw t (after xs h (rw t at f)))
        (λ t. rw t (ih (rw t at f)))

-- ---- the word that is named

-- word number k, from 0, and what the words before it leave to be known
abbrev pub word_at : List Word → ℕ → Word
word_at ws k = get_or ws k (word 0 0)

abbrev pub state_at : State → List Word → ℕ → State
state_at s ws zero = s
state_at s [] (suc k) = s
state_at s (w ∷ ws) (suc k) = state_at (next s w) ws k

module _ (s : State) (i : ℕ) (ws : List Word) where
  -- what is wrong with word number k, where the first has index i
  abbrev pub fault_of : ℕ → Option ℕ
  fault_of k = fault_at (state_at s ws k) (i + k) (word_at ws k)

  -- why refusal n is given at word number k: its own fault; 3 behind F, where a word stands or bytes are left over; 12 where the words have ended
  pub data Why (left : Bool) : (n k : ℕ) → Type 0 where
    its-fault : {n k : ℕ} → k < length ws → fault_of k ≡ Some n → Why left n k
    behind-f : {k : ℕ} → (word_at ws k).kind ≡ 0xF → (suc k < length ws) ⊎ (left ≡ true) → Why left 3 (suc k)
    missing : Why left 12 (length ws)

  pub record LeftmostBad (left : Bool) (n j : ℕ) : Type 0 where
    pub number : ℕ
    pub index : i + number ≡ j
    pub clear : (k : ℕ) → k < number → fault_of k ≡ None
    pub why : Why left n number

-- the same, a word later
module _ (s : State) (i : ℕ) (w : Word) (ws : List Word) (left : Bool) where
  later-fault : (k : ℕ) → fault_of s i (w ∷ ws) (suc k) ≡ fault_of (next s w) (suc i) ws k
  later-fault k = ap (λ (m : ℕ). fault_at (state_at (next s w) ws k) m (word_at ws k)) (omega arith)

  later-why : {n k : ℕ} → Why (next s w) (suc i) ws left n k → Why s i (w ∷ ws) left n (suc k)
  later-why {n} {k} (its-fault h e) = its-fault {k = suc k} (omega arith) (later-fault k ∙ e)
  later-why (behind-f {k} f (inl h)) = behind-f {k = suc k} f (inl (omega arith))
  later-why (behind-f {k} f (inr l)) = behind-f {k = suc k} f (inr l)
  later-why missing = missing

  later : {n j : ℕ} → fault_at s i w ≡ None → LeftmostBad (next s w) (suc i) ws left n j → LeftmostBad s i (w ∷ ws) left n j
  later {n} {j} e b = record { number = suc b.number; index = omega (arith, b.index); clear = clear; why = later-why b.why }
    where
      clear : (k : ℕ) → k < suc b.number → fault_of s i (w ∷ ws) k ≡ None
      clear zero h = ap (λ (m : ℕ). fault_at s m w) (omega arith) ∙ e
      clear (suc k) h = later-fault k ∙ b.clear k (omega arith)

number_of : {n m i j : ℕ} → refused n i ≡ refused m j → n ≡ m
number_of e = cc

pub walk-leftmost : (s : State) (i : ℕ) (ws : List Word) (left : Bool) (n j : ℕ) → walk s i ws left ≡ refused n j → LeftmostBad s i ws left n j
unfolding walk
walk-leftmost s i [] left n j e =
    subst (λ (m : ℕ). LeftmostBad s i [] left m j) (number_of e)
    (record { number = 0; index = omega (arith, index e); clear = λ k h. absurd (not-suc-le-zero h); why = missing })
walk-leftmost s i (w ∷ ws) left n j e = go (λ f. walk-leftmost (next s w) (suc i) ws left n j f) (fault_at s i w) refl e
  where
    -- the word behind F
    after : (vs : List Word) (l : Bool) → behind (suc i) vs l ≡ refused n j → (3 ≡ n) × (suc i ≡ j) × ((1 < suc (length vs)) ⊎ (l ≡ true))
    after [] false f = never-refused f
    after [] true f = (number_of f, index f, inr refl)
    after (v ∷ vs) l f = (number_of f, index f, inl (omega arith))

    go : (walk (next s w) (suc i) ws left ≡ refused n j → LeftmostBad (next s w) (suc i) ws left n j) → (o : Option ℕ) → fault_at s i w ≡ o
        → unless o i (cond (eqb w.kind 0xF) (behind (suc i) ws left) (walk (next s w) (suc i) ws left)) ≡ refused n j → LeftmostBad s i (w ∷ ws) left n j
    go ih (Some m) h f =
        record {
          number = 0;
          index = omega (arith, index f);
          clear = λ k l. absurd (not-suc-le-zero l);
          why = its-fault {k = 0} (omega arith) (ap (λ (q : ℕ). fault_at s q w) (omega arith) ∙ h ∙ ap Some (number_of f));
        }
    go ih None h f =
        by-test (eqb w.kind 0xF)
        (λ t. let a = after ws left (rw t at f) in
        subst (λ (m : ℕ). LeftmostBad s i (w ∷ ws) left m j) a.0
        (record { number = 1; index = omega (arith, a.1); clear = first-clear h; why = behind-f {k = 0} (eqb-true w.kind 0xF t) a.2 }))
        (λ t. later s i w ws left h (ih (rw t at f)))
      where
        first-clear : fault_at s i w ≡ None → (k : ℕ) → k < 1 → fault_of s i (w ∷ ws) k ≡ None
        first-clear h zero l = ap (λ (m : ℕ). fault_at s m w) (omega arith) ∙ h
        first-clear h (suc k) l = absurd (omega arith)

-- a refusal of the reader other than 13 is by the leftmost bad word
pub read-leftmost : (rooms bytes : List ℕ) (n j : ℕ) → read_into rooms bytes ≡ refused_at n j → (n ≡ 13 → ⊥) → LeftmostBad start 0 (words_of bytes) (left_over bytes) n j
unfolding read_into read read_words
read-leftmost rooms bytes n j e other =
    by-test (short reader_needs rooms)
    (λ t. absurd (other (thirteen (rw t at e))))
    (λ t. walk-leftmost start 0 (words_of bytes) (left_over bytes) n j (go (walk start 0 (words_of bytes) (left_over bytes)) (rw t at e)))
  where
    thirteen : refused_at 13 0 ≡ refused_at n j → n ≡ 13
    thirteen e = cc

    go : (o : Outcome) → answer o (sheet_of (words_of bytes)) (tour_of (words_of bytes)) ≡ refused_at n j → o ≡ refused n j
    go accepted e = let z : ◌≡◌ {A = ℕ} 0 1 = cc in absurd (clash z)
      where
        clash : ◌≡◌ {A = ℕ} 0 1 → ⊥
        clash z = omega arith
    go (refused m i) e = cc
