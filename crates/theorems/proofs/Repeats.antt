-- A tour that repeats a customer: what the test means, how long a tour without a repeat is, and that one is answered by the other tests alone. Assumes nothing.
use Prim.Native.Nat.{ℕ, zero, suc, ◌≤◌, ◌<◌}
use native.Mathlib.Omega.{arith}
use native.Mathlib.Nat.{not-suc-le-zero}
use mathlib.Core.Logic.{◌↔◌}
use mathlib.Core.Path.{◌≡◌, refl, ap}
use mathlib.Core.Bool.{Bool, true, false, not, false≢true}
use mathlib.Core.List.{List, [], ◌∷◌}
use Rattle.std.specs.Prelude.{Option}
use lib.ListN.{length, get_or}
use lib.Dec.{eqb, leb, ltb}
use borrow.Author.Tests.{eqb-true, eq-eqb, eqb-false, leb-true, ltb-true}
use Rattle.basics.proofs.TestLaws.{by-test, both, and_right, or_left, or_right, or-false}
use Rattle.basics.specs.Lists.{any, only, All, Passes}
use Rattle.basics.proofs.ListLaws.{all-imp}
use Rattle.definitions.specs.Domain.{most_places, is_places, is_call}
use Rattle.definitions.specs.Words.{Word}
use Rattle.definitions.specs.Refusal.{Refusal, first_fit}
use Rattle.definitions.specs.Reader.{State, repeated, faults, fault_at}
use Rattle.definitions.specs.Lent.{Lent, Call}
use Rattle.definitions.specs.Refusals.{repeats, refusals, refusal_of}

-- ---- what the test means

-- two positions of the tour, from 0, with one customer
pub record Twice (tour : List ℕ) : Type 0 where
  pub first : ℕ
  pub second : ℕ
  pub later : first < second
  pub inside : second < length tour
  pub same : get_or tour first 0 ≡ get_or tour second 0

module _ (c : ℕ) where
  -- where a customer stands
  found : (tour : List ℕ) → any (λ (d : ℕ). eqb c d) tour ≡ true → (j : ℕ) × (j < length tour) × (c ≡ get_or tour j 0)
  found [] h = absurd (false≢true h)
  found (d ∷ tour) h =
      by-test (eqb c d)
      (λ t. (0, omega arith, eqb-true c d t))
      (λ f. let r = found tour (rw f at h) in (suc r.0, omega (arith, r.1), r.2))

  stands : (tour : List ℕ) (j : ℕ) → j < length tour → c ≡ get_or tour j 0 → any (λ (d : ℕ). eqb c d) tour ≡ true
  stands [] j h e = absurd (not-suc-le-zero h)
  stands (d ∷ tour) zero h e = rw (eq-eqb c d e)
  stands (d ∷ tour) (suc j) h e = by-test (eqb c d) (λ t. rw t refl) (λ f. rw f (stands tour j (omega arith) e))

repeats-twice : (tour : List ℕ) → repeats tour ≡ true → Twice tour
repeats-twice [] h = absurd (false≢true h)
repeats-twice (c ∷ tour) h =
    by-test (any (λ (d : ℕ). eqb c d) tour)
    (λ t. let r = found c tour t in record { first = 0; second = suc r.0; later = omega arith; inside = omega (arith, r.1); same = r.2 })
    (λ f. let r = repeats-twice tour (rw f at h) in
    record { first = suc r.first; second = suc r.second; later = omega (arith, r.later); inside = omega (arith, r.inside); same = r.same })

twice-repeats : (tour : List ℕ) (i j : ℕ) → i < j → j < length tour → get_or tour i 0 ≡ get_or tour j 0 → repeats tour ≡ true
twice-repeats [] i j l h e = absurd (not-suc-le-zero h)
twice-repeats (c ∷ tour) i zero l h e = absurd (not-suc-le-zero l)
twice-repeats (c ∷ tour) zero (suc j) l h e = rw (stands c tour j (omega arith) e)
twice-repeats (c ∷ tour) (suc i) (suc j) l h e =
    by-test (any (λ (d : ℕ). eqb c d) tour) (λ t. rw t refl) (λ f. rw f (twice-repeats tour i j (omega arith) (omega arith) e))

-- a tour repeats a customer exactly when two of its positions have one
pub repeats-exactly : (tour : List ℕ) → (repeats tour ≡ true) ↔ Twice tour
repeats-exactly tour = (repeats-twice tour, λ t. twice-repeats tour t.first t.second t.later t.inside t.same)

-- ---- how long a tour without a repeat is

-- the calls of a customer other than n
abbrev others : ℕ → List ℕ → List ℕ
others n tour = only (λ (c : ℕ). not (eqb n c)) tour

module _ (n : ℕ) where
  any-others : (p : ℕ → Bool) (tour : List ℕ) → any p tour ≡ false → any p (others n tour) ≡ false
  any-others p [] h = refl
  any-others p (c ∷ tour) h =
      let more = any-others p tour (or_right (p c) (any p tour) h) in
      by-test (eqb n c) (λ t. rw t more) (λ f. rw f (or-false (p c) _ (or_left (p c) (any p tour) h) more))

  once-others : (tour : List ℕ) → repeats tour ≡ false → repeats (others n tour) ≡ false
  once-others [] h = refl
  once-others (c ∷ tour) h =
      let here = any (λ (d : ℕ). eqb c d) tour in
      let more = once-others tour (or_right here (repeats tour) h) in
      by-test (eqb n c) (λ t. rw t more)
      (λ f. rw f (or-false (any (λ (d : ℕ). eqb c d) (others n tour)) _ (any-others (λ (d : ℕ). eqb c d) tour (or_left here (repeats tour) h)) more))

  -- none of them is left out where the customer does not stand
  all_others : (tour : List ℕ) → any (λ (d : ℕ). eqb n d) tour ≡ false → length (others n tour) ≡ length tour
  all_others [] h = refl
  all_others (c ∷ tour) h =
      let f = or_left (eqb n c) (any (λ (d : ℕ). eqb n d) tour) h in
      rw f (ap suc (all_others tour (or_right (eqb n c) (any (λ (d : ℕ). eqb n d) tour) h)))

  -- and at most one otherwise
  one_less : (tour : List ℕ) → repeats tour ≡ false → length tour ≤ suc (length (others n tour))
  one_less [] h = omega arith
  one_less (c ∷ tour) h =
      let here = any (λ (d : ℕ). eqb c d) tour in
      by-test (eqb n c)
      (λ t. let e = all_others tour (rw (eqb-true n c t) (or_left here (repeats tour) h)) in rw t (omega (arith, e)))
      (λ f. let more = one_less tour (or_right here (repeats tour) h) in rw f (omega (arith, more)))

-- customers from 1 to n
abbrev pub UpTo : ℕ → List ℕ → Type 0
UpTo n tour = All (λ (c : ℕ). (1 ≤ c) × (c ≤ n)) tour

fewer-others : (n : ℕ) (tour : List ℕ) → UpTo (suc n) tour → UpTo n (others (suc n) tour)
fewer-others n [] a = tt
fewer-others n (c ∷ tour) a =
    by-test (eqb (suc n) c)
    (λ t. rw t (fewer-others n tour a.1))
    (λ f. rw f ((a.0.0, below a.0.1 (eqb-false (suc n) c f)), fewer-others n tour a.1))
  where
    below : c ≤ suc n → (suc n ≡ c → ⊥) → c ≤ n
    below l d = omega arith

pub up-to-few : (n : ℕ) (tour : List ℕ) → UpTo n tour → repeats tour ≡ false → length tour ≤ n
up-to-few zero [] a h = omega arith
up-to-few zero (c ∷ tour) a h = absurd (nobody a.0.0 a.0.1)
  where
    nobody : 1 ≤ c → c ≤ 0 → ⊥
    nobody l m = omega arith
up-to-few (suc n) tour a h =
    omega (arith, one_less (suc n) tour h, up-to-few n (others (suc n) tour) (fewer-others n tour a) (once-others (suc n) tour h))

pub call-up-to : (places c : ℕ) → places ≤ most_places → is_call places c ≡ true → (1 ≤ c) × (c ≤ 63)
call-up-to places c p t =
    let b = both (leb 1 c) (ltb c places) t in
    (leb-true 1 c b.0, omega (arith, p, ltb-true c places b.1))

-- a tour without a repeat has at most 63 calls
pub tour-few : (places : ℕ) (tour : List ℕ) → is_places places ≡ true → Passes (is_call places) tour → repeats tour ≡ false → length tour ≤ 63
tour-few places tour p a h =
    let few = leb-true places most_places (and_right (leb 1 places) (leb places most_places) p) in
    up-to-few 63 tour (all-imp (λ (c : ℕ). is_call places c ≡ true) _ (λ c t. call-up-to places c few t) tour a) h

-- ---- a tour without a repeat is answered by the other tests alone

-- the list without what is given by this number
abbrev pub but_for : ℕ → List Refusal → List Refusal
but_for n rs = only (λ (r : Refusal). not (eqb n r.number)) rs

pub without-repeat : {F : Type 0} (value : F → Option ℕ) (k : Call) (l : Lent F) → repeats l.tour ≡ false → refusal_of value k l ≡ first_fit (but_for 21 (refusals value k l))
unfolding refusal_of refusals
without-repeat value k l h = rw h

-- and so at the reader, word by word
pub word-without-repeat : (s : State) (i : ℕ) (w : Word) → repeated s w ≡ false → fault_at s i w ≡ first_fit (but_for 21 (faults s i w))
unfolding fault_at
word-without-repeat s i w h = rw h
