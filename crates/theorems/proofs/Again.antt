-- A repeat found call by call, behind those called before: the same as that the tour has one. Assumes nothing.
use Prim.Native.Nat.{ℕ}
use mathlib.Core.Path.{◌≡◌, refl, sym, subst}
use mathlib.Core.Bool.{Bool, true, false, ◌||◌}
use mathlib.Core.List.{List, [], ◌∷◌}
use lib.Dec.{eqb}
use borrow.Author.Tests.{eqb-true, eq-eqb}
use Rattle.basics.proofs.TestLaws.{by-test, not-both, or_left, or_right, or-false}
use Rattle.basics.specs.Lists.{any, All}
use Rattle.definitions.specs.Reader.{among}
use Rattle.definitions.specs.Refusals.{repeats}

-- behind the calls cs, the last first, some call of the tour is of a customer that was called
abbrev pub again : List ℕ → List ℕ → Bool
again cs [] = false
again cs (c ∷ tour) = among c cs || again (c ∷ cs) tour

-- ---- where the tour has no repeat

-- none of the tour is among cs
abbrev Apart : List ℕ → List ℕ → Type 0
Apart cs tour = All (λ (c : ℕ). among c cs ≡ false) tour

none-called : (tour : List ℕ) → Apart [] tour
none-called [] = tt
none-called (c ∷ tour) = (refl, none-called tour)

-- one more call that does not stand in the tour
apart_more : (c : ℕ) (cs tour : List ℕ) → any (λ (d : ℕ). eqb c d) tour ≡ false → Apart cs tour → Apart (c ∷ cs) tour
apart_more c cs [] h a = tt
apart_more c cs (d ∷ tour) h a =
    let more = any (λ (e : ℕ). eqb c e) tour in
    (or-false (eqb d c) (among d cs) (turned (or_left (eqb c d) more h)) a.0, apart_more c cs tour (or_right (eqb c d) more h) a.1)
  where
    turned : eqb c d ≡ false → eqb d c ≡ false
    turned f = by-test (eqb d c) (λ t. not-both (eqb c d) (eq-eqb c d (sym (eqb-true d c t))) f) (λ g. g)

once-not-again : (cs tour : List ℕ) → repeats tour ≡ false → Apart cs tour → again cs tour ≡ false
once-not-again cs [] h a = refl
once-not-again cs (c ∷ tour) h a =
    let here = any (λ (d : ℕ). eqb c d) tour in
    or-false (among c cs) _ a.0 (once-not-again (c ∷ cs) tour (or_right here (repeats tour) h) (apart_more c cs tour (or_left here (repeats tour) h) a.1))

-- ---- where none is called again

-- a call among cs does not stand in the tour
called-once : (c : ℕ) (cs tour : List ℕ) → among c cs ≡ true → again cs tour ≡ false → any (λ (d : ℕ). eqb c d) tour ≡ false
called-once c cs [] h f = refl
called-once c cs (d ∷ tour) h f =
    let fresh = or_left (among d cs) (again (d ∷ cs) tour) f in
    or-false (eqb c d) _
    (by-test (eqb c d) (λ t. not-both (among d cs) (subst (λ (e : ℕ). among e cs ≡ true) (eqb-true c d t) h) fresh) (λ g. g))
    (called-once c (d ∷ cs) tour (by-test (eqb c d) (λ t. rw t refl) (λ g. rw g h)) (or_right (among d cs) (again (d ∷ cs) tour) f))

not-again-once : (cs tour : List ℕ) → again cs tour ≡ false → repeats tour ≡ false
not-again-once cs [] f = refl
not-again-once cs (c ∷ tour) f =
    let more = or_right (among c cs) (again (c ∷ cs) tour) f in
    or-false (any (λ (d : ℕ). eqb c d) tour) _ (called-once c (c ∷ cs) tour (rw (eq-eqb c c refl) refl) more) (not-again-once (c ∷ cs) tour more)

-- ---- the same

same-where-false : (a b : Bool) → (a ≡ false → b ≡ false) → (b ≡ false → a ≡ false) → a ≡ b
same-where-false false b f g = sym (f refl)
same-where-false true false f g = g refl
same-where-false true true f g = refl

pub again-repeats : (tour : List ℕ) → again [] tour ≡ repeats tour
again-repeats tour = same-where-false (again [] tour) (repeats tour) (not-again-once [] tour) (λ h. once-not-again [] tour h (none-called tour))
