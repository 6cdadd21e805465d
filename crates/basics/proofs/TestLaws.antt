-- Tests: what follows where one holds or fails. Assumes nothing.
use mathlib.Core.Path.{◌≡◌, refl, sym, ◌∙◌}
use mathlib.Core.Bool.{Bool, true, false, ◌&&◌, ◌||◌, not, true≢false, false≢true}
use mathlib.Core.List.{List, [], ◌∷◌}
use Rattle.basics.specs.Tests.{either, Falses}

-- by whether the test holds
pub by-test {ℓ} : {A : Type ℓ} (b : Bool) → (b ≡ true → A) → (b ≡ false → A) → A
by-test true y n = y refl
by-test false y n = n refl

pub not-both : (b : Bool) {A : Type 0} → b ≡ true → b ≡ false → A
not-both b p q = absurd (true≢false (sym p ∙ q))

-- two tests of which each holds where the other does are one
pub same_test : (s t : Bool) → (s ≡ true → t ≡ true) → (t ≡ true → s ≡ true) → s ≡ t
same_test true t f g = sym (f refl)
same_test false true f g = g refl
same_test false false f g = refl

-- ---- both, either, not

pub both : (a b : Bool) → a && b ≡ true → (a ≡ true) × (b ≡ true)
both true b h = (refl, h)
both false b h = absurd (false≢true h)

pub and-true : (a b : Bool) → a ≡ true → b ≡ true → a && b ≡ true
and-true a b p q = rw (p, q)

pub and_left : (a b : Bool) → a && b ≡ true → a ≡ true
and_left a b h = (both a b h).0

pub and_right : (a b : Bool) → a && b ≡ true → b ≡ true
and_right a b h = (both a b h).1

pub or_left : (a b : Bool) → a || b ≡ false → a ≡ false
or_left true b h = h
or_left false b h = refl

pub or_right : (a b : Bool) → a || b ≡ false → b ≡ false
or_right true b h = absurd (true≢false h)
or_right false b h = h

pub or-false : (a b : Bool) → a ≡ false → b ≡ false → a || b ≡ false
or-false a b p q = rw p q

pub not-false : (a : Bool) → not a ≡ false → a ≡ true
not-false true h = refl
not-false false h = absurd (true≢false h)

pub not-true : (a : Bool) → not a ≡ true → a ≡ false
not-true true h = absurd (false≢true h)
not-true false h = refl

pub not-of-true : (a : Bool) → a ≡ true → not a ≡ false
not-of-true a h = rw h refl

-- ---- several tests

pub falses : (bs : List Bool) → either bs ≡ false → Falses bs
falses [] h = tt
falses (b ∷ bs) h = (or_left b (either bs) h, falses bs (or_right b (either bs) h))

pub of-falses : (bs : List Bool) → Falses bs → either bs ≡ false
of-falses [] h = refl
of-falses (b ∷ bs) h = or-false b (either bs) h.0 (of-falses bs h.1)
