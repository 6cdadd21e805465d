-- Refusals in order, whatever stands in the list: the test of a number, no number given, and two lists that give the same. Assumes nothing.
use Prim.Native.Nat.{ℕ}
use mathlib.Core.Path.{◌≡◌, refl, sym, ap, ◌∙◌}
use mathlib.Core.Bool.{Bool, true, false, cond, true≢false}
use mathlib.Core.List.{List, [], ◌∷◌}
use Rattle.std.specs.Prelude.{Option, None, Some}
use lib.Dec.{eqb, ltb}
use Rattle.basics.proofs.TestLaws.{by-test, both}
use Rattle.basics.proofs.OptionLaws.{clash}
use Rattle.basics.specs.Options.{value_or}
use Rattle.basics.specs.Lists.{all, All}
use Rattle.definitions.specs.Refusal.{Refusal, first_fit}

-- ---- by number

-- the test of this number: at a list that is written out it computes, wherever the number stands
abbrev pub test_of : ℕ → List Refusal → Bool
test_of n [] = false
test_of n (r ∷ rs) = cond (eqb n r.number) r.fits (test_of n rs)

-- where no number is given the test of each fails
pub none-fits : (rs : List Refusal) → first_fit rs ≡ None → (n : ℕ) → test_of n rs ≡ false
none-fits [] h n = refl
none-fits (r ∷ rs) h n =
    by-test r.fits
    (λ t. clash (sym (rw t at h)))
    (λ f. by-test (eqb n r.number) (λ e. rw (e, f)) (λ e. rw e (none-fits rs (rw f at h) n)))

-- and where all fail none is given
pub fits-none : (rs : List Refusal) → All (λ (r : Refusal). r.fits ≡ false) rs → first_fit rs ≡ None
fits-none [] a = refl
fits-none (r ∷ rs) a = rw a.0 (fits-none rs a.1)

-- ---- the number as code gives it, 0 for none

-- every number is above 0: at a list that is written out, by computation
abbrev pub numbered : List Refusal → Bool
numbered rs = all (λ (r : Refusal). ltb 0 r.number) rs

pub zero-none : (rs : List Refusal) → numbered rs ≡ true → value_or 0 (first_fit rs) ≡ 0 → first_fit rs ≡ None
zero-none [] a h = refl
zero-none (r ∷ rs) a h =
    let b = both (ltb 0 r.number) (numbered rs) a in
    by-test r.fits
    (λ y. let e : r.number ≡ 0 = (rw y at h) in absurd (true≢false (sym b.0 ∙ ap (ltb 0) e)))
    (λ n. rw n (zero-none rs b.1 (rw n at h)))

pub number-given : (rs : List Refusal) (n : ℕ) → n ≡ value_or 0 (first_fit rs) → (n ≡ 0 → ⊥) → first_fit rs ≡ Some n
number-given rs n told z = go (first_fit rs) told
  where
    go : (o : Option ℕ) → n ≡ value_or 0 o → o ≡ Some n
    go None e = absurd (z e)
    go (Some m) e = ap Some (sym e)

-- ---- two lists

-- where each test fails that was made before
abbrev pub Made : List Refusal → Type 0
Made before = (n : ℕ) → test_of n before ≡ false

-- number by number the same, and each test that of the other list where those made before fail
abbrev pub Agree : List Refusal → List Refusal → List Refusal → Type 0
Agree before [] [] = Unit {0}
Agree before [] (s ∷ ss) = ⊥
Agree before (r ∷ rs) [] = ⊥
Agree before (r ∷ rs) (s ∷ ss) = ((r.number ≡ s.number) × (Made before → r.fits ≡ s.fits)) × Agree (r ∷ before) rs ss

agree-from : (before rs ss : List Refusal) → Agree before rs ss → Made before → first_fit rs ≡ first_fit ss
agree-from before [] [] a m = refl
agree-from before [] (s ∷ ss) a m = absurd a
agree-from before (r ∷ rs) [] a m = absurd a
agree-from before (r ∷ rs) (s ∷ ss) a m =
    let same = a.0.1 m in
    by-test r.fits
    (λ t. rw (t, sym same ∙ t) (ap Some a.0.0))
    (λ f. rw (f, sym same ∙ f) (agree-from (r ∷ before) rs ss a.1 (λ n. by-test (eqb n r.number) (λ e. rw (e, f)) (λ e. rw e (m n)))))

pub agree : (rs ss : List Refusal) → Agree [] rs ss → first_fit rs ≡ first_fit ss
agree rs ss a = agree-from [] rs ss a (λ n. refl)

-- ---- a fact for each number, in order, the last `tt`

infixr 20 ◌also◌
pub ◌also◌ : {A B : Type 0} → A → B → A × B
a also b = (a, b)
