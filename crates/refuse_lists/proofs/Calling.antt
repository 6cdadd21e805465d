-- Notes of the customers called: a call more, along a tour, and what they say of the calls that they are of. Assumes nothing.
use Prim.Native.Nat.{ℕ, zero, suc, ◌+◌, ◌≤◌, ◌<◌}
use native.Mathlib.Numerals.{add-one}
use mathlib.Core.Path.{◌≡◌, refl, sym, ap, subst, ◌∙◌}
use mathlib.Core.Bool.{Bool, true, false, ◌||◌}
use mathlib.Core.List.{List, [], ◌∷◌}
use lib.ListN.{length, get_or, set, drop, replicate, drop_of_length-le}
use lib.Seq.{drop-cons, get_or-set_same, get_or-set_other}
use lib.Dec.{eqb}
use borrow.Author.Tests.{eqb-true, eqb-false}
use Rattle.basics.proofs.TestLaws.{by-test}
use Rattle.refuse_lists.specs.Called.{none_called, called_twice, Notes}

-- ---- along a tour

module _ (tour : List ℕ) (i : ℕ) (called : List Bool) where
  twice-step : i < length tour → called_twice called (drop i tour) ≡ get_or called (get_or tour i 0) false || called_twice (set called (get_or tour i 0) true) (drop (suc i) tour)
  unfolding called_twice
  twice-step h = ap (called_twice called) (drop-cons tour i 0 h)

  pub twice-here : i < length tour → get_or called (get_or tour i 0) false ≡ true → called_twice called (drop i tour) ≡ true
  twice-here h e = twice-step h ∙ rw e refl

  pub twice-on : i < length tour → get_or called (get_or tour i 0) false ≡ false → called_twice (set called (get_or tour i 0) true) (drop (i + 1) tour) ≡ called_twice called (drop i tour)
  twice-on h e = rw (add-one, twice-step h, e)

  pub twice-end : length tour ≤ i → called_twice called (drop i tour) ≡ false
  unfolding called_twice
  twice-end h = rw (drop_of_length-le tour h)

-- ---- the calls that the notes are of

none-there : (n c : ℕ) → get_or (replicate n false) c false ≡ false
none-there zero c = refl
none-there (suc n) zero = refl
none-there (suc n) (suc c) = none-there n c

pub none-noted : Notes none_called []
none-noted c = none-there 64 c

pub one-noted : (called : List Bool) (cs : List ℕ) (c : ℕ) → c < length called → Notes called cs → Notes (set called c true) (c ∷ cs)
one-noted called cs c h M d =
    by-test (eqb d c)
    (λ t. rw t (subst (λ (e : ℕ). get_or (set called c true) e false ≡ true) (sym (eqb-true d c t)) (get_or-set_same called c true false h)))
    (λ f. rw f (get_or-set_other called c d true false (eqb-false d c f) ∙ M d))
