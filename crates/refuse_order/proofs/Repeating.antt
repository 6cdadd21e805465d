-- A repeat found by the notes of the customers called is the definitions' own, where there is one for each call. Assumes nothing.
use Prim.Native.Nat.{ℕ, ◌≤◌, ◌<◌}
use native.Mathlib.Omega.{arith}
use mathlib.Core.Path.{◌≡◌, refl, sym, ◌∙◌}
use mathlib.Core.Bool.{Bool, true, false, not}
use mathlib.Core.List.{List, [], ◌∷◌}
use lib.ListN.{length, set, length-set}
use lib.Dec.{leb, ltb}
use borrow.Author.Tests.{ltb-true}
use Rattle.basics.proofs.TestLaws.{and_right}
use Rattle.basics.specs.Lists.{All}
use Rattle.basics.proofs.ListLaws.{all-imp, any-fails, fails-not}
use Rattle.definitions.specs.Domain.{is_call}
use Rattle.definitions.specs.Refusals.{bad_tour, repeats}
use Rattle.theorems.proofs.Ranges.{calls-in-range}
use Rattle.theorems.proofs.Again.{again, again-repeats}
use Rattle.refuse_lists.specs.Called.{none_called, called_twice, Notes}
use Rattle.refuse_lists.proofs.Calling.{none-noted, one-noted}

-- call by call
noted-again : (called : List Bool) (cs tour : List ℕ) → length called ≡ 64 → Notes called cs → All (λ (c : ℕ). c < 64) tour → called_twice called tour ≡ again cs tour
unfolding called_twice
noted-again called cs [] l M a = refl
noted-again called cs (c ∷ tour) l M a =
    rw (M c, noted-again (set called c true) (c ∷ cs) tour (length-set called c true ∙ l) (one-noted called cs c (omega (arith, l, a.0)) M) a.1)

-- there is a note for each call of a tour in range
inside : (places : ℕ) (tour : List ℕ) → places ≤ 64 → bad_tour places tour ≡ false → All (λ (c : ℕ). c < 64) tour
inside places tour few h =
    all-imp (λ (c : ℕ). is_call places c ≡ true) (λ (c : ℕ). c < 64) (λ c t. omega (arith, few, ltb-true c places (and_right (leb 1 c) (ltb c places) t))) tour
    (fails-not (is_call places) tour (any-fails (λ (c : ℕ). not (is_call places c)) tour (calls-in-range places tour h).each))

pub repeats-noted : (places : ℕ) (tour : List ℕ) → places ≤ 64 → bad_tour places tour ≡ false → repeats tour ≡ called_twice none_called tour
repeats-noted places tour few h = sym (noted-again none_called [] tour refl none-noted (inside places tour few h) ∙ again-repeats tour)
