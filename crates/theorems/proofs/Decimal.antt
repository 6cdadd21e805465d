-- The decimal text of a number: read again it is the number, and it has digits only. Assumes nothing.
use Prim.Native.Nat.{ℕ, zero, suc, ◌+◌, ◌-◌, ◌*◌, ◌/◌, ◌%◌, ◌≤◌, ◌<◌}
use Prim.Native.Char.{code}
use native.Mathlib.Nat.{not-suc-le-zero, zero-add, div-add-mod'}
use native.Mathlib.Omega.{arith}
use mathlib.Core.Path.{◌≡◌, refl, ap, ◌∙◌}
use mathlib.Core.Bool.{true}
use mathlib.Core.List.{List, [], ◌∷◌, ◌++◌}
use lib.Dec.{ltb}
use borrow.Author.Tests.{ltb-true, ltb-false, le-leb}
use Rattle.basics.proofs.TestLaws.{by-test, and-true}
use Rattle.basics.specs.Lists.{Passes}
use Rattle.basics.proofs.ListLaws.{all_append}
use Rattle.definitions.specs.Listing.{digits_in, decimal, is_digit}

-- the number that digits say, behind those that said a
abbrev pub value_from : ℕ → List ℕ → ℕ
value_from a [] = a
value_from a (d ∷ ds) = value_from (a * 10 + (d - code "0")) ds

value-append : (a : ℕ) (xs ys : List ℕ) → value_from a (xs ++ ys) ≡ value_from (value_from a xs) ys
value-append a [] ys = refl
value-append a (d ∷ ds) ys = value-append (a * 10 + (d - code "0")) ds ys

digits_value : (turns n : ℕ) → n < turns → value_from 0 (digits_in turns n) ≡ n
unfolding digits_in
digits_value zero n h = absurd (not-suc-le-zero h)
digits_value (suc turns) n h =
    by-test (ltb n 10) (λ t. rw t (last 0 n ∙ zero-add n))
    (λ f. let g = ltb-false n 10 f in rw f (more (digits_value turns (n / 10) (fewer g))))
  where
    last : (a d : ℕ) → a * 10 + (code "0" + d - code "0") ≡ a * 10 + d
    last a d = omega arith

    fewer : 10 ≤ n → n / 10 < turns
    fewer g = omega arith

    more : value_from 0 (digits_in turns (n / 10)) ≡ n / 10 → value_from 0 (digits_in turns (n / 10) ++ ((code "0" + n % 10) ∷ [])) ≡ n
    more e =
        value-append 0 (digits_in turns (n / 10)) ((code "0" + n % 10) ∷ [])
        ∙ last (value_from 0 (digits_in turns (n / 10))) (n % 10)
        ∙ ap (λ (a : ℕ). a * 10 + n % 10) e
        ∙ div-add-mod' n 10

-- read again it is the number
pub decimal-value : (n : ℕ) → value_from 0 (decimal n) ≡ n
decimal-value n = digits_value (suc n) n (omega arith)

digit : (d : ℕ) → d < 10 → is_digit (code "0" + d) ≡ true
digit d h = and-true _ _ (le-leb (code "0") (code "0" + d) (omega arith)) (le-leb (code "0" + d) (code "9") (omega arith))

digits_in_lem : (turns n : ℕ) → Passes is_digit (digits_in turns n)
unfolding digits_in
digits_in_lem zero n = tt
digits_in_lem (suc turns) n =
    by-test (ltb n 10) (λ t. rw t (digit n (ltb-true n 10 t), tt))
    (λ f. rw f (all_append (λ (d : ℕ). is_digit d ≡ true) (digits_in turns (n / 10)) ((code "0" + n % 10) ∷ []) (digits_in_lem turns (n / 10)) (digit (n % 10) (omega arith), tt)))

-- and it has digits only
pub decimal-digits : (n : ℕ) → Passes is_digit (decimal n)
decimal-digits n = digits_in_lem (suc n) n
