-- The code's list of numbers and its list of tests are one list of refusals. Assumes nothing.
use Prim.Native.Nat.{ℕ}
use mathlib.Core.Path.{◌≡◌, refl, ap, ◌∙◌}
use mathlib.Core.Bool.{Bool}
use mathlib.Core.List.{List, [], ◌∷◌, map}
use Rattle.basics.specs.Options.{value_or}
use Rattle.definitions.specs.Refusal.{Refusal, first_fit}
use Rattle.refuse_lists.specs.First.{in_order}

-- at a list that is written out, both by computation
abbrev pub numbers_of : List Refusal → List ℕ
numbers_of rs = map (λ (r : Refusal). r.number) rs

abbrev pub tests_of : List Refusal → List Bool
tests_of rs = map (λ (r : Refusal). r.fits) rs

both-lists : (rs : List Refusal) → in_order (numbers_of rs) (tests_of rs) ≡ rs
unfolding in_order
both-lists [] = refl
both-lists (r ∷ rs) = ap (λ (l : List Refusal). r ∷ l) (both-lists rs)

pub by_tests : (rs : List Refusal) (n : ℕ) (ns : List ℕ) (bs : List Bool) → n ≡ value_or 0 (first_fit (in_order ns bs)) → ns ≡ numbers_of rs → bs ≡ tests_of rs → n ≡ value_or 0 (first_fit rs)
by_tests rs n ns bs told d e = told ∙ (λ i. value_or 0 (first_fit (in_order (d i) (e i)))) ∙ ap (λ (l : List Refusal). value_or 0 (first_fit l)) (both-lists rs)
