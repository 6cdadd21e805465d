-- Two tables row by row: after k rows a number is found exactly where one stands in the first k rows of either table. Assumes nothing.
use Prim.Native.Nat.{ℕ, zero, suc, ◌+◌, ◌-◌, ◌*◌, ◌≤◌, ◌<◌, min}
use native.Mathlib.Omega.{arith}
use native.Mathlib.Nat.{zero-mul, suc-mul, add_comm}
use mathlib.Core.Path.{◌≡◌, refl, sym, ap, ap₂, ◌∙◌}
use mathlib.Core.Bool.{Bool, true, false, ◌||◌, or-false}
use mathlib.Core.List.{List, [], ◌∷◌}
use lib.ListN.{length, take, drop, length-drop, drop_of_length-le}
use lib.Seq.{take-add, take_all, take-nil}
use lib.Dec.{leb, eqb}
use borrow.Author.Tests.{leb-true, leb-false, eqb-true}
use Rattle.basics.proofs.TestLaws.{by-test, not-false}
use Rattle.basics.specs.Lists.{is_empty, any}
use Rattle.basics.proofs.ListLaws.{any_append}
use Rattle.definitions.specs.Sheet.{LegsOf, SheetOf}
use Rattle.definitions.specs.Refusals.{tables_odd}
use Rattle.theorems.proofs.Ranges.{tables-even}
use Rattle.refuse_numbers.specs.Rows.{row_finds, rows_find}

-- two pairs of tests, the other way round
cross : (a b c d : Bool) → (a || b) || (c || d) ≡ (a || c) || (b || d)
cross true b c d = refl
cross false true true d = refl
cross false true false d = refl
cross false false c d = refl

module _ {F : Type 0} (p : F → Bool) (size : ℕ) where
  first_rows : (k : ℕ) (l : List F) → any p (take (suc k * size) l) ≡ any p (take size l) || any p (take (k * size) (drop size l))
  first_rows k l =
      ap (λ (n : ℕ). any p (take n l)) (suc-mul k size ∙ add_comm (k * size) size)
      ∙ ap (any p) (take-add size (k * size) l) ∙ any_append p (take size l) (take (k * size) (drop size l))

  -- after k rows a number is found exactly where one stands in the first k rows of either table
  pub rows-so-far : (k : ℕ) (distances times : List F) → rows_find p size k distances times ≡ any p (take (k * size) distances) || any p (take (k * size) times)
  unfolding rows_find
  rows-so-far zero distances times = rw zero-mul
  rows-so-far (suc k) distances times =
      ap (λ (b : Bool). row_finds p size distances times || b) (rows-so-far k (drop size distances) (drop size times))
      ∙ cross (any p (take size distances)) (any p (take size times)) (any p (take (k * size) (drop size distances))) (any p (take (k * size) (drop size times)))
      ∙ ap₂ (λ (a b : Bool). a || b) (sym (first_rows k distances)) (sym (first_rows k times))

  -- what lies behind the k rows doesn't matter: tables that agree in their first k rows give one answer after k rows
  pub rows_agree : (k : ℕ) (distances times distances' times' : List F)
      → take (k * size) distances ≡ take (k * size) distances' → take (k * size) times ≡ take (k * size) times'
      → rows_find p size k distances times ≡ rows_find p size k distances' times'
  rows_agree k distances times distances' times' d t =
      rows-so-far k distances times ∙ ap₂ (λ (a b : List F). any p a || any p b) d t ∙ sym (rows-so-far k distances' times')

  -- an empty time table has no rows
  pub no-times : (k : ℕ) (distances : List F) → rows_find p size k distances [] ≡ any p (take (k * size) distances)
  no-times k distances = rows-so-far k distances [] ∙ rw (take-nil {A = F} (k * size)) (or-false (any p (take (k * size) distances)))

  -- the part of a table up to the end of its first row is that row, or what there is of it
  row : (l : List F) (m : ℕ) → m ≡ min size (length l) → take (m - 0) l ≡ take size l
  row l m e =
      by-test (leb size (length l)) (λ t. let h = leb-true size (length l) t in let s : m - 0 ≡ size = omega arith in rw s)
      (λ f. let h = leb-false size (length l) f in take_all (m - 0) l (omega arith) ∙ sym (take_all size l (omega arith)))

  -- and what lies behind it
  behind : (l : List F) (m : ℕ) → m ≡ min size (length l) → take (length l - m) (drop m l) ≡ drop size l
  behind l m e =
      take_all (length l - m) (drop m l) (omega (arith, length-drop m l))
      ∙ by-test (leb size (length l)) (λ t. let h = leb-true size (length l) t in let s : m ≡ size = omega arith in rw s)
      (λ f. let h = leb-false size (length l) f in let b : length l ≤ m = omega arith in let s : length l ≤ size = omega arith in drop_of_length-le l b ∙ sym (drop_of_length-le l s))

-- ---- a loop over k rows

-- behind i of the k rows: what is left of both tables, and that its rows say what all k say
pub record Left {F : Type 0} (p : F → Bool) (size k : ℕ) (distances times d t : List F) (i : ℕ) : Type 0 where
  pub short-d : length d ≤ length distances
  pub short-t : length t ≤ length times
  pub same : rows_find p size (k - i) d t ≡ rows_find p size k distances times

pub set_out : {F : Type 0} (p : F → Bool) (size k : ℕ) (distances times : List F) → Left p size k distances times distances times 0
set_out p size k distances times = let z : k - 0 ≡ k = omega arith in record { short-d = omega arith; short-t = omega arith; same = rw z }

module _ {F : Type 0} {p : F → Bool} {size k : ℕ} {distances times d t : List F} {i : ℕ} (L : Left p size k distances times d t i) where
  -- what the row of both tables says
  module _ {m n : ℕ} (less : i < k) (m-is : m ≡ min size (length d)) (n-is : n ≡ min size (length t)) where
    row-says : {b : Bool} → any p (take (m - 0) d) || any p (take (n - 0) t) ≡ b → row_finds p size d t ≡ b
    row-says e = rw (sym (row p size d m m-is), sym (row p size t n n-is)) e

    pub found : any p (take (m - 0) d) || any p (take (n - 0) t) ≡ true → true ≡ rows_find p size k distances times
    unfolding rows_find
    found e = let s : k - i ≡ suc (k - (i + 1)) = omega arith in sym (rw (s, row-says e) refl) ∙ L.same

    pub turn : any p (take (m - 0) d) || any p (take (n - 0) t) ≡ false
        → Left p size k distances times (take (length d - m) (drop m d)) (take (length t - n) (drop n t)) (i + 1)
    unfolding rows_find
    turn e =
        record {
          short-d = rw (behind p size d m m-is) (omega (arith, length-drop size d, L.short-d));
          short-t = rw (behind p size t n n-is) (omega (arith, length-drop size t, L.short-t));
          same =
              let s : k - i ≡ suc (k - (i + 1)) = omega arith in
              rw (behind p size d m m-is, behind p size t n n-is) (sym (rw (s, row-says e) refl) ∙ L.same);
        }

  pub ended : k ≤ i → false ≡ rows_find p size k distances times
  unfolding rows_find
  ended h = let z : k - i ≡ 0 = omega arith in sym (rw z refl) ∙ L.same

-- ---- all rows

-- n elements are all, and so are none
all_of : {F : Type 0} (l : List F) (n : ℕ) → eqb (length l) n ≡ true → take n l ≡ l
all_of l n h = take_all n l (omega (arith, eqb-true (length l) n h))

all-or-none : {F : Type 0} (l : List F) (n : ℕ) → is_empty l || eqb (length l) n ≡ true → take n l ≡ l
all-or-none [] n h = take-nil n
all-or-none (x ∷ l) n h = all_of (x ∷ l) n h

module _ {F : Type 0} (s : SheetOf F) (even : tables_odd s ≡ false) where
  abbrev places : ℕ
  places = s.head.places

  abbrev legs : LegsOf F
  legs = s.legs

  all-distances : take (places * places) legs.distances ≡ legs.distances
  all-distances = all_of legs.distances (places * places) (not-false (eqb (length legs.distances) (places * places)) (tables-even s even).distances)

  all-times : take (places * places) legs.times ≡ legs.times
  all-times =
      all-or-none legs.times (places * places)
      (not-false (is_empty legs.times || eqb (length legs.times) (places * places)) (tables-even s even).times)

  -- where each table is places squared long, and an empty time table is none, all rows are both tables
  pub all-rows : (p : F → Bool) → rows_find p places places legs.distances legs.times ≡ any p legs.distances || any p legs.times
  all-rows p = rows-so-far p places places legs.distances legs.times ∙ rw (all-distances, all-times)
