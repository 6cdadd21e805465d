-- Laws of padded lists, of lists written into one another, and of reading. Assumes nothing.
use mathlib.Core.Path.{◌≡◌, refl, sym, ap, ◌∙◌}
use Prim.Native.Nat.{ℕ, zero, suc, ◌+◌, ◌<◌, ◌≤◌, min}
use native.Mathlib.Omega.{arith}
use native.Mathlib.Decide.{dec_le}
use native.Mathlib.Nat.{not-suc-le-zero, le_of_suc-le-suc}
use native.Mathlib.Numerals.{add-one}
use mathlib.Core.List.{List, [], ◌∷◌, ◌++◌}
use lib.ListN.{length, get_or, set, take, drop, replicate}
use lib.Seq.{take_all, take-length}
use Rattle.definitions.specs.Room.{written}
use Rattle.models.specs.Records.{depot_record}
use Rattle.lending.specs.Padding.{padded}
use Rattle.models.specs.declared.customer.Customer.{Customer}

-- ---- padded lists

pub padded-length : (k : ℕ) (xs : List Customer) → length (padded k xs) ≡ k
unfolding padded
padded-length zero xs = refl
padded-length (suc k) [] = ap suc (padded-length k [])
padded-length (suc k) (x ∷ xs) = ap suc (padded-length k xs)

padded-none : (k : ℕ) → replicate k depot_record ≡ padded k []
unfolding padded
padded-none zero = refl
padded-none (suc k) = ap (λ (l : List Customer). depot_record ∷ l) (padded-none k)

-- the first records of a padded list are the list's
pub take-padded : (n k : ℕ) (xs : List Customer) → n ≤ k → n ≤ length xs → take n (padded k xs) ≡ take n xs
unfolding padded
take-padded zero k xs l m = refl
take-padded (suc n) zero xs l m = absurd (not-suc-le-zero l)
take-padded (suc n) (suc k) [] l m = absurd (not-suc-le-zero m)
take-padded (suc n) (suc k) (x ∷ xs) l m = ap (λ (l : List Customer). x ∷ l) (take-padded n k xs (le_of_suc-le-suc l) (le_of_suc-le-suc m))

-- at most k records: all are there
pub padded-whole : (k : ℕ) (xs : List Customer) → length xs ≤ k → take (length xs) (padded k xs) ≡ xs
padded-whole k xs l = take-padded (length xs) k xs l (omega arith) ∙ take-length xs

-- the first n of xs before what an array of depot records has behind its first n: all of xs, or as many as the array has
pub padded-written : (n k : ℕ) (xs : List Customer) → n ≡ min (length xs) k → take n xs ++ drop n (replicate k depot_record) ≡ padded k xs
unfolding padded
padded-written zero zero xs e = refl
padded-written zero (suc k) [] e = padded-none (suc k)
padded-written zero (suc k) (x ∷ xs) e = absurd (omega arith)
padded-written (suc n) zero xs e = absurd (omega arith)
padded-written (suc n) (suc k) [] e = absurd (omega arith)
padded-written (suc n) (suc k) (x ∷ xs) e = ap (λ (l : List Customer). x ∷ l) (padded-written n k xs (omega arith))

-- ---- any list

module _ {X : Type 0} where
  -- the first n of xs at the front of ys
  unfoldable pub front : ℕ → List X → List X → List X
  front n xs ys = written (take n xs) ys

  front-next : (i : ℕ) (xs ys : List X) (d : X) → i < length xs → i < length ys → set (front i xs ys) i (get_or xs i d) ≡ front (suc i) xs ys
  unfolding front
  front-next i [] ys d l m = absurd (not-suc-le-zero l)
  front-next i (x ∷ xs) [] d l m = absurd (not-suc-le-zero m)
  front-next zero (x ∷ xs) (y ∷ ys) d l m = refl
  front-next (suc i) (x ∷ xs) (y ∷ ys) d l m = ap (λ (l : List X). x ∷ l) (front-next i xs ys d (le_of_suc-le-suc l) (le_of_suc-le-suc m))

  -- one element more
  pub front-more : (i : ℕ) (xs ys : List X) (d : X) → i < length xs → i < length ys → set (front i xs ys) i (get_or xs i d) ≡ front (i + 1) xs ys
  front-more i xs ys d l m = front-next i xs ys d l m ∙ ap (λ (j : ℕ). front j xs ys) (sym (add-one i))

  pub front-all : (i n : ℕ) (xs ys : List X) → i ≡ min (min n (length xs)) (length ys) → front i xs ys ≡ written (take (min n (length ys)) xs) ys
  unfolding front
  front-all i n xs ys e = ap (λ (l : List X). written l ys) (ends (dec_le (length xs) i))
    where
      ends : Dec (length xs ≤ i) → take i xs ≡ take (min n (length ys)) xs
      ends (yes l) = take_all i xs l ∙ sym (take_all (min n (length ys)) xs (omega (arith, e, l)))
      ends (no l) = let same : i ≡ min n (length ys) = omega (arith, e, l) in ap (λ (j : ℕ). take j xs) same

  -- where there is room for n
  pub written-room : (n : ℕ) (xs ys : List X) → n ≤ length ys → written (take (min n (length ys)) xs) ys ≡ written (take n xs) ys
  written-room n xs ys l = let same : min n (length ys) ≡ n = omega (arith, l) in ap (λ (j : ℕ). written (take j xs) ys) same
