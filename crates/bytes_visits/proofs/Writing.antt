-- Rows written one by one at the front of a lent list. Assumes nothing.
use Prim.Native.Nat.{ℕ, zero, suc, ◌+◌, ◌*◌, ◌≤◌, ◌<◌}
use native.Mathlib.Omega.{arith}
use mathlib.Core.Path.{◌≡◌, refl, sym, ap, ◌∙◌}
use mathlib.Core.List.{List, [], ◌∷◌, ◌++◌, append_assoc}
use lib.ListN.{length, get_or, set, take, length-take, length-append, length-set}
use lib.Seq.{get_or-take}
use Rattle.definitions.specs.Room.{written}
use Rattle.sheet_read.proofs.Fitting.{write-more}
use Rattle.evaluation.proofs.Reading.{get_d_of}
use Rattle.visits.specs.declared.visit.ViolationType.{ViolationType}
use Rattle.visits.specs.declared.visit.ViolationType.TheVariants.{TimeWindowViolated, BreakNotPlaceable, CapacityExceeded, MaxDistanceExceeded, MaxDurationExceeded, WheelchairsExceeded, ClosedLeg}
use Rattle.bytes_visits.specs.Rows.{rows_to, figures_in}

-- what is read of one of the first n elements does not go by what stands beyond
pub read_front : {A B : Type 0} (f : A → B) (e : B) (n : ℕ) (l : List A) (i : ℕ) (d d' : A) → i < length (take n l) → f (get_or (take n l) i d) ≡ f (get_or l i d')
read_front f e n l i d d' h =
    let more : i < n = omega (arith, length-take n l) in
    let inside : i < length l = omega (arith, length-take n l) in ap f (get_or-take n l i d more) ∙ get_d_of f l i d e inside ∙ sym (get_d_of f l i d' e inside)

-- so many elements as the rows before have, where each has `wide`
pub rows-length : {A : Type 0} (row : ℕ → List A) (wide : ℕ) → ((i : ℕ) → length (row i) ≡ wide) → ((n : ℕ) → wide * n + wide ≡ wide * suc n) → wide * 0 ≡ 0
    → (n : ℕ) → length (rows_to row n) ≡ wide * n
unfolding rows_to
rows-length row wide each more none zero = sym none
rows-length row wide each more none (suc n) =
    length-append (rows_to row n) (row n) ∙ ap (λ (m : ℕ). m + length (row n)) (rows-length row wide each more none n) ∙ ap (λ (m : ℕ). wide * n + m) (each n) ∙ more n

module _ {A : Type 0} (old p : List A) (k : ℕ) (many : length p ≡ k) where
  length_more : (a : A) → length (p ++ a ∷ []) ≡ suc k
  length_more a = length-append p (a ∷ []) ∙ omega (arith, many)

  one-row : (a : A) (new : List A) → new ≡ written p old → k < length old → set new k a ≡ written (p ++ a ∷ []) old
  one-row a new e h = ap (λ (l : List A). set l k a) e ∙ write-more old p a k (sym many) h

  two-row : (a b : A) (new : List A) → new ≡ written p old → k + 1 < length old → set (set new k a) (k + 1) b ≡ written (p ++ a ∷ b ∷ []) old
  two-row a b new e h =
      ap (λ (l : List A). set l (k + 1) b) (one-row a new e (omega arith))
      ∙ write-more old (p ++ a ∷ []) b (k + 1) (omega (arith, length_more a)) h
      ∙ ap (λ (l : List A). written l old) (append_assoc p (a ∷ []) (b ∷ []))

  three-row : (a b c : A) (new : List A) → new ≡ written p old → k + 2 < length old → set (set (set new k a) (k + 1) b) (k + 2) c ≡ written (p ++ a ∷ b ∷ c ∷ []) old
  three-row a b c new e h =
      ap (λ (l : List A). set l (k + 2) c) (two-row a b new e (omega arith))
      ∙ write-more old (p ++ a ∷ b ∷ []) c (k + 2) (omega (arith, length-append p (a ∷ b ∷ []), many)) h
      ∙ ap (λ (l : List A). written l old) (append_assoc p (a ∷ b ∷ []) (c ∷ []))

-- ---- loops that write a row at each turn

-- before row number i + 1 of n, in a list with room for all
pub record Rows {A : Type 0} (row : ℕ → List A) (wide n : ℕ) (old new : List A) (i : ℕ) : Type 0 where
  pub within : i ≤ n
  pub room : wide * n ≤ length old
  pub long : length new ≡ length old
  pub rows : new ≡ written (rows_to row i) old

pub begun : {A : Type 0} (row : ℕ → List A) (wide n : ℕ) (old : List A) → wide * n ≤ length old → Rows row wide n old old 0
unfolding rows_to
begun row wide n old h = record { within = omega arith; room = h; long = refl; rows = refl }

-- a row more
next : {A : Type 0} (row : ℕ → List A) (i : ℕ) (r : List A) → r ≡ row i → rows_to row i ++ r ≡ rows_to row (i + 1)
unfolding rows_to
next row i r e = let more : suc i ≡ i + 1 = omega arith in ap (λ (l : List _). rows_to row i ++ l) e ∙ ap (rows_to row) more

module _ {A : Type 0} (row : ℕ → List A) (n : ℕ) (old new : List A) (i : ℕ) where
  pub turn_one : ((j : ℕ) → length (row j) ≡ 1) → (a : A) → a ∷ [] ≡ row i → i < n → Rows row 1 n old new i → Rows row 1 n old (set new i a) (i + 1)
  turn_one each a e h R =
      let many = rows-length row 1 each (λ m. omega arith) (omega arith) i in
      record {
        within = omega arith;
        room = R.room;
        long = length-set new i a ∙ R.long;
        rows = one-row old (rows_to row i) i (omega (arith, many)) a new R.rows (omega (arith, R.room)) ∙ ap (λ (l : List A). written l old) (next row i (a ∷ []) e);
      }

  pub turn_two : ((j : ℕ) → length (row j) ≡ 2) → (a b : A) → a ∷ b ∷ [] ≡ row i → i < n → Rows row 2 n old new i
      → (new' : List A) → new' ≡ set (set new (2 * i) a) (2 * i + 1) b → Rows row 2 n old new' (i + 1)
  turn_two each a b e h R new' q =
      let many = rows-length row 2 each (λ m. omega arith) (omega arith) i in
      record {
        within = omega arith;
        room = R.room;
        long = ap length q ∙ length-set (set new (2 * i) a) (2 * i + 1) b ∙ length-set new (2 * i) a ∙ R.long;
        rows = q ∙ two-row old (rows_to row i) (2 * i) many a b new R.rows (omega (arith, R.room)) ∙ ap (λ (l : List A). written l old) (next row i (a ∷ b ∷ []) e);
      }

  pub turn_three : ((j : ℕ) → length (row j) ≡ 3) → (a b c : A) → a ∷ b ∷ c ∷ [] ≡ row i → i < n → Rows row 3 n old new i
      → (new' : List A) → new' ≡ set (set (set new (3 * i) a) (3 * i + 1) b) (3 * i + 2) c → Rows row 3 n old new' (i + 1)
  turn_three each a b c e h R new' q =
      let many = rows-length row 3 each (λ m. omega arith) (omega arith) i in
      record {
        within = omega arith;
        room = R.room;
        long = ap length q ∙ length-set (set (set new (3 * i) a) (3 * i + 1) b) (3 * i + 2) c ∙ length-set (set new (3 * i) a) (3 * i + 1) b ∙ length-set new (3 * i) a ∙ R.long;
        rows = q ∙ three-row old (rows_to row i) (3 * i) many a b c new R.rows (omega (arith, R.room)) ∙ ap (λ (l : List A). written l old) (next row i (a ∷ b ∷ c ∷ []) e);
      }

  pub ended : (wide : ℕ) → n ≤ i → Rows row wide n old new i → new ≡ written (rows_to row n) old
  ended wide h R = let all : i ≡ n = omega (arith, R.within) in R.rows ∙ ap (λ (j : ℕ). written (rows_to row j) old) all

-- a violation has three figures
pub three-figures : (v : ViolationType) → length (figures_in v) ≡ 3
three-figures (TimeWindowViolated customer arrival due) = refl
three-figures BreakNotPlaceable = refl
three-figures (CapacityExceeded load capacity) = refl
three-figures (MaxDistanceExceeded distance max) = refl
three-figures (MaxDurationExceeded duration max) = refl
three-figures (WheelchairsExceeded load capacity) = refl
three-figures (ClosedLeg leg) = refl
