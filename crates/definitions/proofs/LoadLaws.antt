-- Laws of loads: a load is added call by call, the same calls have the same load, and a vehicle that carries a load carries each part of it. Assumes nothing.
use Prim.Native.Nat.{ℕ, ◌+◌, ◌≤◌}
use native.Mathlib.Omega.{arith}
use native.Mathlib.Nat.{zero-add, add-zero, add_assoc}
use mathlib.Core.Path.{◌≡◌, refl, sym, ap, ◌∙◌}
use mathlib.Core.Bool.{true, false, false≢true}
use mathlib.Core.List.{List, [], ◌∷◌, ◌++◌}
use lib.Dec.{leb}
use borrow.Author.Tests.{leb-true, le-leb}
use Rattle.basics.proofs.TestLaws.{by-test, and_left, and_right, and-true}
use Rattle.basics.specs.Lists.{Same}
use Rattle.definitions.specs.Load.{Load, no_load, plus, seated, wheeled, carried, each_of, load_by, fits_by}

pub none-plus : (a : Load) → plus no_load a ≡ a
none-plus a = λ i. record { seats = zero-add a.seats i; wheelchairs = zero-add a.wheelchairs i }

pub plus_none : (a : Load) → plus a no_load ≡ a
plus_none a = λ i. record { seats = add-zero a.seats i; wheelchairs = add-zero a.wheelchairs i }

pub plus_assoc : (a b c : Load) → plus (plus a b) c ≡ plus a (plus b c)
plus_assoc a b c =
    λ i. record { seats = add_assoc a.seats b.seats c.seats i; wheelchairs = add_assoc a.wheelchairs b.wheelchairs c.wheelchairs i }

-- an empty vehicle is carried by every one
pub none-carried : (k : Load) → carried no_load k ≡ true
none-carried k = and-true (seated no_load k) (wheeled no_load k) (le-leb 0 k.seats (omega arith)) (le-leb 0 k.wheelchairs (omega arith))

-- what holds two amounts together holds each
first-held : (a b k : ℕ) → leb (a + b) k ≡ true → leb a k ≡ true
first-held a b k h = let s = leb-true (a + b) k h in le-leb a k (omega arith)

second-held : (a b k : ℕ) → leb (a + b) k ≡ true → leb b k ≡ true
second-held a b k h = let s = leb-true (a + b) k h in le-leb b k (omega arith)

-- a vehicle that carries two loads together carries each
pub carried_first : (a b k : Load) → carried (plus a b) k ≡ true → carried a k ≡ true
carried_first a b k h =
    let ab = plus a b in
    and-true (seated a k) (wheeled a k)
    (first-held a.seats b.seats k.seats (and_left (seated ab k) (wheeled ab k) h))
    (first-held a.wheelchairs b.wheelchairs k.wheelchairs (and_right (seated ab k) (wheeled ab k) h))

pub carried-second : (a b k : Load) → carried (plus a b) k ≡ true → carried b k ≡ true
carried-second a b k h =
    let ab = plus a b in
    and-true (seated b k) (wheeled b k)
    (second-held a.seats b.seats k.seats (and_left (seated ab k) (wheeled ab k) h))
    (second-held a.wheelchairs b.wheelchairs k.wheelchairs (and_right (seated ab k) (wheeled ab k) h))

-- and one that does not carry the first does not carry both
pub over_first : (a b k : Load) → carried a k ≡ false → carried (plus a b) k ≡ false
over_first a b k h = by-test (carried (plus a b) k) (λ t. absurd (false≢true (sym h ∙ carried_first a b k t))) (λ f. f)

-- the same calls, in whatever order, have the same load
pub load_same : (demand : ℕ → Load) (xs ys : List ℕ) → Same xs ys → load_by demand xs ≡ load_by demand ys
load_same demand xs ys e = λ i. record { seats = e (λ c. (demand c).seats) i; wheelchairs = e (λ c. (demand c).wheelchairs) i }

-- by equal demands
pub load-by : (d d' : ℕ → Load) (calls : List ℕ) → ((c : ℕ) → d c ≡ d' c) → load_by d calls ≡ load_by d' calls
load-by d d' [] e = refl
load-by d d' (c ∷ cs) e = λ i. plus (e c i) (load-by d d' cs e i)

-- one call's
pub load_one : (demand : ℕ → Load) (c : ℕ) → load_by demand (c ∷ []) ≡ demand c
load_one demand c = λ i. record { seats = add-zero (demand c).seats i; wheelchairs = add-zero (demand c).wheelchairs i }

-- with one call more behind them
pub load-more : (demand : ℕ → Load) (calls : List ℕ) (c : ℕ) → load_by demand (calls ++ (c ∷ [])) ≡ plus (load_by demand calls) (demand c)
load-more demand [] c = load_one demand c ∙ sym (none-plus (demand c))
load-more demand (x ∷ calls) c = ap (plus (demand x)) (load-more demand calls c) ∙ sym (plus_assoc (demand x) (load_by demand calls) (demand c))

-- a run that fits is one whose first call fits alone, and the rest
pub fits-first : (demand : ℕ → Load) (k : Load) (c : ℕ) (cs : List ℕ) → fits_by demand k (c ∷ cs) ≡ true → fits_by demand k (c ∷ []) ≡ true
fits-first demand k c cs h = ap (λ (l : Load). carried l k) (load_one demand c) ∙ carried_first (demand c) (load_by demand cs) k h

pub fits-rest : (demand : ℕ → Load) (k : Load) (c : ℕ) (cs : List ℕ) → fits_by demand k (c ∷ cs) ≡ true → fits_by demand k cs ≡ true
fits-rest demand k c cs h = carried-second (demand c) (load_by demand cs) k h

-- ---- a load of at most n in each measure

pub record AtMost (n : ℕ) (load : Load) : Type 0 where
  pub seats : load.seats ≤ n
  pub wheelchairs : load.wheelchairs ≤ n

pub none-most : AtMost 0 no_load
none-most = record { seats = omega arith; wheelchairs = omega arith }

pub plus-most : (m n : ℕ) (a b : Load) → AtMost m a → AtMost n b → AtMost (m + n) (plus a b)
plus-most m n a b p q = record { seats = omega (arith, p.seats, q.seats); wheelchairs = omega (arith, p.wheelchairs, q.wheelchairs) }

pub most-more : (m n : ℕ) (a : Load) → m ≤ n → AtMost m a → AtMost n a
most-more m n a h p = record { seats = omega (arith, p.seats); wheelchairs = omega (arith, p.wheelchairs) }

pub tested-most : (n : ℕ) (a : Load) → each_of (λ (x : ℕ). leb x n) a ≡ true → AtMost n a
tested-most n a h =
    let first = leb a.seats n in
    let second = leb a.wheelchairs n in
    record { seats = leb-true a.seats n (and_left first second h); wheelchairs = leb-true a.wheelchairs n (and_right first second h) }
