-- On a sheet within the limits that closes no leg, held in floats, each number of the leg tables is a length, and the distance of a leg is the
-- whole-number one. Assumes nothing.
use Prim.Native.Nat.{ℕ, ◌+◌, ◌*◌, ◌≤◌}
use native.Mathlib.Omega.{arith}
use mathlib.Core.Path.{◌≡◌, refl, sym, ap, subst, ◌∙◌}
use mathlib.Core.Bool.{Bool, true, false, cond, not, ◌||◌}
use mathlib.Core.List.{List, [], ◌∷◌, map}
use Rattle.std.specs.Prelude.{Some, option_map}
use lib.ListN.{length, get_or}
use borrow.Author.Tests.{leb-true}
use Rattle.basics.proofs.TestLaws.{or_left, or_right, or-false}
use Rattle.basics.proofs.ListLaws.{any-fails, all_get_d}
use Rattle.basics.specs.Options.{given, value_or}
use Rattle.basics.specs.Lists.{All, any}
use Rattle.definitions.specs.Domain.{most_number, is_number, is_closed, closed_apart}
use Rattle.definitions.specs.Sheet.{Sheet, time_table}
use Rattle.definitions.specs.Improver.{open_leg}
use Rattle.definitions.specs.Refusals.{disagree, closures_differ, any_closed}
use Rattle.bounds.specs.Sized.{Small, LegNumber, Sized, Place}
use Rattle.bounds.proofs.Inside.{distance-inside}
use Rattle.whole.specs.Whole.{fl}
use Rattle.distance.proofs.Exact.{number-exact, road-exact}
use Rattle.evaluation.specs.Records.{Tables}
use Rattle.evaluation.specs.Image.{Image}
use Rattle.improve_base.specs.Leg.{AllOpen, distance_f}

-- a number of a leg table that is not that of a closed leg is a length
length-small : (n : ℕ) → LegNumber n → is_closed n ≡ false → Small n
length-small n l f = leb-true n most_number (kept (is_number n) (subst (λ (b : Bool). is_number n || b ≡ true) f l))
  where
    kept : (a : Bool) → a || false ≡ true → a ≡ true
    kept true e = refl
    kept false e = e

all_small : (l : List ℕ) → All LegNumber l → any is_closed l ≡ false → All Small l
all_small [] a h = tt
all_small (n ∷ l) a h = (length-small n a.0 (or_left (is_closed n) (any is_closed l) h), all_small l a.1 (or_right (is_closed n) (any is_closed l) h))

-- held in a float it is one too
all-open : (l : List ℕ) → All LegNumber l → any is_closed l ≡ false → AllOpen (map fl l)
unfolding AllOpen
all-open [] a h = tt
all-open (n ∷ l) a h =
    let f = or_left (is_closed n) (any is_closed l) h in
    (road-exact n (omega (arith, length-small n a.0 f)) ∙ ap (λ (b : Bool). option_map fl (given (not b) n)) f, all-open l a.1 (or_right (is_closed n) (any is_closed l) h))

-- where both tables close the same legs, a time table closes none either
times-open : (ds ts : List ℕ) → length ts ≤ length ds → disagree Some ds ts ≡ false → any is_closed ds ≡ false → any is_closed ts ≡ false
times-open ds [] l a h = refl
times-open [] (t ∷ ts) l a h = absurd (omega arith)
times-open (d ∷ ds) (t ∷ ts) l a h =
    or-false (is_closed t) (any is_closed ts)
    (subst (λ (b : Bool). cond b (not (is_closed t)) (is_closed t) ≡ false) (or_left (is_closed d) (any is_closed ds) h) (or_left (closed_apart d t) (disagree Some ds ts) a))
    (times-open ds ts (omega arith) (or_right (closed_apart d t) (disagree Some ds ts) a) (or_right (is_closed d) (any is_closed ds) h))

-- a time table of its own, by what is known of the one in use
own-legs : (ds ts : List ℕ) → All LegNumber (time_table ds ts) → All LegNumber ts
own-legs ds [] a = tt
own-legs ds (t ∷ ts) a = a

own-length : (ds ts : List ℕ) → length (time_table ds ts) ≡ length ds → length ts ≤ length ds
own-length ds [] e = omega arith
own-length ds (t ∷ ts) e = omega arith

module _ (s : Sheet) (S : Sized s) (O : any_closed Some s.legs ≡ false) where
  none-closed : any is_closed s.legs.distances ≡ false
  unfolding any_closed
  none-closed = O

  pub distances-small : All Small s.legs.distances
  distances-small = all_small s.legs.distances S.distances-legs none-closed

  module _ (t : Tables) (I : Image s t) where
    pub distance-exact : (a b : ℕ) → Place s a → Place s b → distance_f t a b ≡ fl (open_leg s a b)
    distance-exact a b p q =
        let n : ℕ = get_or s.legs.distances (a * s.head.places + b) 0 in
        let f : is_closed n ≡ false = all_get_d (λ (m : ℕ). is_closed m ≡ false) s.legs.distances (a * s.head.places + b) 0 (any-fails is_closed s.legs.distances none-closed) refl in
        rw (I.distances-are, I.size_is) (number-exact s.legs.distances s.head.places a b p q (distance-inside s S a b p q))
        ∙ ap (λ (b : Bool). fl (value_or 0 (given (not b) n))) (sym f)

    -- so both tables are as the improvers ask for them
    pub tables-open : closures_differ Some s.legs ≡ false → AllOpen t.distances × AllOpen t.times
    unfolding closures_differ
    tables-open alike =
        let ds = s.legs.distances in
        let ts = s.legs.times in
        let short = own-length ds ts (S.times-all ∙ sym S.distances-all) in (
          rw I.distances-are (all-open ds S.distances-legs none-closed),
          rw I.times-are (all-open ts (own-legs ds ts S.times-legs) (times-open ds ts short alike none-closed)),
        )
