-- Where no customer asks for a wheelchair place, seats alone decide, whatever the second capacity is: of what fits, what is marked and what is reported. Assumes nothing.
use Prim.Native.Nat.{ℕ}
use native.Mathlib.Omega.{arith}
use mathlib.Core.Path.{◌≡◌, refl, sym, ◌∙◌}
use mathlib.Core.Bool.{Bool, true, false, ◌&&◌}
use mathlib.Core.List.{List, [], ◌∷◌, append-nil}
use borrow.Author.Tests.{le-leb}
use Rattle.definitions.specs.Load.{Load, seated, wheeled}
use Rattle.definitions.specs.Sheet.{Sheet, customer}
use Rattle.definitions.specs.Run.{load, fits}
use Rattle.definitions.specs.Marker.{overload, overload_of}
use Rattle.definitions.specs.Visits.{over_capacity, unless, overloads}

-- a test beside one that holds
beside : (a b : Bool) → b ≡ true → a && b ≡ a
beside true b h = h
beside false b h = refl

module _ (s : Sheet) (unasked : (c : ℕ) → (customer s c).demand.wheelchairs ≡ 0) where
  no-second-load : (calls : List ℕ) → (load s calls).wheelchairs ≡ 0
  no-second-load [] = refl
  no-second-load (c ∷ cs) = omega (arith, unasked c, no-second-load cs)

  second_fits : (calls : List ℕ) (capacity : Load) → wheeled (load s calls) capacity ≡ true
  second_fits calls capacity = le-leb (load s calls).wheelchairs capacity.wheelchairs (omega (arith, no-second-load calls))

  pub seats-alone : (calls : List ℕ) → fits s calls ≡ seated (load s calls) s.head.capacity
  seats-alone calls = beside (seated (load s calls) s.head.capacity) _ (second_fits calls s.head.capacity)

  pub seats-marked : (n : ℕ) (calls : List ℕ) → fits s calls ≡ false
      → overload_of n (load s calls) s.head.capacity ≡ overload n (load s calls).seats s.head.capacity.seats
  seats-marked n calls h = let e = sym (seats-alone calls) ∙ h in rw e refl

  pub seats-reported : (calls : List ℕ) (capacity : Load)
      → overloads (load s calls) capacity ≡ unless (seated (load s calls) capacity) (over_capacity (load s calls).seats capacity.seats)
  seats-reported calls capacity = rw (second_fits calls capacity) (append-nil (unless (seated (load s calls) capacity) (over_capacity (load s calls).seats capacity.seats)))
