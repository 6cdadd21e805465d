-- Tables that close no leg: a lookup finds a length, and a leg by both tables can be driven. Assumes nothing.
use Prim.Native.Nat.{ℕ, ◌+◌, ◌*◌, ◌<◌}
use native.Mathlib.Omega.{arith}
use mathlib.Core.Path.{◌≡◌, refl, ap, ◌∙◌}
use mathlib.Core.Bool.{false, ◌&&◌}
use mathlib.Core.List.{List, [], ◌∷◌}
use Rattle.std.specs.Prelude.{Some}
use lib.ListN.{length, get_or}
use lib.Dec.{ltb}
use lib.Ieee as Ieee
use lib.Ieee.{Float, inf, nan}
use Rattle.basics.specs.Lists.{any}
use Rattle.basics.proofs.TestLaws.{by-test, or_left, or_right}
use Rattle.basics.proofs.ListLaws.{all_get_d}
use Rattle.definitions.specs.Sheet.{time_table}
use Rattle.whole.specs.Whole.{fl}
use Rattle.distance.specs.Lookup.{is_closed_f, number_f, road_f, lookup_f, drive_f}
use Rattle.distance.proofs.Ways.{inside}
use Rattle.improve_base.specs.Leg.{AllOpen, shut, CellOf}

-- infinity, which is found outside a table, is a length
road-outside : road_f (inf false) ≡ Some (inf false)
unfolding is_closed_f road_f fl Ieee.eq Ieee.of_int
road-outside = refl

-- where no number closes its leg, all legs are open
pub none-closed : (table : List Float) → any is_closed_f table ≡ false → AllOpen table
unfolding AllOpen road_f
none-closed [] e = tt
none-closed (x ∷ table) e = (rw (or_left (is_closed_f x) (any is_closed_f table) e) refl, none-closed table (or_right (is_closed_f x) (any is_closed_f table) e))

pub both-open : (distances times : List Float) → shut distances times ≡ false → AllOpen distances × AllOpen times
both-open distances times e =
    let far = any is_closed_f distances in
    let long = any is_closed_f times in
    (none-closed distances (or_left far long e), none-closed times (or_right far long e))

-- a cell that is found, read
pub cell-read : (table : List Float) (size from to many cell : ℕ) → CellOf size from to many cell → cell < many → cell < length table → get_or table cell nan ≡ number_f table size from to
cell-read table size from to many cell C h l =
    let f = C.found h in
    ap (λ (k : ℕ). get_or table k nan) f.2 ∙ inside table size from to nan f.0 f.1 (omega (arith, f.2, l))

pub lookup-open : (table : List Float) (size from to : ℕ) → AllOpen table → lookup_f table size from to ≡ Some (number_f table size from to)
unfolding AllOpen number_f
lookup-open table size from to A =
    by-test (ltb from size && ltb to size)
    (λ t. rw t (all_get_d (λ (x : Float). road_f x ≡ Some x) table (from * size + to) (inf false) A road-outside)) (λ f. rw f road-outside)

pub times-open : (distances times : List Float) → AllOpen distances → AllOpen times → AllOpen (time_table distances times)
times-open distances [] A B = A
times-open distances (t ∷ ts) A B = B

module _ (distances times : List Float) (size from to : ℕ) where
  -- with the numbers of the two tables
  pub drive-open : AllOpen distances × AllOpen times → (d t : Float) → d ≡ number_f distances size from to → t ≡ number_f (time_table distances times) size from to
      → Some (record { distance = d; time = t }) ≡ drive_f distances times size from to
  unfolding drive_f
  drive-open A d t ed et =
      rw (ed, et, lookup-open distances size from to A.0, lookup-open (time_table distances times) size from to (times-open distances times A.0 A.1)) refl
