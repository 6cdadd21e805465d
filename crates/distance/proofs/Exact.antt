-- On tables of whole numbers a lookup inside the table is that of crates/definitions. Assumes nothing.
use Prim.Native.Nat.{ℕ, zero, suc, ◌+◌, ◌*◌, ◌≤◌, ◌<◌}
use native.Mathlib.Omega.{arith}
use native.Mathlib.Nat.{not-suc-le-zero, le_of_suc-le-suc}
use mathlib.Core.Path.{◌≡◌, refl, sym, ap, ap₂, subst, ◌∙◌}
use mathlib.Core.Bool.{false}
use mathlib.Core.List.{List, [], ◌∷◌, map}
use Rattle.std.specs.Prelude.{Option, None, Some, option_map}
use lib.ListN.{length, get_or, length-map}
use lib.Ieee.{Float, inf}
use Rattle.basics.specs.Options.{◌>>=◌}
use Rattle.basics.proofs.TestLaws.{by-test}
use Rattle.definitions.specs.Domain.{is_closed, no_road}
use Rattle.definitions.specs.Sheet.{Sheet, road, leg, distance, time, time_table, drive}
use Rattle.definitions.specs.Sheet as Sheet
use Rattle.whole.specs.Whole.{fl, limit}
use Rattle.whole.proofs.WholeLaws.{fl-eq}
use Rattle.distance.specs.declared.leg.Leg.{Leg}
use Rattle.distance.specs.Lookup.{is_closed_f, number_f, road_f, lookup_f, drive_f}
use Rattle.distance.proofs.Ways.{inside}

get_d_map : (l : List ℕ) (i : ℕ) (d : Float) → i < length l → get_or (map fl l) i d ≡ fl (get_or l i 0)
get_d_map [] i d h = absurd (not-suc-le-zero h)
get_d_map (x ∷ l) zero d h = refl
get_d_map (x ∷ l) (suc i) d h = get_d_map l i d (le_of_suc-le-suc h)

pub number-exact : (table : List ℕ) (size from to : ℕ) → from < size → to < size → from * size + to < length table
    → number_f (map fl table) size from to ≡ fl (get_or table (from * size + to) 0)
number-exact table size from to p q h =
    sym (inside (map fl table) size from to (inf false) p q (subst (λ (n : ℕ). from * size + to < n) (sym (length-map table fl)) h))
    ∙ get_d_map table (from * size + to) (inf false) h

-- a float is closed exactly where the number is
pub road-exact : (n : ℕ) → n ≤ limit → road_f (fl n) ≡ option_map fl (road n)
unfolding is_closed_f road_f
road-exact n h =
    by-test (is_closed n) (λ t. rw (fl-eq n no_road h (omega arith), t) refl) (λ f. rw (fl-eq n no_road h (omega arith), f) refl)

pub lookup-exact : (table : List ℕ) (size from to : ℕ) → from < size → to < size → from * size + to < length table → get_or table (from * size + to) 0 ≤ limit
    → lookup_f (map fl table) size from to ≡ option_map fl (leg table size from to)
lookup-exact table size from to p q h m = ap road_f (number-exact table size from to p q h) ∙ road-exact (get_or table (from * size + to) 0) m

-- the time table in use is the image of the one in whole numbers
pub times-exact : (distances times : List ℕ) → time_table (map fl distances) (map fl times) ≡ map fl (time_table distances times)
times-exact distances [] = refl
times-exact distances (t ∷ ts) = refl

-- a leg that can be driven, with both numbers held
abbrev pub fl_leg : Sheet.Leg → Leg
fl_leg l = record { distance = fl l.length; time = fl l.travel }

-- by both tables
pub drive-exact : (s : Sheet) (distances times : List Float) (size from to : ℕ) → lookup_f distances size from to ≡ option_map fl (distance s from to)
    → lookup_f (time_table distances times) size from to ≡ option_map fl (time s from to) → drive_f distances times size from to ≡ option_map fl_leg (drive s from to)
unfolding drive_f drive
drive-exact s distances times size from to d t =
    ap₂ (λ (x y : Option Float). x >>= λ d. y >>= λ t. Some (record { distance = d; time = t })) d t ∙ go (distance s from to) (time s from to)
  where
    go : (o p : Option ℕ)
        → (option_map fl o >>= λ d. option_map fl p >>= λ t. Some (record { distance = d; time = t }))
        ≡ option_map fl_leg (o >>= λ d. p >>= λ t. Some (record { length = d; travel = t }))
    go None p = refl
    go (Some a) None = refl
    go (Some a) (Some b) = refl
