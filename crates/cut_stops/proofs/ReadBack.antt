-- A leg that is put into the lists is read back from them, open or closed. Assumes nothing.
use Prim.Native.Nat.{ℕ, ◌+◌, ◌*◌, ◌<◌}
use native.Mathlib.Omega.{arith}
use mathlib.Core.Path.{◌≡◌, refl, sym, ap, ◌∙◌}
use mathlib.Core.Bool.{false}
use mathlib.Core.List.{List}
use Rattle.std.specs.Prelude.{Option, None, Some}
use lib.Ieee.{Float, inf}
use lib.ListN.{get_or}
use borrow.Author.Tests.{lt-ltb}
use Rattle.basics.proofs.TestLaws.{by-test}
use Rattle.basics.proofs.OptionLaws.{same, clash, bound}
use Rattle.definitions.specs.Domain.{no_road}
use Rattle.definitions.specs.Sheet.{time_table}
use Rattle.distance.specs.declared.leg.Leg.{Leg}
use Rattle.distance.specs.Lookup.{is_closed_f, number_f, road_f, lookup_f, drive_f}
use Rattle.distance.proofs.Exact.{road-exact}
use Rattle.cut_stops.specs.Stops.{listed_as, listed_leg, pair_f, leg_by}

-- a length is not the number of no road
length-open : (x d : Float) → road_f x ≡ Some d → road_f d ≡ Some d
unfolding road_f
length-open x d e =
    by-test (is_closed_f x) (λ t. clash (rw t at e)) (λ f. let z : x ≡ d = same (rw f at e) in rw (← z, f) refl)

-- so an open leg is not taken for a closed one
open-length : (distances times : List Float) (size a b : ℕ) (leg : Leg) → drive_f distances times size a b ≡ Some leg → road_f leg.distance ≡ Some leg.distance
unfolding drive_f
open-length distances times size a b leg e =
    let x = bound (lookup_f distances size a b) _ leg e in
    let y = bound (lookup_f (time_table distances times) size a b) _ leg x.2 in
    ap (λ (l : Leg). road_f l.distance) (sym (same y.2)) ∙ length-open _ x.0 x.1 ∙ ap (λ (l : Leg). Some l.distance) (same y.2)

pub leg-back : (distances times : List Float) (size a b : ℕ) →
    let leg = drive_f distances times size a b in
    leg_by (listed_leg leg).distance (listed_leg leg).time ≡ leg
unfolding leg_by listed_as
leg-back distances times size a b = go (drive_f distances times size a b) refl
  where
    go : (o : Option Leg) → drive_f distances times size a b ≡ o → leg_by (listed_leg o).distance (listed_leg o).time ≡ o
    go None e = rw (road-exact no_road (omega arith)) refl
    go (Some leg) e = rw (open-length distances times size a b leg e) refl

-- ---- the numbers of both tables

module _ (distances times : List Float) (size from to : ℕ) where
  -- inside them
  pub pair_inside : from < size → to < size →
      let i = from * size + to in
      pair_f (get_or distances i (inf false)) (get_or (time_table distances times) i (inf false)) ≡ drive_f distances times size from to
  unfolding pair_f drive_f number_f
  pair_inside p q = rw (lt-ltb from size p, lt-ltb to size q) refl

  -- and where they have none
  pub pair-outside : ((table : List Float) → inf false ≡ number_f table size from to) → pair_f (inf false) (inf false) ≡ drive_f distances times size from to
  unfolding pair_f drive_f
  pair-outside o = rw (← o distances, ← o (time_table distances times)) refl
