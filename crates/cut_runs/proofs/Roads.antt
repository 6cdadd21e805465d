-- A stretch with a closed leg: no run that drives it has a way. Assumes nothing.
use Prim.Native.Nat.{ℕ, suc, ◌<◌}
use native.Mathlib.Decide.{le_ind}
use mathlib.Core.Path.{◌≡◌}
use mathlib.Core.List.{List}
use Rattle.std.specs.Prelude.{Option, None}
use lib.ListN.{get_or}
use Rattle.basics.proofs.OptionLaws.{unbound}
use Rattle.distance.specs.declared.leg.Leg.{Leg}
use Rattle.evaluation.specs.Tables.{place_before}
use Rattle.cut_runs.specs.Stretch.{gone_of, way_of}

module _ (leg : ℕ → ℕ → Option Leg) (st : List ℕ) where
  -- a closed leg to a call
  closed-gone : (r : ℕ) → leg (place_before st r) (get_or st r 0) ≡ None → gone_of leg st (suc r) ≡ None
  unfolding gone_of
  closed-gone r e = unbound (gone_of leg st r) _ (λ g. rw e)

  gone-on : (m : ℕ) → gone_of leg st m ≡ None → gone_of leg st (suc m) ≡ None
  unfolding gone_of
  gone-on m e = rw e

  -- bars every longer run
  pub way-closed : (r : ℕ) → leg (place_before st r) (get_or st r 0) ≡ None → (m : ℕ) → r < m → way_of leg st m ≡ None
  unfolding way_of
  way-closed r e m h =
      let gone : gone_of leg st m ≡ None = le_ind (λ (n : ℕ). gone_of leg st n ≡ None) (closed-gone r e) (λ n _ z. gone-on n z) m h in
      rw gone

  -- a closed way home bars the run that ends there
  pub home-closed : (m : ℕ) → leg (place_before st m) 0 ≡ None → way_of leg st m ≡ None
  unfolding way_of
  home-closed m e = unbound (gone_of leg st m) _ (λ g. rw e)
