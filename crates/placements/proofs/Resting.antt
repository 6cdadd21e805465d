-- The way up to a call with the break there, by what each step of it answers. Assumes nothing.
use Prim.Native.Nat.{ℕ, suc}
use mathlib.Core.Path.{◌≡◌, refl}
use mathlib.Core.List.{List}
use Rattle.std.specs.Prelude.{Option, None, Some}
use lib.ListN.{get_or, take}
use lib.Ieee.{Float, binary64, add}
use Rattle.definitions.specs.Sheet.{BreakOf, CustomerOf}
use Rattle.distance.specs.declared.leg.Leg.{Leg}
use Rattle.clock.specs.declared.schedule.Label.{Label}
use Rattle.clock.specs.Serving.{serve_f}
use Rattle.evaluation.specs.declared.way.Way.{Way}
use Rattle.evaluation.specs.Records.{Tables}
use Rattle.evaluation.specs.Tables.{record_f, leg_f}
use Rattle.evaluation.specs.Way.{start_way, way_f}
use Rattle.placements.specs.Placed.{rested_f}

module _ (t : Tables) (b : BreakOf Float) (calls : List ℕ) (k : ℕ) where
  -- the calls before it fail
  pub rest-failed : way_f t start_way (take k calls) ≡ None → rested_f t b calls k ≡ None
  unfolding rested_f
  rest-failed e = rw e

  module _ (d : Way) (ed : way_f t start_way (take k calls) ≡ Some d) where
    -- the leg to it is closed
    pub rest-closed : leg_f t d.prev (get_or calls k 0) ≡ None → rested_f t b calls k ≡ None
    unfolding rested_f
    rest-closed e = rw (ed, e)

    module _ (g : Leg) (eg : leg_f t d.prev (get_or calls k 0) ≡ Some g) (c : CustomerOf Float) (ec : c ≡ record_f t (get_or calls k 0))
        (n : ℕ) (en : n ≡ suc k) (o : Option Label) (eo : o ≡ serve_f c (Some b) n g.time d.label) where
      -- it can't be served with the break there
      pub rest-barred : o ≡ None → rested_f t b calls k ≡ None
      unfolding rested_f
      rest-barred e = rw (ed, eg, ← ec, ← en, ← eo, e)

      pub rest-taken : (l : Label) → o ≡ Some l
          → rested_f t b calls k ≡ Some (record { distance = add binary64 d.distance g.distance; label = l; prev = get_or calls k 0 })
      unfolding rested_f
      rest-taken l e = rw (ed, eg, ← ec, ← en, ← eo, e) refl
