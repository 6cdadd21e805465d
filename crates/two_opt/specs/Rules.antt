-- What the reversals of one run are told, on floats, as the code has it. Definitions only.
use Rattle.std.specs.Prelude.{ℕ, Bool, List, Float}
use Rattle.whole.specs.Gain.{gain_floor_f}
use Rattle.evaluation.specs.Records.{LimitsF, limits_of}
use Rattle.improve_base.specs.Gain.{scale_f, symmetric_f}
use Rattle.improve_base.specs.Search.{SearchF}
use Rattle.two_opt.specs.declared.rules.Rules.{Rules}

pub record RulesF : Type 0 where
  pub limits : LimitsF
  -- whether a run has to be feasible
  pub constrained : Bool
  -- whether the legs between its calls are as long both ways
  pub symmetric : Bool
  -- the least gain that counts
  pub floor : Float

abbrev pub rules_of : Rules → RulesF
rules_of x = record { limits = limits_of x.limits; constrained = x.constrained; symmetric = x.symmetric; floor = x.floor }

unfoldable pub rules_f : (ℕ → ℕ → Float) → List Float → SearchF → List ℕ → RulesF
rules_f leg distances s run =
    record {
      limits = s.limits;
      constrained = s.constrained;
      symmetric = symmetric_f leg run;
      floor = gain_floor_f (scale_f distances);
    }
