-- `evaluator::closed_route` meets its contract. Assumes nothing.
use mathlib.Core.Path.{refl, sym}
use mathlib.Core.List.{[], ◌∷◌}
use Rattle.std.specs.Prelude.{None}
use Rattle.whole.proofs.Bits.{fl-zero}
use Rattle.visits.specs.declared.visit.ViolationType.TheVariants.{ClosedLeg}
use Rattle.visits.proofs.evaluator.closed_route.Goals as goal

pub returns : goal.returns
returns c =
    let a = c.args in
    let empty = c.none.ensures in (
      λ i. record {
        visits = [];
        totals = record { distance = sym fl-zero i; duration = sym fl-zero i; lateness = sym fl-zero i; cost = sym fl-zero i; place = 0 };
        load = empty i;
        start = None;
        violations = record { kind = ClosedLeg a.leg } ∷ [];
      },
      refl,
      refl,
    )
