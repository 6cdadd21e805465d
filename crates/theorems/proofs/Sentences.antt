-- What `split_tw` returns keeps demand 3, sentence by sentence, for either placement of the breaks. Assumes nothing.
use Prim.Native.Nat.{ℕ}
use mathlib.Core.Path.{◌≡◌, sym, ap, ap₂, subst, ◌∙◌}
use mathlib.Core.List.{List, map}
use Rattle.basics.proofs.OptionLaws.{held}
use Rattle.definitions.specs.Sheet.{Sheet}
use Rattle.definitions.specs.RunList.{runs_of}
use Rattle.definitions.specs.Cutting.{calls_in, joined, legal_cutting, cutting_cost}
use Rattle.definitions.specs.Placement.{Placement, by_clock}
use Rattle.definitions.specs.Drop.{Result, split_by, split_tw}
use Rattle.definitions.specs.Promise.{placed_run, Rival, Ties}
use Rattle.definitions.specs.Clauses.{returned, Clauses}
use Rattle.theorems.proofs.RunListLaws.{runs-back}
use Rattle.theorems.proofs.Placing.{placed-runs}
use Rattle.theorems.proofs.Promised.{PromiseBy, promised-by}

module _ (p : Placement) (s : Sheet) where
  module _ (tour : List ℕ) (x : Result) (P : PromiseBy p s tour x) where
    runs-are : returned p s x.served x.ends ≡ P.runs
    runs-are =
        ap₂ (λ (c e : List ℕ). map (placed_run p s) (runs_of c e)) (sym P.cuts) (sym P.ends-are)
        ∙ ap (map (placed_run p s)) (runs-back 0 (calls_in P.runs))
        ∙ placed-runs s p P.runs P.breaks-placed

    pub kept : Clauses p s tour x.served x.ends x.dropped x.cost
    kept =
        record {
          legal = (ap joined runs-are ∙ P.cuts, ap (legal_cutting s) runs-are ∙ P.all-legal);
          sum = ap (cutting_cost s) runs-are ∙ P.adds-up;
          least = P.least;
          ties = subst (Ties s (Rival p s)) (sym runs-are) P.ties;
          held = P.held;
          served-are = P.served-are;
          drops = P.drop-rule;
          partition = P.parted;
        }

-- so does what `split_tw` returns
pub split-by-kept : (p : Placement) (s : Sheet) (tour : List ℕ) → let x = split_by p s tour in Clauses p s tour x.served x.ends x.dropped x.cost
split-by-kept p s tour = kept p s tour (split_by p s tour) (promised-by s tour p)

pub split-tw-kept : (s : Sheet) (tour : List ℕ) → let x = split_tw s tour in Clauses by_clock s tour x.served x.ends x.dropped x.cost
split-tw-kept s tour = split-by-kept by_clock s tour
