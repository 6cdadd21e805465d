-- What `split` lends holds the sheet without windows, limits and break, where what it is lent holds the sheet. Assumes nothing.
use Prim.Native.Nat.{ℕ}
use mathlib.Core.Path.{◌≡◌, refl, ap, ◌∙◌}
use mathlib.Core.List.{List, [], ◌∷◌, map}
use lib.Ieee.{Float}
use Rattle.basics.proofs.ListLaws.{take-map}
use Rattle.definitions.specs.Sheet.{Customer, CustomerOf, Sheet}
use Rattle.definitions.specs.Clauses.{bare, bare_customer}
use Rattle.models.specs.declared.customer.Customer as Code
use Rattle.models.specs.declared.load.Space.{Space}
use Rattle.models.specs.declared.limits.RouteLimits.{RouteLimits}
use Rattle.models.specs.Image.{fl_customer}
use Rattle.models.specs.declared.placement.Placement.{Placement}
use Rattle.cut_runs.specs.Runs.{bare_f, lent}
use Rattle.split.specs.Split.{bare_lent}
use Rattle.cut_exact.proofs.SplitTwExact.{ImageTw}

held-bare : (l : List Customer) → map bare_f (map fl_customer l) ≡ map fl_customer (map bare_customer l)
held-bare [] = refl
held-bare (c ∷ l) = ap (λ (t : List (CustomerOf Float)). bare_f (fl_customer c) ∷ t) (held-bare l)

pub bare-image : (s : Sheet) (customers : List Code.Customer) (distances times : List Float) (size : ℕ) (capacity : Space) (fixed : Float) (limits : RouteLimits) {placement : Placement}
    → ImageTw s (lent customers distances times size capacity fixed limits placement) → ImageTw (bare s) (bare_lent customers distances times size capacity fixed)
unfolding bare
bare-image s customers distances times size capacity fixed limits M =
    let T = M.tables-hold in
    record {
      tables-hold =
          record {
            size_is = T.size_is;
            distances-are = T.distances-are;
            times-are = T.times-are;
            records-are = take-map bare_f s.head.places _ ∙ ap (map bare_f) T.records-are ∙ held-bare s.customers;
          };
      limits-hold = refl;
      capacity-holds = M.capacity-holds;
      fixed-holds = M.fixed-holds;
    }
