-- `split_tw::cut` meets its contract: what is settled is written at the front of the lent lists. Assumes nothing.
use Prim.Native.Nat.{ℕ, ◌+◌}
use native.Mathlib.Omega.{arith}
use mathlib.Core.Path.{◌≡◌, refl, ap, ◌∙◌}
use mathlib.Core.List.{List}
use lib.ListN.{length}
use Rattle.definitions.specs.Drop.{Held}
use Rattle.definitions.specs.Room.{written}
use Rattle.cut_runs.specs.Runs.{Instance, lent_on, tariff}
use Rattle.cut_drops.specs.Drops.{drops_f}
use Rattle.split_tw.specs.SplitTw.{split_tw_f}
use Rattle.split_tw.proofs.Stayed.{each-counted}
use Rattle.split_tw.proofs.Answering.{few-ends, ends-written, answered}
use Rattle.split_tw.proofs.split_tw.cut.Goals as goal
use Rattle.split_tw.proofs.split_tw.cut.Goals.{After-settle-s}

module _ (k : After-settle-s) where
  abbrev lent_to : Instance
  lent_to = let a = k.args in lent_on a.customers a.distances.now a.times.now a.size a.terms

  abbrev tour : List ℕ
  tour = k.args.tour.now

  abbrev drops : Held
  drops = drops_f lent_to tour

  each : length drops.held + length drops.dropped ≡ length tour
  each = each-counted lent_to tour _ _ _ _ _ _ k.settle-s.ensures.fact

pub write_front-requires-2 : goal.write_front-requires-2
write_front-requires-2 c =
    let k = (goal.at.write_front-requires-2 c).After-settle-s in
    let S = k.settle-s.ensures.fact in
    omega (arith, few-ends (tour k) (drops k) (each k) _ S.held-count (tariff (lent_to k)) _ refl _ _ _ _ S.cut-done, c.requires.tour_in_bounds)

pub returns : goal.returns
unfolding split_tw_f
returns c =
    let k = (goal.at.returns c).After-settle-s in
    let S = k.settle-s.ensures.fact in
    let a = c.args in record {
      fact = answered (tour k) (drops k) (each k) _ S.held-count (tariff (lent_to k)) _ refl _ _ _ _ S.cut-done;
      served_after = c.write_front.ensures ∙ ap (λ (l : List ℕ). written l a.served.now) S.held-are;
      run_ends_after = c.write_front-2.ensures
          ∙ ends-written (tour k) (drops k) (each k) _ S.held-count (tariff (lent_to k)) _ refl _ _ _ _ S.cut-done a.run_ends.now;
      dropped_after = k.settle-s.ensures.dropped_after;
    }
