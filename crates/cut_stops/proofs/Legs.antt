-- The legs between the calls held, written one after the other. Assumes nothing.
use Prim.Native.Nat.{ℕ, ◌+◌, ◌<◌, ◌≤◌}
use native.Mathlib.Nat.{le_refl}
use native.Mathlib.Omega.{arith}
use mathlib.Core.Path.{◌≡◌, refl, ◌∙◌}
use mathlib.Core.List.{List}
use Rattle.std.specs.Prelude.{Option}
use lib.ListN.{length, get_or, set, length-set}
use lib.Seq.{get_or-set_same, get_or-set_other}
use lib.Dec.{eqb}
use lib.Ieee.{nan}
use borrow.Author.Tests.{eqb-true, eqb-false}
use Rattle.basics.proofs.TestLaws.{by-test}
use Rattle.cut_theory.specs.Tab.{most_cut}
use Rattle.distance.specs.declared.leg.Leg.{Leg}
use Rattle.evaluation.specs.Tables.{place_before}
use Rattle.cut_stops.specs.Stops.{listed_leg, LegLists, leg_lists, LegsLong, LegIs, LegsWritten}

-- the legs from number `from` up to, and not with, number n are written
pub record Written (by : ℕ → ℕ → Option Leg) (held : List ℕ) (from : ℕ) (old new : LegLists) (n : ℕ) : Type 0 where
  pub long : LegsLong new
  pub start : from ≤ n
  pub written : (k : ℕ) → from ≤ k → k < n → LegIs by held new k
  pub kept : (k : ℕ) → k < from
      → (get_or new.distances k nan ≡ get_or old.distances k nan) × (get_or new.times k nan ≡ get_or old.times k nan)

module _ (by : ℕ → ℕ → Option Leg) (held : List ℕ) (from : ℕ) (old : LegLists) where
  pub written_none : LegsLong old → Written by held from old old from
  written_none l = record { long = l; start = le_refl from; written = λ k a b. absurd (omega arith); kept = λ k b. (refl, refl) }

  module _ (new : LegLists) (n : ℕ) (W : Written by held from old new n) where
    -- one more is written
    pub written-more : (prev cid : ℕ) (listed : Leg) → n < most_cut → prev ≡ place_before held n → cid ≡ get_or held n 0 → listed ≡ listed_leg (by prev cid)
        → Written by held from old (leg_lists (set new.distances n listed.distance) (set new.times n listed.time)) (n + 1)
    written-more prev cid listed h ep ec el =
        let leg = listed.distance in
        let travel = listed.time in
        let far = new.distances in
        let time = new.times in
        record {
          long =
              record {
                distances-long = length-set far n leg ∙ W.long.distances-long;
                times_long = length-set time n travel ∙ W.long.times_long;
              };
          start = omega (arith, W.start);
          written =
              λ k a b.
              by-test (eqb k n)
              (λ e.
              rw (eqb-true k n e)
              (record {
                distance_is = get_or-set_same far n leg nan (omega (arith, W.long.distances-long)) ∙ rw (el, ep, ec) refl;
                time-is = get_or-set_same time n travel nan (omega (arith, W.long.times_long)) ∙ rw (el, ep, ec) refl;
              }))
              (λ e.
              let L = W.written k a (omega (arith, eqb-false k n e)) in
              record {
                distance_is = get_or-set_other far n k leg nan (eqb-false k n e) ∙ L.distance_is;
                time-is = get_or-set_other time n k travel nan (eqb-false k n e) ∙ L.time-is;
              });
          kept =
              λ k b. (
                get_or-set_other far n k leg nan (λ e. omega (arith, W.start)) ∙ (W.kept k b).0,
                get_or-set_other time n k travel nan (λ e. omega (arith, W.start)) ∙ (W.kept k b).1,
              );
        }

    -- all are
    pub written_all : length held ≤ n → LegsWritten by held from old new
    written_all h = record { long = W.long; written = λ k a _ b. W.written k a (omega arith); kept = W.kept }
