-- The loop over a run list: one run's words at each turn. Assumes nothing.
use Prim.Native.Nat.{ℕ, ◌+◌, ◌-◌, ◌≤◌, ◌<◌}
use native.Mathlib.Omega.{arith}
use mathlib.Core.Path.{◌≡◌, refl, sym, ap, ◌∙◌}
use mathlib.Core.List.{List}
use lib.ListN.{length, take, drop, get_or, length-take, length-drop}
use Rattle.definitions.specs.RunList.{runs_of}
use Rattle.theorems.proofs.RunListLaws.{RiseTo}
use Rattle.listing_lines.proofs.RunWalk.{runs_left, AtRun, none_left, rises, inside, run-next, next}
use Rattle.improve_runs.proofs.Holding.{rises-to}
use Rattle.test_runs.specs.Along.{follows}
use Rattle.test_runs.specs.Words.{Words, each}
use Rattle.test_runs.specs.Runs.{RunList}
use Rattle.test_runs.proofs.Along.{follows_both}

-- a run list can be gone through
pub walkable : {calls ends : List ℕ} → RunList calls ends → (length calls ≤ 128) × RiseTo 0 ends (length calls)
walkable {calls} {ends} R = (R.few-calls, rises-to 0 ends (length calls) R.rising)

-- before run number k, whose calls begin at `from`: from here the words of the runs that are left lead where those of all runs lead
pub record RunsTo (recorded : List ℕ) (f : List ℕ → Words) (calls ends : List ℕ) (at end from k : ℕ) : Type 0 where
  pub at-run : AtRun calls ends from k
  pub leads : follows recorded end (each f (runs_left calls ends from k)) ≡ follows recorded at (each f (runs_of calls ends))

pub set_out : (recorded : List ℕ) (f : List ℕ → Words) (calls ends : List ℕ) (at : ℕ) → RiseTo 0 ends (length calls) → RunsTo recorded f calls ends at at 0 0
set_out recorded f calls ends at h = record { at-run = record { within = omega arith; rise = h }; leads = refl }

module _ {recorded : List ℕ} {f : List ℕ → Words} {calls ends : List ℕ} {at end from k : ℕ} (q : RunsTo recorded f calls ends at end from k) where
  pub ended : length ends ≤ k → end ≡ follows recorded at (each f (runs_of calls ends))
  unfolding follows each
  ended h = ap (λ (rs : List (List ℕ)). follows recorded end (each f rs)) (sym (none_left q.at-run h)) ∙ q.leads

  module _ (more : k < length ends) where
    -- the end of run number k, and its calls
    abbrev to : ℕ
    to = get_or ends k 0

    abbrev run : List ℕ
    run = take (to - from) (drop from calls)

    pub run-begins : from ≤ to
    run-begins = rises q.at-run more

    pub run_ends : to ≤ length calls
    run_ends = inside q.at-run more

    pub run_short : length run ≤ length calls
    run_short = omega (arith, length-take (to - from) (drop from calls), length-drop from calls)

    pub turn : (r : ℕ) → r ≡ follows recorded end (f run) → RunsTo recorded f calls ends at r to (k + 1)
    unfolding each
    turn r e =
        record {
          at-run = next q.at-run more;
          leads =
              ap (λ (n : ℕ). follows recorded n (each f (runs_left calls ends to (k + 1)))) e
              ∙ sym (follows_both recorded end (f run) (each f (runs_left calls ends to (k + 1))))
              ∙ ap (λ (rs : List (List ℕ)). follows recorded end (each f rs)) (sym (run-next q.at-run more))
              ∙ q.leads;
        }
