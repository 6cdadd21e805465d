-- The cut by capacity, windows, limits and break on floats, as the code has it: the answer, by the calls that are held in the end.
-- Definitions only.
use Rattle.std.specs.Prelude.{ℕ, ◌-◌, ◌≤◌, ◌≡◌, List, length, take, Float}
use Rattle.definitions.specs.Drop.{calls_at}
use Rattle.cut_runs.specs.Tariff.{CutDone}
use Rattle.cut_runs.specs.Runs.{Instance, tariff}
use Rattle.cut_drops.specs.Drops.{drops_f}
use Rattle.split_tw.specs.Answer.{ResultF, plan_f}

module _ (I : Instance) where
  -- those held at the end are cut
  unfoldable pub split_tw_f : List ℕ → ResultF
  split_tw_f tour = plan_f (tariff I) tour (drops_f I tour)

  -- what the code makes of them: n calls at the front of `hs`, and their cut
  pub record Settled (tour : List ℕ) (n : ℕ) (cost distance : Float) (at : ℕ) (hs es : List ℕ) : Type 0 where
    pub held-count : n ≡ length (drops_f I tour).held
    pub dropped-count : length tour - n ≡ length (drops_f I tour).dropped
    pub few : n ≤ length tour
    pub held-are : take n hs ≡ calls_at tour (drops_f I tour).held
    pub cut-done : CutDone (tariff I) (calls_at tour (drops_f I tour).held) cost distance at es
