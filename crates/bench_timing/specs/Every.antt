-- The ends of runs of so many calls. Definitions only.
use Rattle.std.specs.Prelude.{ℕ, zero, suc, ◌+◌, ◌-◌, cond, List, [], ◌∷◌, ◌==◌, nat_le, nat_lt}

-- a run has a call at least
abbrev pub step_of : ℕ → ℕ
step_of run = cond (run == 0) 1 run

-- the end of the run that begins after p of n calls; the last run may be shorter
unfoldable pub next_end : ℕ → ℕ → ℕ → ℕ
next_end run n p = cond (nat_le (n - p) (step_of run)) n (p + step_of run)

-- there are enough turns
unfoldable pub every_from : ℕ → ℕ → ℕ → ℕ → List ℕ
every_from run n zero p = []
every_from run n (suc turns) p = cond (nat_lt p n) (next_end run n p ∷ every_from run n turns (next_end run n p)) []

abbrev pub every_ends : ℕ → ℕ → List ℕ
every_ends run n = every_from run n n 0
