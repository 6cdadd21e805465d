-- A run list as it is lent: the calls of all runs, and for each run the number of calls up to its end.
use Rattle.std.specs.Prelude.{ℕ, ◌+◌, ◌-◌, List, [], ◌∷◌, ◌++◌, length, take, drop}

-- the runs, where p calls stand before these
unfoldable pub runs_from : ℕ → List ℕ → List ℕ → List (List ℕ)
runs_from p calls [] = []
runs_from p calls (e ∷ ends) = take (e - p) calls ∷ runs_from e (drop (e - p) calls) ends

-- calls and run ends to runs
abbrev pub runs_of : List ℕ → List ℕ → List (List ℕ)
runs_of calls ends = runs_from 0 calls ends

-- the joined calls of runs
abbrev pub calls_of : List (List ℕ) → List ℕ
calls_of [] = []
calls_of (r ∷ rs) = r ++ calls_of rs

abbrev pub ends_from : ℕ → List (List ℕ) → List ℕ
ends_from p [] = []
ends_from p (r ∷ rs) = (p + length r) ∷ ends_from (p + length r) rs

-- the run ends of runs
abbrev pub ends_of : List (List ℕ) → List ℕ
ends_of rs = ends_from 0 rs
