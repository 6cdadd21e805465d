-- What a run list in two lists holds, and the runs that others are made into. Definitions only.
use Rattle.std.specs.Prelude.{ℕ, zero, suc, ◌+◌, ◌-◌, ◌<◌, ◌≤◌, ◌≡◌, false, List, [], ◌∷◌, ◌++◌, length, get_or, take, drop}
use Rattle.basics.specs.Lists.{without}
use Rattle.definitions.specs.RunList.{runs_of}
use Rattle.definitions.specs.Refusals.{ends_fall}
use Rattle.definitions.specs.Elimination.{non_empty}
use Rattle.evaluation.specs.Tables.{place_before}

-- as many calls, and as many run ends, as a run list has room for
abbrev pub room : ℕ
room = 128

-- a list stands at the front of an array
pub record Front {A : Type 0} (l a : List A) : Type 0 where
  pub long : length a ≡ room
  pub fits : length l ≤ room
  pub is : take (length l) a ≡ l

-- ---- a run list

-- the calls of all runs, run after run, and for each run the number of calls up to its end; how many of both there are
pub record Runs : Type 0 where
  pub calls : List ℕ
  pub ends : List ℕ
  pub many : ℕ
  pub count : ℕ

abbrev pub runs : List ℕ → List ℕ → ℕ → ℕ → Runs
runs calls ends many count = record { calls = calls; ends = ends; many = many; count = count }

-- where run k starts: the end of the run before it
abbrev pub start_in : List ℕ → ℕ → ℕ
start_in ends k = place_before ends k

abbrev pub runs_in : Runs → List (List ℕ)
runs_in r = runs_of (take r.many r.calls) (take r.count r.ends)

-- the ends do not fall, and the last is the number of calls
pub record Sound (r : Runs) : Type 0 where
  pub calls-long : length r.calls ≡ room
  pub ends-long : length r.ends ≡ room
  pub calls-fit : r.many ≤ room
  pub runs_fit : r.count ≤ room
  pub rises : ends_fall 0 (take r.count r.ends) r.many ≡ false

-- none of the runs ends before it starts
abbrev pub Rise : List ℕ → ℕ → Type 0
Rise ends count = (k : ℕ) → k < count → start_in ends k ≤ get_or ends k 0

-- a run end moved up and down
abbrev pub shifted : ℕ → ℕ → ℕ → ℕ
shifted up down e = e + up - down

-- run k
abbrev pub run_at : List (List ℕ) → ℕ → List ℕ
run_at rs k = get_or rs k []

-- c before call number pos of a run
abbrev pub insert_at : ℕ → ℕ → List ℕ → List ℕ
insert_at pos c r = take pos r ++ (c ∷ drop pos r)

-- and of run k
abbrev pub put_in : ℕ → ℕ → ℕ → List (List ℕ) → List (List ℕ)
put_in k pos c [] = []
put_in zero pos c (r ∷ rs) = insert_at pos c r ∷ rs
put_in (suc k) pos c (r ∷ rs) = r ∷ put_in k pos c rs

-- ---- what is made of it

-- customer c put into run k, before its call number pos
pub record Puts (k pos c : ℕ) (old new : Runs) : Type 0 where
  pub sound : Sound new
  pub is : runs_in new ≡ put_in k pos c (runs_in old)

-- run k taken out
pub record TakesOut (k : ℕ) (old new : Runs) : Type 0 where
  pub sound : Sound new
  pub is : runs_in new ≡ without k (runs_in old)
  pub fewer : new.many + length (run_at (runs_in old) k) ≡ old.many

-- how many calls each run has
pub record Measures (ends : List ℕ) (count : ℕ) (lengths : List ℕ) : Type 0 where
  pub long : length lengths ≡ room
  pub are : (k : ℕ) → k < count → get_or lengths k 0 ≡ get_or ends k 0 - start_in ends k

-- the runs without the empty ones
pub record Keeps (old new : Runs) : Type 0 where
  pub sound : Sound new
  pub is : runs_in new ≡ non_empty (runs_in old)

abbrev pub DropsEmpty : List ℕ → ℕ → List ℕ → ℕ → Type 0
DropsEmpty ends count kept n =
    (calls : List ℕ) (many : ℕ) → Sound (runs calls ends many count) → Keeps (runs calls ends many count) (runs calls kept many n)

-- the same runs
pub record Copies (old new : Runs) : Type 0 where
  pub sound : Sound new
  pub is : runs_in new ≡ runs_in old
