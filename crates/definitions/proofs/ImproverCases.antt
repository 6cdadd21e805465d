-- The improvers and their sort on small sheets, worked by hand.
use Prim.Native.Nat.{ℕ, ◌+◌, ◌-◌, ◌*◌}
use mathlib.Core.Path.{◌≡◌, refl}
use mathlib.Core.Bool.{Bool, true, false, cond}
use mathlib.Core.List.{List, [], ◌∷◌, map}
use Rattle.std.specs.Prelude.{None}
use lib.ListN.{get_or}
use lib.Dec.{ltb, leb}
use Rattle.definitions.specs.Sort.{rising, falling, insert, sort}
use Rattle.definitions.specs.Load.{no_load, of_seats}
use Rattle.definitions.specs.Sheet.{asking, Customer, Sheet}
use Rattle.definitions.specs.Improver.{Given, checks_needed}
use Rattle.definitions.specs.RunList.{runs_from, runs_of}
use Rattle.definitions.specs.TwoOpt.{tried, tried_all, pass_from, pass, passes, improved, improved_distance}
use Rattle.definitions.specs.Elimination.{candidates, first_below, placed, placed_all, emptied, first_emptied, search, searches, eliminated}
use Rattle.definitions.specs.Answers.{eliminate}

-- ---- sort: equals stay as they stood

up : sort (rising (λ (n : ℕ). n - 10)) (12 ∷ 3 ∷ 11 ∷ 7 ∷ []) ≡ 3 ∷ 7 ∷ 11 ∷ 12 ∷ []
unfolding sort insert
up = refl

down : sort (falling (λ (n : ℕ). n - 10)) (3 ∷ 12 ∷ 7 ∷ 11 ∷ []) ≡ 12 ∷ 11 ∷ 3 ∷ 7 ∷ []
unfolding sort insert
down = refl

-- ---- places on a line, the depot at 0: the leg is how far they lie apart

abbrev apart : ℕ → ℕ → ℕ
apart a b = (a - b) + (b - a)

abbrev line : List ℕ → ℕ → Bool → (List ℕ → Bool) → Given
line demands capacity asked feasible =
    record { leg = apart; demand = λ c. of_seats (get_or demands c 0); capacity = of_seats capacity; fixed = 0; asked = asked; feasible = feasible }

-- no window, limit or break
abbrev free : Given
free = line [] 0 false (λ r. false)

none_at_all : improved free [] ≡ []
unfolding improved passes
none_at_all = refl

no_distance : improved_distance free [] ≡ 0
unfolding improved passes
no_distance = refl

-- an empty run has no distance, though the depot's own leg has one
abbrev depot_away : Given
depot_away = record { leg = λ a b. 7; demand = λ c. no_load; capacity = no_load; fixed = 0; asked = false; feasible = λ r. true }

no-leg : improved_distance depot_away [] ≡ 0
unfolding improved passes
no-leg = refl

alone : improved free (7 ∷ []) ≡ 7 ∷ []
unfolding improved passes pass pass_from
alone = refl

there_and_back : improved_distance free (7 ∷ []) ≡ 14
unfolding improved passes pass pass_from
there_and_back = refl

-- 2 1 3: 2 + 1 + 2 + 3 is 8; the first two turned give 1 2 3 with 6
crossed : improved free (2 ∷ 1 ∷ 3 ∷ []) ≡ 1 ∷ 2 ∷ 3 ∷ []
unfolding improved passes pass pass_from tried_all tried
crossed = refl

-- where runs that begin at 1 are not allowed: 2 1 3 to 2 3 1 has 6 too, by the last two turned
barred : improved (line [] 0 true (λ r. cond (leb (get_or r 0 0) 1) false true)) (2 ∷ 1 ∷ 3 ∷ []) ≡ 2 ∷ 3 ∷ 1 ∷ []
unfolding improved passes pass pass_from tried_all tried
barred = refl

-- where nothing is allowed the run stays, though it is not allowed itself
stuck : improved (line [] 0 true (λ r. false)) (2 ∷ 1 ∷ 3 ∷ []) ≡ 2 ∷ 1 ∷ 3 ∷ []
unfolding improved passes pass pass_from tried_all tried
stuck = refl

-- the leg to a place with a smaller number is 9, else 1: 2 1 3 has 1 + 9 + 1 + 9, and 1 2 3 has 1 + 1 + 1 + 9
abbrev uphill : Given
uphill = record { leg = λ a b. cond (ltb b a) 9 1; demand = λ c. no_load; capacity = no_load; fixed = 0; asked = false; feasible = λ r. true }

one_way : improved uphill (2 ∷ 1 ∷ 3 ∷ []) ≡ 1 ∷ 2 ∷ 3 ∷ []
unfolding improved passes pass pass_from tried_all tried
one_way = refl

-- the legs that change ends alone would gain 8 here, from 9 + 1 to 1 + 1; but the way back inside is 9 more
abbrev inside : Given
inside =
    record {
      leg = λ a b. get_or (0 ∷ 9 ∷ 1 ∷ 1 ∷ 0 ∷ 1 ∷ 1 ∷ 10 ∷ 0 ∷ []) (a * 3 + b) 0;
      demand = λ c. no_load;
      capacity = no_load;
      fixed = 0;
      asked = false;
      feasible = λ r. true;
    }

way_back : improved inside (1 ∷ 2 ∷ []) ≡ 1 ∷ 2 ∷ []
unfolding improved passes pass pass_from tried_all tried
way_back = refl

-- a second pass is needed: the first makes 2 4 1 3 of 1 2 3 4, with 1 + 2 + 2 + 5 + 1, the second 2 1 4 3, with 1 + 4 + 2 + 2 + 1
abbrev mixed : Given
mixed =
    record {
      leg = λ a b. get_or (0 ∷ 2 ∷ 1 ∷ 1 ∷ 5 ∷ 2 ∷ 0 ∷ 4 ∷ 5 ∷ 2 ∷ 1 ∷ 4 ∷ 0 ∷ 5 ∷ 2 ∷ 1 ∷ 5 ∷ 5 ∷ 0 ∷ 2 ∷ 5 ∷ 2 ∷ 2 ∷ 2 ∷ 0 ∷ []) (a * 5 + b) 0;
      demand = λ c. no_load;
      capacity = no_load;
      fixed = 0;
      asked = false;
      feasible = λ r. true;
    }

first-pass : pass mixed (1 ∷ 2 ∷ 3 ∷ 4 ∷ []) ≡ 2 ∷ 4 ∷ 1 ∷ 3 ∷ []
unfolding pass pass_from tried_all tried
first-pass = refl

second-pass : improved mixed (1 ∷ 2 ∷ 3 ∷ 4 ∷ []) ≡ 2 ∷ 1 ∷ 4 ∷ 3 ∷ []
unfolding improved passes pass pass_from tried_all tried
second-pass = refl

second-distance : improved_distance mixed (1 ∷ 2 ∷ 3 ∷ 4 ∷ []) ≡ 10
unfolding improved passes pass pass_from tried_all tried
second-distance = refl

-- ---- elimination

-- on the line, demands 1, room for 4: the run 2 has the fewest calls and goes into the run 1 3, between its calls; the empty run is dropped
joined : eliminated (line (0 ∷ 1 ∷ 1 ∷ 1 ∷ []) 4 false (λ r. true)) ((1 ∷ 3 ∷ []) ∷ [] ∷ (2 ∷ []) ∷ []) ≡ (1 ∷ 2 ∷ 3 ∷ []) ∷ []
unfolding eliminated searches search sort insert first_emptied emptied placed_all placed first_below candidates
joined = refl

-- demands 2: no room for a third; only the empty run is dropped
full : eliminated (line (0 ∷ 2 ∷ 2 ∷ 2 ∷ []) 4 false (λ r. true)) ((1 ∷ 3 ∷ []) ∷ [] ∷ (2 ∷ []) ∷ []) ≡ (1 ∷ 3 ∷ []) ∷ (2 ∷ []) ∷ []
unfolding eliminated searches search sort insert first_emptied emptied placed_all placed first_below candidates
full = refl

-- three runs of one call: 1 goes first, and of its equal places (all to 10 in all) takes the first, 1 2; the search begins again,
-- and 3 takes the first of its equal places, 1 3 2
again : eliminated (line [] 0 false (λ r. true)) ((1 ∷ []) ∷ (2 ∷ []) ∷ (3 ∷ []) ∷ []) ≡ (1 ∷ 3 ∷ 2 ∷ []) ∷ []
unfolding eliminated searches search sort insert first_emptied emptied placed_all placed first_below candidates
again = refl

-- demands 1, 3, 0, 2, 4 and room for 5: of the run 1 2 the heavier goes first, to 4, the only run with room; then 1 goes to 5.
-- The lighter one first would have taken that room
heavier-first : eliminated (line (0 ∷ 1 ∷ 3 ∷ 0 ∷ 2 ∷ 4 ∷ []) 5 false (λ r. true)) ((1 ∷ 2 ∷ []) ∷ (4 ∷ []) ∷ (5 ∷ []) ∷ []) ≡ (2 ∷ 4 ∷ []) ∷ (1 ∷ 5 ∷ []) ∷ []
unfolding eliminated searches search sort insert first_emptied emptied placed_all placed first_below candidates
heavier-first = refl

-- customers 10 apart and 1 from the depot: runs 1 and 2 have 4, joined they have 12; a fixed cost of 8 only makes up for that, one of 9 pays
abbrev dear : ℕ → (List ℕ → Bool) → Given
dear fixed feasible =
    record { leg = λ a b. cond (ltb 0 a) (cond (ltb 0 b) 10 1) 1; demand = λ c. no_load; capacity = no_load; fixed = fixed; asked = true; feasible = feasible }

no-gain : eliminated (dear 8 (λ r. true)) ((1 ∷ []) ∷ (2 ∷ []) ∷ []) ≡ (1 ∷ []) ∷ (2 ∷ []) ∷ []
unfolding eliminated searches search sort insert first_emptied emptied placed_all placed first_below candidates
no-gain = refl

gain : eliminated (dear 9 (λ r. true)) ((1 ∷ []) ∷ (2 ∷ []) ∷ []) ≡ (1 ∷ 2 ∷ []) ∷ []
unfolding eliminated searches search sort insert first_emptied emptied placed_all placed first_below candidates
gain = refl

-- of equals the first that is feasible: here none that begins with 1
not_first : eliminated (dear 9 (λ r. ltb 1 (get_or r 0 0))) ((1 ∷ []) ∷ (2 ∷ []) ∷ []) ≡ (2 ∷ 1 ∷ []) ∷ []
unfolding eliminated searches search sort insert first_emptied emptied placed_all placed first_below candidates
not_first = refl

-- ---- run lists as lent

-- six places on the line, and capacity 5
abbrev on_line : Sheet
on_line =
    record {
      head = record { places = 6; capacity = of_seats 5; fixed = 0; max_distance = None; max_duration = None; rest = None };
      customers = map asks (0 ∷ 1 ∷ 3 ∷ 0 ∷ 2 ∷ 4 ∷ []);
      legs = record {
        distances = 0 ∷ 1 ∷ 2 ∷ 3 ∷ 4 ∷ 5
            ∷ 1 ∷ 0 ∷ 1 ∷ 2 ∷ 3 ∷ 4
            ∷ 2 ∷ 1 ∷ 0 ∷ 1 ∷ 2 ∷ 3
            ∷ 3 ∷ 2 ∷ 1 ∷ 0 ∷ 1 ∷ 2
            ∷ 4 ∷ 3 ∷ 2 ∷ 1 ∷ 0 ∷ 1
            ∷ 5 ∷ 4 ∷ 3 ∷ 2 ∷ 1 ∷ 0
            ∷ [];
        times = [];
      };
    }
  where
    asks : ℕ → Customer
    asks demand = asking (of_seats demand) 0 None None

-- calls 1 2 4 5 with ends 2 3 4 are the runs of `heavier-first`; the result is 2 4 1 5 with ends 2 4
lent_runs : eliminate on_line (runs_of (1 ∷ 2 ∷ 4 ∷ 5 ∷ []) (2 ∷ 3 ∷ 4 ∷ [])) ≡ record { calls = 2 ∷ 4 ∷ 1 ∷ 5 ∷ []; ends = 2 ∷ 4 ∷ [] }
unfolding runs_from checks_needed eliminated searches search sort insert first_emptied emptied placed_all placed first_below candidates
lent_runs = refl

empty-between : runs_of (1 ∷ 2 ∷ []) (1 ∷ 1 ∷ 2 ∷ []) ≡ (1 ∷ []) ∷ [] ∷ (2 ∷ []) ∷ []
unfolding runs_from
empty-between = refl
