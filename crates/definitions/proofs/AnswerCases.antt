-- Whole answers of the public calls on the bench sheets, accepted and refused, with what is written into lent lists. Each holds by computation. Assumes nothing.
use Prim.Native.Nat.{ℕ}
use mathlib.Core.Path.{◌≡◌, refl}
use mathlib.Core.Bool.{true}
use mathlib.Core.List.{List, [], ◌∷◌}
use Rattle.std.specs.Prelude.{None, Some}
use Rattle.definitions.specs.Sheet.{Sheet, any_soft}
use Rattle.definitions.specs.Marker.{other_calls, best, cheaper}
use Rattle.definitions.specs.RunList.{runs_from}
use Rattle.definitions.specs.Sort.{insert, sort}
use Rattle.definitions.specs.Improver.{checks_needed}
use Rattle.definitions.specs.TwoOpt.{tried, tried_all, pass_from, pass, passes, improved}
use Rattle.definitions.specs.Elimination.{candidates, first_below, placed, placed_all, emptied, first_emptied, search, searches, eliminated}
use Rattle.definitions.specs.Room.{written}
use Rattle.definitions.specs.Lent.{Lent, whole_sheet}
use Rattle.definitions.specs.Refusals.{bad_sheet, out_of_range, pairs_fall, closures_differ, any_closed, refusals, refusal_of}
use Rattle.definitions.specs.Answers.{refused, gives, front, answer, route_feasible_of, effective_cost_of, split_tw_of, split_of, mark_of, two_opt_of, eliminate_of}
use Rattle.definitions.proofs.Bench.{opened, base, carrying, until, late, tour, together, single}

-- what the answers are computed through
answered : Unit {0}
unfolding opened answer refusal_of refusals bad_sheet out_of_range pairs_fall closures_differ any_closed any_soft whole_sheet runs_from
    checks_needed improved passes pass pass_from tried_all tried eliminated searches search first_emptied
    emptied placed_all placed first_below candidates sort insert
answered = tt

-- ---- cutting: the tour, and three result lists of that length

abbrev cut : Sheet → ℕ → Lent ℕ
cut s room = record { sheet = s; tour = tour; calls = []; ends = []; breaks = []; rooms = room ∷ 2 ∷ 2 ∷ [] }

plans : split_tw_of Some (cut base 2) ≡ gives (together 27 27 0)
unfolding answered
plans = refl

plans-plainly : split_of Some (cut base 2) ≡ gives (together 27 27 0)
unfolding answered
plans-plainly = refl

-- case g: one served, one dropped; the lists keep what stands beyond that
plans-g : split_tw_of Some (cut (until 9 None) 2) ≡ gives (single 2 1 24)
unfolding answered
plans-g = refl

writes-g : written (front (λ x. x.served) (split_tw_of Some (cut (until 9 None) 2))) (7 ∷ 8 ∷ 9 ∷ []) ≡ 2 ∷ 8 ∷ 9 ∷ []
unfolding answered
writes-g = refl

-- a list one short: refused, and nothing is written
short : split_tw_of Some (cut base 1) ≡ refused 13
unfolding answered
short = refl

writes_nothing : written (front (λ x. x.served) (split_tw_of Some (cut base 1))) (7 ∷ 8 ∷ 9 ∷ []) ≡ 7 ∷ 8 ∷ 9 ∷ []
unfolding answered
writes_nothing = refl

-- ---- a run

abbrev riding : Sheet → List ℕ → Lent ℕ
riding s calls = record { sheet = s; tour = []; calls = calls; ends = []; breaks = []; rooms = [] }

rides : route_feasible_of Some (riding base tour) ≡ gives true
unfolding answered
rides = refl

costs-h : effective_cost_of Some (riding (until 9 (Some 3)) tour) ≡ gives (Some 30)
unfolding answered
costs-h = refl

no-such-call : route_feasible_of Some (riding base (3 ∷ [])) ≡ refused 1
unfolding answered
no-such-call = refl

-- ---- marks: a tour, and the controller's calls, run ends and break places

abbrev marked : Sheet → List ℕ → List ℕ → List ℕ → Lent ℕ
marked s calls ends breaks = record { sheet = s; tour = tour; calls = calls; ends = ends; breaks = breaks; rooms = [] }

-- case q with the break at the second call
marks-q : mark_of Some (marked (late 12 13 5) tour (2 ∷ []) (2 ∷ [])) ≡ gives (cheaper 5)
unfolding answered
marks-q = refl

-- case c: nothing can be served, and no runs are the best
marks-c : mark_of Some (marked (carrying 1) [] [] []) ≡ gives best
unfolding answered
marks-c = refl

-- case g: the one run of call 2 is marked, not refused
marks-g : mark_of Some (marked (until 9 None) (2 ∷ []) (1 ∷ []) (0 ∷ [])) ≡ gives best
unfolding answered
marks-g = refl

-- three calls with end 3 are other calls, from the third on
marks-three : mark_of Some (marked base (1 ∷ 2 ∷ 1 ∷ []) (3 ∷ []) (0 ∷ [])) ≡ gives (other_calls 3)
unfolding answered
marks-three = refl

-- run ends that miss the calls
misses : mark_of Some (marked base tour (1 ∷ []) (0 ∷ [])) ≡ refused 5
unfolding answered
misses = refl

-- ---- improvers: result lists of their own

abbrev improving : Sheet → List ℕ → List ℕ → List ℕ → Lent ℕ
improving s calls ends rooms = record { sheet = s; tour = []; calls = calls; ends = ends; breaks = []; rooms = rooms }

reverses : two_opt_of Some (improving base tour [] (2 ∷ [])) ≡ gives (record { calls = tour; distance = 27 })
unfolding answered
reverses = refl

-- runs 1 and 2 become one
eliminates : eliminate_of Some (improving base tour (1 ∷ 2 ∷ []) (2 ∷ 2 ∷ [])) ≡ gives (record { calls = tour; ends = 2 ∷ [] })
unfolding answered
eliminates = refl

-- lateness pay
unpaid : two_opt_of Some (improving (until 9 (Some 3)) tour [] (2 ∷ [])) ≡ refused 4
unfolding answered
unpaid = refl
