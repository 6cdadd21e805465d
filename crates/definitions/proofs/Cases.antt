-- The bench cases that are proved, each with its full answer; case r with a repeat, and three more. Each holds by computation. Assumes nothing.
use Prim.Native.Nat.{ℕ}
use mathlib.Core.Path.{◌≡◌, refl}
use mathlib.Core.Bool.{true, false}
use mathlib.Core.List.{List, [], ◌∷◌}
use Rattle.std.specs.Prelude.{None, Some}
use Rattle.definitions.specs.Load.{of_seats}
use Rattle.definitions.specs.Sheet.{Sheet, depot, any_soft}
use Rattle.definitions.specs.Run.{Run, legal}
use Rattle.definitions.specs.Evaluation.{route_eval}
use Rattle.definitions.specs.Cutting.{legal_cutting, cutting_cost}
use Rattle.definitions.specs.Drop.{split_tw}
use Rattle.definitions.specs.Marker.{cheaper, mark}
use Rattle.definitions.specs.Encoding.{encode, body_words}
use Rattle.definitions.specs.Reader.{read_words, walk, fault_at, may_stand, in_range, pair_falls, refused_at}
use Rattle.definitions.specs.Lent.{Lent}
use Rattle.definitions.specs.Refusals.{bad_sheet, out_of_range, pairs_fall, closures_differ, any_closed, refusals, refusal_of}
use Rattle.definitions.specs.Answers.{refused, answer, split_tw_of}
use Rattle.definitions.proofs.Bench.{opened, anyone, sheet, base, carrying, until, limited, rested, late, full, tour, together, apart, single, nothing_served, totals, evaluated, run}

pub case-a : split_tw base tour ≡ together 27 27 0
unfolding opened
case-a = refl

-- capacity 3
pub case-b : split_tw (carrying 3) tour ≡ apart
unfolding opened
case-b = refl

-- capacity 1
pub case-c : split_tw (carrying 1) tour ≡ nothing_served (1 ∷ 2 ∷ [])
unfolding opened
case-c = refl

-- empty tour
pub case-d : split_tw base [] ≡ nothing_served []
unfolding opened
case-d = refl

-- leg 1-2 is 22
abbrev as_far : Sheet
as_far = sheet 4 (0 ∷ 10 ∷ 12 ∷ 10 ∷ 0 ∷ 22 ∷ 12 ∷ 22 ∷ 0 ∷ []) None None None anyone

-- runs 1 and 2, each with no break
abbrev each_alone : List Run
each_alone = run (1 ∷ []) 0 ∷ run (2 ∷ []) 0 ∷ []

-- equal costs, one run
pub case-e : (split_tw as_far tour ≡ together 44 44 0) × (legal_cutting as_far each_alone ≡ true) × (cutting_cost as_far each_alone ≡ 44)
unfolding opened
case-e = (refl, refl, refl)

pub case-f : split_tw (until 10 None) tour ≡ together 27 27 0
unfolding opened
case-f = refl

pub case-g : split_tw (until 9 None) tour ≡ single 2 1 24
unfolding opened
case-g = refl

-- cost 30, distance 27
pub case-h : split_tw (until 9 (Some 3)) tour ≡ together 30 27 0
unfolding opened
case-h = refl

pub case-i : split_tw (limited 27) tour ≡ together 27 27 0
unfolding opened
case-i = refl

pub case-j : split_tw (limited 26) tour ≡ apart
unfolding opened
case-j = refl

pub case-k : split_tw (limited 23) tour ≡ single 1 2 20
unfolding opened
case-k = refl

-- leg 1 to 0 is 30, limit 27
abbrev one_way : Sheet
one_way = sheet 4 (0 ∷ 10 ∷ 12 ∷ 30 ∷ 0 ∷ 5 ∷ 12 ∷ 5 ∷ 0 ∷ []) (Some 27) None None anyone

-- 1 dropped though run 1 2 is legal
pub case-l : (split_tw one_way tour ≡ single 2 1 24) × (legal one_way (run tour 0) ≡ true)
unfolding opened
case-l = (refl, refl)

-- break at its second call at 20, home at 36
pub case-m : (split_tw (rested 20 30 4) tour ≡ together 27 27 2) × evaluated (rested 20 30 4) 2 20 36
unfolding opened
case-m = (refl, refl)

-- tour 1: without a break home at 20, when one is due; so break at the first call at 20, home at 34
pub case-n : (split_tw (rested 20 30 4) (1 ∷ []) ≡ record { served = 1 ∷ []; ends = 1 ∷ []; dropped = []; cost = 20; distance = 20; places = 1 ∷ [] })
    × (route_eval (rested 20 30 4) (1 ∷ []) ≡ Some (record { totals = totals 20 34 0 0 1; start = Some 20 }))
unfolding opened
case-n = (refl, refl)

pub case-o : split_tw (rested 5 9 4) tour ≡ nothing_served (1 ∷ 2 ∷ [])
unfolding opened
case-o = refl

-- break at its first call, home at 31
pub case-p : (split_tw (rested 5 10 4) tour ≡ together 27 27 1) × evaluated (rested 5 10 4) 1 10 31
unfolding opened
case-p = (refl, refl)

-- the planner 32; the break at the second call is cheaper by 5
pub case-q : (split_tw (late 12 13 5) tour ≡ together 32 27 1) × (mark (late 12 13 5) tour (run tour 2 ∷ []) ≡ cheaper 5)
unfolding opened
case-q = (refl, refl)

-- base with customer 1 listed twice: the cut refuses it, and the reader at the second of its E words
abbrev listed_twice : List ℕ
listed_twice = 1 ∷ 2 ∷ 1 ∷ []

abbrev to_cut_twice : Lent ℕ
to_cut_twice = record { sheet = base; tour = listed_twice; calls = []; ends = []; breaks = []; rooms = 3 ∷ 3 ∷ 3 ∷ [] }

pub case-r : (split_tw_of Some to_cut_twice ≡ refused 21) × (read_words (encode [] base listed_twice) false ≡ refused_at 21 18)
unfolding answer refusal_of refusals bad_sheet out_of_range pairs_fall closures_differ any_closed any_soft read_words walk fault_at may_stand in_range pair_falls encode body_words
case-r = (refl, refl)

-- ---- beside the bench cases

-- a run over its limit, and a longer one that is legal again: 1 2 is 45, and 1 2 3 is 30
abbrev again : Sheet
again =
    record {
      head = record { places = 4; capacity = of_seats 6; fixed = 0; max_distance = Some 40; max_duration = None; rest = None };
      customers = depot ∷ anyone ∷ anyone ∷ anyone ∷ [];
      legs = record { distances = 0 ∷ 10 ∷ 5 ∷ 10 ∷ 10 ∷ 0 ∷ 5 ∷ 5 ∷ 30 ∷ 5 ∷ 0 ∷ 5 ∷ 10 ∷ 5 ∷ 5 ∷ 0 ∷ []; times = [] };
    }

pub case-again : split_tw again (1 ∷ 2 ∷ 3 ∷ []) ≡ record { served = 1 ∷ 2 ∷ 3 ∷ []; ends = 3 ∷ []; dropped = []; cost = 30; distance = 30; places = 0 ∷ [] }
unfolding opened
case-again = refl

-- the clock's tie: with the break at the first call and at the second the bus is at the second at 19 alike, and the first is kept
pub case-tie : (split_tw (rested 0 30 4) tour ≡ together 27 27 1) × evaluated (rested 0 30 4) 1 10 31
unfolding opened
case-tie = (refl, refl)

-- fixed cost 3, service, windows, a break and both limits: 1 2 is one run; 3 2 would be home at 81, after 80, and is two, of which 2 would
-- be home at earliest, and takes the break
pub case_full : (split_tw full tour ≡ together 30 27 2)
    × (split_tw full (3 ∷ 2 ∷ []) ≡ record { served = 3 ∷ 2 ∷ []; ends = 1 ∷ 2 ∷ []; dropped = []; cost = 80; distance = 74; places = 1 ∷ 1 ∷ [] })
unfolding opened
case_full = (refl, refl)
