-- Sheets on which numbers differ that are alike on the bench sheets. Definitions only.
use Prim.Native.Nat.{ℕ}
use mathlib.Core.List.{List, [], ◌∷◌}
use Rattle.std.specs.Prelude.{None, Some}
use Rattle.definitions.specs.Load.{of_seats}
use Rattle.definitions.specs.Sheet.{asking, LegsOf, Sheet, depot}
use Rattle.definitions.specs.Lent.{Lent}
use Rattle.definitions.proofs.Bench.{window, pause}

-- what a call is lent in whole numbers
abbrev pub lend : Sheet → (tour calls ends breaks rooms : List ℕ) → Lent ℕ
lend s tour calls ends breaks rooms = record { sheet = s; tour = tour; calls = calls; ends = ends; breaks = breaks; rooms = rooms }

-- neither table is symmetric or 0 on its diagonal, and times are apart from distances
abbrev pub crooked_legs : LegsOf ℕ
crooked_legs = record { distances = 1 ∷ 10 ∷ 12 ∷ 20 ∷ 3 ∷ 5 ∷ 13 ∷ 6 ∷ 4 ∷ []; times = 2 ∷ 4 ∷ 7 ∷ 9 ∷ 1 ∷ 3 ∷ 5 ∷ 8 ∷ 2 ∷ [] }

-- each call is late at a price
abbrev pub crooked : Sheet
crooked =
    record {
      head = record { places = 3; capacity = of_seats 9; fixed = 7; max_distance = None; max_duration = None; rest = None };
      customers = depot
          ∷ asking (of_seats 1) 1 (window 0 3) (Some 2)
          ∷ asking (of_seats 2) 2 (window 0 6) (Some 5)
          ∷ [];
      legs = crooked_legs;
    }

-- the same with a break, and customer 2 at any time
abbrev pub crooked_break : Sheet
crooked_break =
    record {
      head = record { places = 3; capacity = of_seats 9; fixed = 7; max_distance = None; max_duration = None; rest = pause 5 9 3 };
      customers = depot ∷ asking (of_seats 1) 1 (window 0 3) (Some 2) ∷ asking (of_seats 2) 2 None None ∷ [];
      legs = crooked_legs;
    }

-- the same with hard windows, a break and a limit
abbrev pub crooked_hard : Sheet
crooked_hard =
    record {
      head = record { places = 3; capacity = of_seats 9; fixed = 7; max_distance = Some 30; max_duration = None; rest = pause 0 40 3 };
      customers = depot
          ∷ asking (of_seats 1) 1 (window 0 20) None
          ∷ asking (of_seats 2) 2 (window 0 12) None
          ∷ [];
      legs = crooked_legs;
    }

-- the same with a break that must start early
abbrev pub crooked_mark : Sheet
crooked_mark =
    record {
      head = record { places = 3; capacity = of_seats 9; fixed = 7; max_distance = None; max_duration = None; rest = pause 0 5 3 };
      customers = depot
          ∷ asking (of_seats 1) 1 (window 0 20) None
          ∷ asking (of_seats 2) 2 (window 0 12) None
          ∷ [];
      legs = crooked_legs;
    }

-- the base sheet with a distance limit of 26: split_tw makes two runs, split one
abbrev pub near : Sheet
near =
    record {
      head = record { places = 3; capacity = of_seats 4; fixed = 0; max_distance = Some 26; max_duration = None; rest = None };
      customers = depot ∷ asking (of_seats 2) 0 None None ∷ asking (of_seats 2) 0 None None ∷ [];
      legs = record { distances = 0 ∷ 10 ∷ 12 ∷ 10 ∷ 0 ∷ 5 ∷ 12 ∷ 5 ∷ 0 ∷ []; times = [] };
    }

-- service 2, no way from customer 1 to itself, and a break that takes no time
abbrev pub serving : Sheet
serving =
    record {
      head = record { places = 2; capacity = of_seats 9; fixed = 0; max_distance = None; max_duration = None; rest = pause 3 40 0 };
      customers = depot ∷ asking (of_seats 1) 2 None None ∷ [];
      legs = record { distances = 0 ∷ 5 ∷ 5 ∷ 0 ∷ []; times = [] };
    }

-- two runs with a break each, a call that is dropped, and a fixed cost
abbrev pub listed : Sheet
listed =
    record {
      head = record { places = 4; capacity = of_seats 4; fixed = 3; max_distance = None; max_duration = None; rest = pause 5 15 4 };
      customers = depot
          ∷ asking (of_seats 2) 0 None None
          ∷ asking (of_seats 2) 0 None None
          ∷ asking (of_seats 9) 0 None None
          ∷ [];
      legs = record {
        distances = 0 ∷ 10 ∷ 12 ∷ 7
            ∷ 10 ∷ 0 ∷ 30 ∷ 7
            ∷ 12 ∷ 30 ∷ 0 ∷ 7
            ∷ 7 ∷ 7 ∷ 7 ∷ 0
            ∷ [];
        times = [];
      };
    }

-- places on a line by distance; by time customer 1 is far from all
abbrev pub by_distance : Sheet
by_distance =
    record {
      head = record { places = 4; capacity = of_seats 9; fixed = 0; max_distance = None; max_duration = None; rest = None };
      customers = depot
          ∷ asking (of_seats 1) 0 None None
          ∷ asking (of_seats 1) 0 None None
          ∷ asking (of_seats 1) 0 None None
          ∷ [];
      legs = record {
        distances = 0 ∷ 1 ∷ 2 ∷ 3
            ∷ 1 ∷ 0 ∷ 1 ∷ 2
            ∷ 2 ∷ 1 ∷ 0 ∷ 1
            ∷ 3 ∷ 2 ∷ 1 ∷ 0
            ∷ [];
        times = 0 ∷ 9 ∷ 1 ∷ 1
            ∷ 9 ∷ 0 ∷ 9 ∷ 9
            ∷ 1 ∷ 9 ∷ 0 ∷ 1
            ∷ 1 ∷ 9 ∷ 1 ∷ 0
            ∷ [];
      };
    }

-- joined the runs have 12 in place of 4: a fixed cost of 9 pays for that
abbrev pub fixed_pays : Sheet
fixed_pays =
    record {
      head = record { places = 3; capacity = of_seats 2; fixed = 9; max_distance = None; max_duration = None; rest = None };
      customers = depot ∷ asking (of_seats 1) 0 None None ∷ asking (of_seats 1) 0 None None ∷ [];
      legs = record { distances = 0 ∷ 1 ∷ 1 ∷ 1 ∷ 0 ∷ 10 ∷ 1 ∷ 10 ∷ 0 ∷ []; times = [] };
    }

-- which candidate, which position, which customer first and in what order the runs are left all show here
abbrev pub several : Sheet
several =
    record {
      head = record { places = 5; capacity = of_seats 4; fixed = 0; max_distance = None; max_duration = None; rest = None };
      customers = depot
          ∷ asking (of_seats 1) 0 None None
          ∷ asking (of_seats 3) 0 None None
          ∷ asking (of_seats 1) 0 None None
          ∷ asking (of_seats 3) 0 None None
          ∷ [];
      legs = record {
        distances = 5 ∷ 9 ∷ 7 ∷ 9 ∷ 6
            ∷ 9 ∷ 4 ∷ 5 ∷ 3 ∷ 1
            ∷ 9 ∷ 5 ∷ 7 ∷ 7 ∷ 2
            ∷ 4 ∷ 7 ∷ 9 ∷ 3 ∷ 4
            ∷ 3 ∷ 7 ∷ 7 ∷ 1 ∷ 2
            ∷ [];
        times = [];
      };
    }

-- on a line, with a fixed cost that pays for all
abbrev pub on_aLine : Sheet
on_aLine =
    record {
      head = record { places = 6; capacity = of_seats 9; fixed = 50; max_distance = None; max_duration = None; rest = None };
      customers = depot
          ∷ asking (of_seats 1) 0 None None
          ∷ asking (of_seats 1) 0 None None
          ∷ asking (of_seats 1) 0 None None
          ∷ asking (of_seats 1) 0 None None
          ∷ asking (of_seats 1) 0 None None
          ∷ [];
      legs = record {
        distances = 0 ∷ 1 ∷ 2 ∷ 3 ∷ 4 ∷ 5
            ∷ 1 ∷ 0 ∷ 1 ∷ 2 ∷ 3 ∷ 4
            ∷ 2 ∷ 1 ∷ 0 ∷ 1 ∷ 2 ∷ 3
            ∷ 3 ∷ 2 ∷ 1 ∷ 0 ∷ 1 ∷ 2
            ∷ 4 ∷ 3 ∷ 2 ∷ 1 ∷ 0 ∷ 1
            ∷ 5 ∷ 4 ∷ 3 ∷ 2 ∷ 1 ∷ 0
            ∷ [];
        times = [];
      };
    }

-- after a reversal the search goes on, up to the last call
abbrev pub knotted : Sheet
knotted =
    record {
      head = record { places = 6; capacity = of_seats 9; fixed = 0; max_distance = None; max_duration = None; rest = None };
      customers = depot
          ∷ asking (of_seats 1) 0 None None
          ∷ asking (of_seats 1) 0 None None
          ∷ asking (of_seats 1) 0 None None
          ∷ asking (of_seats 1) 0 None None
          ∷ asking (of_seats 1) 0 None None
          ∷ [];
      legs = record {
        distances = 4 ∷ 9 ∷ 7 ∷ 7 ∷ 4 ∷ 2
            ∷ 9 ∷ 4 ∷ 7 ∷ 2 ∷ 5 ∷ 6
            ∷ 2 ∷ 4 ∷ 3 ∷ 8 ∷ 1 ∷ 8
            ∷ 3 ∷ 1 ∷ 6 ∷ 6 ∷ 3 ∷ 1
            ∷ 3 ∷ 8 ∷ 1 ∷ 9 ∷ 2 ∷ 7
            ∷ 3 ∷ 5 ∷ 1 ∷ 9 ∷ 7 ∷ 3
            ∷ [];
        times = [];
      };
    }

-- the two labels of the clock are there at the same time, and each has paid
abbrev pub both_late : Sheet
both_late =
    record {
      head = record { places = 3; capacity = of_seats 9; fixed = 0; max_distance = None; max_duration = None; rest = pause 0 30 2 };
      customers = depot
          ∷ asking (of_seats 1) 0 (window 0 8) (Some 3)
          ∷ asking (of_seats 1) 0 (window 0 9) (Some 5)
          ∷ [];
      legs = record { distances = 0 ∷ 4 ∷ 9 ∷ 5 ∷ 3 ∷ 4 ∷ 7 ∷ 1 ∷ 9 ∷ []; times = [] };
    }
