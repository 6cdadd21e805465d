-- The listing of case m's words is the scope document's, byte for byte; beside it those of sheets with drops, with a repeat and of no bytes. Each holds by computation. Assumes nothing.
use Prim.Native.Nat.{ℕ}
use mathlib.Core.Path.{◌≡◌, refl}
use mathlib.Core.List.{List, [], ◌∷◌, map}
use Rattle.definitions.specs.Sheet.{drive}
use Rattle.definitions.specs.Run.{serve_at, serve_all, home, ready}
use Rattle.definitions.specs.Window.{enter}
use Rattle.definitions.specs.Clock.{clock_from, clock, start_of, arc}
use Rattle.definitions.specs.RunList.{runs_from}
use Rattle.definitions.specs.Cutting.{points_from, cheapest, stuck}
use Rattle.definitions.specs.Drop.{drop_from, drops, split_tw}
use Rattle.definitions.specs.Words.{word_of, bytes_of}
use Rattle.definitions.specs.Reader.{may_stand, in_range, pair_falls, fault_at, walk, sheet_of, tour_of, read_words, read}
use Rattle.definitions.specs.Listing.{text, digits_in, run_line, plan_text, listing}

-- what the listing is computed through
opened : Unit {0}
unfolding listing plan_text run_line digits_in read read_words walk fault_at may_stand in_range pair_falls sheet_of tour_of split_tw drops drop_from stuck cheapest points_from arc clock clock_from serve_at ready
    enter start_of serve_all drive home runs_from
opened = tt

-- words as the scope document writes them
abbrev file : List ℕ → List ℕ
file numbers = bytes_of (map word_of numbers)

-- case m
abbrev case_m : List ℕ
case_m =
    0x10000003 ∷ 0x20000004 ∷ 0x30000000 ∷ 0x60000014 ∷ 0x6000001E ∷ 0x60000004 ∷ 0x70000002 ∷ 0x80000000 ∷ 0x70000002 ∷ 0x80000000
    ∷ 0xC0000000 ∷ 0xC000000A ∷ 0xC000000C ∷ 0xC000000A ∷ 0xC0000000 ∷ 0xC0000005 ∷ 0xC000000C ∷ 0xC0000005 ∷ 0xC0000000
    ∷ 0xE0000001 ∷ 0xE0000002 ∷ 0xF0000015 ∷ []

pub listing-m : listing (file case_m) ≡ text "run 1 2 rest 2 20\ntotal 27 cost 27 served 2 dropped 0\n"
unfolding opened
listing-m = refl

-- case c: both calls are dropped
abbrev case_c : List ℕ
case_c =
    0x10000003 ∷ 0x20000001 ∷ 0x30000000 ∷ 0x70000002 ∷ 0x80000000 ∷ 0x70000002 ∷ 0x80000000
    ∷ 0xC0000000 ∷ 0xC000000A ∷ 0xC000000C ∷ 0xC000000A ∷ 0xC0000000 ∷ 0xC0000005 ∷ 0xC000000C ∷ 0xC0000005 ∷ 0xC0000000
    ∷ 0xE0000001 ∷ 0xE0000002 ∷ 0xF0000012 ∷ []

pub listing-c : listing (file case_c) ≡ text "drop 1\ndrop 2\ntotal 0 cost 0 served 0 dropped 2\n"
unfolding opened
listing-c = refl

-- case g's sheet with tour 2 1: the second call is dropped, and its customer is printed
abbrev case_g : List ℕ
case_g =
    0x10000003 ∷ 0x20000004 ∷ 0x30000000 ∷ 0x70000002 ∷ 0x80000000 ∷ 0x90000000 ∷ 0xA0000009 ∷ 0x70000002 ∷ 0x80000000
    ∷ 0xC0000000 ∷ 0xC000000A ∷ 0xC000000C ∷ 0xC000000A ∷ 0xC0000000 ∷ 0xC0000005 ∷ 0xC000000C ∷ 0xC0000005 ∷ 0xC0000000
    ∷ 0xE0000002 ∷ 0xE0000001 ∷ 0xF0000014 ∷ []

pub listing-g : listing (file case_g) ≡ text "run 2\ndrop 1\ntotal 24 cost 24 served 1 dropped 1\n"
unfolding opened
listing-g = refl

-- case r: customer 1 is listed twice
abbrev case_r : List ℕ
case_r =
    0x10000003 ∷ 0x20000004 ∷ 0x30000000 ∷ 0x70000002 ∷ 0x80000000 ∷ 0x70000002 ∷ 0x80000000
    ∷ 0xC0000000 ∷ 0xC000000A ∷ 0xC000000C ∷ 0xC000000A ∷ 0xC0000000 ∷ 0xC0000005 ∷ 0xC000000C ∷ 0xC0000005 ∷ 0xC0000000
    ∷ 0xE0000001 ∷ 0xE0000002 ∷ 0xE0000001 ∷ 0xF0000013 ∷ []

pub listing-r : listing (file case_r) ≡ text "refused 21 at 18\n"
unfolding opened
listing-r = refl

-- no bytes: the words end before F
pub listing-nothing : listing [] ≡ text "refused 12 at 0\n"
unfolding opened
listing-nothing = refl
