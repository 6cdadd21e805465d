-- Readings worked by hand.
use Prim.Native.Nat.{ℕ}
use mathlib.Core.Path.{◌≡◌, refl}
use mathlib.Core.Bool.{false}
use mathlib.Core.List.{List, [], ◌∷◌, ◌++◌, map}
use Rattle.std.specs.Prelude.{None, Some}
use lib.ListN.{take, set, replicate}
use Rattle.definitions.specs.Load.{no_load, of_seats}
use Rattle.definitions.specs.Sheet.{asking, Sheet, Customer, depot}
use Rattle.definitions.specs.Words.{Word, word, word_of, bytes_of}
use Rattle.definitions.specs.Encoding.{encode, body_words}
use Rattle.definitions.specs.Reader.{State, read_into, read, read_words, walk, fault_at, may_stand, in_range, pair_falls, sheet_of, tour_of, sheet, refused_at}

-- case m as words
abbrev m : List ℕ
m =
    0x10000003 ∷ 0x20000004 ∷ 0x30000000 ∷ 0x60000014 ∷ 0x6000001E ∷ 0x60000004 ∷ 0x70000002 ∷ 0x80000000 ∷ 0x70000002 ∷ 0x80000000
    ∷ 0xC0000000 ∷ 0xC000000A ∷ 0xC000000C ∷ 0xC000000A ∷ 0xC0000000 ∷ 0xC0000005 ∷ 0xC000000C ∷ 0xC0000005 ∷ 0xC0000000
    ∷ 0xE0000001 ∷ 0xE0000002 ∷ 0xF0000015 ∷ []

abbrev rider : Customer
rider = asking (of_seats 2) 0 None None

abbrev sheet-m : Sheet
sheet-m =
    record {
      head = record { places = 3; capacity = of_seats 4; fixed = 0; max_distance = None; max_duration = None; rest = Some (record { earliest = 20; latest = 30; duration = 4 }) };
      customers = depot ∷ rider ∷ rider ∷ [];
      legs = record { distances = 0 ∷ 10 ∷ 12 ∷ 10 ∷ 0 ∷ 5 ∷ 12 ∷ 5 ∷ 0 ∷ []; times = [] };
    }

abbrev tour-m : List ℕ
tour-m = 1 ∷ 2 ∷ []

-- its bytes
abbrev file : List ℕ → List ℕ
file ns = bytes_of (map word_of ns)

first-bytes : take 8 (file m) ≡ 0x03 ∷ 0x00 ∷ 0x00 ∷ 0x10 ∷ 0x04 ∷ 0x00 ∷ 0x00 ∷ 0x20 ∷ []
first-bytes = refl

-- what the readings are computed through
opened : Unit {0}
unfolding read_into read read_words walk fault_at may_stand in_range pair_falls sheet_of tour_of
opened = tt

reads-m : read (file m) ≡ sheet sheet-m tour-m
unfolding opened
reads-m = refl

words-m : encode [] sheet-m tour-m ≡ map word_of m
unfolding encode body_words
words-m = refl

-- the sheet with one place, and nothing to do
reads-least : read_words (word 1 1 ∷ word 2 0 ∷ word 3 0 ∷ word 0xC 0 ∷ word 0xF 4 ∷ []) false
    ≡ sheet (record {
      head = record { places = 1; capacity = no_load; fixed = 0; max_distance = None; max_duration = None; rest = None };
      customers = depot ∷ [];
      legs = record { distances = 0 ∷ []; times = [] };
    }) []
unfolding opened
reads-least = refl

-- a sheet with one customer: the given words behind its service, then distances, the given words again, and F
abbrev one : List Word → List Word → ℕ → List Word
one inner tail n =
    word 1 2 ∷ word 2 5 ∷ word 3 0 ∷ word 7 1 ∷ word 8 0 ∷ (inner ++ (replicate 4 (word 0xC 3) ++ (tail ++ (word 0xF n ∷ []))))

-- both limits, a window that is a moment, a penalty, times and a tour
reads_all : read_words (word 1 2 ∷ word 2 5 ∷ word 3 7 ∷ word 4 10000000 ∷ word 5 9 ∷ word 6 8 ∷ word 6 8 ∷ word 6 0
    ∷ word 7 32767 ∷ word 8 1 ∷ word 9 4 ∷ word 0xA 4 ∷ word 0xB 1000 ∷ (replicate 4 (word 0xC 3) ++ (replicate 4 (word 0xD 2) ++ (word 0xE 1 ∷ word 0xF 22 ∷ [])))) false
    ≡ sheet (record {
      head = record { places = 2; capacity = of_seats 5; fixed = 7; max_distance = Some 10000000; max_duration = Some 9; rest = Some (record { earliest = 8; latest = 8; duration = 0 }) };
      customers = depot ∷ asking (of_seats 32767) 1 (Some (record { ready = 4; due = 4 })) (Some 1000) ∷ [];
      legs = record { distances = replicate 4 3; times = replicate 4 2 };
    }) (1 ∷ [])
unfolding opened
reads_all = refl

-- ---- 11: a kind that may not stand here

not-places : read_words (word 2 0 ∷ []) false ≡ refused_at 11 0
unfolding opened
not-places = refl

-- a kind that may not stand wins over a range
kind-before-range : read_words (word 1 1 ∷ word 7 99999999 ∷ []) false ≡ refused_at 11 1
unfolding opened
kind-before-range = refl

-- 9 without A: at the word behind the 9
ready-alone : read_words (one (word 9 0 ∷ word 0xB 0 ∷ []) [] 11) false ≡ refused_at 11 6
unfolding opened
ready-alone = refl

-- F too early
early-end : read_words (take 12 (map word_of m) ++ (word 0xF 12 ∷ [])) false ≡ refused_at 11 12
unfolding opened
early-end = refl

-- one distance too many
fifth-distance : read_words (one [] (word 0xC 0 ∷ []) 10) false ≡ refused_at 11 9
unfolding opened
fifth-distance = refl

-- three times where four are due
short-times : read_words (one [] (replicate 3 (word 0xD 0)) 12) false ≡ refused_at 11 12
unfolding opened
short-times = refl

-- two break words
half-break : read_words (word 1 2 ∷ word 2 0 ∷ word 3 0 ∷ word 6 1 ∷ word 6 1 ∷ word 7 0 ∷ []) false ≡ refused_at 11 5
unfolding opened
half-break = refl

-- ---- 1: a number out of range

many-places : read_words (word 1 65 ∷ []) false ≡ refused_at 1 0
unfolding opened
many-places = refl

no-places : read_words (word 1 0 ∷ []) false ≡ refused_at 1 0
unfolding opened
no-places = refl

-- no customer has the number 2
no-customer : read_words (one [] (word 0xE 2 ∷ []) 10) false ≡ refused_at 1 9
unfolding opened
no-customer = refl

depot-call : read_words (one [] (word 0xE 0 ∷ []) 10) false ≡ refused_at 1 9
unfolding opened
depot-call = refl

-- ---- 21: a repeated customer

-- a sheet with three customers and this tour: the tour begins at word 25
abbrev three : List ℕ → List Word
three tour =
    word 1 4 ∷ word 2 0 ∷ word 3 0 ∷ word 7 0 ∷ word 8 0 ∷ word 7 0 ∷ word 8 0 ∷ word 7 0 ∷ word 8 0
    ∷ (replicate 16 (word 0xC 0) ++ (map (word 0xE) tour ++ (word 0xF 0 ∷ [])))

-- the second of two E words, next to the first or not
second-named : (read_words (three (2 ∷ 2 ∷ [])) false ≡ refused_at 21 26) × (read_words (three (3 ∷ 1 ∷ 2 ∷ 3 ∷ [])) false ≡ refused_at 21 28)
unfolding opened
second-named = (refl, refl)

-- of two repeats the one whose second word stands further left
leftmost-repeat : read_words (three (1 ∷ 2 ∷ 3 ∷ 2 ∷ 1 ∷ [])) false ≡ refused_at 21 28
unfolding opened
leftmost-repeat = refl

-- without a repeat the reading goes on to F, which is wrong here
no-repeat : read_words (three (3 ∷ 1 ∷ 2 ∷ [])) false ≡ refused_at 3 28
unfolding opened
no-repeat = refl

-- at one word 11 and 1 come before
abbrev behind_calls : ℕ → State
behind_calls kind = record { last = word kind 0; row = 2; places = 2; coming = 0; called = 9 ∷ 1 ∷ []; facing = [] }

repeat-in-order : (fault_at (behind_calls 8) 5 (word 0xE 1) ≡ Some 11) × (fault_at (behind_calls 0xE) 5 (word 0xE 9) ≡ Some 1) × (fault_at (behind_calls 0xE) 5 (word 0xE 1) ≡ Some 21)
unfolding opened
repeat-in-order = (refl, refl, refl)

-- ---- 2: ready above due, earliest above latest

late-ready : read_words (one (word 9 5 ∷ word 0xA 4 ∷ []) [] 11) false ≡ refused_at 2 6
unfolding opened
late-ready = refl

late-earliest : read_words (word 1 2 ∷ word 2 0 ∷ word 3 0 ∷ word 6 31 ∷ word 6 30 ∷ []) false ≡ refused_at 2 4
unfolding opened
late-earliest = refl

-- a duration below latest is no pair
short-duration : read_words (word 1 2 ∷ word 2 0 ∷ word 3 0 ∷ word 6 20 ∷ word 6 30 ∷ word 6 4 ∷ []) false ≡ refused_at 12 6
unfolding opened
short-duration = refl

-- ---- 3: wrong F value, or words after F

wrong-count : read_words (one [] [] 10) false ≡ refused_at 3 9
unfolding opened
wrong-count = refl

word-behind : read (file (m ++ (0 ∷ []))) ≡ refused_at 3 22
unfolding opened
word-behind = refl

-- a byte left over after F
byte-behind : read (file m ++ (0 ∷ [])) ≡ refused_at 3 22
unfolding opened
byte-behind = refl

two-bytes-behind : read (file m ++ (0 ∷ 0 ∷ [])) ≡ refused_at 3 22
unfolding opened
two-bytes-behind = refl

three-bytes-behind : read (file m ++ (0 ∷ 0 ∷ 0 ∷ [])) ≡ refused_at 3 22
unfolding opened
three-bytes-behind = refl

-- ---- 12: words end before F

nothing : read [] ≡ refused_at 12 0
unfolding opened
nothing = refl

-- bytes left over before F: the number of whole words
cut_short : read (take 87 (file m)) ≡ refused_at 12 21
unfolding opened
cut_short = refl

-- a bad word further left wins
bad-and-short : read (take 86 (file (set m 1 0x200F4241))) ≡ refused_at 1 1
unfolding opened
bad-and-short = refl

-- ---- 13: a lent buffer too short, before all else

short-calls : read_into (64 ∷ 4096 ∷ 4096 ∷ 127 ∷ []) [] ≡ refused_at 13 0
unfolding opened
short-calls = refl

room-enough : read_into (64 ∷ 4096 ∷ 4096 ∷ 128 ∷ []) (file m) ≡ sheet sheet-m tour-m
unfolding opened
room-enough = refl
