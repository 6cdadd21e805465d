-- What reading gives for any bytes: the sheet, or a refusal's number and the index of its word.
use Rattle.std.specs.Prelude.{ℕ, suc, ◌*◌, pred, Bool, true, false, cond, ◌&&◌, ◌||◌, not, get_or, ltb, eqb, Option, None, Some}
use mathlib.Core.List.{List, [], ◌∷◌, ◌++◌, tail}
use Rattle.basics.specs.Options.{value_or}
use Rattle.basics.specs.Lists.{any}
use Rattle.definitions.specs.Domain.{most_places, most_calls, is_places, is_demand, is_capacity, is_penalty, is_number, closed_apart, is_leg, is_call}
use Rattle.definitions.specs.Load.{Load}
use Rattle.definitions.specs.Sheet.{Window, Break, Customer, Sheet, depot}
use Rattle.definitions.specs.Words.{Word, word, words_of, left_over}
use Rattle.definitions.specs.Refusal.{Refusal, refusal, first_fit}
use Rattle.definitions.specs.Room.{short}

-- ---- which words may stand

-- what the words so far leave to be known
pub record State : Type 0 where
  -- the word before
  pub last : Word
  -- how many words of its kind stand in a row up to here
  pub row : ℕ
  pub places : ℕ
  -- how many customers have yet to come
  pub coming : ℕ
  -- the customers of the tour so far, the last first
  pub called : List ℕ
  -- the distances whose times have yet to come
  pub facing : List ℕ

-- no word yet: a kind that no word has
abbrev pub start : State
start = record { last = word 16 0; row = 0; places = 0; coming = 0; called = []; facing = [] }

abbrev pub next : State → Word → State
next s w =
    record {
      last = w;
      row = cond (eqb w.kind s.last.kind) (suc s.row) 1;
      places = cond (eqb w.kind 1) w.value s.places;
      coming = cond (eqb w.kind 1) (pred w.value) (cond (eqb w.kind 7) (pred s.coming) s.coming);
      called = cond (eqb w.kind 0xE) (w.value ∷ s.called) s.called;
      facing = cond (eqb w.kind 0xC) (s.facing ++ w.value ∷ []) (cond (eqb w.kind 0xD) (tail s.facing) s.facing);
    }

-- a line of the table below: after this kind may stand these
pub record After : Type 0 where
  pub kind : ℕ
  pub kinds : List ℕ

abbrev pub after : ℕ → List ℕ → After
after k ks = record { kind = k; kinds = ks }

abbrev pub lookup : ℕ → List After → List ℕ
lookup k [] = []
lookup k (a ∷ rest) = cond (eqb k a.kind) a.kinds (lookup k rest)

-- the next customer, or when all have come the distances
abbrev pub onward : State → ℕ
onward s = cond (eqb s.coming 0) 0xC 7

-- behind a 0: in the head the fixed cost, in a customer the service
abbrev pub behind_second : State → ℕ
behind_second s = cond (eqb (suc s.coming) s.places) 3 8

-- which kinds may stand behind which
abbrev pub table : State → List After
table s =
    let on : ℕ = onward s in
    let full : ℕ = s.places * s.places in
    after 16 (1 ∷ [])
    ∷ after 0 (behind_second s ∷ [])
    ∷ after 1 (2 ∷ [])
    ∷ after 2 (0 ∷ 3 ∷ [])
    ∷ after 3 (4 ∷ 5 ∷ 6 ∷ on ∷ [])
    ∷ after 4 (5 ∷ 6 ∷ on ∷ [])
    ∷ after 5 (6 ∷ on ∷ [])
    ∷ after 6 (cond (ltb s.row 3) (6 ∷ []) (on ∷ []))
    ∷ after 7 (0 ∷ 8 ∷ [])
    ∷ after 8 (9 ∷ 0xB ∷ on ∷ [])
    ∷ after 9 (0xA ∷ [])
    ∷ after 0xA (0xB ∷ on ∷ [])
    ∷ after 0xB (on ∷ [])
    ∷ after 0xC (cond (ltb s.row full) (0xC ∷ []) (0xD ∷ 0xE ∷ 0xF ∷ []))
    ∷ after 0xD (cond (ltb s.row full) (0xD ∷ []) (0xE ∷ 0xF ∷ []))
    ∷ after 0xE (0xE ∷ 0xF ∷ [])
    ∷ []

-- the kinds that may stand next
unfoldable pub may_stand : State → List ℕ
may_stand s = lookup s.last.kind (table s)

-- a line of the table below: the test of the values of this kind
pub record Range : Type 0 where
  pub kind : ℕ
  pub holds : Bool

abbrev pub range : ℕ → Bool → Range
range k b = record { kind = k; holds = b }

-- a kind that has no line of its own holds a number
abbrev pub holds_or : Bool → ℕ → List Range → Bool
holds_or d k [] = d
holds_or d k (r ∷ rs) = cond (eqb k r.kind) r.holds (holds_or d k rs)

unfoldable pub in_range : State → Word → Bool
in_range s w =
    let v = w.value in
    holds_or (is_number v) w.kind
    (range 0 (cond (eqb s.last.kind 2) (is_capacity v) (is_demand v))
    ∷ range 1 (is_places v)
    ∷ range 2 (is_capacity v)
    ∷ range 7 (is_demand v)
    ∷ range 0xB (is_penalty v)
    ∷ range 0xC (is_leg v)
    ∷ range 0xD (is_leg v)
    ∷ range 0xE (is_call s.places v)
    ∷ range 0xF true
    ∷ [])

-- ready above due, or earliest above latest: bad at the later word
unfoldable pub pair_falls : State → Word → Bool
pair_falls s w = (eqb w.kind 0xA || (eqb w.kind 6 && eqb s.last.kind 6 && eqb s.row 1)) && ltb w.value s.last.value

-- whether k is among ks
abbrev pub among : ℕ → List ℕ → Bool
among k ks = any (λ (j : ℕ). eqb k j) ks

-- a repeated customer: bad at the E word that repeats an earlier one, the second of the two
abbrev pub repeated : State → Word → Bool
repeated s w = eqb w.kind 0xE && among w.value s.called

-- a time disagrees on closure with the distance that it faces: bad at the D word
abbrev pub closure_differs : State → Word → Bool
closure_differs s w = eqb w.kind 0xD && closed_apart (get_or s.facing 0 0) w.value

-- what may be wrong with the word of index i, in order
abbrev pub faults : State → ℕ → Word → List Refusal
faults s i w =
    refusal 11 (not (among w.kind (may_stand s)))
    ∷ refusal 1 (not (in_range s w))
    ∷ refusal 21 (repeated s w)
    ∷ refusal 2 (pair_falls s w)
    ∷ refusal 22 (closure_differs s w)
    ∷ refusal 3 (eqb w.kind 0xF && not (eqb w.value i))
    ∷ []

unfoldable pub fault_at : State → ℕ → Word → Option ℕ
fault_at s i w = first_fit (faults s i w)

-- ---- the leftmost bad word

pub data Outcome : Type 0 where
  accepted : Outcome
  -- number, and word index from 0
  refused : ℕ → ℕ → Outcome

-- behind F, where the next word has index i: a word, or bytes left over, are words after F
abbrev pub behind : ℕ → List Word → Bool → Outcome
behind i [] false = accepted
behind i [] true = refused 3 i
behind i (w ∷ ws) left = refused 3 i

-- a fault ends the reading at its word
abbrev pub unless : Option ℕ → ℕ → Outcome → Outcome
unless (Some n) i v = refused n i
unless None i v = v

-- from state s, where the next word has index i; bytes left over count as the end of the words
unfoldable pub walk : State → ℕ → List Word → Bool → Outcome
walk s i [] left = refused 12 i
walk s i (w ∷ ws) left =
    let end = behind (suc i) ws left in
    let more = walk (next s w) (suc i) ws left in
    let on = cond (eqb w.kind 0xF) end more in
    unless (fault_at s i w) i on

-- ---- what accepted words say

-- the values of the words of kind k, in order
abbrev pub values_of : ℕ → List Word → List ℕ
values_of k [] = []
values_of k (w ∷ ws) = cond (eqb w.kind k) (w.value ∷ values_of k ws) (values_of k ws)

-- the first of them
abbrev pub first_of : List ℕ → Option ℕ
first_of [] = None
first_of (v ∷ vs) = Some v

-- the words of a customer behind its 7: those up to the next 7
abbrev pub own : List Word → List Word
own [] = []
own (w ∷ ws) = cond (eqb w.kind 7) [] (w ∷ own ws)

abbrev pub window_of : List ℕ → List ℕ → Option Window
window_of [] ds = None
window_of (r ∷ rs) [] = None
window_of (r ∷ rs) (d ∷ ds) = Some (record { ready = r; due = d })

abbrev pub break_of : List ℕ → Option Break
break_of [] = None
break_of (e ∷ []) = None
break_of (e ∷ l ∷ []) = None
break_of (e ∷ l ∷ d ∷ more) = Some (record { earliest = e; latest = l; duration = d })

-- so many seats and, in the words before the next customer, the second capacity or demand; absent it is 0
abbrev pub load_of : ℕ → List Word → Load
load_of seats ws = record { seats = seats; wheelchairs = value_or 0 (first_of (values_of 0 (own ws))) }

-- the customer with that demand whose other words are ws
abbrev pub customer_of : ℕ → List Word → Customer
customer_of demand ws =
    record {
      demand = load_of demand ws;
      service = value_or 0 (first_of (values_of 8 ws));
      window = window_of (values_of 9 ws) (values_of 0xA ws);
      penalty = first_of (values_of 0xB ws);
    }

-- each 7 begins a customer
abbrev pub customers_of : List Word → List Customer
customers_of [] = []
customers_of (w ∷ ws) = cond (eqb w.kind 7) (customer_of w.value (own ws) ∷ customers_of ws) (customers_of ws)

-- the sheet that accepted words say; record 0 is the depot, which has no words
unfoldable pub sheet_of : List Word → Sheet
sheet_of ws =
    record {
      head =
          record {
            places = value_or 0 (first_of (values_of 1 ws));
            capacity = load_of (value_or 0 (first_of (values_of 2 ws))) ws;
            fixed = value_or 0 (first_of (values_of 3 ws));
            max_distance = first_of (values_of 4 ws);
            max_duration = first_of (values_of 5 ws);
            rest = break_of (values_of 6 ws);
          };
      customers = depot ∷ customers_of ws;
      legs = record { distances = values_of 0xC ws; times = values_of 0xD ws };
    }

-- and the tour
unfoldable pub tour_of : List Word → List ℕ
tour_of ws = values_of 0xE ws

-- ---- the reading

pub data Reading : Type 0 where
  -- the sheet and its tour
  sheet : Sheet → List ℕ → Reading
  -- number, and word index from 0
  refused_at : ℕ → ℕ → Reading

abbrev pub answer : Outcome → Sheet → List ℕ → Reading
answer accepted s tour = sheet s tour
answer (refused n i) s tour = refused_at n i

-- words, and whether bytes are left over behind them
unfoldable pub read_words : List Word → Bool → Reading
read_words ws left =
    let s = sheet_of ws in
    let tour = tour_of ws in
    answer (walk start 0 ws left) s tour

unfoldable pub read : List ℕ → Reading
read bytes = read_words (words_of bytes) (left_over bytes)

-- the room that the reader needs: customers, distances, times, calls
abbrev pub reader_needs : List ℕ
reader_needs = most_places ∷ most_places * most_places ∷ most_places * most_places ∷ most_calls ∷ []

-- 13 first; the lengths of the lent lists, then the bytes
unfoldable pub read_into : List ℕ → List ℕ → Reading
read_into rooms bytes =
    let r = read bytes in
    cond (short reader_needs rooms) (refused_at 13 0) r
