-- A sheet as text that a person can write. The text is a spelling of the sheet's words: a name says which number comes behind it, and each
-- number makes one word. Which words may stand, and what is wrong with one, is judged by the reader alone. Definitions only.
use Rattle.std.specs.Prelude.{ℕ, zero, suc, ◌+◌, ◌-◌, ◌*◌, ◌/◌, ◌%◌, Bool, true, false, cond, ◌&&◌, not, List, [], ◌∷◌, ◌++◌, length, get_or, ltb, leb, eqb, Option, None, Some}
use Prim.Native.Char.{code}
use Prim.Native.String.{String}
use Rattle.basics.specs.Options.{given}
use Rattle.basics.specs.Lists.{is_empty, all}
use Rattle.definitions.specs.Domain.{no_road, is_closed}
use Rattle.definitions.specs.Words.{Word, word, words_of, left_over}
use Rattle.definitions.specs.Reader.{State, start, next, Outcome, accepted, refused, walk}
use Rattle.definitions.specs.Listing.{text, decimal, is_digit, spaced, end_of_line, refusal_text}
use Rattle.texts.specs.CuttingText.{is_blank, is_line_end}

-- the number of the customer whose words come next
abbrev pub own_number : State → ℕ
own_number s = s.places - s.coming

-- where a table's row is whole
abbrev pub row_ends : State → Bool
row_ends s = eqb (s.row % s.places) 0

-- ---- words shown as text

-- a line of the table below: what stands before a number of this kind
pub record Lead : Type 0 where
  pub kind : ℕ
  pub words : List ℕ

abbrev pub lead : ℕ → List ℕ → Lead
lead k l = record { kind = k; words = l }

-- the numbers of a break
abbrev pub break_lead : State → List ℕ
break_lead s =
    cond (not (eqb s.last.kind 6)) (text "\nbreak from") (cond (eqb s.row 1) (text " to") (text " for"))

-- a table: its name on a line, and each row on one
abbrev pub table_lead : ℕ → List ℕ → State → List ℕ
table_lead k name s = cond (not (eqb s.last.kind k)) (end_of_line ++ name ++ text "\n ") (cond (row_ends s) (text "\n ") [])

-- the tour has a line even where it has no call
abbrev pub tour_lead : State → List ℕ
tour_lead s = cond (eqb s.last.kind 0xE) [] (text "\ntour")

abbrev pub leads : State → List Lead
leads s =
    lead 1 (text "places")
    ∷ lead 2 (text "\ncapacity")
    ∷ lead 0 (text " wheelchairs")
    ∷ lead 3 (text "\nfixed cost")
    ∷ lead 4 (text "\ndistance limit")
    ∷ lead 5 (text "\nduration limit")
    ∷ lead 6 (break_lead s)
    ∷ lead 7 (text "\ncustomer" ++ spaced (own_number s) ++ text " seats")
    ∷ lead 8 (text " service")
    ∷ lead 9 (text " window")
    ∷ lead 0xA (text " to")
    ∷ lead 0xB (text " penalty")
    ∷ lead 0xC (table_lead 0xC (text "distances") s)
    ∷ lead 0xD (table_lead 0xD (text "times") s)
    ∷ lead 0xE (tour_lead s)
    ∷ []

abbrev pub lead_in : List Lead → ℕ → List ℕ
lead_in [] k = []
lead_in (l ∷ ls) k = cond (eqb k l.kind) l.words (lead_in ls k)

-- a closed leg is a dash
abbrev pub number_text : ℕ → List ℕ
number_text v = cond (is_closed v) (text "-") (decimal v)

-- the last word is not written, as it counts the others
abbrev pub show_word : State → Word → List ℕ
show_word s w =
    cond (eqb w.kind 0xF) (tour_lead s ++ end_of_line) (lead_in (leads s) w.kind ++ text " " ++ number_text w.value)

-- from state s
abbrev pub show_from : State → List Word → List ℕ
show_from s [] = []
show_from s (w ∷ ws) = show_word s w ++ show_from (next s w) ws

unfoldable pub show_words : List Word → List ℕ
show_words ws = show_from start ws

-- what is shown for any bytes: their words, or why they are refused
abbrev pub shown_by : Outcome → List Word → List ℕ
shown_by accepted ws = show_words ws
shown_by (refused number index) ws = refusal_text number index

unfoldable pub show_file : List ℕ → List ℕ
show_file bytes = shown_by (walk start 0 (words_of bytes) (left_over bytes)) (words_of bytes)

-- ---- what a text says

-- what is awaited in a record of the text
pub data Item : Type 0 where
  -- this word
  says : List ℕ → Item
  -- the customer's own number
  own : Item
  -- a number, which makes a word of this kind
  number : ℕ → Item
  -- numbers of this kind, each row of a table on a line
  rows : ℕ → Item
  -- numbers of this kind up to the end of the text
  numbers : ℕ → Item

-- a record: the word that opens it, and what comes behind
pub record Record : Type 0 where
  pub opens : List ℕ
  pub items : List Item

abbrev pub entry : String → List Item → Record
entry w is = record { opens = text w; items = is }

abbrev pub say : String → Item
say w = says (text w)

unfoldable pub records : List Record
records =
    entry "places" (number 1 ∷ [])
    ∷ entry "capacity" (number 2 ∷ [])
    ∷ entry "wheelchairs" (number 0 ∷ [])
    ∷ entry "fixed" (say "cost" ∷ number 3 ∷ [])
    ∷ entry "distance" (say "limit" ∷ number 4 ∷ [])
    ∷ entry "duration" (say "limit" ∷ number 5 ∷ [])
    ∷ entry "break" (say "from" ∷ number 6 ∷ say "to" ∷ number 6 ∷ say "for" ∷ number 6 ∷ [])
    ∷ entry "customer" (own ∷ say "seats" ∷ number 7 ∷ [])
    ∷ entry "service" (number 8 ∷ [])
    ∷ entry "window" (number 9 ∷ say "to" ∷ number 0xA ∷ [])
    ∷ entry "penalty" (number 0xB ∷ [])
    ∷ entry "distances" (rows 0xC ∷ [])
    ∷ entry "times" (rows 0xD ∷ [])
    ∷ entry "tour" (numbers 0xE ∷ [])
    ∷ []

abbrev pub same_text : List ℕ → List ℕ → Bool
same_text [] [] = true
same_text [] (y ∷ ys) = false
same_text (x ∷ xs) [] = false
same_text (x ∷ xs) (y ∷ ys) = eqb x y && same_text xs ys

-- what comes behind an opening word
abbrev pub behind_in : List Record → List ℕ → Option (List Item)
behind_in [] w = None
behind_in (r ∷ rs) w = cond (same_text w r.opens) (Some r.items) (behind_in rs w)

-- a number with one more digit; what no word holds is one too many
abbrev pub grown : ℕ → ℕ → ℕ
grown n d = let m = n * 10 + (d - code "0") in cond (leb m no_road) m (suc no_road)

abbrev pub value_in : ℕ → List ℕ → ℕ
value_in n [] = n
value_in n (d ∷ ds) = value_in (grown n d) ds

-- the number that letters say, a dash that of a closed leg
abbrev pub value_of : List ℕ → Option ℕ
value_of [] = None
value_of (l ∷ ls) = cond (eqb l (code "-")) (given (is_empty ls) no_road) (given (all is_digit (l ∷ ls)) (value_in 0 (l ∷ ls)))

-- ---- byte by byte

-- what is known of the bytes so far
pub record Spelling : Type 0 where
  -- in a comment
  pub passing : Bool
  -- the letters of the word or number that has not ended yet
  pub letters : List ℕ
  -- what has to come in this record
  pub awaited : List Item
  -- no number of a table stands in this line
  pub fresh : Bool
  -- what the words so far leave to be known
  pub state : State
  pub made : List Word
  -- where in the text the number of each stands
  pub spots : List ℕ

abbrev pub begin : Spelling
begin = record { passing = false; letters = []; awaited = []; fresh = true; state = start; made = []; spots = [] }

-- what is wrong at a place
pub data Wrong : Type 0 where
  -- these were to come; where none was, an opening word
  misses : List Item → Wrong
  -- a number that no word holds
  too_large : Wrong
  -- the table of this kind, the row from 1, how many numbers it has, how many it should have
  bad_row : (kind row count places : ℕ) → Wrong
  -- the text ends before the tour
  unfinished : Wrong
  -- the reader refuses the word by this number
  refused_by : ℕ → Wrong

pub data Step : Type 0 where
  on : Spelling → Step
  bad : ℕ → Wrong → Step

infixl 10 ◌then◌
-- the rest, where nothing is wrong
abbrev pub ◌then◌ : Step → (Spelling → Step) → Step
on s then f = f s
bad at x then f = bad at x

abbrev pub awaits : List Item → Spelling → Step
awaits is s =
    on (record { passing = false; letters = []; awaited = is; fresh = s.fresh; state = s.state; made = s.made; spots = s.spots })

-- a word of kind k that the number v at this place makes
abbrev pub makes : ℕ → ℕ → ℕ → List Item → Spelling → Step
makes at k v is s =
    let w = word k v in
    cond (leb v no_road)
    (on (record {
      passing = false;
      letters = [];
      awaited = is;
      fresh = false;
      state = next s.state w;
      made = s.made ++ w ∷ [];
      spots = s.spots ++ at ∷ [];
    }))
    (bad at too_large)

-- a word that opens a record
abbrev pub opened : ℕ → List ℕ → Spelling → Step
opened at l s = elim (behind_in records l) [ None ↦ bad at (misses s.awaited) | Some is ↦ awaits is s ]

abbrev pub of_table : ℕ → State → Bool
of_table k s = eqb s.last.kind k

-- a number of a table: a row goes on in its line
abbrev pub of_row : ℕ → ℕ → ℕ → Spelling → Step
of_row at k v s =
    let t = s.state in
    cond (of_table k t && row_ends t && not s.fresh) (bad at (bad_row k (t.row / t.places) (suc t.places) t.places))
    (makes at k v s.awaited s)

-- a table that has all its numbers
abbrev pub full : ℕ → State → Bool
full k s = of_table k s && not (ltb s.row (s.places * s.places))

-- a word or number l that stands at this place is complete
abbrev pub taken : ℕ → List ℕ → List Item → Spelling → Step
taken at l [] s = opened at l s
taken at l (says w ∷ is) s = cond (same_text l w) (awaits is s) (bad at (misses s.awaited))
taken at l (own ∷ is) s =
    elim (value_of l) [
      | None ↦ bad at (misses s.awaited)
      | Some v ↦ cond (eqb v (own_number s.state)) (awaits is s) (bad at (misses s.awaited))
    ]
taken at l (number k ∷ is) s = elim (value_of l) [ None ↦ bad at (misses s.awaited) | Some v ↦ makes at k v is s ]
taken at l (rows k ∷ is) s =
    elim (value_of l) [
      | None ↦ cond (full k s.state) (opened at l s) (bad at (misses s.awaited))
      | Some v ↦ of_row at k v s
    ]
taken at l (numbers k ∷ is) s = elim (value_of l) [ None ↦ bad at (misses s.awaited) | Some v ↦ makes at k v s.awaited s ]

-- a word or number that stands right before this place has ended; there may be none
abbrev pub ended : ℕ → Spelling → Step
ended at s = cond (is_empty s.letters) (on s) (taken (at - length s.letters) s.letters s.awaited s)

abbrev pub to : (passing fresh : Bool) → List ℕ → Spelling → Spelling
to p f l s = record { passing = p; letters = l; awaited = s.awaited; fresh = f; state = s.state; made = s.made; spots = s.spots }

-- the end of a line, where no record may be left open and no row too short
abbrev pub line_ended : ℕ → List Item → Spelling → Step
line_ended at [] s = on (to false true [] s)
line_ended at (says w ∷ is) s = bad at (misses s.awaited)
line_ended at (own ∷ is) s = bad at (misses s.awaited)
line_ended at (number k ∷ is) s = bad at (misses s.awaited)
line_ended at (rows k ∷ is) s =
    let t = s.state in
    cond (of_table k t && not (full k t) && not (row_ends t))
    (bad at (bad_row k (suc (t.row / t.places)) (t.row % t.places) t.places))
    (on (to false true [] s))
line_ended at (numbers k ∷ is) s = on (to false true [] s)

-- the byte b at this place
unfoldable pub step : ℕ → Spelling → ℕ → Step
step at s b =
    cond (is_line_end b) (ended at s then λ t. line_ended at t.awaited t)
    (cond s.passing (on s)
    (cond (is_blank b) (ended at s)
    (cond (eqb b (code "#")) (ended at s then λ t. on (to true t.fresh [] t))
    (on (to false s.fresh (s.letters ++ b ∷ []) s)))))

-- ---- the whole text

-- the words that were made, the places of their numbers, where the spelling ends and what is wrong there
pub record Spelled : Type 0 where
  pub made : List Word
  pub spots : List ℕ
  pub end : ℕ
  pub wrong : Option Wrong

-- the tour has come
abbrev pub in_tour : List Item → Bool
in_tour [] = false
in_tour (says w ∷ is) = false
in_tour (own ∷ is) = false
in_tour (number k ∷ is) = false
in_tour (rows k ∷ is) = false
in_tour (numbers k ∷ is) = true

-- the last word counts the others
abbrev pub finished : ℕ → Spelling → Spelled
finished at s =
    cond (in_tour s.awaited)
    (record { made = s.made ++ word 0xF (length s.made) ∷ []; spots = s.spots; end = at; wrong = None })
    (record { made = s.made; spots = s.spots; end = at; wrong = Some unfinished })

unfoldable pub spell : ℕ → Spelling → List ℕ → Spelled
spell at s [] = finished at s
spell at s (b ∷ bs) =
    elim (step at s b) [
      | on t ↦ spell (suc at) t bs
      | bad end x ↦ record { made = s.made; spots = s.spots; end = end; wrong = Some x }
    ]

-- line and column, from 1, of a place in the text
unfoldable pub line_at : ℕ → List ℕ → ℕ
line_at zero bs = 1
line_at (suc n) [] = 1
line_at (suc n) (b ∷ bs) = cond (is_line_end b) 1 0 + line_at n bs

-- the column, where that of the first byte is c
unfoldable pub column_from : ℕ → ℕ → List ℕ → ℕ
column_from c zero bs = c
column_from c (suc n) [] = c
column_from c (suc n) (b ∷ bs) = column_from (cond (is_line_end b) 1 (suc c)) n bs

pub data Written : Type 0 where
  written : List Word → Written
  wrong_at : (line column : ℕ) → Wrong → Written

-- what is wrong first: a word that the reader refuses among those made before the spelling went wrong, or else that
abbrev pub first_wrong : Spelled → ℕ → ℕ → Wrong
first_wrong r n i = elim r.wrong [ None ↦ refused_by n | Some x ↦ cond (ltb i (length r.spots)) (refused_by n) x ]

abbrev pub judged : List ℕ → Spelled → Outcome → Written
judged bytes r accepted = written r.made
judged bytes r (refused n i) =
    let at = get_or r.spots i r.end in wrong_at (line_at at bytes) (column_from 1 at bytes) (first_wrong r n i)

-- the end of the text ends its last line
unfoldable pub write_text : List ℕ → Written
write_text bytes = let r = spell 0 begin (bytes ++ end_of_line) in judged bytes r (walk start 0 r.made false)
