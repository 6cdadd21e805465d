-- A cutting as text, in the listing's own form: a line for each run. Any bytes are read: as runs, or up to the first byte that may not
-- stand where it stands. Definitions only.
use Rattle.std.specs.Prelude.{ℕ, suc, ◌+◌, ◌-◌, ◌*◌, Bool, cond, ◌&&◌, ◌||◌, List, [], ◌∷◌, ◌++◌, length, leb, eqb, Option, None, Some, option_map}
use Prim.Native.Char.{code}
use Rattle.basics.specs.Options.{◌>>=◌, value_or, or_else, given}
use Rattle.definitions.specs.Listing.{text, is_digit, end_of_line}

-- ---- what is read

-- the numbers of a run's line: customers, and with a break its place and start
pub data Number : Type 0 where
  a_customer : Number
  a_place : Number
  a_start : Number

-- what stands in the line so far
pub data Mode : Type 0 where
  -- nothing but blanks
  fresh : Mode
  -- a word up to these letters; behind it come a blank and then that
  spelling : List ℕ → Mode → Mode
  -- a line that is passed over
  passing : Mode
  -- all that comes before a number
  before : Number → Mode
  -- a number up to here, and its value so far
  within : Number → ℕ → Mode
  -- customers: another may come, or the break, or the end of the line
  between : Mode
  -- a whole run with its break
  behind : Mode

-- what is known of the bytes so far
pub record State : Type 0 where
  pub mode : Mode
  -- the break place of this line's run, 0 where none was read
  pub place : ℕ
  -- the calls so far, and the ends and break places of the runs so far
  pub calls : List ℕ
  pub ends : List ℕ
  pub places : List ℕ

abbrev pub begin : State
begin = record { mode = fresh; place = 0; calls = []; ends = []; places = [] }

abbrev pub to : Mode → State → State
to m s = record { mode = m; place = s.place; calls = s.calls; ends = s.ends; places = s.places }

-- ---- blanks: a tab and the \r of a line that ends with \r\n count as such

abbrev pub is_blank : ℕ → Bool
is_blank b = eqb b (code " ") || eqb b (code "\t") || eqb b (code "\r")

-- a number is complete
abbrev pub taken : Number → ℕ → State → State
taken a_customer n s = record { mode = between; place = s.place; calls = s.calls ++ n ∷ []; ends = s.ends; places = s.places }
taken a_place n s = record { mode = before a_start; place = n; calls = s.calls; ends = s.ends; places = s.places }
taken a_start n s = to behind s

abbrev pub blank : Mode → State → Option State
blank fresh s = Some s
blank (spelling [] m) s = Some (to m s)
blank (spelling (l ∷ ls) m) s = None
blank passing s = Some s
blank (before k) s = Some s
blank (within k n) s = Some (taken k n s)
blank between s = Some s
blank behind s = Some s

-- ---- the end of a line

abbrev pub run_ended : State → State
run_ended s =
    record { mode = fresh; place = 0; calls = s.calls; ends = s.ends ++ length s.calls ∷ []; places = s.places ++ s.place ∷ [] }

abbrev pub line_ended : Mode → State → Option State
line_ended fresh s = Some s
line_ended (spelling ls m) s = None
line_ended passing s = Some (to fresh s)
line_ended (before k) s = None
line_ended (within k n) s = None
line_ended between s = Some (run_ended s)
line_ended behind s = Some (run_ended s)

-- ---- any other byte

-- a number with one more digit; a start is not used
abbrev pub grown : Number → ℕ → ℕ → ℕ
grown a_customer n d = n * 10 + d
grown a_place n d = n * 10 + d
grown a_start n d = 0

-- customers and places are bytes
abbrev pub digit : Number → ℕ → ℕ → Option Mode
digit k n b = let m = grown k n (b - code "0") in given (is_digit b && leb m 255) (within k m)

-- the first letter of a line
abbrev pub opening : ℕ → Option Mode
opening b =
    or_else (given (eqb b (code "r")) (spelling (text "un") (before a_customer)))
    (or_else (given (eqb b (code "d")) (spelling (text "rop") passing))
    (or_else (given (eqb b (code "t")) (spelling (text "otal") passing))
    (given (eqb b (code "#")) passing)))

abbrev pub letter : Mode → ℕ → Option Mode
letter fresh b = opening b
letter (spelling [] m) b = None
letter (spelling (l ∷ ls) m) b = given (eqb b l) (spelling ls m)
letter passing b = Some passing
letter (before k) b = digit k 0 b
letter (within k n) b = digit k n b
letter between b = or_else (digit a_customer 0 b) (given (eqb b (code "r")) (spelling (text "est") (before a_place)))
letter behind b = None

-- ---- byte by byte

abbrev pub is_line_end : ℕ → Bool
is_line_end b = eqb b (code "\n")

-- none where the byte may not stand; what may stand before a blank may stand before the end of a line
unfoldable pub step : State → ℕ → Option State
step s b =
    cond (is_line_end b) (blank s.mode s >>= λ t. line_ended t.mode t)
    (cond (is_blank b) (blank s.mode s) (option_map (λ m. to m s) (letter s.mode b)))

-- what could have stood instead of a bad byte
pub data Expected : Type 0 where
  -- "run", "drop", "total" or "#"
  a_line : Expected
  -- this letter of a word, or the blank behind it
  a_letter : ℕ → Expected
  -- a number, at most 255 but for a start
  a_number : Number → Expected
  -- a customer, "rest" or the end of the line
  more : Expected
  the_end : Expected

abbrev pub expected : Mode → Expected
expected fresh = a_line
expected (spelling [] m) = a_letter (code " ")
expected (spelling (l ∷ ls) m) = a_letter l
expected passing = the_end
expected (before k) = a_number k
expected (within k n) = a_number k
expected between = more
expected behind = the_end

-- where a line ends too early, that which was to come behind a blank
abbrev pub missing : State → ℕ → Expected
missing s b = expected (cond (is_line_end b) (value_or s (blank s.mode s)) s).mode

pub data CuttingRead : Type 0 where
  -- as they are lent to the marker
  runs : (calls ends places : List ℕ) → CuttingRead
  -- line and column from 1
  bad_at : (line column : ℕ) → Expected → CuttingRead

unfoldable pub walk : ℕ → ℕ → State → List ℕ → CuttingRead
walk line column s [] = runs s.calls s.ends s.places
walk line column s (b ∷ bs) =
    elim (step s b) [
      | None ↦ bad_at line column (missing s b)
      | Some t ↦ walk (cond (is_line_end b) (suc line) line) (cond (is_line_end b) 1 (suc column)) t bs
    ]

-- the end of the text ends its last line
unfoldable pub read_cutting : List ℕ → CuttingRead
read_cutting bytes = walk 1 1 begin (bytes ++ end_of_line)
