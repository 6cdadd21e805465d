-- The listing: what the program prints for any bytes. Definitions only.
use Rattle.std.specs.Prelude.{ℕ, zero, suc, ◌+◌, ◌/◌, ◌%◌, Bool, cond, ◌&&◌, List, [], ◌∷◌, ◌++◌, length, ltb, leb, Option, None, Some}
use Prim.Native.Char.{code}
use Prim.Native.String.{String, [] as ended, ◌∷◌ as ◌then◌}
use Rattle.definitions.specs.Sheet.{Sheet}
use Rattle.definitions.specs.Run.{Run}
use Rattle.definitions.specs.Clock.{start_of}
use Rattle.definitions.specs.Drop.{call_at, Result, split_tw}
use Rattle.definitions.specs.Marker.{with_places}
use Rattle.definitions.specs.RunList.{runs_of}
use Rattle.definitions.specs.Reader.{Reading, sheet, refused_at, read}

-- ---- text as bytes

abbrev pub text : String → List ℕ
text ended = []
text (c then s) = code c ∷ text s

-- a number in base ten; there are enough turns
unfoldable pub digits_in : ℕ → ℕ → List ℕ
digits_in zero n = []
digits_in (suc turns) n = cond (ltb n 10) ((code "0" + n) ∷ []) (digits_in turns (n / 10) ++ ((code "0" + n % 10) ∷ []))

abbrev pub decimal : ℕ → List ℕ
decimal n = digits_in (suc n) n

-- a byte that is a digit
abbrev pub is_digit : ℕ → Bool
is_digit b = leb (code "0") b && leb b (code "9")

-- a blank, and a number
abbrev pub spaced : ℕ → List ℕ
spaced n = text " " ++ decimal n

abbrev pub end_of_line : List ℕ
end_of_line = text "\n"

-- ---- the lines

abbrev pub customers_text : List ℕ → List ℕ
customers_text [] = []
customers_text (c ∷ cs) = spaced c ++ customers_text cs

-- with a break, its place and start
abbrev pub rest_text : ℕ → Option ℕ → List ℕ
rest_text place None = []
rest_text place (Some start) = text " rest" ++ spaced place ++ spaced start

-- a run: customers, then its break
unfoldable pub run_line : Sheet → Run → List ℕ
run_line s r = text "run" ++ customers_text r.calls ++ rest_text r.place (start_of s r) ++ end_of_line

abbrev pub run_lines : Sheet → List Run → List ℕ
run_lines s [] = []
run_lines s (r ∷ rs) = run_line s r ++ run_lines s rs

-- a dropped call: its customer, in drop order
abbrev pub drop_lines : List ℕ → List ℕ → List ℕ
drop_lines tour [] = []
drop_lines tour (p ∷ ps) = text "drop" ++ spaced (call_at tour p) ++ end_of_line ++ drop_lines tour ps

-- distance, cost, and how many calls are served and dropped
abbrev pub total_line : Result → List ℕ
total_line x =
    text "total" ++ spaced x.distance
    ++ text " cost" ++ spaced x.cost
    ++ text " served" ++ spaced (length x.served)
    ++ text " dropped" ++ spaced (length x.dropped)
    ++ end_of_line

-- the plan of `split_tw`
unfoldable pub plan_text : Sheet → List ℕ → Result → List ℕ
plan_text s tour x = run_lines s (with_places (runs_of x.served x.ends) x.places) ++ drop_lines tour x.dropped ++ total_line x

-- a refusal: its number and word
abbrev pub refusal_text : ℕ → ℕ → List ℕ
refusal_text number word = text "refused" ++ spaced number ++ text " at" ++ spaced word ++ end_of_line

abbrev pub reading_text : Reading → List ℕ
reading_text (sheet s tour) = plan_text s tour (split_tw s tour)
reading_text (refused_at number word) = refusal_text number word

-- what the listing program prints for the bytes on standard input
unfoldable pub listing : List ℕ → List ℕ
listing bytes = reading_text (read bytes)
