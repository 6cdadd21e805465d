-- What a recorded answer on a run list has to say, as words and as a text. Definitions only.
use Rattle.std.specs.Prelude.{ℕ, ◌+◌, ◌≤◌, ◌≡◌, Bool, false, cond, ◌&&◌, List, [], ◌∷◌, ◌++◌, map, ltb, leb, Float, length, get_or, take, drop}
use Rattle.whole.specs.Whole.{fl}
use Rattle.definitions.specs.Domain.{most_calls}
use Rattle.definitions.specs.Sheet.{Sheet}
use Rattle.definitions.specs.Refusals.{ends_fall}
use Rattle.definitions.specs.Room.{written}
use Rattle.definitions.specs.RunList.{runs_of}
use Rattle.definitions.specs.Reader.{Reading, sheet, refused_at, read}
use Rattle.models.specs.Image.{fl_customer}
use Rattle.evaluation.specs.Image.{fl_limits}
use Rattle.sheet_read.specs.Parts.{depots}
use Rattle.improve_base.specs.Search.{search_f}
use Rattle.models.specs.declared.placement.Placement.TheVariants.{Clock}
use Rattle.cut_runs.specs.Runs.{Instance}
use Rattle.place_choice.specs.Insertion.{GivenF}
use Rattle.split_tw.specs.Answer.{ResultF}
use Rattle.split_tw.specs.SplitTw.{split_tw_f}
use Rattle.split.specs.Bare.{bare_of}
use Rattle.test_runs.specs.Alike.{same_list}
use Rattle.test_runs.specs.Along.{Short}
use Rattle.test_runs.specs.Words.{Words, line, figure, numbers}
use Rattle.test_runs.specs.Runs.{runs_words}

-- ---- of a sheet, its tour, calls and run ends

-- the sheet as it is held: records behind those of its places are the depot's
abbrev pub given_of : Sheet → GivenF
given_of s =
    let customers = written (map fl_customer s.customers) depots in
    let distances = map fl s.legs.distances in
    record {
      tables =
          record {
            customers = customers;
            distances = distances;
            times = map fl s.legs.times;
            size = s.head.places;
          };
      capacity = s.head.capacity;
      fixed = fl s.head.fixed;
      search = search_f customers s.head.places (fl_limits s);
    }

-- what the cut by loads and closed legs alone is given of it
abbrev pub bare : GivenF → Instance
bare G = bare_of (record { tables = G.tables; capacity = G.capacity; fixed = G.fixed; limits = G.search.limits; placement = Clock })

-- what a cut gives, by its parts
abbrev pub result : (served ends dropped : List ℕ) (cost distance : Float) → ResultF
result served ends dropped cost distance =
    record { served = served; ends = ends; dropped = dropped; cost = cost; distance = distance }

-- the served customers, the run ends and the dropped positions, a line each, and what the cut comes to
abbrev pub cut_words : ResultF → Words
cut_words x =
    line "served" (numbers x.served)
    ++ line "ends" (numbers x.ends)
    ++ line "dropped" (numbers x.dropped)
    ++ line "split" (figure x.cost ∷ figure x.distance ∷ [])

-- what is made of the runs of these calls, and the cut of the tour
abbrev pub answer_words : GivenF → (tour calls ends : List ℕ) → Words
answer_words G tour calls ends = runs_words G (runs_of calls ends) ++ cut_words (split_tw_f (bare G) tour)

abbrev pub text_of : Words → List ℕ
text_of [] = []
text_of (w ∷ ws) = w ++ text_of ws

-- ---- a list behind a byte for its length, and what follows it

-- the list is there, and has at most as many numbers as a run list may have calls or run ends
unfoldable pub is_counted : List ℕ → Bool
is_counted bytes = ltb (get_or bytes 0 0) (length bytes) && leb (get_or bytes 0 0) most_calls

abbrev pub counted : List ℕ → List ℕ
counted bytes = take (get_or bytes 0 0) (drop 1 bytes)

abbrev pub behind : List ℕ → List ℕ
behind bytes = drop (get_or bytes 0 0 + 1) bytes

-- the end of the list lies inside the bytes
pub record EndsAt (bytes : List ℕ) (end : ℕ) : Type 0 where
  pub is : end ≡ get_or bytes 0 0 + 1
  pub inside : end ≤ length bytes

-- ---- of a question: the run ends, then the calls, and behind them the sheet

-- the recorded text is, byte by byte, that of the run list; one whose ends fall has none
unfoldable pub list_alike : GivenF → (tour calls ends recorded : List ℕ) → Bool
list_alike G tour calls ends recorded =
    cond (ends_fall 0 ends (length calls)) false (same_list (text_of (answer_words G tour calls ends)) recorded)

-- of a sheet as it is read; a refused one has no answer
abbrev pub sheet_alike : Reading → (calls ends recorded : List ℕ) → Bool
sheet_alike (sheet s tour) calls ends recorded = list_alike (given_of s) tour calls ends recorded
sheet_alike (refused_at number word) calls ends recorded = false

-- of the bytes behind the run ends; where the calls are not there, or too many, there is no answer
unfoldable pub calls_alike : (ends rest recorded : List ℕ) → Bool
calls_alike ends rest recorded = is_counted rest && sheet_alike (read (behind rest)) (counted rest) ends recorded

-- the same of the run ends
unfoldable pub runs_alike : (question recorded : List ℕ) → Bool
runs_alike question recorded = is_counted question && calls_alike (counted question) (behind question) recorded

-- not too many calls and run ends, and the recorded text is short
pub record Fits (calls ends recorded : List ℕ) : Type 0 where
  pub few-calls : length calls ≤ most_calls
  pub few-ends : length ends ≤ most_calls
  pub short : Short recorded
