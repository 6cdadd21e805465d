-- The text of a plan's lists. Definitions only.
use Rattle.std.specs.Prelude.{ℕ, List, [], ◌∷◌, ◌++◌}
use Rattle.definitions.specs.Drop.{Result}
use Rattle.definitions.specs.RunList.{runs_of}
use Rattle.definitions.specs.Listing.{drop_lines, total_line}
use Rattle.listing_lines.specs.Lines.{start_if, run_text}

-- runs, each with the place of its break, from 1, or 0 for none, and its start
abbrev pub runs_text : List (List ℕ) → (places starts : List ℕ) → List ℕ
runs_text (r ∷ rs) (p ∷ ps) (t ∷ ts) = run_text r p (start_if p t) ++ runs_text rs ps ts
runs_text (r ∷ rs) (p ∷ ps) [] = []
runs_text (r ∷ rs) [] ts = []
runs_text [] ps ts = []

-- the result that the lists and totals say
abbrev pub printed : (served ends places dropped : List ℕ) → (distance cost : ℕ) → Result
printed served ends places dropped distance cost =
    record { served = served; ends = ends; dropped = dropped; cost = cost; distance = distance; places = places }

-- a result of the tour, with the starts of its breaks
unfoldable pub result_text : List ℕ → Result → List ℕ → List ℕ
result_text tour x starts =
    runs_text (runs_of x.served x.ends) x.places starts ++ drop_lines tour x.dropped ++ total_line x
