-- What a call of some kind asks of the lists that it is lent. Definitions only.
use Rattle.std.specs.Prelude.{ℕ, Bool, ◌&&◌, List, [], ◌∷◌, length, ltb}
use Rattle.basics.specs.Tests.{either}
use Rattle.definitions.specs.Domain.{most_calls}
use Rattle.definitions.specs.Lent.{violation_room}
use Rattle.definitions.specs.Room.{short}
use Rattle.definitions.specs.Refusals.{ends_fall, empty_run, break_beyond}
use Rattle.refuse_lists.specs.declared.kind.Kind.{Kind}
use Rattle.refuse_lists.specs.declared.kind.Results.{Results}
use Rattle.refuse_lists.specs.declared.kind.Results.TheVariants.{Nothing, Cut, Visits, Run, RunList}

-- how long the result lists have to be, for a tour, a list of calls and run ends of these lengths
abbrev pub needs_of : Results → (tour calls ends : ℕ) → List ℕ
needs_of Nothing tour calls ends = []
needs_of Cut tour calls ends = tour ∷ tour ∷ tour ∷ []
needs_of Visits tour calls ends = calls ∷ violation_room calls ∷ []
needs_of Run tour calls ends = calls ∷ []
needs_of RunList tour calls ends = calls ∷ ends ∷ []

-- a result list is shorter than that
abbrev pub results_short : Results → (tour calls ends rooms : List ℕ) → Bool
results_short results tour calls ends rooms = short (needs_of results (length tour) (length calls) (length ends)) rooms

-- refusal 13, where so many customers are lent
abbrev pub too_short_of : Kind → (places customers : ℕ) → (tour calls ends breaks rooms : List ℕ) → Bool
too_short_of kind places customers tour calls ends breaks rooms =
    either
    (ltb customers places
    ∷ results_short kind.results tour calls ends rooms
    ∷ (kind.marks && ltb (length breaks) (length ends))
    ∷ [])

-- refusal 5
abbrev pub runs_odd_of : Kind → Bool → ℕ → List ℕ → List ℕ → Bool
runs_odd_of kind rest calls ends breaks =
    either
    ((kind.takes_ends && ltb most_calls (length ends))
    ∷ (kind.takes_ends && ends_fall 0 ends calls)
    ∷ (kind.marks && empty_run 0 ends)
    ∷ (kind.marks && break_beyond rest 0 ends breaks)
    ∷ [])
