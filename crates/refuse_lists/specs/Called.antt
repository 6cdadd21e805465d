-- Which customers have been called, by a note of each. Definitions only.
use Rattle.std.specs.Prelude.{ℕ, ◌≡◌, Bool, true, false, ◌||◌, List, [], ◌∷◌, get_or, set, replicate}
use Rattle.definitions.specs.Reader.{among}

-- as many notes as a sheet may have places
abbrev pub none_called : List Bool
none_called = replicate 64 false

-- some call of the tour is noted already, or called twice
unfoldable pub called_twice : List Bool → List ℕ → Bool
called_twice called [] = false
called_twice called (c ∷ tour) = get_or called c false || called_twice (set called c true) tour

-- the notes are those of the calls cs
abbrev pub Notes : List Bool → List ℕ → Type 0
Notes called cs = (c : ℕ) → get_or called c false ≡ among c cs
