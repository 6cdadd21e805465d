-- Reading along a recorded text, from place to place. Definitions only.
use Rattle.std.specs.Prelude.{ℕ, ◌+◌, ◌<◌, Bool, cond, ◌&&◌, List, [], ◌∷◌, length, take, drop, leb}
use Rattle.test_runs.specs.Alike.{same_list}

-- a place beyond every recorded text
abbrev pub unlike : ℕ
unlike = 65536

-- the text stands at a place of the recorded one
unfoldable pub says : List ℕ → ℕ → List ℕ → Bool
says recorded at text = leb at (length recorded) && same_list (take (length text) (drop at recorded)) text

-- the place after a text that stands at the place; beyond every text where another stands there
unfoldable pub follow : List ℕ → ℕ → List ℕ → ℕ
follow recorded at text = cond (says recorded at text) (at + length text) unlike

-- the place after words that stand there one behind the other
unfoldable pub follows : List ℕ → ℕ → List (List ℕ) → ℕ
follows recorded at [] = at
follows recorded at (w ∷ ws) = follows recorded (follow recorded at w) ws

-- so long is no recorded text
abbrev pub Short : List ℕ → Type 0
Short recorded = length recorded < unlike
