-- The words of a sheet and its tour, in order. Definitions only.
use Rattle.std.specs.Prelude.{ℕ, zero, suc, Bool, true, false, length, Option, None, Some}
use mathlib.Core.List.{List, [], ◌∷◌, ◌++◌, map, tail}
use Rattle.definitions.specs.Sheet.{Window, Break, Customer, Sheet}
use Rattle.definitions.specs.Words.{Word, word}

abbrev pub optional : ℕ → Option ℕ → List Word
optional k None = []
optional k (Some v) = word k v ∷ []

-- A second capacity or demand. One that is 0 may be left out: whether it is said is a list of its own, the capacity's first and then each
-- customer's; what the list does not reach is left out.
abbrev pub is_said : List Bool → Bool
is_said [] = false
is_said (b ∷ bs) = b

abbrev pub second_words : Bool → ℕ → List Word
second_words true n = word 0 n ∷ []
second_words false zero = []
second_words false (suc n) = word 0 (suc n) ∷ []

abbrev pub break_words : Option Break → List Word
break_words None = []
break_words (Some b) = word 6 b.earliest ∷ word 6 b.latest ∷ word 6 b.duration ∷ []

abbrev pub window_words : Option Window → List Word
window_words None = []
window_words (Some w) = word 9 w.ready ∷ word 0xA w.due ∷ []

abbrev pub customer_words : List Bool → List Customer → List Word
customer_words said [] = []
customer_words said (c ∷ cs) =
    word 7 c.demand.seats ∷ second_words (is_said said) c.demand.wheelchairs
    ++ word 8 c.service ∷ window_words c.window ++ optional 0xB c.penalty ++ customer_words (tail said) cs

-- all words but the last
unfoldable pub body_words : List Bool → Sheet → List ℕ → List Word
body_words said s tour =
    word 1 s.head.places ∷ word 2 s.head.capacity.seats ∷ second_words (is_said said) s.head.capacity.wheelchairs
    ++ word 3 s.head.fixed
    ∷ optional 4 s.head.max_distance ++ optional 5 s.head.max_duration ++ break_words s.head.rest
    ++ customer_words (tail said) (tail s.customers)
    ++ map (word 0xC) s.legs.distances ++ map (word 0xD) s.legs.times ++ map (word 0xE) tour

-- the last word says how many stand before it
unfoldable pub encode : List Bool → Sheet → List ℕ → List Word
encode said s tour = let body = body_words said s tour in body ++ word 0xF (length body) ∷ []
