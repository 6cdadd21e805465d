-- Small cases, worked out: ties, a legal run past one that is not, pairs of costs, and the drop rule. Assumes nothing.
use Prim.Native.Nat.{ℕ, ◌+◌, ◌-◌}
use mathlib.Core.Path.{◌≡◌, refl}
use mathlib.Core.Bool.{Bool, true, false, ◌&&◌, ◌||◌}
use mathlib.Core.List.{List, [], ◌∷◌}
use Rattle.std.specs.Prelude.{None, Some}
use lib.ListN.{take}
use lib.Dec.{ltb, leb, eqb}
use Rattle.basics.specs.Lists.{all}
use Rattle.cut_theory.specs.Cut.{first, cost, from, back_of}
use Rattle.cut_theory.specs.Runs.{Runs}
use Rattle.cut_theory.specs.Plain.{Plain, best_opt, pred_opt, ends_opt}
use Rattle.cut_theory.specs.Lex.{lower_lex}
use Rattle.cut_theory.specs.First.{find}
use Rattle.cut_theory.specs.Drop.{stuck, settle, held}

-- every run is legal and costs 1 for each of its calls: all cuttings cost the same, and the one run is kept
abbrev level : Plain ℕ
level = record { lower = ltb; start = 0; legal = λ _ _. true; ext = λ c i j. c + (j - i) }

pub tie : (best_opt level 3 ≡ Some 3) × (pred_opt level 3 ≡ 0) × (ends_opt level 3 ≡ 3 ∷ [])
unfolding first cost from back_of
tie = (refl, refl, refl)

-- a run has at most two calls, and costs 4 and 1 for each of them
abbrev dear : Plain ℕ
dear = record { lower = ltb; start = 0; legal = λ i j. leb (j - i) 2; ext = λ c i j. c + (4 + (j - i)) }

-- of three calls, 1 and 2 is as cheap as 2 and 1, and its last run starts earlier
pub two_ways : (best_opt dear 3 ≡ Some 11) × (pred_opt dear 3 ≡ 1) × (ends_opt dear 3 ≡ 1 ∷ 3 ∷ [])
unfolding first cost from back_of
two_ways = (refl, refl, refl)

-- only the run of one call and the run of three from the start are legal: the longer one is found past the illegal one
abbrev gap : Plain ℕ
gap = record { lower = ltb; start = 0; legal = λ i j. eqb i 0 && (eqb j 1 || eqb j 3); ext = λ c i j. c + 1 }

pub past-a-gap : (best_opt gap 2 ≡ None) × (best_opt gap 3 ≡ Some 1) × (ends_opt gap 3 ≡ 3 ∷ [])
unfolding first cost from back_of
past-a-gap = (refl, refl, refl)

-- of pairs the first part decides, and the second only where the first parts are equal
abbrev part : Runs ℕ
part = record { lower = ltb; start = 0; top = 9; legal = λ _ _. true; ext = λ c i j. c + (j - i) }

pub pairs : (lower_lex part part (1, 5) (2, 0) ≡ true) × (lower_lex part part (1, 3) (1, 5) ≡ true) × (lower_lex part part (1, 5) (1, 5) ≡ false)
pairs = (refl, refl, refl)

-- calls above 5 fit no vehicle: they go, the first first, and the others stay
abbrev small : List ℕ → ℕ → Bool
small l j = all (λ c. leb c 5) (take j l)

pub two-go : (stuck small (3 ∷ 9 ∷ 4 ∷ 8 ∷ []) ≡ Some 1) × (held small (3 ∷ 9 ∷ 4 ∷ 8 ∷ []) ≡ 3 ∷ 4 ∷ [])
unfolding find settle
two-go = (refl, refl)
