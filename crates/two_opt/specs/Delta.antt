-- What a reversal changes in the distance of a run, on floats, in the code's order of sums. Definitions only.
use Rattle.std.specs.Prelude.{ℕ, suc, ◌-◌, Bool, cond, List, [], ◌∷◌, get_or, take, drop, Float}
use Rattle.std.specs.Float.Ieee as Ieee
use Rattle.std.specs.Float.{binary64}
use Rattle.whole.specs.Whole.{fl}
use Rattle.evaluation.specs.Tables.{place_before}

-- the place behind: the next call, or the depot
abbrev pub place_behind : List ℕ → ℕ → ℕ
place_behind route j = get_or route (suc j) 0

module _ (leg : ℕ → ℕ → Float) where
  -- from a through the calls, each leg back less the leg there, on top of what is reckoned already
  unfoldable pub turned_legs_f : Float → ℕ → List ℕ → Float
  turned_legs_f sum a [] = sum
  turned_legs_f sum a (c ∷ cs) = turned_legs_f (Ieee.add binary64 sum (Ieee.sub binary64 (leg c a) (leg a c))) c cs

  -- the legs of a stretch
  unfoldable pub reversal_delta_f : Bool → List ℕ → Float
  reversal_delta_f symmetric segment = cond symmetric (fl 0) (turned_legs_f (fl 0) (get_or segment 0 0) (drop 1 segment))

  -- the leg into call number i, from 0
  abbrev pub into_f : ℕ → List ℕ → Float
  into_f i route = leg (place_before route i) (get_or route i 0)

  -- the legs on both sides of the stretch from x to y, between p and q
  abbrev pub ends_f : ℕ → ℕ → ℕ → ℕ → Float
  ends_f p x y q = Ieee.add binary64 (leg p x) (leg y q)

  -- the calls from i up to and with j turned
  unfoldable pub delta_f : Bool → ℕ → ℕ → List ℕ → Float
  delta_f symmetric i j route =
      let p = place_before route i in
      let x = get_or route i 0 in
      let y = get_or route j 0 in
      let q = place_behind route j in
      Ieee.add binary64 (Ieee.sub binary64 (ends_f p y x q) (ends_f p x y q)) (reversal_delta_f symmetric (take (suc j - i) (drop i route)))
