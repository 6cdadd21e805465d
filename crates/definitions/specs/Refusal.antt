-- Refusals in order: the first that fits is given. Definitions only.
use Rattle.std.specs.Prelude.{ℕ, Bool, cond, List, [], ◌∷◌, Option, None, Some}

-- a refusal: its number in the scope document, and whether it fits
pub record Refusal : Type 0 where
  pub number : ℕ
  pub fits : Bool

abbrev pub refusal : ℕ → Bool → Refusal
refusal n b = record { number = n; fits = b }

-- the number of the first that fits; none when no refusal fits
abbrev pub first_fit : List Refusal → Option ℕ
first_fit [] = None
first_fit (r ∷ rs) = cond r.fits (Some r.number) (first_fit rs)
