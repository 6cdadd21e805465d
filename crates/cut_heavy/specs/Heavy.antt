-- Calls too heavy alone leave before the first row is filled: which calls fit alone, and the positions dropped of all calls, by the numbers
-- dropped of those that are left. Definitions only.
use Rattle.std.specs.Prelude.{ℕ, suc, Bool, cond, List, [], ◌∷◌, get_or, drop, eqb}
use Rattle.definitions.specs.Load.{Load, carried}
use Rattle.cut_stops.specs.Stops.{Numbers, stop_at}

-- a vehicle holds what this call alone asks for, by the lists of numbers
abbrev pub fits_alone : Numbers → Load → ℕ → Bool
fits_alone stops capacity c = carried (stop_at stops c).customer.demand capacity

module _ (fits : ℕ → Bool) where
  -- The positions dropped of these calls, in rising order; the first call has position p. The calls that fit alone are cut by themselves:
  -- the first of them has number q, and `gone` are the numbers dropped of them. So dropped is each call that does not fit alone, and each
  -- whose number is the next in `gone`.
  unfoldable pub spread : List ℕ → ℕ → ℕ → List ℕ → List ℕ
  spread [] p q gone = []
  spread (c ∷ calls) p q gone =
      cond (fits c)
      (cond (eqb (get_or gone 0 0) q) (p ∷ spread calls (suc p) (suc q) (drop 1 gone)) (spread calls (suc p) (suc q) gone))
      (p ∷ spread calls (suc p) q gone)
