-- Two tables row by row: row one of both, then row two of both. Definitions only.
use Rattle.std.specs.Prelude.{ℕ, zero, suc, Bool, false, ◌||◌, List, take, drop}
use Rattle.basics.specs.Lists.{any}

module _ {F : Type 0} (p : F → Bool) (size : ℕ) where
  -- the test fits a number in the first row of one of the tables; an empty table has no rows
  abbrev pub row_finds : List F → List F → Bool
  row_finds distances times = any p (take size distances) || any p (take size times)

  -- in the first k rows, one row of both tables after the other
  unfoldable pub rows_find : ℕ → List F → List F → Bool
  rows_find zero distances times = false
  rows_find (suc k) distances times = row_finds distances times || rows_find k (drop size distances) (drop size times)
