-- An array that is filled cell by cell, from the left: some cells are put anew, and the others stay.
use Rattle.std.specs.Prelude.{ℕ, Bool, cond, ◌&&◌, leb}

-- which cells are put anew, what is put there, and what stood there
pub record Fill (A : Type 0) : Type 0 where
  pub wins : ℕ → Bool
  pub new : ℕ → A
  pub old : ℕ → A

module _ {A : Type 0} (F : Fill A) where
  -- the cell k when all is done, and when it is done up to j
  abbrev pub filled : ℕ → A
  filled k = cond (F.wins k) (F.new k) (F.old k)

  abbrev pub up_to : ℕ → ℕ → A
  up_to j k = cond (leb k j && F.wins k) (F.new k) (F.old k)
