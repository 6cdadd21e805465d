-- Text put at a place of a list. Definitions only.
use Rattle.std.specs.Prelude.{◌≡◌, ℕ, ◌+◌, List, ◌++◌, length, take, drop}

-- what stands before and behind the text stays
unfoldable pub put_at : ℕ → List ℕ → List ℕ → List ℕ
put_at at text old = take at old ++ text ++ drop (at + length text) old

-- the text is put at `at`, and r is the place after it
pub record Put (at : ℕ) (text old new : List ℕ) (r : ℕ) : Type 0 where
  pub holds : new ≡ put_at at text old
  pub next : r ≡ at + length text
