-- The first number at which a test fails: a search, and what a loop that searches has found.
use Rattle.std.specs.Prelude.{ℕ, zero, suc, ◌<◌, ◌≤◌, ◌≡◌, Bool, true, false, cond, Option, None, Some}

-- the first k from j on, of f, at which the test fails
unfoldable pub find : (ℕ → Bool) → ℕ → ℕ → Option ℕ
find p zero j = None
find p (suc f) j = cond (p j) (find p f (suc j)) (Some j)

-- r is the first number below n at which the test fails, and n where there is none
pub record FirstOf (p : ℕ → Bool) (n r : ℕ) : Type 0 where
  pub within : r ≤ n
  pub passes : (k : ℕ) → k < r → p k ≡ true
  pub fails : r < n → p r ≡ false
