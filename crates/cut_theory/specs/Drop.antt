-- What is done where the tour cannot be cut: while some beginning of the held list has no cutting, the last call of the shortest such
-- beginning is removed, and all starts over, since what is legal may turn on the whole list.
-- `have l j` says whether the first j calls of l have a cutting.
use Rattle.std.specs.Prelude.{ℕ, zero, suc, ◌<◌, ◌≡◌, Bool, true, false, List, length, Option, None, Some}
use Rattle.basics.specs.Lists.{without}
use Rattle.cut_theory.specs.First.{find}

module _ {A : Type 0} (have : List A → ℕ → Bool) where
  -- the place of the last call of the shortest beginning that has no cutting
  abbrev pub stuck : List A → Option ℕ
  stuck l = find (λ k. have l (suc k)) (length l) 0

  abbrev pub onward : Option ℕ → List A → (List A → List A) → List A
  onward None l go = l
  onward (Some k) l go = go (without k l)

  -- f is enough turns
  unfoldable pub settle : ℕ → List A → List A
  settle zero l = l
  settle (suc f) l = onward (stuck l) l (λ r. settle f r)

  -- what is held in the end
  abbrev pub held : List A → List A
  held l = settle (length l) l

  -- every beginning but the empty one has a cutting
  abbrev pub AllHave : List A → Type 0
  AllHave l = (k : ℕ) → k < length l → have l (suc k) ≡ true

  -- the process, step by step: `Settles l r` says that it takes l to r
  pub data Settles : List A → List A → Type 0 where
    stop : {l : List A} → AllHave l → Settles l l
    drop : {l r : List A} (k : ℕ) → k < length l → have l (suc k) ≡ false → ((m : ℕ) → m < k → have l (suc m) ≡ true)
        → Settles (without k l) r → Settles l r
