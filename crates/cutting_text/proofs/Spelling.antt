-- A word letter by letter, by how many letters have come; and an answer where the second one is none. Assumes nothing.
use Prim.Native.Nat.{ℕ, suc, ◌+◌, ◌≤◌, ◌<◌}
use native.Mathlib.Omega.{arith}
use mathlib.Core.Path.{◌≡◌, refl, ap, ◌∙◌}
use mathlib.Core.List.{List}
use Rattle.std.specs.Prelude.{Option, None, Some}
use lib.ListN.{length, drop, get_or, drop_of_length-le}
use lib.Seq.{drop-cons}
use borrow.Author.Tests.{eq-eqb, ne_eqb}
use Rattle.basics.specs.Options.{or_else}
use Rattle.texts.specs.CuttingText.{Mode, spelling, State, to, blank, letter}

module _ (ls : List ℕ) (m : Mode) (i b : ℕ) where
  pub all-spelled : length ls ≤ i → None ≡ letter (spelling (drop i ls) m) b
  all-spelled h = rw (drop_of_length-le ls h) refl

  module _ (h : i < length ls) where
    pub next-letter : b ≡ get_or ls i 0 → Some (spelling (drop (i + 1) ls) m) ≡ letter (spelling (drop i ls) m) b
    next-letter e = let n : i + 1 ≡ suc i = omega arith in ap (λ (j : ℕ). Some (spelling (drop j ls) m)) n ∙ rw (drop-cons ls i 0 h, eq-eqb b (get_or ls i 0) e) refl

    pub other-letter : (b ≡ get_or ls i 0 → ⊥) → None ≡ letter (spelling (drop i ls) m) b
    other-letter e = rw (drop-cons ls i 0 h, ne_eqb b (get_or ls i 0) e) refl

-- a blank behind it
module _ (ls : List ℕ) (m : Mode) (i : ℕ) (s : State) where
  pub not-ended : i < length ls → None ≡ blank (spelling (drop i ls) m) s
  not-ended h = rw (drop-cons ls i 0 h) refl

  pub ended : length ls ≤ i → Some (to m s) ≡ blank (spelling (drop i ls) m) s
  ended h = rw (drop_of_length-le ls h) refl

pub or-none : {A : Type 0} (o : Option A) → or_else o None ≡ o
or-none None = refl
or-none (Some x) = refl
