-- The words of one customer: those up to the next 7. Assumes nothing.
use Prim.Native.Nat.{ℕ}
use mathlib.Core.Path.{◌≡◌, refl}
use mathlib.Core.List.{List, [], ◌∷◌}
use Rattle.std.specs.Prelude.{Option}
use lib.Dec.{eqb}
use Rattle.basics.proofs.TestLaws.{by-test}
use Rattle.definitions.specs.Words.{Word}
use Rattle.definitions.specs.Reader.{values_of, first_of, own, load_of, window_of}
use Rattle.sheet_read.specs.Parts.{window_from}

-- the first value of kind k among them
abbrev pub own_first : ℕ → List Word → Option ℕ
own_first k ws = first_of (values_of k (own ws))

-- they are the same words of themselves, and so have the same second capacity or demand
own-own : (ws : List Word) → own (own ws) ≡ own ws
own-own [] = refl
own-own (w ∷ ws) = by-test (eqb w.kind 7) (λ t. rw t) (λ f. rw f (rw (f, own-own ws) refl))

pub load-own : (seats : ℕ) (ws : List Word) → load_of seats (own ws) ≡ load_of seats ws
load-own seats ws = rw (own-own ws)

-- a window by the first of each end
pub window-firsts : (rs ds : List ℕ) → window_from (first_of rs) (first_of ds) ≡ window_of rs ds
window-firsts [] ds = refl
window-firsts (r ∷ rs) [] = refl
window-firsts (r ∷ rs) (d ∷ ds) = refl
