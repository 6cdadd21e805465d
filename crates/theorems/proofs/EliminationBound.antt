-- The Rust's test in elimination, `added + cost < saved`, by the totals that the definition compares. What was added
-- and what a customer costs may be below zero: each is told by two numbers, how far the distance goes up and how far it goes down. Assumes nothing.
use Prim.Native.Nat.{ℕ, ◌+◌, ◌<◌}
use native.Mathlib.Omega.{arith}
use mathlib.Core.Path.{◌≡◌}
use mathlib.Core.List.{List, ◌∷◌}
use lib.Dec.{ltb}
use borrow.Author.Tests.{ltb-true, lt-ltb}
use Rattle.basics.proofs.TestLaws.{same_test}
use Rattle.definitions.specs.Improver.{Given, distance_of, total}
use Rattle.definitions.specs.Elimination.{Parted}

-- from one distance to another it goes up and down so far
pub record Changes (before after up down : ℕ) : Type 0 where
  pub is : before + up ≡ after + down

-- a run is to be emptied into the rest; `runs` are the rest with the customers placed so far, `grown` those with one customer more
module _ (G : Given) (p : Parted) (runs grown : List (List ℕ)) where
  -- what goes with the run: its distance and the fixed cost
  abbrev pub saved : ℕ
  saved = distance_of G p.run + G.fixed

  -- what was added since the beginning, and what the customer adds to it
  module _ {up down more less : ℕ} (added : Changes (total G p.rest) (total G runs) up down) (cost : Changes (total G runs) (total G grown) more less) where
    -- (up - down) + (more - less) < saved
    pub bound-same : ltb (up + more) (saved + (down + less)) ≡ ltb (total G grown) (total G (p.run ∷ p.rest) + G.fixed)
    bound-same =
        same_test (ltb (up + more) (saved + (down + less))) (ltb (total G grown) (total G (p.run ∷ p.rest) + G.fixed))
        (λ t. lt-ltb (total G grown) (total G (p.run ∷ p.rest) + G.fixed) (below (ltb-true (up + more) (saved + (down + less)) t)))
        (λ t. lt-ltb (up + more) (saved + (down + less)) (above (ltb-true (total G grown) (total G (p.run ∷ p.rest) + G.fixed) t)))
      where
        below : up + more < saved + (down + less) → total G grown < total G (p.run ∷ p.rest) + G.fixed
        below h = omega (arith, added.is, cost.is)

        above : total G grown < total G (p.run ∷ p.rest) + G.fixed → up + more < saved + (down + less)
        above h = omega (arith, added.is, cost.is)

    -- once it is placed, that is what was added
    pub added-on : Changes (total G p.rest) (total G grown) (up + more) (down + less)
    added-on = record { is = omega (arith, added.is, cost.is) }
