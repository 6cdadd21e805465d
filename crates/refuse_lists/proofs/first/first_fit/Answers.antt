-- `first::first_fit` meets its contract. Assumes nothing.
use Rattle.std.proofs.Common.{◌≡◌, ℕ, List, [], ◌∷◌, refl, arith}
use Rattle.std.proofs.lemmas.Grind.{common_steps}
use Rattle.std.proofs.lemmas.Slice.Zip.{either_empty_from_Zip}
use Rattle.refuse_lists.specs.First.{in_order}
use Rattle.refuse_lists.proofs.first.first_fit.Goals as goal
use Rattle.refuse_lists.proofs.first.first_fit.Invariants.{first}

no-tests : (ns : List ℕ) → first ns [] ≡ 0
unfolding in_order
no-tests [] = refl
no-tests (n ∷ ns) = refl

pub returns-then-fits : goal.returns-then-fits
unfolding in_order
returns-then-fits c = grind (arith, common_steps)

pub loop-number-preserved : goal.loop-number-preserved
unfolding in_order
loop-number-preserved c = grind (arith, common_steps)

pub returns : goal.returns
unfolding in_order
returns c = let e = either_empty_from_Zip c.loop-number.number-iterator c.next.new.self _ c.in-None.is c.next.ensures.steps in grind (arith, common_steps, no-tests)
