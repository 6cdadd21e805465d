-- `runs::break_beyond` meets its contract: at the end one of the lists is through. Assumes nothing.
use Rattle.std.proofs.Common.{◌≡◌, ℕ, Bool, false, List, [], ◌∷◌, refl, arith}
use Rattle.std.proofs.lemmas.Grind.{common_steps}
use Rattle.std.proofs.lemmas.Slice.Zip.{either_empty_from_Zip}
use Rattle.definitions.specs.Refusals.{break_beyond}
use Rattle.refuse_lists.proofs.runs.break_beyond.Goals as goal

no-places : (rest : Bool) (p : ℕ) (es : List ℕ) → break_beyond rest p es [] ≡ false
no-places rest p [] = refl
no-places rest p (e ∷ es) = refl

pub returns : goal.returns
returns c =
    let e = either_empty_from_Zip c.loop-e.e-iterator c.next.new.self _ c.in-None.is c.next.ensures.steps in grind (arith, common_steps, no-places)
