-- What a branch on a call's answer says of the test that the answer is. Assumes nothing.
use mathlib.Core.Path.{◌≡◌, sym, ◌∙◌}
use mathlib.Core.Bool.{Bool, true, false, not}
use Rattle.basics.proofs.TestLaws.{not-true, not-false}

pub fails : (answer test : Bool) → answer ≡ test → not answer ≡ true → test ≡ false
fails answer test e h = sym e ∙ not-true answer h

pub holds : (answer test : Bool) → answer ≡ test → not answer ≡ false → test ≡ true
holds answer test e h = sym e ∙ not-false answer h
