-- `read::line_ended` meets its contract. Assumes nothing.
use native.Mathlib.Omega.{arith}
use mathlib.Core.Path.{◌∙◌}
use Rattle.cutting_text.specs.declared.mode.Line.{Line}
use Rattle.cutting_text.specs.Modes.{lined}
use Rattle.cutting_text.specs.TextSoFar.{state_of}
use Rattle.cutting_text.proofs.Stepped.{known, run-stored}
use Rattle.cutting_text.proofs.read.line_ended.Goals as goal

pub returns-in-Early : goal.returns-in-Early
returns-in-Early c =
    let b = c in
    let a = b.args in record { said = λ calls h. let s = state_of a.r calls a.ends.now a.places.now in known (λ (l : Line). lined l s) c.in-Early.is (b.line_end.ensures s); few = tt }

pub returns-in-Passed : goal.returns-in-Passed
returns-in-Passed c =
    let b = c in
    let a = b.args in record { said = λ calls h. let s = state_of a.r calls a.ends.now a.places.now in known (λ (l : Line). lined l s) c.in-Passed.is (b.line_end.ensures s); few = (omega arith, omega arith) }

pub returns-in-Run : goal.returns-in-Run
returns-in-Run c =
    let b = c in
    let a = b.args in record {
      said = λ calls h.
          let s = state_of a.r calls a.ends.now a.places.now in
          let pre = b.requires in
          run-stored a.r calls a.ends.now a.places.now h pre.runs_in_bounds pre.runs_in_bounds_2 ∙ known (λ (l : Line). lined l s) c.in-Run.is (b.line_end.ensures s);
      few = (omega arith, omega arith);
    }
