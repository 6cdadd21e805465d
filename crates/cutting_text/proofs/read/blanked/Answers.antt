-- `read::blanked` meets its contract. Assumes nothing.
use Prim.Native.Nat.{ℕ}
use native.Mathlib.Omega.{arith}
use mathlib.Core.Path.{ap, ◌∙◌}
use mathlib.Core.List.{List}
use Rattle.std.specs.Prelude.{Some}
use Rattle.texts.specs.CuttingText.{between}
use Rattle.cutting_text.specs.declared.mode.Turn.{Turn}
use Rattle.cutting_text.specs.Modes.{turned}
use Rattle.cutting_text.specs.TextSoFar.{state_of}
use Rattle.cutting_text.proofs.Stepped.{known, pushed}
use Rattle.cutting_text.proofs.read.blanked.Goals as goal

pub returns-in-Stuck : goal.returns-in-Stuck
returns-in-Stuck c =
    let b = c in
    let a = b.args in record { said = λ ends places. let s = state_of a.r a.calls.now ends places in known (λ (t : Turn). turned t s) c.in-Stuck.is (b.blank.ensures s); few = tt }

pub returns-in-On : goal.returns-in-On
returns-in-On c =
    let b = c in
    let a = b.args in record { said = λ ends places. let s = state_of a.r a.calls.now ends places in known (λ (t : Turn). turned t s) c.in-On.is (b.blank.ensures s); few = (omega arith, omega arith) }

pub returns-in-Call : goal.returns-in-Call
returns-in-Call c =
    let b = c in
    let a = b.args in record {
      said = λ ends places.
          let s = state_of a.r a.calls.now ends places in
          ap (λ (l : List ℕ). Some (record { mode = between; place = s.place; calls = l; ends = s.ends; places = s.places }))
          (pushed a.calls.now a.r.calls c.in-Call.n b.requires)
          ∙ known (λ (t : Turn). turned t s) c.in-Call.is (b.blank.ensures s);
      few = (omega arith, omega arith);
    }

pub returns-in-Place : goal.returns-in-Place
returns-in-Place c =
    let b = c in
    let a = b.args in record { said = λ ends places. let s = state_of a.r a.calls.now ends places in known (λ (t : Turn). turned t s) c.in-Place.is (b.blank.ensures s); few = (omega arith, omega arith) }
