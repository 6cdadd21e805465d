-- `breaks::start_or_zero` meets its contract, by whether the break starts. Assumes nothing.
use mathlib.Core.Path.{◌≡◌}
use Rattle.whole.proofs.Bits.{fl-zero}
use Rattle.std.specs.Prelude.{None}
use borrow.Author.Rules.{rules}
use Rattle.sheet_plan.proofs.breaks.start_or_zero.Goals as goal

pub returns-in-None : goal.returns-in-None
returns-in-None c =
    let e : c.args.start ≡ None = search rules in
    rw (e, fl-zero)
