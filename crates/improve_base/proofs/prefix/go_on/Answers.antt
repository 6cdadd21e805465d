-- `prefix::go_on` meets its contract. Assumes nothing.
use mathlib.Core.Path.{◌≡◌}
use Rattle.improve_base.specs.declared.prefix.Prefix.TheVariants.{Failed}
use Rattle.improve_base.specs.Prefix.{on_f}
use borrow.Author.Rules.{rules}
use Rattle.improve_base.proofs.prefix.go_on.Goals as goal

pub returns-in-Failed : goal.returns-in-Failed
unfolding on_f
returns-in-Failed c =
    let e : c.args.prefix ≡ Failed = search rules in
    rw e
