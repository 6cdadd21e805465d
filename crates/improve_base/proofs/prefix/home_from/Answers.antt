-- `prefix::home_from` meets its contract. Assumes nothing.
use mathlib.Core.Path.{◌≡◌}
use Rattle.improve_base.specs.declared.prefix.Prefix.TheVariants.{Failed}
use Rattle.improve_base.specs.Prefix.{home_from_f}
use borrow.Author.Rules.{rules}
use Rattle.improve_base.proofs.prefix.home_from.Goals as goal

pub returns-in-Failed : goal.returns-in-Failed
unfolding home_from_f
returns-in-Failed c =
    let e : c.args.prefix ≡ Failed = search rules in
    rw e
