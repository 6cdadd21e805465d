-- `prefix::go_through` meets its contract. Assumes nothing.
use mathlib.Core.Path.{◌≡◌, sym}
use Rattle.improve_base.specs.declared.prefix.Prefix.TheVariants.{Failed}
use Rattle.improve_base.proofs.Onward.{all-failed}
use borrow.Author.Rules.{rules}
use Rattle.improve_base.proofs.prefix.go_through.Goals as goal

pub returns-in-Failed : goal.returns-in-Failed
returns-in-Failed c =
    let e : c.args.prefix ≡ Failed = search rules in
    rw e (sym (all-failed _ _))
