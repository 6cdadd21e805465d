-- `rules::rules_of` meets its contract. Assumes nothing.
use Rattle.two_opt.specs.Rules.{rules_f}
use Rattle.two_opt.proofs.rules.rules_of.Goals as goal

pub returns : goal.returns
unfolding rules_f
returns c = rw (c.gain_floor-floor.ensures, c.scale.ensures, c.symmetric-both_ways.ensures)
