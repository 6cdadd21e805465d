use Rattle.std.proofs.Common.{arith}
use Rattle.std.proofs.lemmas.Grind.{common_steps}
use Rattle.lending.proofs.Lists.{padded-written}
use Rattle.lending.proofs.gathered.Goals as goal

pub returns : goal.returns
returns c = let all = padded-written c.fewer-n.result 64 c.args.customers.now c.fewer-n.ensures in grind (arith, common_steps)
