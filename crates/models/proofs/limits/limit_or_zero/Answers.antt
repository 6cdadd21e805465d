-- The number 0 as the code writes it and as the definition does.
use Rattle.std.proofs.Common.{◌∙◌, ap, sym}
use Rattle.std.specs.Prelude.{unwrap_or}
use Rattle.whole.proofs.Bits.{fl-zero}
use Rattle.models.proofs.limits.limit_or_zero.Goals as goal

pub returns : goal.returns
returns c = c.unwrap_or.ensures ∙ ap (unwrap_or c.args.limit) (sym fl-zero)
