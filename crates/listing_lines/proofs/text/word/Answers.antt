use Rattle.std.proofs.Common.{refl, arith}
use Rattle.std.proofs.lemmas.Grind.{common_steps}
use Rattle.listing_lines.specs.Put.{put_at}
use Rattle.listing_lines.proofs.text.word.Goals as goal

pub returns : goal.returns
unfolding put_at
returns c = record { holds = grind (arith, common_steps); next = refl }
