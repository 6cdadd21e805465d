-- `byte::byte_of` meets its contract. Assumes nothing.
use mathlib.Core.Path.{refl}
use Rattle.definitions.specs.Bytes.{byte_of}
use Rattle.models.proofs.byte.byte_of.Goals as goal

pub returns : goal.returns
unfolding byte_of
returns c = refl
