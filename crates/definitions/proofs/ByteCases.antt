-- Numbers in bytes: the largest of a list that is stored fits, and nothing is stored beyond the count. Each holds by computation. Assumes nothing.
use mathlib.Core.Path.{◌≡◌, refl}
use mathlib.Core.List.{[], ◌∷◌}
use Rattle.definitions.specs.Domain.{most_calls}
use Rattle.definitions.specs.Bytes.{byte_of, stored, read_back}

-- the run end of the longest run list, and the most that a byte holds
longest : byte_of most_calls ≡ 128
unfolding byte_of
longest = refl

most : byte_of 255 ≡ 255
unfolding byte_of
most = refl

-- beyond that a number is not read back
one_more : byte_of 256 ≡ 0
unfolding byte_of
one_more = refl

-- what stands beyond the count stays
stores : stored (1 ∷ 63 ∷ 128 ∷ []) (7 ∷ 7 ∷ 7 ∷ 7 ∷ 7 ∷ []) ≡ 1 ∷ 63 ∷ 128 ∷ 7 ∷ 7 ∷ []
unfolding byte_of
stores = refl

stores-nothing : stored [] (7 ∷ 8 ∷ []) ≡ 7 ∷ 8 ∷ []
stores-nothing = refl

reads : read_back 3 (1 ∷ 63 ∷ 128 ∷ 7 ∷ 7 ∷ []) ≡ 1 ∷ 63 ∷ 128 ∷ []
reads = refl
