-- Bytes that are written as numbers at the front of an array of zeros. Assumes nothing.
use Prim.Native.Nat.{ℕ, ◌≤◌}
use mathlib.Core.Path.{◌≡◌, refl}
use mathlib.Core.List.{List}
use lib.ListN.{length, take, replicate}
use Rattle.definitions.specs.Domain.{most_calls}
use Rattle.definitions.specs.Room.{written}
use Rattle.cut_table.proofs.Fronts.{front, inside, counted}

module _ (bytes array : List ℕ) (w : array ≡ written bytes (replicate most_calls 0)) where
  pub numbers-inside : length bytes ≤ length array
  numbers-inside = inside (length bytes) bytes (replicate most_calls 0) array refl w

  pub numbers-counted : length bytes ≡ length (take (length bytes) array)
  numbers-counted = counted (length bytes) bytes (replicate most_calls 0) array refl w

  pub numbers-are : take (length bytes) array ≡ bytes
  numbers-are = front (length bytes) bytes (replicate most_calls 0) array refl w
