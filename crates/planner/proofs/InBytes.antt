-- Numbers that bytes hold are stored as they are: what a contract says of a list of bytes that is written. Assumes nothing.
use Prim.Native.Nat.{ℕ}
use mathlib.Core.Path.{◌≡◌, ap}
use mathlib.Core.List.{List}
use Rattle.bounds.proofs.InBytes.{InBytes, bytes_same}
use Rattle.definitions.specs.Room.{written}
use Rattle.definitions.specs.Bytes.{stored}

pub stored_same : (numbers old : List ℕ) → InBytes numbers → stored numbers old ≡ written numbers old
stored_same numbers old small = ap (λ (l : List ℕ). written l old) (bytes_same numbers small)
