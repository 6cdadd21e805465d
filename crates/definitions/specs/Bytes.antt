-- Lists in bytes: customers, run ends, break places and positions have one byte each. Definitions only.
use Rattle.std.specs.Prelude.{ℕ, ◌%◌, List, map, take}
use Rattle.definitions.specs.Room.{written}

-- the byte that a number is stored in: as much of the number as a byte holds
unfoldable pub byte_of : ℕ → ℕ
byte_of n = n % 256

-- the number that a byte means: a byte is, to a contract, that number
abbrev pub number_of : ℕ → ℕ
number_of byte = byte

-- so a list of bytes is the list of the numbers that they mean
abbrev pub numbers_of : List ℕ → List ℕ
numbers_of bytes = bytes

-- numbers stored at the front of a lent list of bytes: nothing beyond their count
abbrev pub stored : List ℕ → List ℕ → List ℕ
stored numbers old = written (map byte_of numbers) old

-- the first n numbers of such a list
abbrev pub read_back : ℕ → List ℕ → List ℕ
read_back n bytes = numbers_of (take n bytes)
