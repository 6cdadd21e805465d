-- What the code's loads hold, and what it takes that their sums do not wrap. Definitions, and the laws of the latter. Assumes nothing.
use Rattle.std.specs.Prelude.{ℕ, ◌+◌, ◌*◌, ◌≤◌}
use Rattle.std.proofs.Common.{arith}
use Rattle.definitions.specs.Load.{Load, no_load, plus}
use Rattle.definitions.proofs.LoadLaws.{AtMost, none-most, plus-most, most-more}
use Rattle.models.specs.declared.load.Space.{Space}
use Rattle.models.specs.declared.load.Load as Code

-- so many seats, and nothing else
abbrev pub seat_space : ℕ → Space
seat_space n = record { seats = n; wheelchairs = 0 }

abbrev pub space_of : Space → Load
space_of x = record { seats = x.seats; wheelchairs = x.wheelchairs }

abbrev pub load_of : Code.Load → Load
load_of x = record { seats = x.seats; wheelchairs = x.wheelchairs }

-- at most what so many calls may ask for
abbrev pub UpTo : ℕ → Load → Type 0
UpTo calls load = AtMost (calls * 4294967296) load

-- one call more may be added to it
abbrev pub Countable : Load → Type 0
Countable load = UpTo 1000 load

pub none-up-to : UpTo 0 no_load
none-up-to = none-most

pub plus-up-to : (m n : ℕ) (a b : Load) → UpTo m a → UpTo n b → UpTo (m + n) (plus a b)
plus-up-to m n a b p q = most-more (m * 4294967296 + n * 4294967296) _ (plus a b) (omega arith) (plus-most _ _ a b p q)

pub up-to-more : (m n : ℕ) (a : Load) → m ≤ n → UpTo m a → UpTo n a
up-to-more m n a h p = most-more _ _ a (omega arith) p
