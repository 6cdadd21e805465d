-- What a call is lent with the sheet that was read. Definitions only.
use Rattle.std.specs.Prelude.{ℕ, List}
use Rattle.definitions.specs.Sheet.{Sheet}
use Rattle.definitions.specs.Lent.{Lent}

-- what the call does not take is empty
abbrev pub lent_with : Sheet → (tour calls ends breaks rooms : List ℕ) → Lent ℕ
lent_with s tour calls ends breaks rooms = record { sheet = s; tour = tour; calls = calls; ends = ends; breaks = breaks; rooms = rooms }
