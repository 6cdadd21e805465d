-- A result written into a lent list that may be too short for it. Definitions only.
use Rattle.std.specs.Prelude.{List, length, take}

-- the part of the result that there is room for
abbrev pub fitting : {A : Type 0} → List A → List A → List A
fitting result old = take (length old) result
