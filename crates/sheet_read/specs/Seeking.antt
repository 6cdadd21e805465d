-- The first word of a kind. Definitions only.
use Rattle.std.specs.Prelude.{ℕ, suc, cond, List, [], ◌∷◌, eqb}
use Rattle.definitions.specs.Words.{Word}

-- how many words stand before the first of kind k; all of them where there is none
abbrev pub before : ℕ → List Word → ℕ
before k [] = 0
before k (w ∷ ws) = cond (eqb w.kind k) 0 (suc (before k ws))
