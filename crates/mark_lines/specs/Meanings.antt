-- A part of the refusals in words. Definitions only.
use Rattle.std.specs.Prelude.{ℕ, List, take}
use Rattle.texts.specs.Meaning.{meanings, words_in}

-- the first five of the table: the refusals up to 5
unfoldable pub meaning_to5 : ℕ → List ℕ
meaning_to5 n = words_in (take 5 meanings) n
