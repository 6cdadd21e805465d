-- Templates: text with a gap, `%`, for each of some numbers. Definitions only.
use Rattle.std.specs.Prelude.{ℕ, ◌+◌, Bool, cond, ◌&&◌, List, [], ◌∷◌, ◌++◌, eqb, ltb}
use Prim.Native.Char.{code}
use Rattle.definitions.specs.Listing.{decimal}

abbrev pub is_gap : ℕ → Bool
is_gap b = eqb b (code "%")

-- a byte of a template, with the numbers that are left: the first of them in a gap; a gap without a number stays as it is
abbrev pub piece : ℕ → List ℕ → List ℕ
piece b [] = b ∷ []
piece b (n ∷ ns) = cond (is_gap b) (decimal n) (b ∷ [])

-- the numbers left behind it
abbrev pub left : ℕ → List ℕ → List ℕ
left b [] = []
left b (n ∷ ns) = cond (is_gap b) ns (n ∷ ns)

-- whether it is a gap for one of so many numbers, of which k are used
unfoldable pub takes_one : ℕ → ℕ → ℕ → Bool
takes_one b k many = is_gap b && ltb k many

-- how many of them are used behind it
unfoldable pub used_by : ℕ → ℕ → ℕ → ℕ
used_by b k many = cond (takes_one b k many) (k + 1) k

-- each gap filled with the next number
abbrev pub fill : List ℕ → List ℕ → List ℕ
fill [] ns = []
fill (b ∷ bs) ns = piece b ns ++ fill bs (left b ns)
