-- The words of a file by index: how many there are, and which four bytes each is. Assumes nothing.
use Prim.Native.Nat.{ℕ, zero, suc, ◌+◌, ◌*◌, ◌/◌, ◌%◌, ◌≤◌, ◌<◌}
use native.Mathlib.Omega.{arith}
use mathlib.Core.Path.{◌≡◌, refl, sym, ap, ◌∙◌}
use mathlib.Core.Bool.{not}
use mathlib.Core.List.{List, [], ◌∷◌}
use lib.ListN.{length, drop, get_or, get_or-eq_default}
use lib.Seq.{drop-cons}
use lib.Dec.{eqb}
use Rattle.definitions.specs.Words.{Word, word_of, words_of, left_over, little_endian}
use Rattle.sheet_words.specs.Held.{no_word}

pub count-words : (bs : List ℕ) → length bs / 4 ≡ length (words_of bs)
count-words [] = refl
count-words (a ∷ []) = refl
count-words (a ∷ b ∷ []) = refl
count-words (a ∷ b ∷ c ∷ []) = refl
count-words (a ∷ b ∷ c ∷ d ∷ rest) = omega (arith, count-words rest)

pub rest-left : (bs : List ℕ) → not (eqb (length bs % 4) 0) ≡ left_over bs
rest-left [] = refl
rest-left (a ∷ []) = refl
rest-left (a ∷ b ∷ []) = refl
rest-left (a ∷ b ∷ c ∷ []) = refl
rest-left (a ∷ b ∷ c ∷ d ∷ rest) =
    let e : suc (suc (suc (suc (length rest)))) % 4 ≡ length rest % 4 = omega arith in
    ap (λ (n : ℕ). not (eqb n 0)) e ∙ rest-left rest

-- a byte behind the first word
behind-word : (a b c d : ℕ) (rest : List ℕ) (k n : ℕ) → k ≡ suc (suc (suc (suc n))) → get_or (a ∷ b ∷ c ∷ d ∷ rest) k 0 ≡ get_or rest n 0
behind-word a b c d rest k n e = rw e

-- the word whose first byte has index k
abbrev word_from : List ℕ → ℕ → Word
word_from bs k = word_of (little_endian (get_or bs k 0) (get_or bs (k + 1) 0) (get_or bs (k + 2) 0) (get_or bs (k + 3) 0))

pub nth-word : (bs : List ℕ) (i : ℕ) (e : Word) → i < length (words_of bs) → get_or (words_of bs) i e ≡ word_from bs (4 * i)
nth-word [] i e h = absurd (omega arith)
nth-word (a ∷ []) i e h = absurd (omega arith)
nth-word (a ∷ b ∷ []) i e h = absurd (omega arith)
nth-word (a ∷ b ∷ c ∷ []) i e h = absurd (omega arith)
nth-word (a ∷ b ∷ c ∷ d ∷ rest) zero e h = refl
nth-word (a ∷ b ∷ c ∷ d ∷ rest) (suc i) e h =
    rw (
      behind-word a b c d rest (4 * suc i) (4 * i) (omega arith),
      behind-word a b c d rest (4 * suc i + 1) (4 * i + 1) (omega arith),
      behind-word a b c d rest (4 * suc i + 2) (4 * i + 2) (omega arith),
      behind-word a b c d rest (4 * suc i + 3) (4 * i + 3) (omega arith),
    )
    (nth-word rest i e (omega arith))

pub no-word : (bs : List ℕ) (i : ℕ) (e : Word) → length bs / 4 ≤ i → e ≡ get_or (words_of bs) i e
no-word bs i e h = sym (get_or-eq_default (words_of bs) e (omega (arith, count-words bs)))

-- the words from index i on
pub words-from : (ws : List Word) (i : ℕ) (w : Word) → i < length ws → w ≡ get_or ws i no_word → drop i ws ≡ w ∷ drop (suc i) ws
words-from ws i w h e = drop-cons ws i no_word h ∙ ap (λ (v : Word). v ∷ drop (suc i) ws) (sym e)
