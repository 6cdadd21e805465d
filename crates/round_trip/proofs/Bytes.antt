-- Words and their bytes.
use Prim.Native.Nat.{ℕ, ◌+◌, ◌*◌, ◌/◌, ◌%◌, ◌<◌}
use native.Mathlib.Omega.{arith}
use mathlib.Core.Path.{◌≡◌, refl, ap, ◌∙◌}
use mathlib.Core.Bool.{false, true≢false}
use mathlib.Core.List.{List, [], ◌∷◌}
use Rattle.basics.specs.Lists.{All}
use Rattle.definitions.specs.Words.{Word, word, word_of, little_endian, words_of, left_over, number_of, bytes_of}

-- a word of 32 bits
pub record Fits (w : Word) : Type 0 where
  pub kind : w.kind < 16
  pub value : w.value < 0x10000000

abbrev pub AllFit : List Word → Type 0
AllFit ws = All Fits ws

-- bytes
abbrev pub AllBytes : List ℕ → Type 0
AllBytes bs = All (λ (b : ℕ). b < 256) bs

joined : (n : ℕ) → little_endian (n % 0x100) (n / 0x100 % 0x100) (n / 0x100 / 0x100 % 0x100) (n / 0x100 / 0x100 / 0x100) ≡ n
joined n = omega arith

word-is : (k v : ℕ) → v < 0x10000000 → word_of (k * 0x10000000 + v) ≡ word k v
word-is k v h = λ i. word (top i) (low i)
  where
    top : (k * 0x10000000 + v) / 0x10000000 ≡ k
    top = omega arith

    low : (k * 0x10000000 + v) % 0x10000000 ≡ v
    low = omega arith

-- the words of a list's bytes are that list, with nothing left over
pub words-of-bytes : (ws : List Word) → AllFit ws → words_of (bytes_of ws) ≡ ws
words-of-bytes [] a = refl
words-of-bytes (w ∷ ws) a =
    ap (λ (n : ℕ). word_of n ∷ words_of (bytes_of ws)) (joined (number_of w))
    ∙ ap (λ (x : Word). x ∷ words_of (bytes_of ws)) (word-is w.kind w.value a.0.value)
    ∙ ap (λ (l : List Word). w ∷ l) (words-of-bytes ws a.1)

pub nothing_left : (ws : List Word) → left_over (bytes_of ws) ≡ false
nothing_left [] = refl
nothing_left (w ∷ ws) = nothing_left ws

number_is : (n : ℕ) → number_of (word_of n) ≡ n
number_is n = omega arith

-- the four bytes of a number of 32 bits
digits : (x y z u n : ℕ) → x < 256 → y < 256 → z < 256 → n ≡ little_endian x y z u
    → (n % 0x100 ≡ x) × (n / 0x100 % 0x100 ≡ y) × (n / 0x100 / 0x100 % 0x100 ≡ z) × (n / 0x100 / 0x100 / 0x100 ≡ u)
digits x y z u n a b c e =
    let one : n / 0x100 ≡ y + 0x100 * z + 0x10000 * u = omega arith in
    let two : n / 0x100 / 0x100 ≡ z + 0x100 * u = omega arith in
    (omega arith, omega arith, omega arith, omega arith)

-- bytes without any left over are the bytes of their words
pub bytes-of-words : (bs : List ℕ) → AllBytes bs → left_over bs ≡ false → bytes_of (words_of bs) ≡ bs
bytes-of-words [] a l = refl
bytes-of-words (x ∷ []) a l = absurd (true≢false l)
bytes-of-words (x ∷ y ∷ []) a l = absurd (true≢false l)
bytes-of-words (x ∷ y ∷ z ∷ []) a l = absurd (true≢false l)
bytes-of-words (x ∷ y ∷ z ∷ u ∷ bs) a l =
    let d = digits x y z u (number_of (word_of (little_endian x y z u))) a.0 a.1.0 a.1.1.0 (number_is (little_endian x y z u)) in
    let r = bytes-of-words bs a.1.1.1.1 l in
    λ i. d.0 i ∷ d.1 i ∷ d.2 i ∷ d.3 i ∷ r i
