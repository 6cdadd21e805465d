-- On the floats that are no NaN and whose sign is clear, an infinity included, `≤` is a total order, and `<` is the other side of it. Assumes nothing.
use Rattle.std.proofs.Common.{◌≡◌, ℕ, ◌+◌, ◌-◌, ◌*◌, ◌/◌, ◌^◌, ◌≤◌, Bool, true, false, not, ◌||◌, T, eqb, ltb, leb, ℤ, sym, refl, ap, ◌∙◌, subst, le_refl, le_antisymm, mul_right_comm, le→leb, leb→le}
use mathlib.Core.Bool.{and-true, not-not}
use lib.Ieee as Ieee
use lib.Ieee.{Float, inf, fin, binary64, up, down}
use lib.Ieee.Fits.{down_pos}
use lib.Ieee.Bits.{is_true}
use lib.Ieee.Nearest.{div_same}
use lib.Ieee.Positive.{through}
use Rattle.basics.proofs.TestLaws.{by-test, not-both, not-true}
use Rattle.whole.proofs.Numbers.{or-leb, not-ltb}
use Rattle.whole.proofs.Bits.{bits-inj}
use Rattle.whole.specs.Order.{nonneg}

-- ---- the comparisons of two finite ones, as tests of numbers
le-fin : (m n : ℕ) (e d : ℤ) → Ieee.le (fin false m e) (fin false n d) ≡ leb (m * up e * down d) (n * up d * down e)
unfolding Ieee.le
le-fin m n e d =
    let a = m * up e * down d in
    let b = n * up d * down e in
    ap (λ (t : Bool). ltb a b || t) (and-true (eqb a b)) ∙ or-leb a b

-- a ≤ b, for two finite ones, and back
pub to_le : (m n : ℕ) (e d : ℤ) → m * up e * down d ≤ n * up d * down e → T (Ieee.le (fin false m e) (fin false n d))
to_le m n e d h = subst T (sym (le-fin m n e d)) (le→leb (m * up e * down d) (n * up d * down e) h)

pub of_le : (m n : ℕ) (e d : ℤ) → T (Ieee.le (fin false m e) (fin false n d)) → m * up e * down d ≤ n * up d * down e
of_le m n e d t = leb→le (m * up e * down d) (n * up d * down e) (subst T (le-fin m n e d) t)

-- ---- the order
pub not-lt : (x y : Float) → T (nonneg x) → T (nonneg y) → not (Ieee.lt x y) ≡ Ieee.le y x
unfolding Ieee.lt Ieee.le
not-lt Ieee.nan y p q = elim p [ ]
not-lt (inf false) Ieee.nan p q = elim q [ ]
not-lt (fin false m e) Ieee.nan p q = elim q [ ]
not-lt (inf true) y p q = absurd p
not-lt (inf false) (inf true) p q = absurd q
not-lt (inf false) (inf false) p q = refl
not-lt (inf false) (fin s n d) p q = refl
not-lt (fin true m e) y p q = absurd p
not-lt (fin false m e) (inf true) p q = absurd q
not-lt (fin false m e) (inf false) p q = refl
not-lt (fin false m e) (fin true n d) p q = absurd q
not-lt (fin false m e) (fin false n d) p q = not-ltb (m * up e * down d) (n * up d * down e) ∙ sym (le-fin n m d e)

pub not-le : (x y : Float) → T (nonneg x) → T (nonneg y) → not (Ieee.le x y) ≡ Ieee.lt y x
not-le x y p q = ap not (sym (not-lt y x q p)) ∙ not-not (Ieee.lt y x)

-- below the infinity all lie
pub le-inf : (x : Float) → T (nonneg x) → T (Ieee.le x (inf false))
unfolding Ieee.le
le-inf Ieee.nan p = elim p [ ]
le-inf (inf true) p = absurd p
le-inf (inf false) p = tt
le-inf (fin true m e) p = absurd p
le-inf (fin false m e) p = tt

pub le-self : (x : Float) → T (nonneg x) → T (Ieee.le x x)
unfolding Ieee.le
le-self Ieee.nan p = elim p [ ]
le-self (inf true) p = absurd p
le-self (inf false) p = tt
le-self (fin true m e) p = absurd p
le-self (fin false m e) p = to_le m m e e (le_refl (m * up e * down e))

pub lt-le : (x y : Float) → Ieee.lt x y ≡ true → T (Ieee.le x y)
unfolding Ieee.le
lt-le x y e = rw e tt

pub nlt-le : (x y : Float) → T (nonneg x) → T (nonneg y) → Ieee.lt x y ≡ false → T (Ieee.le y x)
nlt-le x y p q e = subst T (sym (ap not e) ∙ not-lt x y p q) tt

pub le-through : (x y z : Float) → T (nonneg x) → T (nonneg y) → T (nonneg z) → T (Ieee.le x y) → T (Ieee.le y z) → T (Ieee.le x z)
unfolding Ieee.le
le-through x y Ieee.nan p q r h k = elim r [ ]
le-through x Ieee.nan (fin false l g) p q r h k = elim q [ ]
le-through Ieee.nan (fin false n d) (fin false l g) p q r h k = elim p [ ]
le-through x y (inf true) p q r h k = absurd r
le-through x y (inf false) p q r h k = le-inf x p
le-through x y (fin true l g) p q r h k = absurd r
le-through x (inf true) (fin false l g) p q r h k = absurd q
le-through x (inf false) (fin false l g) p q r h k = absurd k
le-through x (fin true n d) (fin false l g) p q r h k = absurd q
le-through (inf true) (fin false n d) (fin false l g) p q r h k = absurd p
le-through (inf false) (fin false n d) (fin false l g) p q r h k = absurd h
le-through (fin true m e) (fin false n d) (fin false l g) p q r h k = absurd p
le-through (fin false m e) (fin false n d) (fin false l g) p q r h k =
    to_le m l e g (through (m * up e) (n * up d) (l * up g) (down e) (down d) (down g) (down_pos d) (of_le m n e d h) (of_le n l d g k))

pub le-nlt : (x y : Float) → T (nonneg x) → T (nonneg y) → T (Ieee.le y x) → Ieee.lt x y ≡ false
le-nlt x y p q h = not-true (Ieee.lt x y) (not-lt x y p q ∙ is_true (Ieee.le y x) h)

-- below one that is at most z
pub lt-through : (x y z : Float) → T (nonneg x) → T (nonneg y) → T (nonneg z) → Ieee.lt x y ≡ true → T (Ieee.le y z) → Ieee.lt x z ≡ true
lt-through x y z p q r h k = by-test (Ieee.lt x z) (λ e. e) (λ e. not-both (Ieee.lt x y) h (le-nlt x y p q (le-through y z x q r p k (nlt-le x z p r e))))

-- ---- one value for each place of the order
-- `to_bits` reads a finite value as a fraction, so equal fractions have one bit pattern
bits-same : (m n : ℕ) (e d : ℤ) → m * up e * down d ≡ n * up d * down e → Ieee.to_bits binary64 (fin false m e) ≡ Ieee.to_bits binary64 (fin false n d)
unfolding Ieee.to_bits
bits-same m n e d h =
    let l = 2 ^ Ieee.low binary64 in
    let same : m * up e * l / down e ≡ n * up d * l / down d =
    div_same (m * up e * l) (down e) (n * up d * l) (down d) (down_pos e) (down_pos d) (mul_right_comm (m * up e) l (down d) ∙ ap (λ (z : ℕ). z * l) h ∙ mul_right_comm (n * up d) (down e) l) in
    ap (λ (z : ℕ). 0 + (Ieee.size z - Ieee.prec binary64) * Ieee.hid binary64 + z / 2 ^ (Ieee.size z - Ieee.prec binary64)) same

pub le_antisym : (x y : Float) → T (Ieee.fits binary64 x) → T (Ieee.fits binary64 y) → T (nonneg x) → T (nonneg y) → T (Ieee.le x y) → T (Ieee.le y x) → x ≡ y
unfolding Ieee.le
le_antisym Ieee.nan y a b p q h k = elim p [ ]
le_antisym (inf false) Ieee.nan a b p q h k = elim q [ ]
le_antisym (fin false m e) Ieee.nan a b p q h k = elim q [ ]
le_antisym (inf true) y a b p q h k = absurd p
le_antisym (inf false) (inf true) a b p q h k = absurd q
le_antisym (inf false) (inf false) a b p q h k = refl
le_antisym (inf false) (fin s n d) a b p q h k = absurd h
le_antisym (fin true m e) y a b p q h k = absurd p
le_antisym (fin false m e) (inf true) a b p q h k = absurd q
le_antisym (fin false m e) (inf false) a b p q h k = absurd k
le_antisym (fin false m e) (fin true n d) a b p q h k = absurd q
le_antisym (fin false m e) (fin false n d) a b p q h k = bits-inj (fin false m e) (fin false n d) a b (bits-same m n e d (le_antisymm (of_le m n e d h) (of_le n m d e k)))
