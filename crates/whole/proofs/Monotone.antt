-- On floats that are no NaN and whose sign is clear, an infinity included, a sum and a product grow with each of their parts, whatever is rounded, and a sum is no less than its terms.
-- So code that compares and adds such floats keeps its order. Assumes nothing.
use Rattle.std.proofs.Common.{◌≡◌, ℕ, zero, suc, ◌+◌, ◌-◌, ◌*◌, ◌%◌, ◌^◌, ◌<◌, ◌≤◌, Bool, true, false, cond, ◌&&◌, T, eqb, ltb, leb, ℤ, pos, negsuc, sym, refl, ap, ◌∙◌, subst, le_trans, le_of_eq, le_refl, lt_of_lt_of_le, le_of_suc-le-suc, le-add_right, add-le-add, mul-le-mul_right, mul_assoc, mul_comm, add-mul, add_comm, mul-pos, one-mul, lt_of_not-le, zero-mul, mul-one, not-le_of_lt, mul_left_comm, arith, eqb→eq, ltb→lt, leb→le, pow_pos, pow_mono, pow-add, shl_lt}
use native.Mathlib.Nat.{pow-succ'}
use lib.Ieee as Ieee
use lib.Ieee.{Float, inf, fin, Format, binary64, up, down, round}
use lib.Pow.{pow-lt}
use lib.Ieee.Fits.{down_pos, and_l, and_r, reach}
use lib.Ieee.Exact.{HasValue, round_exact}
use lib.Ieee.Order.{round_mono, le_of_values}
use Rattle.whole.proofs.Fractions.{one}
use Rattle.whole.specs.Whole.{fl}
use Rattle.whole.proofs.WholeLaws.{fl-round}
use Rattle.whole.specs.Order.{nonneg}
use Rattle.whole.proofs.OrderLaws.{of_le, le-inf, le-through}

-- ---- the sum
-- x / a + z / c ≤ y / b + w / d for x / a ≤ y / b and z / c ≤ w / d
grows : (x a z c y b w d : ℕ) → x * b ≤ y * a → z * d ≤ w * c → (x * c + z * a) * (b * d) ≤ (y * d + w * b) * (a * c)
grows x a z c y b w d h k =
    let l : x * c * (b * d) ≤ y * d * (a * c) = simp (mul_assoc, mul_comm, mul_left_comm) (simp (mul_assoc, mul_comm, mul_left_comm) at (mul-le-mul_right (c * d) h)) in
    let r : z * a * (b * d) ≤ w * b * (a * c) = simp (mul_assoc, mul_comm, mul_left_comm) (simp (mul_assoc, mul_comm, mul_left_comm) at (mul-le-mul_right (a * b) k)) in
    le_trans (le_of_eq (add-mul (x * c) (z * a) (b * d))) (le_trans (add-le-add l r) (le_of_eq (sym (add-mul (y * d) (w * b) (a * c)))))

-- a rounded fraction that is not negative is one of these
odd-nonneg : (d q k l : ℕ) → T (nonneg (Ieee.odd d false q k l))
unfolding Ieee.odd
odd-nonneg d zero k l = tt
odd-nonneg d (suc q) k l = tt

cond-nonneg : (b : Bool) (x y : Float) → T (nonneg x) → T (nonneg y) → T (nonneg (cond b x y))
cond-nonneg true x y p q = p
cond-nonneg false x y p q = q

units-nonneg : (f : Format) (q k : ℕ) → T (nonneg (Ieee.units f false q k))
unfolding Ieee.units
units-nonneg f q k =
    cond-nonneg (ltb (q * 2 ^ k) (2 ^ (Ieee.low f + suc (Ieee.emax f)))) (Ieee.odd (suc (Ieee.prec f)) false q k (Ieee.low f)) (inf false) (odd-nonneg (suc (Ieee.prec f)) q k (Ieee.low f)) tt

pub round-nonneg : (f : Format) (a c : ℕ) → T (nonneg (round f false a c))
unfolding round
round-nonneg f a c = units-nonneg f _ _

pub add-nonneg : (f : Format) (x y : Float) → T (nonneg x) → T (nonneg y) → T (nonneg (Ieee.add f x y))
unfolding Ieee.add Ieee.sum
add-nonneg f Ieee.nan y p q = elim p [ ]
add-nonneg f (inf false) Ieee.nan p q = elim q [ ]
add-nonneg f (fin false m e) Ieee.nan p q = elim q [ ]
add-nonneg f (inf true) y p q = absurd p
add-nonneg f (inf false) (inf true) p q = absurd q
add-nonneg f (inf false) (inf false) p q = tt
add-nonneg f (inf false) (fin t n d) p q = tt
add-nonneg f (fin true m e) y p q = absurd p
add-nonneg f (fin false m e) (inf t) p q = q
add-nonneg f (fin false m e) (fin true n d) p q = absurd q
add-nonneg f (fin false m e) (fin false n d) p q = round-nonneg f (m * up e * down d + n * up d * down e) (down e * down d)

-- the sum is an infinity where a term is
add-inf-r : (f : Format) (x : Float) → T (nonneg x) → Ieee.add f x (inf false) ≡ inf false
unfolding Ieee.add
add-inf-r f Ieee.nan p = elim p [ ]
add-inf-r f (inf true) p = absurd p
add-inf-r f (inf false) p = refl
add-inf-r f (fin s m e) p = refl

add-inf-l : (f : Format) (x : Float) → T (nonneg x) → Ieee.add f (inf false) x ≡ inf false
unfolding Ieee.add
add-inf-l f Ieee.nan p = elim p [ ]
add-inf-l f (inf true) p = absurd p
add-inf-l f (inf false) p = refl
add-inf-l f (fin s m e) p = refl

-- by finite ones on the right: those on the left are finite too, and `round` keeps the order
add-mono-fin : (f : Format) (x z : Float) (n l : ℕ) (d g : ℤ) → T (nonneg x) → T (nonneg z) → T (Ieee.le x (fin false n d)) → T (Ieee.le z (fin false l g))
    → T (Ieee.le (Ieee.add f x z) (Ieee.add f (fin false n d) (fin false l g)))
unfolding Ieee.add Ieee.sum Ieee.le
add-mono-fin f Ieee.nan z n l d g p q h k = elim p [ ]
add-mono-fin f (fin false m e) Ieee.nan n l d g p q h k = elim q [ ]
add-mono-fin f (inf true) z n l d g p q h k = absurd p
add-mono-fin f (inf false) z n l d g p q h k = absurd h
add-mono-fin f (fin true m e) z n l d g p q h k = absurd p
add-mono-fin f (fin false m e) (inf true) n l d g p q h k = absurd q
add-mono-fin f (fin false m e) (inf false) n l d g p q h k = absurd k
add-mono-fin f (fin false m e) (fin true i j) n l d g p q h k = absurd q
add-mono-fin f (fin false m e) (fin false i j) n l d g p q h k =
    round_mono f (m * up e * down j + i * up j * down e) (down e * down j) (n * up d * down g + l * up g * down d) (down d * down g) (mul-pos (down_pos e) (down_pos j))
    (mul-pos (down_pos d) (down_pos g))
    (grows (m * up e) (down e) (i * up j) (down j) (n * up d) (down d) (l * up g) (down g) (of_le m n e d h) (of_le i l j g k))

pub add-mono : (f : Format) (x z y w : Float) → T (nonneg x) → T (nonneg z) → T (nonneg y) → T (nonneg w) → T (Ieee.le x y) → T (Ieee.le z w)
    → T (Ieee.le (Ieee.add f x z) (Ieee.add f y w))
add-mono f x z Ieee.nan w p q r s h k = elim r [ ]
add-mono f x z (fin false n d) Ieee.nan p q r s h k = elim s [ ]
add-mono f x z (inf true) w p q r s h k = absurd r
add-mono f x z (inf false) w p q r s h k = subst (λ (v : Float). T (Ieee.le (Ieee.add f x z) v)) (sym (add-inf-l f w s)) (le-inf (Ieee.add f x z) (add-nonneg f x z p q))
add-mono f x z (fin true n d) w p q r s h k = absurd r
add-mono f x z (fin false n d) (inf true) p q r s h k = absurd s
add-mono f x z (fin false n d) (inf false) p q r s h k = subst (λ (v : Float). T (Ieee.le (Ieee.add f x z) v)) (sym (add-inf-r f (fin false n d) tt)) (le-inf (Ieee.add f x z) (add-nonneg f x z p q))
add-mono f x z (fin false n d) (fin true l g) p q r s h k = absurd s
add-mono f x z (fin false n d) (fin false l g) p q r s h k = add-mono-fin f x z n l d g p q h k

-- ---- whole numbers are among these
pub fl-nonneg : (n : ℕ) → T (nonneg (fl n))
fl-nonneg n = subst (λ (z : Float). T (nonneg z)) (sym (fl-round n)) (round-nonneg binary64 n 1)

-- ---- a sum is no less than its terms
-- what `fits` says of a finite value, by the exponent's sign
take-apart : (f : Format) (m : ℕ) (e : ℤ) → T (Ieee.fits f (fin false (suc m) e)) → (suc m < 2 ^ Ieee.prec f) × (down e ≤ 2 ^ Ieee.low f) × (suc m * up e < 2 ^ suc (Ieee.emax f) * down e)
unfolding Ieee.fits
take-apart f m e t =
    let a = eqb (suc m % 2) 1 in
    let b = ltb (suc m) (2 ^ Ieee.prec f) in
    let c = leb (down e) (2 ^ Ieee.low f) in
    let d = ltb (suc m * up e) (2 ^ suc (Ieee.emax f) * down e) in
    (ltb→lt _ _ (and_r a b (and_l (a && b) c (and_l (a && b && c) d t))), leb→le _ _ (and_r (a && b) c (and_l (a && b && c) d t)), ltb→lt _ _ (and_r (a && b && c) d t))

-- the exponent that round_exact asks for
exact-pos : (f : Format) (m k : ℕ) → m < 2 ^ Ieee.prec f → m * 2 ^ k < 2 ^ suc (Ieee.emax f) * 1 → HasValue (round f false (m * 2 ^ k) 1) false (m * 2 ^ k) 1
exact-pos f m k a b =
    let l = Ieee.low f in
    let s : m * 2 ^ (k + l) ≡ m * 2 ^ k * 2 ^ l = ap (λ (z : ℕ). m * z) (pow-add 2 k l) ∙ sym (mul_assoc m (2 ^ k) (2 ^ l)) in
    round_exact f false (m * 2 ^ k) 1 m (k + l) one a
    (subst (λ (z : ℕ). z < 2 ^ (l + suc (Ieee.emax f))) (sym s) (subst (λ (z : ℕ). m * 2 ^ k * 2 ^ l < 2 ^ z) (add_comm (suc (Ieee.emax f)) l)
    (shl_lt (suc (Ieee.emax f)) l (subst (λ (z : ℕ). m * 2 ^ k < z) (mul-one (2 ^ suc (Ieee.emax f))) b))))
    (sym s ∙ sym (mul-one (m * 2 ^ (k + l))))

in-range : (p j l k e : ℕ) → p ≤ e → j ≡ l - suc k → p + j ≤ l + e
in-range p j l k e h q = omega arith

rest-is : (l k : ℕ) → suc k ≤ l → l ≡ l - suc k + suc k
rest-is l k h = omega arith

pub exact-neg : (f : Format) (m k : ℕ) → m < 2 ^ Ieee.prec f → 2 ^ suc k ≤ 2 ^ Ieee.low f → HasValue (round f false m (2 ^ suc k)) false m (2 ^ suc k)
exact-neg f m k a b =
    let l = Ieee.low f in
    let j = l - suc k in
    let h : suc k ≤ l = le_of_suc-le-suc (lt_of_not-le (λ (g : l < suc k). not-le_of_lt (pow-lt g) b)) in
    round_exact f false m (2 ^ suc k) m j (pow_pos (suc k)) a
    (lt_of_lt_of_le (shl_lt (Ieee.prec f) j a) (pow_mono (in-range (Ieee.prec f) j l k (suc (Ieee.emax f)) (reach f) refl)))
    (ap (λ (z : ℕ). m * 2 ^ z) (rest-is l k h) ∙ ap (λ (z : ℕ). m * z) (pow-add 2 j (suc k)) ∙ sym (mul_assoc m (2 ^ j) (2 ^ suc k)))

twice-no : (p : ℕ) → 2 * p ≡ 1 → ⊥
twice-no p h = omega arith

-- a zero has the exponent 0
off : (f : Format) (k : ℕ) → T (Ieee.fits f (fin false zero (negsuc k))) → ⊥
unfolding Ieee.fits
off f k t = twice-no (2 ^ k) (sym (pow-succ' 2 k) ∙ sym (one-mul (2 ^ suc k)) ∙ eqb→eq (1 * 2 ^ suc k) 1 t)

wider : (x y c d : ℕ) → x * (c * d) ≤ (x * d + y * c) * c
wider x y c d = rw add-mul (le_trans (le_of_eq (ap (λ (z : ℕ). x * z) (mul_comm c d) ∙ sym (mul_assoc x d c))) (le-add_right (x * d * c) (y * c * c)))

-- a value of the format rounds to itself
self-exact : (f : Format) (m : ℕ) (e : ℤ) → T (Ieee.fits f (fin false m e)) → HasValue (round f false (m * up e) (down e)) false (m * up e) (down e)
self-exact f zero (pos k) t = exact-pos f zero k (pow_pos (Ieee.prec f)) (subst (λ (z : ℕ). z < 2 ^ suc (Ieee.emax f) * 1) (sym (zero-mul (2 ^ k))) (mul-pos (pow_pos (suc (Ieee.emax f))) one))
self-exact f zero (negsuc k) t = absurd (off f k t)
self-exact f (suc m) (pos k) t = let q = take-apart f m (pos k) t in exact-pos f (suc m) k q.0 q.2
self-exact f (suc m) (negsuc k) t = let q = take-apart f m (negsuc k) t in rw (mul-one (suc m)) (exact-neg f (suc m) k q.0 q.1)

pub le-add : (f : Format) (x z : Float) → T (Ieee.fits f x) → T (nonneg x) → T (nonneg z) → T (Ieee.le x (Ieee.add f x z))
unfolding Ieee.le Ieee.add Ieee.sum
le-add f Ieee.nan z a p q = elim p [ ]
le-add f (inf false) Ieee.nan a p q = elim q [ ]
le-add f (fin false m e) Ieee.nan a p q = elim q [ ]
le-add f (inf true) z a p q = absurd p
le-add f (inf false) (inf true) a p q = absurd q
le-add f (inf false) (inf false) a p q = tt
le-add f (inf false) (fin s n d) a p q = tt
le-add f (fin true m e) z a p q = absurd p
le-add f (fin false m e) (inf true) a p q = absurd q
le-add f (fin false m e) (inf false) a p q = tt
le-add f (fin false m e) (fin true n d) a p q = absurd q
le-add f (fin false m e) (fin false n d) a p q =
    let r = round f false (m * up e) (down e) in
    le-through (fin false m e) r (round f false (m * up e * down d + n * up d * down e) (down e * down d)) tt (round-nonneg f (m * up e) (down e))
    (round-nonneg f (m * up e * down d + n * up d * down e) (down e * down d))
    (le_of_values (fin false m e) r (m * up e) (down e) (m * up e) (down e) (down_pos e) (down_pos e) (refl, refl) (self-exact f m e a) (le_refl (m * up e * down e)))
    (round_mono f (m * up e) (down e) (m * up e * down d + n * up d * down e) (down e * down d) (down_pos e) (mul-pos (down_pos e) (down_pos d)) (wider (m * up e) (n * up d) (down e) (down d)))
