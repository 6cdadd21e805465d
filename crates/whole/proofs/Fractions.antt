-- The operations and the comparisons on finite floats, by the fractions that these equal: `HasValue x s a c` says that x is a / c in size and negative where s is true.
-- An operation rounds the exact result, and fractions of one size round to one float. In either format. Assumes nothing.
use Rattle.std.proofs.Common.{◌≡◌, ℕ, zero, suc, ◌+◌, ◌-◌, ◌*◌, ◌^◌, ◌<◌, Bool, true, false, cond, not, ◌&&◌, eqb, ltb, sym, refl, ap, ◌∙◌, zero-lt-suc, mul_assoc, mul_comm, add-mul, mul-pos, zero-mul, mul-one, mul_left_comm}
use native.Mathlib.Nat.{mul-mul-mul_comm, mul-sub}
use lib.Ieee as Ieee
use lib.Ieee.{Float, inf, fin, Format, up, down, round}
use lib.Ieee.Fits.{down_pos}
use lib.Ieee.Exact.{HasValue}
use lib.Ieee.Scale.{round_same}
use Rattle.whole.proofs.Numbers.{ltb-scale, eqb-scale}

-- ---- two fractions with one denominator: x / e is a / c, and y / e is b / c
ltb-same : (x y a b e c : ℕ) → 0 < e → 0 < c → x * c ≡ a * e → y * c ≡ b * e → ltb x y ≡ ltb a b
ltb-same x y a b e c E C p q = sym (ltb-scale x y c C) ∙ rw (p, q) (ltb-scale a b e E)

eqb_same : (x y a b e c : ℕ) → 0 < e → 0 < c → x * c ≡ a * e → y * c ≡ b * e → eqb x y ≡ eqb a b
eqb_same x y a b e c E C p q = sym (eqb-scale x y c C) ∙ rw (p, q) (eqb-scale a b e E)

add_same : (x y a b e c : ℕ) → x * c ≡ a * e → y * c ≡ b * e → (x + y) * c ≡ (a + b) * e
add_same x y a b e c p q = add-mul x y c ∙ rw (p, q) (sym (add-mul a b e))

sub-mul : (x y c : ℕ) → (x - y) * c ≡ x * c - y * c
sub-mul x y c = mul_comm (x - y) c ∙ mul-sub c x y ∙ rw (mul_comm c x, mul_comm c y)

sub_same : (x y a b e c : ℕ) → x * c ≡ a * e → y * c ≡ b * e → (x - y) * c ≡ (a - b) * e
sub_same x y a b e c p q = sub-mul x y c ∙ rw (p, q) (sym (sub-mul a b e))

zero_same : (e c : ℕ) → 0 * c ≡ 0 * e
zero_same e c = zero-mul c ∙ sym (zero-mul e)

module _ (x y a b e c : ℕ) (E : 0 < e) (C : 0 < c) (p : x * c ≡ a * e) (q : y * c ≡ b * e) where
  sum_same : (f : Format) (s t : Bool) → Ieee.sum f s x t y e ≡ Ieee.sum f s a t b c
  unfolding Ieee.sum
  sum_same f s t =
      rw (
        ltb-same x y a b e c E C p q,
        ltb-same y x b a e c E C q p,
        round_same f s (x + y) e (a + b) c E C (add_same x y a b e c p q),
        round_same f t (y - x) e (b - a) c E C (sub_same y x b a e c q p),
        round_same f (s && ltb b a) (x - y) e (a - b) c E C (sub_same x y a b e c p q),
      )

  below-same : (s t : Bool) → Ieee.below s x t y ≡ Ieee.below s a t b
  below-same false false = ltb-same x y a b e c E C p q
  below-same false true = refl
  below-same true false = ltb-same 0 (x + y) 0 (a + b) e c E C (zero_same e c) (add_same x y a b e c p q)
  below-same true true = ltb-same y x b a e c E C q p

  level-same : (s t : Bool) → Ieee.level s x t y ≡ Ieee.level s a t b
  level-same s t = rw (eqb_same x y a b e c E C p q, eqb_same x 0 a 0 e c E C p (zero_same e c))

-- ---- two fractions brought to one denominator: m / u is a / c, and n / v is b / d
module _ (m u n v a c b d : ℕ) (p : m * c ≡ a * u) (q : n * d ≡ b * v) where
  left-cross : m * v * (c * d) ≡ a * d * (u * v)
  left-cross = mul-mul-mul_comm m v c d ∙ rw p (simp (mul_assoc, mul_comm, mul_left_comm))

  right-cross : n * u * (c * d) ≡ b * c * (u * v)
  right-cross = ap (λ (z : ℕ). n * u * z) (mul_comm c d) ∙ mul-mul-mul_comm n u d c ∙ rw q (simp (mul_assoc, mul_comm, mul_left_comm))

  module _ (U : 0 < u) (W : 0 < v) (C : 0 < c) (D : 0 < d) where
    sum-cross : (f : Format) (s t : Bool) → Ieee.sum f s (m * v) t (n * u) (u * v) ≡ Ieee.sum f s (a * d) t (b * c) (c * d)
    sum-cross = sum_same (m * v) (n * u) (a * d) (b * c) (u * v) (c * d) (mul-pos U W) (mul-pos C D) left-cross right-cross

    below-cross : (s t : Bool) → Ieee.below s (m * v) t (n * u) ≡ Ieee.below s (a * d) t (b * c)
    below-cross = below-same (m * v) (n * u) (a * d) (b * c) (u * v) (c * d) (mul-pos U W) (mul-pos C D) left-cross right-cross

    level-cross : (s t : Bool) → Ieee.level s (m * v) t (n * u) ≡ Ieee.level s (a * d) t (b * c)
    level-cross = level-same (m * v) (n * u) (a * d) (b * c) (u * v) (c * d) (mul-pos U W) (mul-pos C D) left-cross right-cross

-- ---- the operations
pub neg-at : (x : Float) (s : Bool) (a c : ℕ) → HasValue x s a c → HasValue (Ieee.neg x) (not s) a c
unfolding Ieee.neg
neg-at Ieee.nan s a c p = elim p [ ]
neg-at (inf _) s a c p = elim p [ ]
neg-at (fin t m e) s a c p = (ap not p.0, p.1)

-- rounding does not look at the sign
neg-cond : (b : Bool) (x y : Float) → Ieee.neg (cond b x y) ≡ cond b (Ieee.neg x) (Ieee.neg y)
neg-cond true x y = refl
neg-cond false x y = refl

neg-odd : (d : ℕ) (s : Bool) (q k l : ℕ) → Ieee.neg (Ieee.odd d s q k l) ≡ Ieee.odd d (not s) q k l
unfolding Ieee.neg Ieee.odd
neg-odd d s zero k l = refl
neg-odd d s (suc q) k l = refl

neg-units : (f : Format) (s : Bool) (q k : ℕ) → Ieee.neg (Ieee.units f s q k) ≡ Ieee.units f (not s) q k
unfolding Ieee.neg Ieee.units
neg-units f s q k = neg-cond (ltb (q * 2 ^ k) (2 ^ (Ieee.low f + suc (Ieee.emax f)))) (Ieee.odd (suc (Ieee.prec f)) s q k (Ieee.low f)) (inf s) ∙ rw (neg-odd (suc (Ieee.prec f)) s q k (Ieee.low f))

pub neg-round : (f : Format) (s : Bool) (a c : ℕ) → Ieee.neg (round f s a c) ≡ round f (not s) a c
unfolding round
neg-round f s a c = neg-units f s _ _

module _ (s t : Bool) (a c b d : ℕ) (C : 0 < c) (D : 0 < d) where
  pub add_at : (f : Format) (x y : Float) → HasValue x s a c → HasValue y t b d → Ieee.add f x y ≡ Ieee.sum f s (a * d) t (b * c) (c * d)
  unfolding Ieee.add
  add_at f Ieee.nan y p q = elim p [ ]
  add_at f (inf _) y p q = elim p [ ]
  add_at f (fin s' m e) Ieee.nan p q = elim q [ ]
  add_at f (fin s' m e) (inf _) p q = elim q [ ]
  add_at f (fin s' m e) (fin t' n g) p q = rw (p.0, q.0) (sum-cross (m * up e) (down e) (n * up g) (down g) a c b d p.1 q.1 (down_pos e) (down_pos g) C D f s t)

  pub mul_at : (f : Format) (x y : Float) → HasValue x s a c → HasValue y t b d → Ieee.mul f x y ≡ round f (Ieee.unlike s t) (a * b) (c * d)
  unfolding Ieee.mul
  mul_at f Ieee.nan y p q = elim p [ ]
  mul_at f (inf _) y p q = elim p [ ]
  mul_at f (fin s' m e) Ieee.nan p q = elim q [ ]
  mul_at f (fin s' m e) (inf _) p q = elim q [ ]
  mul_at f (fin s' m e) (fin t' n g) p q =
      rw (p.0, q.0)
      (round_same f (Ieee.unlike s t) (m * up e * (n * up g)) (down e * down g) (a * b) (c * d) (mul-pos (down_pos e) (down_pos g)) (mul-pos C D)
      (mul-mul-mul_comm (m * up e) (n * up g) c d ∙ rw (p.1, q.1) (mul-mul-mul_comm a (down e) b (down g))))

  pub lt_at : (x y : Float) → HasValue x s a c → HasValue y t b d → Ieee.lt x y ≡ Ieee.below s (a * d) t (b * c)
  unfolding Ieee.lt
  lt_at Ieee.nan y p q = elim p [ ]
  lt_at (inf _) y p q = elim p [ ]
  lt_at (fin s' m e) Ieee.nan p q = elim q [ ]
  lt_at (fin s' m e) (inf _) p q = elim q [ ]
  lt_at (fin s' m e) (fin t' n g) p q = rw (p.0, q.0) (below-cross (m * up e) (down e) (n * up g) (down g) a c b d p.1 q.1 (down_pos e) (down_pos g) C D s t)

  pub eq-at : (x y : Float) → HasValue x s a c → HasValue y t b d → Ieee.eq x y ≡ Ieee.level s (a * d) t (b * c)
  unfolding Ieee.eq
  eq-at Ieee.nan y p q = elim p [ ]
  eq-at (inf _) y p q = elim p [ ]
  eq-at (fin s' m e) Ieee.nan p q = elim q [ ]
  eq-at (fin s' m e) (inf _) p q = elim q [ ]
  eq-at (fin s' m e) (fin t' n g) p q = rw (p.0, q.0) (level-cross (m * up e) (down e) (n * up g) (down g) a c b d p.1 q.1 (down_pos e) (down_pos g) C D s t)

pub sub_at : (s t : Bool) (a c b d : ℕ) → 0 < c → 0 < d → (f : Format) (x y : Float) → HasValue x s a c → HasValue y t b d → Ieee.sub f x y ≡ Ieee.sum f s (a * d) (not t) (b * c) (c * d)
unfolding Ieee.sub
sub_at s t a c b d C D f x y p q = add_at s (not t) a c b d C D f x (Ieee.neg y) p (neg-at y t b d q)

-- ---- the same for whole numbers
pub one : 0 < 1
one = zero-lt-suc 0

module _ (s t : Bool) (a b : ℕ) (x y : Float) (p : HasValue x s a 1) (q : HasValue y t b 1) where
  pub add-exact : (f : Format) → Ieee.add f x y ≡ Ieee.sum f s a t b 1
  add-exact f = add_at s t a 1 b 1 one one f x y p q ∙ rw (mul-one a, mul-one b)

  pub sub-exact : (f : Format) → Ieee.sub f x y ≡ Ieee.sum f s a (not t) b 1
  sub-exact f = sub_at s t a 1 b 1 one one f x y p q ∙ rw (mul-one a, mul-one b)

  pub mul-exact : (f : Format) → Ieee.mul f x y ≡ round f (Ieee.unlike s t) (a * b) 1
  mul-exact f = mul_at s t a 1 b 1 one one f x y p q

  pub lt-exact : Ieee.lt x y ≡ Ieee.below s a t b
  lt-exact = lt_at s t a 1 b 1 one one x y p q ∙ rw (mul-one a, mul-one b)

  pub eq-exact : Ieee.eq x y ≡ Ieee.level s a t b
  eq-exact = eq-at s t a 1 b 1 one one x y p q ∙ rw (mul-one a, mul-one b)
