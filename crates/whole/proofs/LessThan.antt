-- `<` on all floats, NaN and what is negative included: nothing is below itself, and it is transitive. Assumes nothing.
use Rattle.std.proofs.Common.{◌≡◌, ℕ, zero, suc, ◌+◌, ◌*◌, ◌<◌, true, false, refl, subst, le_refl, lt_irrefl, mul-pos, zero-mul, arith, ltb-true, le-ltb, lt-ltb}
use mathlib.Core.Bool.{false≢true}
use lib.Ieee.{Float, nan, inf, fin, up, down, lt}
use lib.Ieee.Fits.{down_pos}
use Rattle.whole.proofs.OrderLaws.{lt-le, lt-through}

pub lt-self : (x : Float) → lt x x ≡ false
unfolding lt
lt-self nan = refl
lt-self (inf false) = refl
lt-self (inf true) = refl
lt-self (fin false m e) = le-ltb _ _ (le_refl (m * up e * down e))
lt-self (fin true m e) = le-ltb _ _ (le_refl (m * up e * down e))

-- a product that is above 0
positive : (a b c : ℕ) → 0 < a * b → 0 < c → 0 < a * c
positive zero b c h k = absurd (lt_irrefl 0 (subst (λ (n : ℕ). 0 < n) (zero-mul b) h))
positive (suc a) b c h k = mul-pos (omega arith) k

above : (a b : ℕ) → a < b → 0 < b
above a b h = omega arith

pub lt_trans : (x y z : Float) → lt x y ≡ true → lt y z ≡ true → lt x z ≡ true
unfolding lt
lt_trans nan y z h k = absurd (false≢true h)
lt_trans (inf s) nan z h k = absurd (false≢true h)
lt_trans (inf false) (inf t) z h k = absurd (false≢true h)
lt_trans (inf true) (inf true) z h k = absurd (false≢true h)
lt_trans (inf true) (inf false) nan h k = absurd (false≢true k)
lt_trans (inf true) (inf false) (inf u) h k = absurd (false≢true k)
lt_trans (inf true) (inf false) (fin u l g) h k = absurd (false≢true k)
lt_trans (inf false) (fin t n d) z h k = absurd (false≢true h)
lt_trans (inf true) (fin t n d) nan h k = absurd (false≢true k)
lt_trans (inf true) (fin t n d) (inf u) h k = k
lt_trans (inf true) (fin t n d) (fin u l g) h k = refl
lt_trans (fin s m e) nan z h k = absurd (false≢true h)
lt_trans (fin s m e) (inf true) z h k = absurd (false≢true h)
lt_trans (fin s m e) (inf false) nan h k = absurd (false≢true k)
lt_trans (fin s m e) (inf false) (inf u) h k = absurd (false≢true k)
lt_trans (fin s m e) (inf false) (fin u l g) h k = absurd (false≢true k)
lt_trans (fin s m e) (fin t n d) nan h k = absurd (false≢true k)
lt_trans (fin s m e) (fin t n d) (inf u) h k = k
lt_trans (fin false m e) (fin true n d) (fin u l g) h k = absurd (false≢true h)
lt_trans (fin false m e) (fin false n d) (fin true l g) h k = absurd (false≢true k)
lt_trans (fin true m e) (fin false n d) (fin true l g) h k = absurd (false≢true k)
lt_trans (fin false m e) (fin false n d) (fin false l g) h k = lt-through (fin false m e) (fin false n d) (fin false l g) tt tt tt h (lt-le (fin false n d) (fin false l g) k)
lt_trans (fin true m e) (fin true n d) (fin true l g) h k = lt-through (fin false l g) (fin false n d) (fin false m e) tt tt tt k (lt-le (fin false n d) (fin false m e) h)
lt_trans (fin true m e) (fin true n d) (fin false l g) h k =
    let p = positive (m * up e) (down d) (down g) (above _ _ (ltb-true _ _ h)) (down_pos g) in
    lt-ltb 0 (m * up e * down g + l * up g * down e) (omega arith)
lt_trans (fin true m e) (fin false n d) (fin false l g) h k =
    let p = positive (l * up g) (down d) (down e) (above _ _ (ltb-true _ _ k)) (down_pos e) in
    lt-ltb 0 (m * up e * down g + l * up g * down e) (omega arith)
