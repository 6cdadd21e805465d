-- Floats as costs: what is not below +∞ is below nothing, and stays so in sums. Among floats that are no NaN and whose sign is clear the laws hold that `Runs` asks:
-- an order, and sums that keep it, though they are rounded. Assumes nothing.
use mathlib.Core.Path.{◌≡◌, refl, sym, ◌∙◌}
use mathlib.Core.Bool.{Bool, true, false, cond, true≢false}
use lib.Dec.{T}
use lib.Ieee.{Float, nan, inf, fin, binary64, add, lt, le}
use Rattle.basics.proofs.TestLaws.{by-test, not-true}
use Rattle.whole.proofs.OrderLaws.{not-lt, lt-le, nlt-le, le-self, le-through}
use Rattle.whole.proofs.Monotone.{add-mono}
use Rattle.whole.proofs.Monotone as Monotone
use Rattle.cut_theory.specs.Floats.{Nonneg}

-- ---- +∞

pub lt-inf : (x : Float) → lt (inf false) x ≡ false
unfolding lt
lt-inf nan = refl
lt-inf (inf t) = refl
lt-inf (fin t n d) = refl

-- what is not below +∞ is below nothing
pub lt-none : (x y : Float) → lt x (inf false) ≡ false → lt x y ≡ false
unfolding lt
lt-none nan y h = refl
lt-none (inf false) y h = lt-inf y
lt-none (inf true) y h = absurd (true≢false h)
lt-none (fin s m e) y h = absurd (true≢false h)

-- so a test need not look at +∞ first
pub guarded : (x y : Float) → lt (cond (lt x (inf false)) x (inf false)) y ≡ lt x y
guarded x y = by-test (lt x (inf false)) (λ t. rw t refl) (λ f. rw f (lt-inf y ∙ sym (lt-none x y f)))

-- whatever is added to it
pub add-stuck : (x y : Float) → lt x (inf false) ≡ false → lt (add binary64 x y) (inf false) ≡ false
unfolding lt add
add-stuck nan y h = refl
add-stuck (inf false) nan h = refl
add-stuck (inf false) (inf true) h = refl
add-stuck (inf false) (inf false) h = refl
add-stuck (inf false) (fin t n d) h = refl
add-stuck (inf true) y h = absurd (true≢false h)
add-stuck (fin s m e) y h = absurd (true≢false h)

-- ---- floats that are no NaN and whose sign is clear

not-below : (a b : Float) → Nonneg a → Nonneg b → T (le a b) → lt b a ≡ false
not-below a b ga gb h = not-true (lt b a) (not-lt b a gb ga ∙ is_true (le a b) h)
  where
    is_true : (t : Bool) → T t → t ≡ true
    is_true true h = refl
    is_true false h = absurd h

pub lt-asym : (a b : Float) → Nonneg a → Nonneg b → lt a b ≡ true → lt b a ≡ false
lt-asym a b ga gb h = not-below a b ga gb (lt-le a b h)

pub lt-neg-trans : (a b c : Float) → Nonneg a → Nonneg b → Nonneg c → lt b a ≡ false → lt c b ≡ false → lt c a ≡ false
lt-neg-trans a b c ga gb gc h k = not-below a c ga gc (le-through a b c ga gb gc (nlt-le b a gb ga h) (nlt-le c b gc gb k))

pub add-nonneg : (x y : Float) → Nonneg x → Nonneg y → Nonneg (add binary64 x y)
add-nonneg = Monotone.add-nonneg binary64

-- a sum keeps the order of its first part
pub add-keeps : (a b y : Float) → Nonneg a → Nonneg b → Nonneg y → lt b a ≡ false → lt (add binary64 b y) (add binary64 a y) ≡ false
add-keeps a b y ga gb gy h =
    not-below (add binary64 a y) (add binary64 b y) (add-nonneg a y ga gy) (add-nonneg b y gb gy)
    (add-mono binary64 a y b y ga gy gb gy (nlt-le b a gb ga h) (le-self y gy))
