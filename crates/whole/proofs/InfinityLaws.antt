-- A whole number beside the infinity; as floats both add and compare as `Ext` says, up to 2 ^ 53. Assumes nothing.
use Rattle.std.proofs.Common.{◌≡◌, ℕ, true, false, refl}
use lib.Ieee as Ieee
use lib.Ieee.{Float, inf, fin, binary64}
use Rattle.whole.specs.Whole.{fl, Is}
use Rattle.whole.proofs.WholeLaws.{fl-is, fl-add, fl-lt, fl-le}
use Rattle.whole.specs.Infinity.{Ext, of, never, fx, Fit, add_e, lt_e, le_e}

-- ---- a whole number beside the infinity
pub is-lt-inf : (x : Float) (a : ℕ) → Is x a → Ieee.lt x (inf false) ≡ true
unfolding Ieee.lt
is-lt-inf Ieee.nan a p = elim p [ ]
is-lt-inf (inf _) a p = elim p [ ]
is-lt-inf (fin s m e) a p = refl

pub is-le-inf : (x : Float) (a : ℕ) → Is x a → Ieee.le x (inf false) ≡ true
unfolding Ieee.le
is-le-inf Ieee.nan a p = elim p [ ]
is-le-inf (inf _) a p = elim p [ ]
is-le-inf (fin s m e) a p = refl

pub inf-lt-is : (x : Float) (a : ℕ) → Is x a → Ieee.lt (inf false) x ≡ false
unfolding Ieee.lt
inf-lt-is Ieee.nan a p = elim p [ ]
inf-lt-is (inf _) a p = elim p [ ]
inf-lt-is (fin s m e) a p = refl

pub inf-le-is : (x : Float) (a : ℕ) → Is x a → Ieee.le (inf false) x ≡ false
unfolding Ieee.le
inf-le-is Ieee.nan a p = elim p [ ]
inf-le-is (inf _) a p = elim p [ ]
inf-le-is (fin s m e) a p = refl

pub add-inf : (x : Float) (a : ℕ) → Is x a → Ieee.add binary64 x (inf false) ≡ inf false
unfolding Ieee.add
add-inf Ieee.nan a p = elim p [ ]
add-inf (inf _) a p = elim p [ ]
add-inf (fin s m e) a p = refl

pub inf-add : (x : Float) (a : ℕ) → Is x a → Ieee.add binary64 (inf false) x ≡ inf false
unfolding Ieee.add
inf-add Ieee.nan a p = elim p [ ]
inf-add (inf _) a p = elim p [ ]
inf-add (fin s m e) a p = refl

-- ---- either of them
pub fx-add : (a b : Ext) → Fit a → Fit b → Ieee.add binary64 (fx a) (fx b) ≡ fx (add_e a b)
unfolding Ieee.add
fx-add (of a) (of b) p q = fl-add a b p q
fx-add (of a) never p q = add-inf (fl a) a (fl-is a p)
fx-add never (of b) p q = inf-add (fl b) b (fl-is b q)
fx-add never never p q = refl

pub fx-lt : (a b : Ext) → Fit a → Fit b → Ieee.lt (fx a) (fx b) ≡ lt_e a b
unfolding Ieee.lt
fx-lt (of a) (of b) p q = fl-lt a b p q
fx-lt (of a) never p q = is-lt-inf (fl a) a (fl-is a p)
fx-lt never (of b) p q = inf-lt-is (fl b) b (fl-is b q)
fx-lt never never p q = refl

pub fx-le : (a b : Ext) → Fit a → Fit b → Ieee.le (fx a) (fx b) ≡ le_e a b
unfolding Ieee.le
fx-le (of a) (of b) p q = fl-le a b p q
fx-le (of a) never p q = is-le-inf (fl a) a (fl-is a p)
fx-le never (of b) p q = inf-le-is (fl b) b (fl-is b q)
fx-le never never p q = refl
