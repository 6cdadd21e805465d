-- A natural number, or an infinity above them all: a cost or a leg that can't be had.
use Rattle.std.specs.Prelude.{ℕ, ◌+◌, ◌≤◌, Bool, true, false, nat_le, nat_lt, Float}
use Rattle.std.specs.Float.{inf}
use Rattle.whole.specs.Whole.{fl, limit}

pub data Ext : Type 0 where
  of : ℕ → Ext
  never : Ext

abbrev pub fx : Ext → Float
fx (of n) = fl n
fx never = inf false

abbrev pub Fit : Ext → Type 0
Fit (of n) = n ≤ limit
Fit never = Unit {0}

abbrev pub add_e : Ext → Ext → Ext
add_e (of a) (of b) = of (a + b)
add_e (of a) never = never
add_e never b = never

abbrev pub lt_e : Ext → Ext → Bool
lt_e (of a) (of b) = nat_lt a b
lt_e (of a) never = true
lt_e never b = false

abbrev pub le_e : Ext → Ext → Bool
le_e (of a) (of b) = nat_le a b
le_e (of a) never = true
le_e never (of b) = false
le_e never never = true
