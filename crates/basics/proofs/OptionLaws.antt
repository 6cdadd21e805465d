-- The laws of answers that may be none. Assumes nothing.
use mathlib.Core.Path.{◌≡◌, refl, sym, ap}
use mathlib.Core.Bool.{Bool, true, false, not, true≢false, false≢true}
use Rattle.std.specs.Prelude.{Option, None, Some, is_some, unwrap_or}
use Rattle.basics.specs.Options.{◌>>=◌, holds, present, or_else, given}

pub same : {A : Type 0} {x y : A} → Some x ≡ Some y → x ≡ y
same {x} {y} e = ap (λ o. unwrap_or o x) e

pub clash : {A B : Type 0} {x : A} → None ≡ Some x → B
clash {x} e = absurd (false≢true (ap is_some e))

module _ {A : Type 0} where
  pub bound : {B : Type 0} (o : Option A) (f : A → Option B) (b : B) → (o >>= f) ≡ Some b → (a : A) × (o ≡ Some a) × (f a ≡ Some b)
  bound None f b h = clash h
  bound (Some a) f b h = (a, refl, h)

  pub unbound : {B : Type 0} (o : Option A) (f : A → Option B) → ((a : A) → f a ≡ None) → (o >>= f) ≡ None
  unbound None f h = refl
  unbound (Some a) f h = h a

  pub held : (o : Option A) (p : A → Bool) → holds o p ≡ true → (a : A) × (o ≡ Some a) × (p a ≡ true)
  held None p h = absurd (false≢true h)
  held (Some a) p h = (a, refl, h)

  pub granted : (t : Bool) (a x : A) → given t a ≡ Some x → (t ≡ true) × (a ≡ x)
  granted true a x h = (refl, same h)
  granted false a x h = clash h

  -- a refusal that is not given: its test holds
  pub passed : (t : Bool) (a : A) → given (not t) a ≡ None → t ≡ true
  passed true a h = refl
  passed false a h = clash (sym h)

  pub absent : {o : Option A} → present o ≡ false → o ≡ None
  absent {o = None} h = refl
  absent {o = Some a} h = absurd (true≢false h)

  pub there : (o : Option A) → present o ≡ true → (a : A) × (o ≡ Some a)
  there None h = absurd (false≢true h)
  there (Some a) h = (a, refl)

  pub neither : (a b : Option A) → or_else a b ≡ None → (a ≡ None) × (b ≡ None)
  neither None b h = (refl, h)
  neither (Some a) b h = clash (sym h)
