-- Answers that may be none.
use Rattle.std.specs.Prelude.{◌≡◌, Bool, true, false, cond, Option, None, Some, unwrap_or}
use Rattle.std.specs.Option.{option_or}

infixl 10 ◌>>=◌
-- the rest of a `do` block is reached only with a value
abbrev pub ◌>>=◌ : {A B : Type 0} → Option A → (A → Option B) → Option B
None >>= f = None
Some a >>= f = f a

module _ {A : Type 0} where
  -- there is a value, and the test holds of it
  abbrev pub holds : Option A → (A → Bool) → Bool
  holds None p = false
  holds (Some a) p = p a

  abbrev pub present : Option A → Bool
  present o = holds o (λ _. true)

  -- the value, or d where there is none
  abbrev pub value_or : A → Option A → A
  value_or d o = unwrap_or o d

  -- the first answer that there is
  abbrev pub or_else : Option A → Option A → Option A
  or_else a b = option_or a b

  -- a where the test holds
  abbrev pub given : Bool → A → Option A
  given b a = cond b (Some a) None

  -- what there is has the property
  abbrev pub Holds : (A → Type 0) → Option A → Type 0
  Holds P None = Unit {0}
  Holds P (Some a) = P a

  -- what there is passes the test
  abbrev pub IfAny : (A → Bool) → Option A → Type 0
  IfAny p o = Holds (λ (a : A). p a ≡ true) o
