-- A search through a list, as the code's and as the definitions' word has it. Assumes nothing.
use Prim.Native.Nat.{ℕ, zero, suc}
use mathlib.Core.Path.{◌≡◌, refl, ap}
use mathlib.Core.Bool.{Bool, ◌||◌}
use mathlib.Core.List.{List, [], ◌∷◌, map}
use lib.ListN.{take}
use Rattle.std.specs.List.{list_any}
use Rattle.basics.specs.Lists.{any}

pub same_any : {A : Type 0} (p : A → Bool) (l : List A) → list_any p l ≡ any p l
same_any p [] = refl
same_any p (x ∷ l) = ap (λ (b : Bool). p x || b) (same_any p l)

-- a test of the images among the first n
pub any-image : {A B : Type 0} (g : A → B) (p : B → Bool) (n : ℕ) (l : List A) → any p (take n (map g l)) ≡ any (λ (x : A). p (g x)) (take n l)
any-image g p zero l = refl
any-image g p (suc n) [] = refl
any-image g p (suc n) (x ∷ l) = ap (λ (b : Bool). p (g x) || b) (any-image g p n l)
