-- A kind that may stand is one of those listed: what is to be shown, by which of them it is.
use Prim.Native.Nat.{ℕ}
use mathlib.Core.Path.{◌≡◌, sym, subst}
use mathlib.Core.Bool.{true, false≢true}
use mathlib.Core.List.{List, [], ◌∷◌}
use lib.Dec.{eqb}
use borrow.Author.Tests.{eqb-true}
use Rattle.basics.proofs.TestLaws.{by-test}
use Rattle.definitions.specs.Reader.{among}

infixr 5 ◌or◌
-- P for each of the kinds, in their order
pub data ByKind (P : ℕ → Type 0) : List ℕ → Type 0 where
  no_other : ByKind P []
  ◌or◌ : {k : ℕ} {ks : List ℕ} → P k → ByKind P ks → ByKind P (k ∷ ks)

pub by_kind : (P : ℕ → Type 0) (ks : List ℕ) (k : ℕ) → ByKind P ks → among k ks ≡ true → P k
by_kind P [] k no_other m = absurd (false≢true m)
by_kind P (j ∷ ks) k (p or ps) m = by-test (eqb k j) (λ t. subst P (sym (eqb-true k j t)) p) (λ f. by_kind P ks k ps (rw f at m))

pub map-kinds : {P Q : ℕ → Type 0} {ks : List ℕ} → ByKind P ks → ((k : ℕ) → P k → Q k) → ByKind Q ks
map-kinds no_other f = no_other
map-kinds (◌or◌ {k} p ps) f = f k p or map-kinds ps f
