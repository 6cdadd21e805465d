-- Which kinds may stand behind which, so far as the leg tables ask. Assumes nothing.
use Prim.Native.Nat.{ℕ, suc, ◌*◌}
use mathlib.Core.Path.{◌≡◌, refl, sym, subst}
use mathlib.Core.Bool.{Bool, true, false, cond, ◌||◌, not, false≢true}
use mathlib.Core.List.{List, [], ◌∷◌}
use lib.Dec.{eqb, ltb}
use borrow.Author.Tests.{eqb-true}
use Rattle.basics.proofs.TestLaws.{by-test, both}
use Rattle.basics.specs.Lists.{all}
use Rattle.definitions.specs.Reader.{State, After, lookup, onward, behind_second, table, may_stand, among}

-- ---- behind the kinds of the leg tables

abbrev pub full : State → ℕ
full s = s.places * s.places

module _ (s : State) where
  pub behind-none : s.last.kind ≡ 16 → may_stand s ≡ 1 ∷ []
  unfolding may_stand
  behind-none e = rw e

  pub behind-distance : s.last.kind ≡ 0xC → may_stand s ≡ cond (ltb s.row (full s)) (0xC ∷ []) (0xD ∷ 0xE ∷ 0xF ∷ [])
  unfolding may_stand
  behind-distance e = rw e

  pub behind-time : s.last.kind ≡ 0xD → may_stand s ≡ cond (ltb s.row (full s)) (0xD ∷ []) (0xE ∷ 0xF ∷ [])
  unfolding may_stand
  behind-time e = rw e

  pub behind-call : s.last.kind ≡ 0xE → may_stand s ≡ 0xE ∷ 0xF ∷ []
  unfolding may_stand
  behind-call e = rw e

-- ---- a time stands behind a distance or a time alone

abbrev of_legs : ℕ → Bool
of_legs k = among k (0xC ∷ 0xD ∷ [])

-- what holds of each line of the table holds of the line of kind k
by-line : (lines : List After) (k : ℕ) → all (λ (a : After). of_legs a.kind || not (among 0xD a.kinds)) lines ≡ true → among 0xD (lookup k lines) ≡ true → of_legs k ≡ true
by-line [] k h m = absurd (false≢true m)
by-line (a ∷ lines) k h m =
    let b = both (of_legs a.kind || not (among 0xD a.kinds)) _ h in
    by-test (eqb k a.kind)
    (λ t. subst (λ (j : ℕ). of_legs j ≡ true) (sym (eqb-true k a.kind t)) (or-not (of_legs a.kind) (among 0xD a.kinds) b.0 (rw t at m)))
    (λ f. by-line lines k b.1 (rw f at m))
  where
    or-not : (x y : Bool) → x || not y ≡ true → y ≡ true → x ≡ true
    or-not true y p q = refl
    or-not false true p q = p
    or-not false false p q = q

module _ (s : State) where
  no-onward : eqb 0xD (onward s) ≡ false
  no-onward = by-test (eqb s.coming 0) (λ t. rw t) (λ f. rw f)

  no_second : eqb 0xD (behind_second s) ≡ false
  no_second = by-test (eqb (suc s.coming) s.places) (λ t. rw t) (λ f. rw f)

  pub before-time : among 0xD (may_stand s) ≡ true → of_legs s.last.kind ≡ true
  unfolding may_stand
  before-time m = by-line (table s) s.last.kind (by-test (ltb s.row 3) (λ t. rw (t, no-onward, no_second)) (λ f. rw (f, no-onward, no_second))) m
