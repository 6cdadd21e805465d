-- What the loops keep: the calls that fit alone, and the positions dropped, written so far at the front of a list. Assumes nothing.
use Prim.Native.Nat.{ℕ, zero, suc, ◌+◌, ◌<◌, ◌≤◌}
use native.Mathlib.Nat.{add-zero}
use native.Mathlib.Numerals.{add-one}
use native.Mathlib.Omega.{arith}
use mathlib.Core.Path.{◌≡◌, refl, sym, ap, ◌∙◌}
use mathlib.Core.Bool.{Bool, true, false}
use mathlib.Core.List.{List, [], ◌∷◌, ◌++◌, append-nil}
use lib.ListN.{length, get_or, set, take, drop, length-append, drop_of_length-le}
use lib.Seq.{drop-cons, get_or-drop, append_snoc, length-take-le}
use lib.Dec.{eqb}
use Rattle.basics.specs.Lists.{only}
use Rattle.definitions.specs.Room.{written}
use Rattle.cut_table.proofs.Writing.{written-more, length-written, front-written}
use Rattle.cut_heavy.specs.Heavy.{spread}

drop-one : (a : ℕ) (l : List ℕ) → drop 1 (drop a l) ≡ drop (suc a) l
drop-one zero l = refl
drop-one (suc a) [] = refl
drop-one (suc a) (x ∷ l) = drop-one a l

-- the first elements of a list, written elsewhere
pub taken_back : (n : ℕ) (l old new : List ℕ) → n ≤ length l → new ≡ written (take n l) old → take n new ≡ take n l
taken_back n l old new h e =
    ap (take n) e ∙ ap (λ (k : ℕ). take k (written (take n l) old)) (sym (length-take-le n l h)) ∙ front-written (take n l) old

-- of a list, n elements are written at the front, and these are still to come
pub record Written (all old : List ℕ) (n : ℕ) (rest new : List ℕ) : Type 0 where
  pub front : List ℕ
  pub whole : all ≡ front ++ rest
  pub count : n ≡ length front
  pub are : new ≡ written front old

module _ {all old : List ℕ} {n : ℕ} {rest new : List ℕ} (W : Written all old n rest new) where
  pub none_more : (rest' : List ℕ) → rest ≡ rest' → Written all old n rest' new
  none_more rest' e = record { front = W.front; whole = W.whole ∙ ap (λ (l : List ℕ). W.front ++ l) e; count = W.count; are = W.are }

  pub one_more : (x : ℕ) (rest' : List ℕ) → rest ≡ x ∷ rest' → n < length old → Written all old (n + 1) rest' (set new n x)
  one_more x rest' e h =
      record {
        front = W.front ++ (x ∷ []);
        whole = W.whole ∙ ap (λ (l : List ℕ). W.front ++ l) e ∙ sym (append_snoc W.front x rest');
        count = ap (λ (k : ℕ). k + 1) W.count ∙ sym (length-append W.front (x ∷ []));
        are = ap (λ (l : List ℕ). set l n x) W.are ∙ written-more W.front old n x (sym W.count) h;
      }

  pub all-written : rest ≡ [] → (n ≡ length all) × (new ≡ written all old)
  all-written e =
      let z : W.front ≡ all = sym (W.whole ∙ ap (λ (l : List ℕ). W.front ++ l) e ∙ append-nil W.front) in
      (W.count ∙ ap length z, W.are ∙ ap (λ (l : List ℕ). written l old) z)

  pub same-long : n ≤ length old → length new ≡ length old
  same-long h = ap length W.are ∙ length-written W.front old (omega (arith, W.count))

pub none_written : (all old : List ℕ) → Written all old 0 all old
none_written all old = record { front = []; whole = refl; count = refl; are = refl }

module _ (fits : ℕ → Bool) (tour : List ℕ) where
  -- ---- the calls that fit alone, the first k calls looked at

  module _ (k : ℕ) (h : k < length tour) where
    pub left_out : fits (get_or tour k 0) ≡ false → only fits (drop k tour) ≡ only fits (drop (k + 1) tour)
    left_out f = ap (only fits) (drop-cons tour k 0 h) ∙ rw (f, add-one k) refl

    pub put_in : fits (get_or tour k 0) ≡ true → only fits (drop k tour) ≡ get_or tour k 0 ∷ only fits (drop (k + 1) tour)
    put_in t = ap (only fits) (drop-cons tour k 0 h) ∙ rw (t, add-one k) refl

    -- ---- the positions dropped, q of those calls fitting alone, and a of the numbers dropped passed

    module _ (gone : List ℕ) (q a : ℕ) where
      abbrev spread_from : ℕ → ℕ → ℕ → List ℕ
      spread_from k q a = spread fits (drop k tour) (k + 1) (q + 1) (drop a gone)

      here : spread_from k q a ≡ spread fits (get_or tour k 0 ∷ drop (k + 1) tour) (k + 1) (q + 1) (drop a gone)
      here =
          ap (λ (l : List ℕ). spread fits l (k + 1) (q + 1) (drop a gone)) (drop-cons tour k 0 h)
          ∙ ap (λ (j : ℕ). spread fits (get_or tour k 0 ∷ drop j tour) (k + 1) (q + 1) (drop a gone)) (sym (add-one k))

      next-is : get_or (drop a gone) 0 0 ≡ get_or gone a 0
      next-is = get_or-drop a gone 0 0 ∙ ap (λ (j : ℕ). get_or gone j 0) (add-zero a)

      pub heavy-here : fits (get_or tour k 0) ≡ false → spread_from k q a ≡ (k + 1) ∷ spread_from (k + 1) q a
      unfolding spread
      heavy-here f = here ∙ rw (f, add-one (k + 1)) refl

      pub gone-here : fits (get_or tour k 0) ≡ true → eqb (get_or gone a 0) (q + 1) ≡ true → spread_from k q a ≡ (k + 1) ∷ spread_from (k + 1) (q + 1) (a + 1)
      unfolding spread
      gone-here t e = here ∙ rw (t, next-is, e, drop-one a gone, add-one (k + 1), add-one (q + 1), add-one a) refl

      pub kept_here : fits (get_or tour k 0) ≡ true → eqb (get_or gone a 0) (q + 1) ≡ false → spread_from k q a ≡ spread_from (k + 1) (q + 1) a
      unfolding spread
      kept_here t e = here ∙ rw (t, next-is, e, add-one (k + 1), add-one (q + 1)) refl

  -- no call is left
  pub none-light : (k : ℕ) → length tour ≤ k → only fits (drop k tour) ≡ []
  none-light k h = ap (only fits) (drop_of_length-le tour h)

  pub none-spread : (k : ℕ) → length tour ≤ k → (p q : ℕ) (gone : List ℕ) → spread fits (drop k tour) p q gone ≡ []
  unfolding spread
  none-spread k h p q gone = ap (λ (l : List ℕ). spread fits l p q gone) (drop_of_length-le tour h)
