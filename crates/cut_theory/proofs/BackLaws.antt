-- The read-back of `Cut`'s `back_of`, turn by turn, into the tail of a list. Assumes nothing.
use Prim.Native.Nat.{ℕ, zero, suc, ◌-◌, ◌<◌, ◌≤◌}
use native.Mathlib.Nat.{not-suc-le-zero, le_refl}
use native.Mathlib.Omega.{arith}
use mathlib.Core.Path.{◌≡◌, refl, sym, ap, subst, ◌∙◌}
use mathlib.Core.List.{List, [], ◌∷◌}
use lib.ListN.{length, set, drop, length-set}
use lib.Seq.{drop-cons, drop-set-lt, get_or-set_same, drop-length}
use Rattle.cut_theory.specs.Cut.{back_of, Falls}
use Rattle.cut_theory.specs.Tab.{cells}

-- more turns than enough change nothing
pub enough : (p : ℕ → ℕ) (n f g j : ℕ) (js : List ℕ) → Falls p n → j ≤ n → j ≤ f → j ≤ g → back_of p f j js ≡ back_of p g j js
unfolding back_of
enough p n zero zero j js w b x y = refl
enough p n zero (suc g) zero js w b x y = refl
enough p n zero (suc g) (suc j) js w b x y = absurd (not-suc-le-zero x)
enough p n (suc f) zero zero js w b x y = refl
enough p n (suc f) zero (suc j) js w b x y = absurd (not-suc-le-zero y)
enough p n (suc f) (suc g) zero js w b x y = refl
enough p n (suc f) (suc g) (suc j) js w b x y =
    let l = w (suc j) (omega arith) b in
    enough p n f g (p (suc j)) (suc j ∷ js) w (omega (arith, l)) (omega (arith, l)) (omega (arith, l))

-- one turn, with the turns left as they were
pub turn : (p : ℕ → ℕ) (n j : ℕ) (js : List ℕ) → Falls p n → 0 < j → j ≤ n → back_of p n j js ≡ back_of p n (p j) (j ∷ js)
unfolding back_of
turn p zero zero js w h b = absurd (not-suc-le-zero h)
turn p zero (suc j) js w h b = absurd (not-suc-le-zero b)
turn p (suc n) zero js w h b = absurd (not-suc-le-zero h)
turn p (suc n) (suc j) js w h b =
    let l = w (suc j) h b in
    enough p (suc n) n (suc n) (p (suc j)) (suc j ∷ js) w (omega (arith, l)) (omega (arith, l)) (omega (arith, l))

pub none_left : (p : ℕ → ℕ) (n : ℕ) (js : List ℕ) → back_of p n 0 js ≡ js
unfolding back_of
none_left p zero js = refl
none_left p (suc n) js = refl

-- starts that agree up to n read back the same
pub agree : (p q : ℕ → ℕ) (n f j : ℕ) (js : List ℕ) → Falls p n → ((k : ℕ) → k ≤ n → p k ≡ q k) → j ≤ n → back_of p f j js ≡ back_of q f j js
unfolding back_of
agree p q n zero j js w e b = refl
agree p q n (suc f) zero js w e b = refl
agree p q n (suc f) (suc j) js w e b =
    agree p q n f (p (suc j)) (suc j ∷ js) w e (omega (arith, w (suc j) (omega arith) b)) ∙ ap (λ (k : ℕ). back_of q f k (suc j ∷ js)) (e (suc j) b)

-- a store in front of a tail
pub stored : (l : List ℕ) (a v : ℕ) → 0 < a → a ≤ length l → drop (a - 1) (set l (a - 1) v) ≡ v ∷ drop a l
stored l a v h b =
    let k = a - 1 in
    let e : suc (a - 1) ≡ a = omega arith in
    drop-cons (set l k v) k 0 (simp length-set (omega arith))
    ∙ ap (λ (x : ℕ). x ∷ drop (suc k) (set l k v)) (get_or-set_same l k v 0 (omega arith))
    ∙ ap (λ (t : List ℕ). v ∷ t) (drop-set-lt (suc k) l k v (le_refl (suc k)) ∙ ap (λ (m : ℕ). drop m l) e)

-- ---- the loop: `at` is the first place that is written, j the end that is next
pub record Backing (p : ℕ → ℕ) (n : ℕ) (ends : List ℕ) (at j : ℕ) : Type 0 where
  pub long : length ends ≡ cells
  pub room : j ≤ at
  pub low : j ≤ n
  pub high : at ≤ cells
  pub rest : back_of p n j (drop at ends) ≡ back_of p n n []

pub begun : (p : ℕ → ℕ) (n : ℕ) (ends : List ℕ) → length ends ≡ cells → n < cells → Backing p n ends cells n
begun p n ends l b =
    record {
      long = l;
      room = omega arith;
      low = le_refl n;
      high = omega arith;
      rest = ap (λ (t : List ℕ). back_of p n n t) (subst (λ (k : ℕ). drop k ends ≡ []) l (drop-length ends));
    }

pub onward : (p : ℕ → ℕ) (n : ℕ) (ends : List ℕ) (at j : ℕ) → Falls p n → 0 < j → Backing p n ends at j → Backing p n (set ends (at - 1) j) (at - 1) (p j)
onward p n ends at j w h B =
    let l = w j h B.low in
    record {
      long = length-set ends (at - 1) j ∙ B.long;
      room = omega arith;
      low = omega arith;
      high = omega arith;
      rest =
          ap (λ (t : List ℕ). back_of p n (p j) t) (stored ends at j (omega arith) (omega arith))
          ∙ sym (turn p n j (drop at ends) w h B.low)
          ∙ B.rest;
    }

pub done : (p : ℕ → ℕ) (n : ℕ) (ends : List ℕ) (at j : ℕ) → j ≤ 0 → Backing p n ends at j → drop at ends ≡ back_of p n n []
done p n ends at j z B =
    let e : j ≡ 0 = omega arith in
    sym (none_left p n (drop at ends)) ∙ ap (λ (k : ℕ). back_of p n k (drop at ends)) (sym e) ∙ B.rest
