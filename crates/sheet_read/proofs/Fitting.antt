-- Writing a result element by element at the front of a lent list. Assumes nothing.
use Prim.Native.Nat.{ℕ, zero, suc, ◌≤◌, ◌<◌}
use native.Mathlib.Omega.{arith}
use mathlib.Core.Path.{◌≡◌, refl, sym, ap, ◌∙◌}
use mathlib.Core.List.{List, [], ◌∷◌, ◌++◌, map, append_assoc}
use lib.ListN.{length, take, drop, get_or, set, length-append, length-drop}
use lib.Seq.{drop-cons, take_all, take_at, set_at}
use Rattle.definitions.specs.Room.{written}
use Rattle.sheet_read.specs.Fitting.{fitting}

module _ {A : Type 0} (old : List A) where
  -- one element more
  pub write-more : (p : List A) (x : A) (n : ℕ) → n ≡ length p → n < length old → set (written p old) n x ≡ written (p ++ x ∷ []) old
  write-more p x n e h =
      let behind : drop (length p) old ≡ get_or old (length p) x ∷ drop (suc (length p)) old = drop-cons old (length p) x (omega arith) in
      let more : length (p ++ x ∷ []) ≡ suc (length p) = length-append p (x ∷ []) ∙ omega arith in
      rw (behind, more, append_assoc) (set_at p (get_or old (length p) x) (drop (suc (length p)) old) x n (sym e))

  pub write-length : (p : List A) → length p ≤ length old → length (written p old) ≡ length old
  write-length p h = length-append p (drop (length p) old) ∙ omega (arith, length-drop (length p) old)

  -- the whole result has room, or the list is full
  pub took-all : (p all : List A) → p ≡ all → length p ≤ length old → p ≡ fitting all old
  took-all p all e h = e ∙ sym (take_all (length old) all (rw (sym e) h))

  pub took-full : (p rest all : List A) → p ++ rest ≡ all → length p ≡ length old → p ≡ fitting all old
  took-full p rest all e h = sym (take_at p rest (length old) h) ∙ ap (take (length old)) e

pub map-set : {A B : Type 0} (f : A → B) (l : List A) (i : ℕ) (x : A) → map f (set l i x) ≡ set (map f l) i (f x)
map-set f [] i x = refl
map-set f (y ∷ l) zero x = refl
map-set f (y ∷ l) (suc i) x = ap (λ (m : List _). f y ∷ m) (map-set f l i x)
