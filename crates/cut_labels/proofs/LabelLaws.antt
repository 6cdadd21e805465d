-- Labels in lists of numbers: put one behind the other, carried on by a call, and home. Assumes nothing.
use Prim.Native.Nat.{ℕ, zero, suc, ◌+◌, ◌<◌, ◌≤◌}
use native.Mathlib.Numerals.{add-one}
use native.Mathlib.Nat.{le_refl}
use native.Mathlib.Omega.{arith}
use mathlib.Core.Path.{◌≡◌, refl, sym, ap, ap₂, ◌∙◌}
use mathlib.Core.List.{List, [], ◌∷◌, ◌++◌, append_assoc, append-nil}
use Rattle.std.specs.Prelude.{Option, None, Some}
use lib.ListN.{set, length-set}
use lib.Seq.{get_or-set_same, get_or-set_other}
use lib.Ieee.{Float, nan}
use Rattle.basics.specs.Options.{◌>>=◌}
use Rattle.cut_theory.specs.Tab.{cells}
use Rattle.definitions.specs.Sheet.{BreakOf, CustomerOf}
use Rattle.clock.specs.declared.schedule.Label.{Label}
use Rattle.clock.specs.declared.schedule.Scheduled.{Scheduled}
use Rattle.clock.specs.Serving.{serve_f, carry_f}
use Rattle.clock.specs.Least.{KeptF, kept_home_f, pick_f}
use Rattle.cut_labels.specs.Labels.{Lists, Full, label_at, labels_in, listed, kept, Put, Carried, Served, best_from}

-- ---- labels one behind the other

-- the first n labels are those that stand there
pub labels-alike : (x y : Lists) (n : ℕ) → ((k : ℕ) → k < n → label_at x k ≡ label_at y k) → labels_in x n ≡ labels_in y n
unfolding labels_in
labels-alike x y zero e = refl
labels-alike x y (suc n) e = ap₂ (λ (l : List Label) (z : Label). l ++ z ∷ []) (labels-alike x y n (λ k h. e k (omega arith))) (e n (omega arith))

-- the lists with label number n written
abbrev pub written : Lists → ℕ → Label → Lists
written x n l =
    record {
      times = set x.times n l.time;
      lates = set x.lates n l.lateness;
      pays = set x.pays n l.cost;
      places = set x.places n l.place;
    }

module _ (x : Lists) (F : Full x) (n : ℕ) (l : Label) where
  written-full : Full (written x n l)
  written-full =
      record {
        times_long = length-set x.times n l.time ∙ F.times_long;
        lates-long = length-set x.lates n l.lateness ∙ F.lates-long;
        pays-long = length-set x.pays n l.cost ∙ F.pays-long;
        places-long = length-set x.places n l.place ∙ F.places-long;
      }

  written-here : n < cells → label_at (written x n l) n ≡ l
  unfolding label_at
  written-here h =
      rw (
        get_or-set_same x.times n l.time nan (omega (arith, F.times_long)),
        get_or-set_same x.lates n l.lateness nan (omega (arith, F.lates-long)),
        get_or-set_same x.pays n l.cost nan (omega (arith, F.pays-long)),
        get_or-set_same x.places n l.place 0 (omega (arith, F.places-long)),
      )

  written-other : (k : ℕ) → (k ≡ n → ⊥) → label_at (written x n l) k ≡ label_at x k
  unfolding label_at
  written-other k d =
      rw (
        get_or-set_other x.times n k l.time nan d,
        get_or-set_other x.lates n k l.lateness nan d,
        get_or-set_other x.pays n k l.cost nan d,
        get_or-set_other x.places n k l.place 0 d,
      )

  pub put_one : n < cells → (o : Option Label) → o ≡ Some l → Put n o x (written x n l) (n + 1)
  unfolding labels_in
  put_one h o e =
      record {
        full = written-full;
        most = omega arith;
        are =
            ap (labels_in (written x n l)) (add-one n)
            ∙ ap₂ (λ (ls : List Label) (z : Label). ls ++ z ∷ []) (labels-alike (written x n l) x n (λ k b. written-other k (λ z. omega arith))) (written-here h)
            ∙ ap (λ (z : Option Label). labels_in x n ++ listed z) (sym e);
        behind = λ k b. written-other k (λ z. omega arith);
      }

-- none is put
pub put-none : (x : Lists) → Full x → (n : ℕ) (o : Option Label) → o ≡ None → Put n o x x n
put-none x F n o e =
    record { full = F; most = omega arith; are = sym (ap (λ (z : Option Label). labels_in x n ++ listed z) e ∙ append-nil (labels_in x n)); behind = λ k b. refl }

-- ---- labels carried on

module _ (f : Label → Option Label) where
  pub kept_append : (xs ys : List Label) → kept f (xs ++ ys) ≡ kept f xs ++ kept f ys
  unfolding kept
  kept_append [] ys = refl
  kept_append (x ∷ xs) ys = ap (λ (z : List Label). listed (f x) ++ z) (kept_append xs ys) ∙ sym (append_assoc (listed (f x)) (kept f xs) (kept f ys))

  pub kept-listed : (o : Option Label) → kept f (listed o) ≡ listed (o >>= f)
  unfolding kept
  kept-listed None = refl
  kept-listed (Some l) = append-nil (listed (f l))

  kept_more : (xs : List Label) (l : Label) → kept f (xs ++ l ∷ []) ≡ kept f xs ++ listed (f l)
  kept_more xs l = kept_append xs (l ∷ []) ∙ ap (λ (z : List Label). kept f xs ++ z) (kept-listed (Some l))

-- the first k labels of `old` have served the call, or are left out; `left` are left
pub record Carrying (f : Label → Option Label) (old new : Lists) (left k : ℕ) : Type 0 where
  pub full : Full new
  pub fewer : left ≤ k
  pub are : labels_in new left ≡ kept f (labels_in old k)
  pub behind : (j : ℕ) → k ≤ j → label_at new j ≡ label_at old j

module _ (f : Label → Option Label) (old : Lists) where
  pub carry-none : Full old → Carrying f old old 0 0
  unfolding labels_in kept
  carry-none F = record { full = F; fewer = omega arith; are = refl; behind = λ j h. refl }

  pub carry-one : (now new : Lists) (left k r : ℕ) (label : Label) (o : Option Label) → Carrying f old now left k → label ≡ label_at now k → o ≡ f label
      → Put left o now new r → Carrying f old new r (k + 1)
  unfolding labels_in
  carry-one now new left k r label o C el eo P =
      let there : o ≡ f (label_at old k) = eo ∙ ap f (el ∙ C.behind k (le_refl k)) in
      record {
        full = P.full;
        fewer = omega (arith, P.most, C.fewer);
        are =
            P.are ∙ ap₂ (λ (ls : List Label) (z : Option Label). ls ++ listed z) C.are there ∙ sym (kept_more f (labels_in old k) (label_at old k))
            ∙ ap (λ (n : ℕ). kept f (labels_in old n)) (sym (add-one k));
        behind = λ j h. P.behind j (omega (arith, C.fewer)) ∙ C.behind j (omega arith);
      }

-- all of them
pub carry-all : (c : CustomerOf Float) (i : ℕ) (travel : Float) (n : ℕ) (old new : Lists) (left k : ℕ) → k ≡ n
    → Carrying (serve_f c None i travel) old new left k → Carried c i travel n old new left
carry-all c i travel n old new left k e C =
    record { full = C.full; fewer = omega (arith, C.fewer); are = C.are ∙ ap (λ (j : ℕ). kept (serve_f c None i travel) (labels_in old j)) e }

-- and the break taken here
pub served-all : {c : CustomerOf Float} {b : BreakOf Float} {i : ℕ} {travel : Float} {before o : Option Label} {n left r : ℕ} {old mid new : Lists}
    → Carried c i travel n old mid left → o ≡ carry_f c (Some b) i travel before → Put left o mid new r → Served c b i travel before n old new r
served-all C e P =
    record {
      full = P.full;
      most = omega (arith, P.most, C.fewer);
      are = P.are ∙ ap₂ (λ (ls : List Label) (z : Option Label). ls ++ listed z) C.are e;
    }

-- ---- home

module _ (limits : KeptF) (distance back : Float) where
  pub best-append : (best : Option Scheduled) (xs ys : List Label)
      → best_from limits distance back best (xs ++ ys) ≡ best_from limits distance back (best_from limits distance back best xs) ys
  unfolding best_from
  best-append best [] ys = refl
  best-append best (x ∷ xs) ys = best-append (pick_f best (kept_home_f limits distance back x)) xs ys

  pub best-more : (best : Option Scheduled) (x : Lists) (k : ℕ)
      → pick_f (best_from limits distance back best (labels_in x k)) (kept_home_f limits distance back (label_at x k)) ≡ best_from limits distance back best (labels_in x (k + 1))
  unfolding labels_in best_from
  best-more best x k =
      sym (best-append best (labels_in x k) (label_at x k ∷ []))
      ∙ ap (λ (n : ℕ). best_from limits distance back best (labels_in x n)) (sym (add-one k))
