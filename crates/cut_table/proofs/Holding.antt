-- The calls held, as the arrays keep them beside the drop rule of crates/definitions: their customers, their positions in the tour, and the positions dropped. Assumes nothing.
use Prim.Native.Nat.{ℕ, zero, suc, ◌+◌, ◌-◌, ◌<◌}
use native.Mathlib.Omega.{arith}
use native.Mathlib.Numerals.{add-one}
use mathlib.Core.Path.{◌≡◌, refl, sym, ap, ap₂, subst, ◌∙◌}
use mathlib.Core.List.{List, [], ◌∷◌, ◌++◌, map, append_assoc}
use lib.ListN.{length, get_or, set, take, length-append}
use lib.Seq.{get_or-take, get_or-append_seam}
use Rattle.basics.specs.Lists.{without, count}
use Rattle.basics.proofs.ListLaws.{length-count, length_without}
use Rattle.definitions.specs.Drop.{call_at, calls_at, Held, drop_at, all_held}
use Rattle.definitions.specs.Room.{written}
use Rattle.cut_table.specs.Table.{Calls, calls, DropCall}
use Rattle.cut_table.proofs.Writing.{written-more, front-written}

-- n calls are held and `gone` are dropped, as h says; dropped₀ is what stood in the list of the dropped
pub record Holding (tour dropped₀ : List ℕ) (h : Held) (c : Calls) (n gone : ℕ) : Type 0 where
  pub held-are : take n c.held ≡ calls_at tour h.held
  pub positions-are : take n c.positions ≡ h.held
  pub dropped-are : c.dropped ≡ written h.dropped dropped₀
  pub held-count : n ≡ length h.held
  pub gone-count : gone ≡ length h.dropped

-- ---- at first all calls are held

count-calls : (pre rest : List ℕ) → calls_at (pre ++ rest) (count (suc (length pre)) (length rest)) ≡ rest
count-calls pre [] = refl
count-calls pre (c ∷ rest) =
    ap₂ (λ (x : ℕ) (l : List ℕ). x ∷ l) here
    (ap₂ (λ (t : List ℕ) (k : ℕ). calls_at t (count (suc k) (length rest))) (sym (append_assoc pre (c ∷ []) rest)) (sym (length-append pre (c ∷ []) ∙ add-one (length pre)))
    ∙ count-calls (pre ++ (c ∷ [])) rest)
  where
    here : call_at (pre ++ (c ∷ rest)) (suc (length pre)) ≡ c
    here = let e : suc (length pre) - 1 ≡ length pre = omega arith in ap (λ (i : ℕ). get_or (pre ++ (c ∷ rest)) i 0) e ∙ get_or-append_seam pre c rest 0

without-map : {A B : Type 0} (f : A → B) (k : ℕ) (l : List A) → map f (without k l) ≡ without k (map f l)
without-map f k [] = refl
without-map f zero (x ∷ l) = refl
without-map f (suc k) (x ∷ l) = ap (λ m. f x ∷ m) (without-map f k l)

module _ (tour dropped₀ : List ℕ) where
  pub all-holding : (held₀ positions₀ : List ℕ)
      → Holding tour dropped₀ (all_held tour) (calls (written tour held₀) (written (count 1 (length tour)) positions₀) dropped₀) (length tour) 0
  all-holding held₀ positions₀ =
      record {
        held-are = front-written tour held₀ ∙ sym (count-calls [] tour);
        positions-are = ap (λ (n : ℕ). take n (written (count 1 (length tour)) positions₀)) (sym (length-count 1 (length tour))) ∙ front-written (count 1 (length tour)) positions₀;
        dropped-are = refl;
        held-count = sym (length-count 1 (length tour));
        gone-count = refl;
      }

  -- ---- a call goes

  pub call-goes : (h : Held) (old new : Calls) (n gone at : ℕ) → Holding tour dropped₀ h old n gone → at < n → gone < length dropped₀
      → DropCall n at gone old new → Holding tour dropped₀ (drop_at at h) new (n - 1) (gone + 1)
  call-goes h old new n gone at H b room D =
      let position = get_or old.positions at 0 in
      let place : position ≡ get_or h.held at 0 = sym (get_or-take n old.positions at 0 b) ∙ ap (λ (l : List ℕ). get_or l at 0) H.positions-are in
      record {
        held-are = D.held-less ∙ ap (without at) H.held-are ∙ sym (without-map (call_at tour) at h.held);
        positions-are = D.positions-less ∙ ap (without at) H.positions-are;
        dropped-are =
            D.dropped-more
            ∙ ap (λ (l : List ℕ). set l gone position) H.dropped-are
            ∙ written-more h.dropped dropped₀ gone position (sym H.gone-count) room
            ∙ ap (λ (x : ℕ). written (h.dropped ++ (x ∷ [])) dropped₀) place;
        held-count = omega (arith, H.held-count, length_without at h.held (subst (λ (k : ℕ). at < k) H.held-count b));
        gone-count = ap (λ (k : ℕ). k + 1) H.gone-count ∙ sym (length-append h.dropped (get_or h.held at 0 ∷ []));
      }
