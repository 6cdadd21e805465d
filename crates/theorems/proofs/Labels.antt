-- The place with the least pay from labels that grow with the run: one with no break, and one for the break at each call. Assumes nothing.
use Prim.Native.Nat.{ℕ, zero, suc, ◌+◌, ◌≤◌, ◌<◌}
use native.Mathlib.Omega.{arith}
use native.Mathlib.Nat.{le_refl, add-zero}
use native.Mathlib.Numerals.{add-one}
use mathlib.Core.Path.{◌≡◌, refl, sym, ap, ap₂, subst, ◌∙◌}
use mathlib.Core.Bool.{true, ◌&&◌}
use mathlib.Core.List.{List, [], ◌∷◌, ◌++◌, map, map-map}
use Rattle.std.specs.Prelude.{Option, None, Some}
use lib.ListN.{length, length-append}
use borrow.Author.Tests.{eq-eqb, ne_eqb}
use Rattle.basics.proofs.TestLaws.{by-test}
use Rattle.basics.specs.Options.{◌>>=◌, given}
use Rattle.basics.specs.Lists.{count}
use Rattle.definitions.specs.Sheet.{Break, Sheet}
use Rattle.definitions.specs.Limits.{excused}
use Rattle.definitions.specs.Run.{Label, start, serve, break_at, serve_all, last_of, Totals, home, ride, allowed, placed}
use Rattle.definitions.specs.Placement.{ride_at, pick_all, least_ride}
use Rattle.theorems.proofs.Places.{kept}
use Rattle.theorems.proofs.Legality.{label_of, placed-call}

shift : (k n : ℕ) → suc k + n ≡ k + suc n
shift k n = omega arith

-- one call more
pub serve-more : (s : Sheet) (p k a : ℕ) (m : Option Label) (calls : List ℕ) (c : ℕ)
    → serve_all s p k a m (calls ++ (c ∷ [])) ≡ (serve_all s p k a m calls >>= serve s (break_at s p (k + length calls)) (k + length calls) (last_of a calls) c)
unfolding serve_all
serve-more s p k a m [] c = ap (λ (n : ℕ). m >>= serve s (break_at s p n) n a c) (sym (add-zero k))
serve-more s p k a m (d ∷ calls) c =
    serve-more s p (suc k) d (m >>= serve s (break_at s p k) k a d) calls c
    ∙ ap (λ (n : ℕ). serve_all s p (suc k) d (m >>= serve s (break_at s p k) k a d) calls >>= serve s (break_at s p n) n (last_of d calls) c) (shift k (length calls))

-- a list over numbers in a row that goes on by x
map_more : {A : Type 0} (f g : ℕ → A) (x : A) (a n : ℕ) → ((p : ℕ) → a ≤ p → p < a + n → f p ≡ g p) → f (a + n) ≡ x → map f (count a (suc n)) ≡ map g (count a n) ++ (x ∷ [])
map_more {A} f g x a zero h e = ap (λ (y : A). y ∷ []) (ap f (sym (add-zero a)) ∙ e)
map_more {A} f g x a (suc n) h e =
    ap₂ (λ (y : A) (l : List A). y ∷ l) (h a (le_refl a) (omega arith)) (map_more f g x (suc a) n (λ p i j. h p (omega arith) (omega arith)) (ap f (shift a n) ∙ e))

map-alike : {A : Type 0} (f g : ℕ → A) (a n : ℕ) → ((p : ℕ) → a ≤ p → p < a + n → f p ≡ g p) → map f (count a n) ≡ map g (count a n)
map-alike f g a zero h = refl
map-alike {A} f g a (suc n) h = ap₂ (λ (y : A) (l : List A). y ∷ l) (h a (le_refl a) (omega arith)) (map-alike f g (suc a) n (λ p i j. h p (omega arith) (omega arith)))

module _ (s : Sheet) (b : Break) (rest : s.head.rest ≡ Some b) where
  -- the labels with the break at each call in turn
  abbrev pub broken : List ℕ → List (Option Label)
  broken calls = map (label_of s calls) (count 1 (length calls))

  -- the label without a break, carried on
  pub unbroken-grows : (calls : List ℕ) (c : ℕ) → label_of s (calls ++ (c ∷ [])) 0 ≡ (label_of s calls 0 >>= serve s None (1 + length calls) (last_of 0 calls) c)
  unbroken-grows calls c =
      serve-more s 0 1 0 (Some start) calls c
      ∙ ap (λ (o : Option Break). label_of s calls 0 >>= serve s o (1 + length calls) (last_of 0 calls) c) (other 0 (1 + length calls) (λ e. off e))
    where
      other : (p k : ℕ) → (p ≡ k → ⊥) → break_at s p k ≡ None
      other p k h = rw (ne_eqb p k h) refl

      off : 0 ≡ 1 + length calls → ⊥
      off e = omega arith

  -- the broken ones carried on, and the unbroken one broken here
  pub broken-grows : (calls : List ℕ) (c : ℕ) → broken (calls ++ (c ∷ []))
      ≡ map (λ m. m >>= serve s None (1 + length calls) (last_of 0 calls) c) (broken calls) ++ ((label_of s calls 0 >>= serve s (Some b) (1 + length calls) (last_of 0 calls) c) ∷ [])
  broken-grows calls c =
      ap (λ (n : ℕ). map (label_of s (calls ++ (c ∷ []))) (count 1 n)) (length-append calls (c ∷ []) ∙ add-one (length calls))
      ∙ map_more (label_of s (calls ++ (c ∷ []))) (λ p. on None (label_of s calls p)) (on (Some b) (label_of s calls 0)) 1 (length calls) carried here
      ∙ ap (λ (l : List (Option Label)). l ++ (on (Some b) (label_of s calls 0) ∷ [])) (sym (map-map (on None) (label_of s calls) (count 1 (length calls))))
    where
      on : Option Break → Option Label → Option Label
      on o m = m >>= serve s o (1 + length calls) (last_of 0 calls) c

      carried : (p : ℕ) → 1 ≤ p → p < 1 + length calls → label_of s (calls ++ (c ∷ [])) p ≡ on None (label_of s calls p)
      carried p h i = serve-more s p 1 0 (Some start) calls c ∙ ap (λ (o : Option Break). on o (label_of s calls p)) (rw (ne_eqb p (1 + length calls) (λ e. off p i e)) refl)
        where
          off : (p : ℕ) → p < 1 + length calls → p ≡ 1 + length calls → ⊥
          off p i e = omega arith

      here : label_of s (calls ++ (c ∷ [])) (1 + length calls) ≡ on (Some b) (label_of s calls 0)
      here =
          let k = 1 + length calls in
          serve-more s k 1 0 (Some start) calls c
          ∙ ap (λ (o : Option Break). on o (label_of s calls k)) (rw (eq-eqb k k refl, rest) refl)
          ∙ ap (on (Some b)) ((kept s b rest calls).later k (le_refl k))

  -- ---- the ends of the run

  -- with the break taken: none where that breaks a limit; without one also where the run needs it
  abbrev pub kept_end : List ℕ → Option Label → Option Totals
  kept_end calls m = m >>= home s calls >>= λ t. given (allowed s t) t

  abbrev pub excused_end : List ℕ → Option Label → Option Totals
  excused_end calls m = m >>= home s calls >>= λ t. given (allowed s t && excused b t.duration) t

  -- the placement's answer from the labels
  pub least-ends : (calls : List ℕ) → least_ride s calls ≡ pick_all (excused_end calls (label_of s calls 0)) (map (kept_end calls) (broken calls))
  unfolding least_ride ride_at ride placed
  least-ends calls =
      ap₂ pick_all (ap (λ (o : Option Break). ended o 0 (label_of s calls 0)) rest)
      (map-alike (ride_at s calls) (λ p. kept_end calls (label_of s calls p)) 1 (length calls) taken ∙ sym (map-map (kept_end calls) (label_of s calls) (count 1 (length calls))))
    where
      ended : Option Break → ℕ → Option Label → Option Totals
      ended o p m = m >>= home s calls >>= λ t. given (allowed s t && placed o p (length calls) t.duration) t

      taken : (p : ℕ) → 1 ≤ p → p < 1 + length calls → ride_at s calls p ≡ kept_end calls (label_of s calls p)
      taken p h i = limits (label_of s calls p >>= home s calls)
        where
          there : (d : ℕ) → placed s.head.rest p (length calls) d ≡ true
          there d = subst (λ (o : Option Break). placed o p (length calls) d ≡ true) (sym rest) (placed-call b p (length calls) d h (down h i))
            where
              down : 1 ≤ p → p < 1 + length calls → p ≤ length calls
              down h i = omega arith

          limits : (o : Option Totals) → (o >>= λ t. given (allowed s t && placed s.head.rest p (length calls) t.duration) t) ≡ (o >>= λ t. given (allowed s t) t)
          limits None = refl
          limits (Some t) = by-test (allowed s t) (λ e. rw (e, there t.duration) refl) (λ e. rw e refl)
