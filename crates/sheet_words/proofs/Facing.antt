-- The distances whose times have yet to come, by index among the words: the one that the next time faces stands as many words before it as a table has. Assumes nothing.
use Prim.Native.Nat.{ℕ, suc, ◌+◌, ◌-◌, ◌≤◌, ◌<◌}
use native.Mathlib.Omega.{arith}
use native.Mathlib.Nat.{mul-le-mul}
use mathlib.Core.Path.{◌≡◌, refl, sym, ap, subst, ◌∙◌}
use mathlib.Core.Bool.{Bool, true, false, cond, ◌&&◌, ◌||◌, true≢false, false≢true}
use mathlib.Core.List.{List, [], ◌∷◌, ◌++◌, tail}
use mathlib.Core.Logic.{◌⊎◌, inl, inr}
use lib.ListN.{length, get_or, length-append, get_or-append}
use lib.Dec.{eqb, leb, ltb}
use borrow.Author.Tests.{eqb-true, eqb-false, eq-eqb, ne_eqb, leb-true, le-leb, ltb-true, ltb-false}
use Rattle.basics.proofs.TestLaws.{by-test, and_left, not-both}
use Rattle.definitions.specs.Domain.{closed_apart}
use Rattle.definitions.specs.Words.{Word, word}
use Rattle.definitions.specs.Reader.{State, next, start, may_stand, in_range, among, closure_differs}
use Rattle.sheet_words.specs.Held.{no_word}
use Rattle.sheet_words.proofs.Standing.{full, behind-none, behind-distance, behind-time, behind-call, before-time}

-- behind the words before index i, in state s
pub record Facing (ws : List Word) (s : State) (i : ℕ) : Type 0 where
  -- the words of the distances whose times have yet to come stand in a row from here
  pub from : ℕ
  pub held : (q : ℕ) → q < length s.facing → get_or s.facing q 0 ≡ (get_or ws (from + q) no_word).value
  pub begun : (s.last.kind ≡ 16) ⊎ (1 ≤ s.places)
  pub distances : s.last.kind ≡ 0xC → (from + s.row ≡ i) × (length s.facing ≡ s.row) × (s.row ≤ full s)
  pub times : s.last.kind ≡ 0xD → (from + full s ≡ i) × (length s.facing + s.row ≡ full s)
  -- before the tables there are none
  pub early : (s.last.kind ≡ 0xC → ⊥) → (s.last.kind ≡ 0xD → ⊥) → (s.last.kind ≡ 0xE → ⊥) → length s.facing ≡ 0

pub none-facing : (ws : List Word) → Facing ws start 0
none-facing ws =
    record {
      from = 0;
      held = λ q h. absurd (omega arith);
      begun = inl refl;
      distances = λ e. absurd (omega arith);
      times = λ e. absurd (omega arith);
      early = λ c d e. refl;
    }

-- ---- at a time

module _ (ws : List Word) (s : State) (i : ℕ) (F : Facing ws s i) where
  -- a table has a leg at least
  some-legs : (s.last.kind ≡ 16 → ⊥) → 1 ≤ full s
  some-legs h = go F.begun
    where
      go : (s.last.kind ≡ 16) ⊎ (1 ≤ s.places) → 1 ≤ full s
      go (inl e) = absurd (h e)
      go (inr p) = mul-le-mul p p

  -- where a time may stand
  record AtTime (row : ℕ) : Type 0 where
    behind : F.from + full s ≡ i
    still : 1 ≤ length s.facing
    rest : length s.facing + row ≡ suc (full s)

  at-time : (v : ℕ) → among 0xD (may_stand s) ≡ true → AtTime (next s (word 0xD v)).row
  at-time v m =
      by-test (eqb s.last.kind 0xC)
      (λ t. let k = eqb-true s.last.kind 0xC t in behind-distances k (rw (behind-distance s k) at m))
      (λ f. let k = eqb-true s.last.kind 0xD (one_of (eqb s.last.kind 0xC) (eqb s.last.kind 0xD) f (before-time s m)) in
      behind-times k (rw (behind-time s k) at m))
    where
      one_of : (a b : Bool) → a ≡ false → a || (b || false) ≡ true → b ≡ true
      one_of true b f h = absurd (true≢false f)
      one_of false true f h = refl
      one_of false false f h = h

      behind-distances : s.last.kind ≡ 0xC → among 0xD (cond (ltb s.row (full s)) (0xC ∷ []) (0xD ∷ 0xE ∷ 0xF ∷ [])) ≡ true → AtTime (next s (word 0xD v)).row
      behind-distances k h =
          by-test (ltb s.row (full s))
          (λ t. absurd (false≢true (rw t at h)))
          (λ f. let d = F.distances k in
          let full-row : full s ≤ s.row = ltb-false s.row (full s) f in
          let some : 1 ≤ full s = some-legs (λ e. omega (arith, k, e)) in
          record { behind = omega (arith, d.0, d.2, full-row); still = omega (arith, d.1, full-row, some); rest = rw k (omega (arith, d.1, d.2, full-row)) })

      behind-times : s.last.kind ≡ 0xD → among 0xD (cond (ltb s.row (full s)) (0xD ∷ []) (0xE ∷ 0xF ∷ [])) ≡ true → AtTime (next s (word 0xD v)).row
      behind-times k h =
          by-test (ltb s.row (full s))
          (λ t. let d = F.times k in
          let more : s.row < full s = ltb-true s.row (full s) t in
          record { behind = d.0; still = omega (arith, d.1, more); rest = rw k (omega (arith, d.1)) })
          (λ f. absurd (false≢true (rw f at h)))

  -- the word n words before is the distance that a time faces, where a table has n legs: so a test of that word is the test of closure
  pub faces : (w : Word) (n : ℕ) (differs : Bool) → n ≡ full s → differs ≡ eqb w.kind 0xD && (leb n i && closed_apart (get_or ws (i - n) no_word).value w.value)
      → among w.kind (may_stand s) ≡ true → differs ≡ closure_differs s w
  faces w n differs e told m =
      by-test (eqb w.kind 0xD)
      (λ t. let A = at-time w.value (subst (λ (k : ℕ). among k (may_stand s) ≡ true) (eqb-true w.kind 0xD t) m) in
      let here : i - n ≡ F.from + 0 = omega (arith, A.behind, e) in
      rw (told, t, le-leb n i (omega (arith, A.behind, e)), here, F.held 0 A.still))
      (λ f. rw (told, f))

-- ---- behind one more word

last_of : (fs : List ℕ) (v : ℕ) → get_or (fs ++ v ∷ []) (length fs) 0 ≡ v
last_of [] v = refl
last_of (f ∷ fs) v = last_of fs v

of-tail : (fs : List ℕ) (q : ℕ) → get_or (tail fs) q 0 ≡ get_or fs (suc q) 0
of-tail [] q = refl
of-tail (f ∷ fs) q = refl

length-tail : (fs : List ℕ) → 1 ≤ length fs → suc (length (tail fs)) ≡ length fs
length-tail [] h = absurd (omega arith)
length-tail (f ∷ fs) h = refl

-- so many legs in a row from there on, and one more
more-held : (ws : List Word) (fs : List ℕ) (v from : ℕ) → ((q : ℕ) → q < length fs → get_or fs q 0 ≡ (get_or ws (from + q) no_word).value)
    → (get_or ws (from + length fs) no_word).value ≡ v → (q : ℕ) → q < length (fs ++ v ∷ []) → get_or (fs ++ v ∷ []) q 0 ≡ (get_or ws (from + q) no_word).value
more-held ws fs v from held e q h =
    by-test (ltb q (length fs))
    (λ t. let l = ltb-true q (length fs) t in get_or-append fs (v ∷ []) 0 q l ∙ held q l)
    (λ f. let here : q ≡ length fs = omega (arith, ltb-false q (length fs) f, length-append fs (v ∷ []), h) in
    rw here (last_of fs v ∙ sym e))

module _ (ws : List Word) (s : State) (i : ℕ) (F : Facing ws s i) where
  begun-next : (w : Word) → among w.kind (may_stand s) ≡ true → in_range s w ≡ true → 1 ≤ (next s w).places
  unfolding in_range
  begun-next w m g =
      by-test (eqb w.kind 1)
      (λ t. let ranged = subst (λ (k : ℕ). in_range s (word k w.value) ≡ true) (eqb-true w.kind 1 t) g in
      rw t (leb-true 1 w.value (and_left (leb 1 w.value) (leb w.value 64) ranged)))
      (λ f. rw f (go f F.begun))
    where
      go : eqb w.kind 1 ≡ false → (s.last.kind ≡ 16) ⊎ (1 ≤ s.places) → 1 ≤ s.places
      go f (inr p) = p
      go f (inl e) = absurd (false≢true (rw (behind-none s e, f) at m))

  -- a distance stands behind no time and no call, so the first of a row faces no other
  first-distance : eqb 0xC s.last.kind ≡ false → among 0xC (may_stand s) ≡ true → length s.facing ≡ 0
  first-distance c m = F.early (λ x. eqb-false 0xC s.last.kind c (sym x)) no-time (λ x. false≢true (rw (behind-call s x) at m))
    where
      no-time : s.last.kind ≡ 0xD → ⊥
      no-time x =
          let h : among 0xC (cond (ltb s.row (full s)) (0xD ∷ []) (0xE ∷ 0xF ∷ [])) ≡ true = rw (behind-time s x) at m in
          by-test (ltb s.row (full s)) (λ t. false≢true (rw t at h)) (λ f. false≢true (rw f at h))

  distance_next : (v : ℕ) → (get_or ws i no_word).value ≡ v → among 0xC (may_stand s) ≡ true → 1 ≤ s.places → Facing ws (next s (word 0xC v)) (suc i)
  distance_next v e m p = by-test (eqb 0xC s.last.kind) one_more first
    where
      put : (from : ℕ) → ((q : ℕ) → q < length s.facing → get_or s.facing q 0 ≡ (get_or ws (from + q) no_word).value) → from + length s.facing ≡ i
          → length s.facing + 1 ≡ (next s (word 0xC v)).row → (next s (word 0xC v)).row ≤ full s → Facing ws (next s (word 0xC v)) (suc i)
      put from held here row room =
          let long = length-append s.facing (v ∷ []) in
          record {
            from = from;
            held = more-held ws s.facing v from held (ap (λ (n : ℕ). (get_or ws n no_word).value) here ∙ e);
            begun = inr p;
            distances = λ k. (omega (arith, here, row), omega (arith, long, row), room);
            times = λ k. absurd (omega arith);
            early = λ c d e. absurd (c refl);
          }

      one_more : eqb 0xC s.last.kind ≡ true → Facing ws (next s (word 0xC v)) (suc i)
      one_more t =
          let k = sym (eqb-true 0xC s.last.kind t) in
          let d = F.distances k in
          let h : among 0xC (cond (ltb s.row (full s)) (0xC ∷ []) (0xD ∷ 0xE ∷ 0xF ∷ [])) ≡ true = rw (behind-distance s k) at m in
          let less : s.row < full s = by-test (ltb s.row (full s)) (ltb-true s.row (full s)) (λ f. absurd (false≢true (rw f at h))) in
          put F.from F.held (omega (arith, d.0, d.1)) (rw t (omega (arith, d.1))) (rw t less)

      first : eqb 0xC s.last.kind ≡ false → Facing ws (next s (word 0xC v)) (suc i)
      first f =
          let none = first-distance f m in
          put i (λ q h. absurd (omega (arith, none, h))) (omega (arith, none)) (rw f (omega (arith, none))) (rw f (mul-le-mul p p))

  time-next : (v : ℕ) → among 0xD (may_stand s) ≡ true → 1 ≤ s.places → Facing ws (next s (word 0xD v)) (suc i)
  time-next v m p =
      let A = at-time ws s i F v m in
      let less = length-tail s.facing A.still in
      record {
        from = suc F.from;
        held = λ q h. of-tail s.facing q ∙ F.held (suc q) (omega (arith, less, h)) ∙ ap (λ (n : ℕ). (get_or ws n no_word).value) (omega arith);
        begun = inr p;
        distances = λ k. absurd (omega arith);
        times = λ k. (omega (arith, A.behind), omega (arith, A.rest, less));
        early = λ c d e. absurd (d refl);
      }

  -- behind a leg or a call nothing comes but legs, calls and the last word
  still-early : (w : Word) → eqb w.kind 0xC ≡ false → eqb w.kind 0xD ≡ false → eqb w.kind 0xE ≡ false → eqb w.kind 0xF ≡ false → among w.kind (may_stand s) ≡ true
      → length s.facing ≡ 0
  still-early w c d e f m = F.early no_distance no-time (λ x. false≢true (rw (behind-call s x, e, f) at m))
    where
      no_distance : s.last.kind ≡ 0xC → ⊥
      no_distance x =
          let h : among w.kind (cond (ltb s.row (full s)) (0xC ∷ []) (0xD ∷ 0xE ∷ 0xF ∷ [])) ≡ true = rw (behind-distance s x) at m in
          by-test (ltb s.row (full s)) (λ t. false≢true (rw (t, c) at h)) (λ g. false≢true (rw (g, d, e, f) at h))

      no-time : s.last.kind ≡ 0xD → ⊥
      no-time x =
          let h : among w.kind (cond (ltb s.row (full s)) (0xD ∷ []) (0xE ∷ 0xF ∷ [])) ≡ true = rw (behind-time s x) at m in
          by-test (ltb s.row (full s)) (λ t. false≢true (rw (t, d) at h)) (λ g. false≢true (rw (g, e, f) at h))

  other-next : (w : Word) → eqb w.kind 0xC ≡ false → eqb w.kind 0xD ≡ false → eqb w.kind 0xF ≡ false → among w.kind (may_stand s) ≡ true → 1 ≤ (next s w).places
      → Facing ws (next s w) (suc i)
  other-next w c d f m p =
      record {
        from = F.from;
        held = rw (c, d) F.held;
        begun = inr p;
        distances = λ k. not-both (eqb w.kind 0xC) (eq-eqb w.kind 0xC k) c;
        times = λ k. not-both (eqb w.kind 0xD) (eq-eqb w.kind 0xD k) d;
        early = λ x y z. rw (c, d) (still-early w c d (ne_eqb w.kind 0xE z) f m);
      }

  pub facing-next : (w : Word) → w ≡ get_or ws i no_word → among w.kind (may_stand s) ≡ true → in_range s w ≡ true → eqb w.kind 0xF ≡ false → Facing ws (next s w) (suc i)
  facing-next w e m g f =
      by-test (eqb w.kind 0xC)
      (λ c. of-kind 0xC c (λ m' p. distance_next w.value (ap (λ (v : Word). v.value) (sym e)) m' p))
      (λ c. by-test (eqb w.kind 0xD) (λ d. of-kind 0xD d (λ m' p. time-next w.value m' p)) (λ d. other-next w c d f m (begun-next w m g)))
    where
      -- a word of kind k
      of-kind : (k : ℕ) → eqb w.kind k ≡ true
          → (among k (may_stand s) ≡ true → 1 ≤ (next s (word k w.value)).places → Facing ws (next s (word k w.value)) (suc i)) → Facing ws (next s w) (suc i)
      of-kind k t by =
          let same = eqb-true w.kind k t in
          let m' = subst (λ (j : ℕ). among j (may_stand s) ≡ true) same m in
          let g' = subst (λ (j : ℕ). in_range s (word j w.value) ≡ true) same g in
          subst (λ (j : ℕ). Facing ws (next s (word j w.value)) (suc i)) (sym same) (by m' (begun-next (word k w.value) m' g'))
