-- The longest sheet has 8,643 words, and of a longer file no more than one byte behind them is needed to answer.
use Prim.Native.Nat.{ℕ, zero, suc, ◌+◌, ◌-◌, ◌*◌, pred, ◌≤◌, ◌<◌}
use native.Mathlib.Omega.{arith}
use native.Mathlib.Nat.{mul-le-mul}
use mathlib.Core.Path.{◌≡◌, refl, sym, ap, subst}
use mathlib.Core.Bool.{Bool, true, false, cond, true≢false}
use mathlib.Core.List.{List, [], ◌∷◌, ◌++◌}
use Rattle.std.specs.Prelude.{Option, None, Some}
use mathlib.Core.Logic.{◌⊎◌, inl, inr}
use lib.ListN.{length}
use lib.Dec.{eqb, ltb, leb}
use borrow.Author.Tests.{eqb-true, eqb-false, ne_eqb, ltb-true, leb-true}
use Rattle.basics.proofs.TestLaws.{by-test, and_left, and_right, or-false, not-false}
use Rattle.definitions.specs.Domain.{is_call}
use Rattle.definitions.specs.Words.{Word, word, word_of, little_endian, words_of, left_over}
use Rattle.definitions.specs.Reader.{State, start, next, After, lookup, onward, behind_second, table, may_stand, in_range, among, repeated, faults, fault_at, Outcome, refused, behind, unless, walk, read, read_words}
use Rattle.definitions.specs.Refusals.{repeats}
use Rattle.theorems.proofs.InOrder.{none-fits}
use Rattle.theorems.proofs.Repeats.{UpTo, up-to-few, call-up-to}
use Rattle.round_trip.proofs.Accepts.{behind_calls}
use Rattle.round_trip.proofs.ByKind.{ByKind, no_other, ◌or◌, by_kind}

-- how many words may come before F, from the next customer on
abbrev rest : ℕ → ℕ → ℕ
rest n d = 6 * d + (n * n + n * n) + 63

-- and before that, behind a second capacity or demand: in the head the fixed cost, the limits and the break, in a customer the service, the window and the penalty
abbrev behind0 : ℕ → ℕ → ℕ
behind0 n d = cond (eqb (suc d) n) 6 4

-- a line of the table below: behind a word of this kind so many words may come before F
record Most : Type 0 where
  kind : ℕ
  words : ℕ

abbrev most-of : ℕ → ℕ → Most
most-of k n = record { kind = k; words = n }

abbrev words_or : ℕ → ℕ → List Most → ℕ
words_or n k [] = n
words_or n k (m ∷ more) = cond (eqb k m.kind) m.words (words_or n k more)

-- how many words may come before F, behind a word of kind k, the r-th in a row, where the tour has m calls
abbrev most : ℕ → ℕ → ℕ → ℕ → ℕ → ℕ
most k r n d m =
    words_or (63 - m) k
    (most-of 16 8642
    ∷ most-of 0 (behind0 n d + rest n d)
    ∷ most-of 1 (8 + rest n d)
    ∷ most-of 2 (7 + rest n d)
    ∷ most-of 3 (5 + rest n d)
    ∷ most-of 4 (4 + rest n d)
    ∷ most-of 5 (3 + rest n d)
    ∷ most-of 6 ((3 - r) + rest n d)
    ∷ most-of 7 (suc (behind0 n d) + rest n d)
    ∷ most-of 8 (3 + rest n d)
    ∷ most-of 9 (2 + rest n d)
    ∷ most-of 0xA (1 + rest n d)
    ∷ most-of 0xB (0 + rest n d)
    ∷ most-of 0xC ((n * n - r) + n * n + 63)
    ∷ most-of 0xD ((n * n - r) + 63)
    ∷ [])

abbrev most_from : State → ℕ
most_from s = most s.last.kind s.row s.places s.coming (length s.called)

-- each line of the table of kinds
infixr 5 ◌then◌
data ByLine (Q : ℕ → List ℕ → Type 0) : List After → Type 0 where
  no_line : ByLine Q []
  ◌then◌ : {a : After} {more : List After} → Q a.kind a.kinds → ByLine Q more → ByLine Q (a ∷ more)

by-line : (Q : ℕ → List ℕ → Type 0) (lines : List After) (k : ℕ) → Q k [] → ByLine Q lines → Q k (lookup k lines)
by-line Q [] k e no_line = e
by-line Q (a ∷ more) k e (q then qs) =
    by-test (eqb k a.kind)
    (λ t. rw t (subst (λ (j : ℕ). Q j a.kinds) (sym (eqb-true k a.kind t)) q))
    (λ f. rw f (by-line Q more k e qs))

by_cond : {A : Type 0} (P : A → Type 0) (t : Bool) (x y : A) → (t ≡ true → P x) → (t ≡ false → P y) → P (cond t x y)
by_cond P true x y p q = p refl
by_cond P false x y p q = q refl

square : (n : ℕ) → 1 ≤ n → 1 ≤ n * n
square n h = mul-le-mul h h

-- at most 64 places, and a tour so far of calls, none repeated
record Called (n : ℕ) (cs : List ℕ) : Type 0 where
  places : n ≤ 64
  each : UpTo 63 cs
  once : repeats cs ≡ false

one_more : {n : ℕ} {cs : List ℕ} (u : ℕ) → Called n cs → is_call n u ≡ true → among u cs ≡ false → Called n (u ∷ cs)
one_more {n} {cs} u C h o = record { places = C.places; each = (call-up-to n u C.places h, C.each); once = or-false (among u cs) (repeats cs) o C.once }

module _ (fs cs : List ℕ) (v r n d u : ℕ) where
  -- behind a word of kind k, the next of kind j and value u: where it is in range, repeats no call and is not F, it lowers the number
  abbrev Lower : ℕ → ℕ → Type 0
  Lower k j =
      let s = behind_calls fs cs k v r n d in
      in_range s (word j u) ≡ true → repeated s (word j u) ≡ false → eqb j 0xF ≡ false → most_from (next s (word j u)) < most k r n d (length cs)

  abbrev on : ℕ
  on = onward (behind_calls fs cs 0 0 r n d)

  -- the first word says how many places there are
  places-line : ByKind (Lower 16) (1 ∷ [])
  unfolding in_range
  places-line = (λ g o f. few u (leb-true u 64 (and_right (leb 1 u) (leb u 64) g))) or no_other
    where
      few : (u : ℕ) → u ≤ 64 → 8 + rest u (pred u) < 8642
      few u h = omega (arith, mul-le-mul h h)

  -- words before the next customer
  fewer : {A B C : Type 0} (a b : ℕ) → a < b → A → B → C → a + rest n d < b + rest n d
  fewer a b h g o f = omega arith

  -- behind a 0, a 2 and a 7
  second-line : ByKind (Lower 0) (behind_second (behind_calls fs cs 0 0 r n d) ∷ [])
  second-line = by_cond (Lower 0) (eqb (suc d) n) 3 8 (λ t. rw t (fewer 5 6 (omega arith))) (λ t. rw t (fewer 3 4 (omega arith))) or no_other

  capacity-line : ByKind (Lower 2) (0 ∷ 3 ∷ [])
  capacity-line = fewer (behind0 n d) 7 (by_cond (λ (b : ℕ). b < 7) (eqb (suc d) n) 6 4 (λ t. omega arith) (λ t. omega arith)) or fewer 5 7 (omega arith) or no_other

  demand-line : ByKind (Lower 7) (0 ∷ 8 ∷ [])
  demand-line =
      fewer (behind0 n d) (suc (behind0 n d)) (omega arith)
      or fewer 3 (suc (behind0 n d)) (by_cond (λ (b : ℕ). 3 < suc b) (eqb (suc d) n) 6 4 (λ t. omega arith) (λ t. omega arith))
      or no_other

  -- the next customer's first word, or the first distance
  onwards : d < n → (k : ℕ) → eqb 0xC k ≡ false → rest n d ≤ most k r n d (length cs) → ByKind (Lower k) (on ∷ [])
  onwards z k c m =
      by_cond (Lower k) (eqb d 0) 0xC 7
      (λ t g o f. rw c (omega (arith, square n (omega arith), eqb-true d 0 t)))
      (λ t g o f. next-customer (eqb-false d 0 t))
      or no_other
    where
      some-coming : (d ≡ 0 → ⊥) → 1 ≤ d
      some-coming h = omega arith

      in-customer : 1 ≤ d → suc (pred d) ≡ n → ⊥
      in-customer h e = omega arith

      next-customer : (d ≡ 0 → ⊥) → suc (behind0 n (pred d)) + rest n (pred d) < most k r n d (length cs)
      next-customer h = rw (ne_eqb (suc (pred d)) n (in-customer (some-coming h))) (omega (arith, some-coming h))

  at_least : (a : ℕ) → rest n d ≤ a + rest n d
  at_least a = omega arith

  break-line : d < n → ByKind (Lower 6) (cond (ltb r 3) (6 ∷ []) (on ∷ []))
  break-line z =
      by_cond (ByKind (Lower 6)) (ltb r 3) (6 ∷ []) (on ∷ [])
      (λ t. fewer (3 - suc r) (3 - r) (omega (arith, ltb-true r 3 t)) or no_other)
      (λ t. onwards z 6 refl (at_least (3 - r)))

  distance-line : d < n → ByKind (Lower 0xC) (cond (ltb r (n * n)) (0xC ∷ []) (0xD ∷ 0xE ∷ 0xF ∷ []))
  distance-line z =
      by_cond (ByKind (Lower 0xC)) (ltb r (n * n)) (0xC ∷ []) (0xD ∷ 0xE ∷ 0xF ∷ [])
      (λ t. (λ g o f. omega (arith, ltb-true r (n * n) t)) or no_other)
      (λ t. (λ g o f. omega (arith, square n (omega arith))) or (λ g o f. omega arith) or (λ g o f. absurd (true≢false f)) or no_other)

  time-line : ByKind (Lower 0xD) (cond (ltb r (n * n)) (0xD ∷ []) (0xE ∷ 0xF ∷ []))
  time-line =
      by_cond (ByKind (Lower 0xD)) (ltb r (n * n)) (0xD ∷ []) (0xE ∷ 0xF ∷ [])
      (λ t. (λ g o f. omega (arith, ltb-true r (n * n) t)) or no_other)
      (λ t. (λ g o f. omega arith) or (λ g o f. absurd (true≢false f)) or no_other)

  call_line : Called n cs → ByKind (Lower 0xE) (0xE ∷ 0xF ∷ [])
  unfolding in_range
  call_line C = (λ g o f. next-call (one_more u C g o)) or (λ g o f. absurd (true≢false f)) or no_other
    where
      next-call : Called n (u ∷ cs) → 63 - suc (length cs) < 63 - length cs
      next-call M = omega (arith, up-to-few 63 (u ∷ cs) M.each M.once)

  lines : d < n → Called n cs → ByLine (λ k ks. ByKind (Lower k) ks) (table (behind_calls fs cs 0 0 r n d))
  lines z C =
      places-line
      then second-line
      then (fewer 7 8 (omega arith) or no_other)
      then capacity-line
      then (fewer 4 5 (omega arith) or fewer 3 5 (omega arith) or fewer 2 5 (omega arith) or onwards z 3 refl (at_least 5))
      then (fewer 3 4 (omega arith) or fewer 2 4 (omega arith) or onwards z 4 refl (at_least 4))
      then (fewer 2 3 (omega arith) or onwards z 5 refl (at_least 3))
      then break-line z
      then demand-line
      then (fewer 2 3 (omega arith) or fewer 0 3 (omega arith) or onwards z 8 refl (at_least 3))
      then (fewer 1 2 (omega arith) or no_other)
      then (fewer 0 1 (omega arith) or onwards z 0xA refl (at_least 1))
      then onwards z 0xB refl (at_least 0)
      then distance-line z
      then time-line
      then call_line C
      then no_line

-- no word yet, or fewer customers to come than places
abbrev Begun : State → Type 0
Begun s = (s.last.kind ≡ 16) ⊎ (s.coming < s.places)

-- a good word that is not F lowers it
lowers : (s : State) (w : Word) → Begun s → Called s.places s.called → among w.kind (may_stand s) ≡ true → in_range s w ≡ true → repeated s w ≡ false
    → eqb w.kind 0xF ≡ false → most_from (next s w) < most_from s
unfolding may_stand
lowers s w b C m g o f = by_kind (Lower fs cs v r n d u k) (may_stand s) w.kind (go b) m g o f
  where
    k : ℕ
    k = s.last.kind

    v : ℕ
    v = s.last.value

    r : ℕ
    r = s.row

    n : ℕ
    n = s.places

    d : ℕ
    d = s.coming

    u : ℕ
    u = w.value

    cs : List ℕ
    cs = s.called

    fs : List ℕ
    fs = s.facing

    go : Begun s → ByKind (Lower fs cs v r n d u k) (may_stand s)
    go (inl e) = subst (λ (q : ℕ). ByKind (Lower fs cs v r n d u q) (lookup q (table s))) (sym e) (places-line fs cs v r n d u)
    go (inr z) = by-line (λ q ks. ByKind (Lower fs cs v r n d u q) ks) (table s) k no_other (lines fs cs v r n d u z C)

-- ---- the answer

-- what a word without fault passed
fine : (s : State) (i : ℕ) (w : Word) → fault_at s i w ≡ None → (among w.kind (may_stand s) ≡ true) × (in_range s w ≡ true) × (repeated s w ≡ false)
unfolding fault_at
fine s i w h =
    let N = none-fits (faults s i w) h in
    (not-false (among w.kind (may_stand s)) (N 11), not-false (in_range s w) (N 1), N 21)

begun-next : (s : State) (w : Word) → Begun s → among w.kind (may_stand s) ≡ true → in_range s w ≡ true → (next s w).coming < (next s w).places
unfolding may_stand in_range
begun-next s w b m g =
    by-test (eqb w.kind 1)
    (λ t. rw t (all-to-come (leb-true 1 w.value (and_left (leb 1 w.value) (leb w.value 64)
    (subst (λ (k : ℕ). in_range s (word k w.value) ≡ true) (eqb-true w.kind 1 t) g)))))
    (λ f. rw f (by_cond (λ (d : ℕ). d < s.places) (eqb w.kind 7) (pred s.coming) s.coming (λ t. one-came (go b f)) (λ t. go b f)))
  where
    all-to-come : 1 ≤ w.value → pred w.value < w.value
    all-to-come h = omega arith

    one-came : s.coming < s.places → pred s.coming < s.places
    one-came h = omega arith

    go : Begun s → eqb w.kind 1 ≡ false → s.coming < s.places
    go (inr h) f = h
    go (inl e) f =
        by_kind (λ (j : ℕ). eqb j 1 ≡ false → s.coming < s.places) (1 ∷ []) w.kind ((λ x. absurd (true≢false x)) or no_other)
        (subst (λ (k : ℕ). among w.kind (lookup k (table s)) ≡ true) e m) f

called-next : (s : State) (w : Word) → Called s.places s.called → in_range s w ≡ true → repeated s w ≡ false → Called (next s w).places (next s w).called
unfolding in_range
called-next s w C g o =
    by-test (eqb w.kind 0xE)
    (λ t. subst Goal (sym (eqb-true w.kind 0xE t)) (one_more w.value C (subst Ranged (eqb-true w.kind 0xE t) g) (rw t at o)))
    (λ f. by-test (eqb w.kind 1)
    (λ t. rw (t, f) (record { places = leb-true w.value 64 (and_right (leb 1 w.value) (leb w.value 64) (subst Ranged (eqb-true w.kind 1 t) g)); each = C.each; once = C.once }))
    (λ h. rw (h, f) C))
  where
    Ranged : ℕ → Type 0
    Ranged k = in_range s (word k w.value) ≡ true

    Goal : ℕ → Type 0
    Goal k = Called (next s (word k w.value)).places (next s (word k w.value)).called

-- there is more: a word, or bytes left over
abbrev pub Further : List Word → Bool → Type 0
Further [] left = left ≡ true
Further (w ∷ ws) left = Unit {0}

behind-further : (i : ℕ) (ws : List Word) (left : Bool) → Further ws left → behind i ws left ≡ refused 3 i
behind-further i [] left h = rw h refl
behind-further i (w ∷ ws) left h = refl

further-append : (xs ys : List Word) (left : Bool) → Further ys left → Further (xs ++ ys) left
further-append [] ys left h = h
further-append (x ∷ xs) ys left h = tt

-- two answers are the same refusal
abbrev pub SameRefusal : Outcome → Outcome → Type 0
SameRefusal a b = (n : ℕ) × (j : ℕ) × (a ≡ refused n j) × (b ≡ refused n j)

decided : (s : State) (i : ℕ) (xs ys zs : List Word) (left left' : Bool) → Begun s → Called s.places s.called → most_from s < length xs → Further ys left → Further zs left'
    → SameRefusal (walk s i (xs ++ ys) left) (walk s i (xs ++ zs) left')
unfolding walk
decided s i [] ys zs left left' b C h p q = absurd (none_left h)
  where
    none_left : most_from s < 0 → ⊥
    none_left l = omega arith
decided s i (w ∷ xs) ys zs left left' b C h p q =
    go (λ c k l. decided (next s w) (suc i) xs ys zs left left' c k l p q) (fault_at s i w) refl
  where
    on : List Word → Bool → Outcome
    on ws l = cond (eqb w.kind 0xF) (behind (suc i) (xs ++ ws) l) (walk (next s w) (suc i) (xs ++ ws) l)

    go : (Begun (next s w) → Called (next s w).places (next s w).called → most_from (next s w) < length xs
        → SameRefusal (walk (next s w) (suc i) (xs ++ ys) left) (walk (next s w) (suc i) (xs ++ zs) left'))
        → (o : Option ℕ) → fault_at s i w ≡ o → SameRefusal (unless o i (on ys left)) (unless o i (on zs left'))
    go ih (Some n) e = (n, i, refl, refl)
    go ih None e =
        by-test (eqb w.kind 0xF)
        (λ t. rw t (3, suc i, behind-further (suc i) (xs ++ ys) left (further-append xs ys left p), behind-further (suc i) (xs ++ zs) left' (further-append xs zs left' q)))
        (λ t. let m = fine s i w e in
        let less : most_from (next s w) < most_from s = lowers s w b C m.0 m.1 m.2 t in
        rw t (ih (inr (begun-next s w b m.0 m.1)) (called-next s w C m.1 m.2) (omega (arith, less, h))))

-- ---- files

-- 4 m bytes are m words, and what is behind them follows
pub record Split (xs bs : List ℕ) (m : ℕ) : Type 0 where
  pub words : words_of (xs ++ bs) ≡ words_of xs ++ words_of bs
  pub left : left_over (xs ++ bs) ≡ left_over bs
  pub many : length (words_of xs) ≡ m

few : {A : Type 0} (a m : ℕ) → a < 4 → a ≡ 4 * suc m → A
few a m h e = absurd (never h)
  where
    never : a < 4 → ⊥
    never l = omega arith

split : (m : ℕ) (xs bs : List ℕ) → length xs ≡ 4 * m → Split xs bs m
split zero [] bs e = record { words = refl; left = refl; many = refl }
split zero (a ∷ xs) bs e = absurd (too_many e)
  where
    too_many : suc (length xs) ≡ 0 → ⊥
    too_many x = omega arith
split (suc m) [] bs e = few 0 m (omega arith) e
split (suc m) (a ∷ []) bs e = few 1 m (omega arith) e
split (suc m) (a ∷ b ∷ []) bs e = few 2 m (omega arith) e
split (suc m) (a ∷ b ∷ c ∷ []) bs e = few 3 m (omega arith) e
split (suc m) (a ∷ b ∷ c ∷ d ∷ xs) bs e =
    let S = split m xs bs (omega (arith, e)) in
    record { words = ap (λ (l : List Word). word_of (little_endian a b c d) ∷ l) S.words; left = S.left; many = ap suc S.many }

-- some byte
abbrev pub SomeByte : List ℕ → Type 0
SomeByte [] = ⊥
SomeByte (b ∷ bs) = Unit {0}

further-bytes : (bs : List ℕ) → SomeByte bs → Further (words_of bs) (left_over bs)
further-bytes [] h = absurd h
further-bytes (a ∷ []) h = refl
further-bytes (a ∷ b ∷ []) h = refl
further-bytes (a ∷ b ∷ c ∷ []) h = refl
further-bytes (a ∷ b ∷ c ∷ d ∷ bs) h = tt

-- behind the first 34,572 bytes, which are 8,643 words, one byte is as good as any others
pub enough : (xs bs cs : List ℕ) → length xs ≡ 34572 → SomeByte bs → SomeByte cs → read (xs ++ bs) ≡ read (xs ++ cs)
unfolding read read_words
enough xs bs cs e p q =
    let B = split 8643 xs bs e in
    let C = split 8643 xs cs e in
    let none-called : Called 0 [] = record { places = omega arith; each = tt; once = refl } in
    let D = decided start 0 (words_of xs) (words_of bs) (words_of cs) (left_over bs) (left_over cs) (inl refl) none-called (omega (arith, B.many)) (further-bytes bs p) (further-bytes cs q) in
    rw (B.words, B.left, C.words, C.left, D.2, D.3)
