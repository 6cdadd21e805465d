-- Whatever is accepted is the words of a good sheet and tour.
use Prim.Native.Nat.{ℕ, zero, suc, pred, ◌+◌, ◌*◌, ◌≤◌, ◌<◌}
use native.Mathlib.Omega.{arith}
use native.Mathlib.Nat.{mul-le-mul}
use mathlib.Core.Path.{◌≡◌, refl, sym, ap, subst, ◌∙◌}
use mathlib.Core.Bool.{Bool, true, false, cond, ◌&&◌, not}
use mathlib.Core.List.{List, [], ◌∷◌, ◌++◌, append-nil, append_assoc, tail}
use Rattle.std.specs.Prelude.{Option, None, Some}
use mathlib.Core.Logic.{inl, inr}
use lib.ListN.{length, length-append, get_or}
use lib.Dec.{eqb, ltb, leb, eqb-suc-zero}
use borrow.Author.Tests.{eqb-true, ltb-true, ltb-false, leb-true}
use Rattle.basics.proofs.TestLaws.{by-test, not-false, and_left, and-true, or-false}
use Rattle.basics.specs.Options.{Holds, IfAny}
use Rattle.basics.specs.Lists.{All, Passes}
use Rattle.definitions.specs.Domain.{is_places, is_capacity, is_demand, is_penalty, is_number, closed_apart, is_leg, is_call}
use Rattle.definitions.specs.Sheet.{Customer, Sheet, depot}
use Rattle.definitions.specs.Words.{Word, word}
use Rattle.definitions.specs.Encoding.{optional, second_words, break_words, window_words, customer_words}
use Rattle.definitions.specs.Reader.{State, start, next, onward, may_stand, in_range, repeated, pair_falls, closure_differs, among, faults, fault_at, accepted, refused, behind, unless, walk}
use Rattle.definitions.specs.Refusals.{disagree}
use Rattle.theorems.proofs.InOrder.{none-fits}
use Rattle.theorems.proofs.Again.{again, again-repeats}
use Rattle.round_trip.proofs.Says.{call_words, time_words, table_words, all_words}
use Rattle.round_trip.proofs.Good.{GoodWindow, GoodBreak, GoodCustomer, AsMany, GoodSheet, GoodTour}
use Rattle.round_trip.proofs.Accepts.{behind_calls, behind_legs, behind_word, Seconds, seconds-head, seconds-customer, second_range, customer_then, behind_customer, customer-then, behind-customer, word_count}
use Rattle.round_trip.proofs.ByKind.{ByKind, no_other, ◌or◌, by_kind, map-kinds}

-- ---- a word that is taken

record Taken (s : State) (i : ℕ) (w : Word) (ws : List Word) (left : Bool) : Type 0 where
  stands : among w.kind (may_stand s) ≡ true
  ranged : in_range s w ≡ true
  once : repeated s w ≡ false
  paired : pair_falls s w ≡ false
  alike : closure_differs s w ≡ false
  counted : eqb w.kind 0xF && not (eqb w.value i) ≡ false
  on : cond (eqb w.kind 0xF) (behind (suc i) ws left) (walk (next s w) (suc i) ws left) ≡ accepted

not-accepted : {A : Type 0} (n i : ℕ) → refused n i ≡ accepted → A
not-accepted n i h = let z : ◌≡◌ {A = ℕ} 0 1 = cc in absurd (zero_one z)
  where
    zero_one : ◌≡◌ {A = ℕ} 0 1 → ⊥
    zero_one z = omega arith

taken : (s : State) (i : ℕ) (w : Word) (ws : List Word) (left : Bool) → walk s i (w ∷ ws) left ≡ accepted → Taken s i w ws left
unfolding walk fault_at
taken s i w ws left h = go (fault_at s i w) refl h
  where
    go : (o : Option ℕ) → fault_at s i w ≡ o → unless o i (cond (eqb w.kind 0xF) (behind (suc i) ws left) (walk (next s w) (suc i) ws left)) ≡ accepted → Taken s i w ws left
    go (Some n) e f = not-accepted n i f
    go None e f =
        let N = none-fits (faults s i w) e in
        record { stands = not-false (among w.kind (may_stand s)) (N 11); ranged = not-false (in_range s w) (N 1); once = N 21; paired = N 2; alike = N 22; counted = N 3; on = f }

ended : {A : Type 0} (s : State) (i : ℕ) (left : Bool) → walk s i [] left ≡ accepted → A
unfolding walk
ended s i left h = not-accepted 12 i h

-- what is to be shown of words that begin with one of kind k and value v, which is taken
abbrev Case : (ℕ → List Word → Type 0) → State → ℕ → Bool → ℕ → List Word → ℕ → Type 0
Case Goal s i left v ws k = Taken s i (word k v) ws left → Goal i (word k v ∷ ws)

-- accepted words, by the kind of the first
by_word : (Goal : ℕ → List Word → Type 0) (s : State) (i : ℕ) (left : Bool) (w : Word) (ws : List Word) (ks : List ℕ) → may_stand s ≡ ks
    → ByKind (Case Goal s i left w.value ws) ks → walk s i (w ∷ ws) left ≡ accepted → Goal i (w ∷ ws)
by_word Goal s i left w ws ks e cases a =
    let T = taken s i w ws left a in
    by_kind (Case Goal s i left w.value ws) ks w.kind cases (subst (λ (l : List ℕ). among w.kind l ≡ true) e T.stands) T

by_first : (Goal : ℕ → List Word → Type 0) (s : State) (i : ℕ) (left : Bool) (ws : List Word) (ks : List ℕ) → may_stand s ≡ ks
    → ((v : ℕ) (rest : List Word) → ByKind (Case Goal s i left v rest) ks) → walk s i ws left ≡ accepted → Goal i ws
by_first Goal s i left [] ks e cases a = ended s i left a
by_first Goal s i left (w ∷ ws) ks e cases a = by_word Goal s i left w ws ks e (cases w.value ws) a

-- ---- F

behind-end : (i : ℕ) (ws : List Word) (left : Bool) → behind i ws left ≡ accepted → (ws ≡ []) × (left ≡ false)
behind-end i [] false h = (refl, refl)
behind-end i [] true h = not-accepted 3 i h
behind-end i (w ∷ ws) left h = not-accepted 3 i h

-- ---- the tour, of which the calls cs stand before

record TourEnd (n : ℕ) (cs : List ℕ) (left : Bool) (i : ℕ) (ws : List Word) : Type 0 where
  tour : List ℕ
  is : ws ≡ call_words tour (i + length tour)
  calls : Passes (is_call n) tour
  once : again cs tour ≡ false
  nothing_left : left ≡ false

tour-over : (s : State) (n : ℕ) (cs : List ℕ) (i v : ℕ) (ws : List Word) (left : Bool) → Case (TourEnd n cs left) s i left v ws 0xF
tour-over s n cs i v ws left T =
    let B = behind-end (suc i) ws left T.on in
    let same : v ≡ i + 0 = omega (arith, eqb-true v i (not-false (eqb v i) T.counted)) in
    record { tour = []; is = λ j. word 0xF (same j) ∷ B.0 j; calls = tt; once = refl; nothing_left = B.1 }

tour-more : (n : ℕ) (cs : List ℕ) (i v : ℕ) (ws : List Word) (left : Bool) → is_call n v ≡ true → among v cs ≡ false → TourEnd n (v ∷ cs) left (suc i) ws
    → TourEnd n cs left i (word 0xE v ∷ ws)
tour-more n cs i v ws left h o E =
    let same : suc i + length E.tour ≡ i + suc (length E.tour) = omega arith in
    record {
      tour = v ∷ E.tour;
      is = ap (λ (l : List Word). word 0xE v ∷ l) (E.is ∙ ap (call_words E.tour) same);
      calls = (h, E.calls);
      once = or-false (among v cs) _ o E.once;
      nothing_left = E.nothing_left;
    }

tour-inv : (fs cs : List ℕ) (v r n d i : ℕ) (ws : List Word) (left : Bool) → walk (behind_calls fs cs 0xE v r n d) i ws left ≡ accepted → TourEnd n cs left i ws
unfolding may_stand in_range
tour-inv fs cs v r n d i [] left a = ended (behind_calls fs cs 0xE v r n d) i left a
tour-inv fs cs v r n d i (w ∷ ws) left a =
    by_word (TourEnd n cs left) (behind_calls fs cs 0xE v r n d) i left w ws (0xE ∷ 0xF ∷ []) refl
    ((λ T. tour-more n cs i w.value ws left T.ranged T.once (tour-inv fs (w.value ∷ cs) w.value (suc r) n d (suc i) ws left T.on))
    or tour-over (behind_calls fs cs 0xE v r n d) n cs i w.value ws left
    or no_other) a

-- the first call or F, behind a word of another kind
tour-cases : (fs : List ℕ) (k v r n d i u : ℕ) (ws : List Word) (left : Bool) → eqb 0xE k ≡ false
    → ByKind (Case (TourEnd n [] left) (behind_legs fs k v r n d) i left u ws) (0xE ∷ 0xF ∷ [])
unfolding in_range
tour-cases fs k v r n d i u ws left p =
    (λ T. tour-more n [] i u ws left T.ranged refl (tour-inv fs (u ∷ []) u 1 n d (suc i) ws left (rw p at T.on)))
    or tour-over (behind_legs fs k v r n d) n [] i u ws left
    or no_other

tour-good : {n i : ℕ} {ws : List Word} {left : Bool} (E : TourEnd n [] left i ws) → GoodTour n E.tour
tour-good E = record { each = E.calls; once = sym (again-repeats E.tour) ∙ E.once }

-- ---- the times of the distances fs, of which r stand before

record TimesEnd (fs : List ℕ) (n r : ℕ) (left : Bool) (i : ℕ) (ws : List Word) : Type 0 where
  ts : List ℕ
  tour : List ℕ
  is : ws ≡ time_words ts tour (i + length ts + length tour)
  times : Passes is_leg ts
  square : r + length ts ≡ n * n
  alike : disagree Some fs ts ≡ false
  calls : GoodTour n tour
  nothing_left : left ≡ false

none-disagrees : (fs : List ℕ) → disagree Some fs [] ≡ false
none-disagrees [] = refl
none-disagrees (x ∷ fs) = refl

one-agrees : (fs ts : List ℕ) (t : ℕ) → closed_apart (get_or fs 0 0) t ≡ false → disagree Some (tail fs) ts ≡ false → disagree Some fs (t ∷ ts) ≡ false
one-agrees [] ts t h w = refl
one-agrees (x ∷ fs) ts t h w = or-false (closed_apart x t) (disagree Some fs ts) h w

times-over : (fs : List ℕ) (n r i : ℕ) (ws : List Word) (left : Bool) → r ≡ n * n → TourEnd n [] left i ws → TimesEnd fs n r left i ws
times-over fs n r i ws left h E =
    let same : i + length E.tour ≡ i + 0 + length E.tour = omega arith in
    record {
      ts = [];
      tour = E.tour;
      is = E.is ∙ ap (call_words E.tour) same;
      times = tt;
      square = omega arith;
      alike = none-disagrees fs;
      calls = tour-good E;
      nothing_left = E.nothing_left;
    }

times_more : (fs : List ℕ) (n r i v : ℕ) (ws : List Word) (left : Bool) → is_leg v ≡ true → closed_apart (get_or fs 0 0) v ≡ false → TimesEnd (tail fs) n (suc r) left (suc i) ws
    → TimesEnd fs n r left i (word 0xD v ∷ ws)
times_more fs n r i v ws left h w E =
    let same : suc i + length E.ts + length E.tour ≡ i + suc (length E.ts) + length E.tour = omega arith in
    record {
      ts = v ∷ E.ts;
      tour = E.tour;
      is = ap (λ (l : List Word). word 0xD v ∷ l) (E.is ∙ ap (time_words E.ts E.tour) same);
      times = (h, E.times);
      square = omega (arith, E.square);
      alike = one-agrees fs E.ts v w E.alike;
      calls = E.calls;
      nothing_left = E.nothing_left;
    }

times-inv : (fs : List ℕ) (v r n d i : ℕ) (ws : List Word) (left : Bool) → r ≤ n * n → walk (behind_legs fs 0xD v r n d) i ws left ≡ accepted → TimesEnd fs n r left i ws
unfolding may_stand in_range
times-inv fs v r n d i [] left h a = ended (behind_legs fs 0xD v r n d) i left a
times-inv fs v r n d i (w ∷ ws) left h a =
    let s = behind_legs fs 0xD v r n d in
    by-test (ltb r (n * n))
    (λ t. by_word (TimesEnd fs n r left) s i left w ws (0xD ∷ []) (rw t refl)
    ((λ T. times_more fs n r i w.value ws left T.ranged T.alike (times-inv (tail fs) w.value (suc r) n d (suc i) ws left (ltb-true r (n * n) t) T.on)) or no_other) a)
    (λ f. let full : r ≡ n * n = omega (arith, ltb-false r (n * n) f) in
    by_word (TimesEnd fs n r left) s i left w ws (0xE ∷ 0xF ∷ []) (rw f refl)
    (map-kinds (tour-cases fs 0xD v r n d i w.value ws left refl) (λ k c T. times-over fs n r i (word k w.value ∷ ws) left full (c T))) a)

-- ---- the distances, behind the distances fs

record GoodTables (n : ℕ) (fs ds ts tour : List ℕ) : Type 0 where
  distances : Passes is_leg ds
  square : length fs + length ds ≡ n * n
  times : Passes is_leg ts
  as_many : AsMany (n * n) ts
  alike : disagree Some (fs ++ ds) ts ≡ false
  calls : GoodTour n tour

record TablesEnd (n : ℕ) (fs : List ℕ) (left : Bool) (i : ℕ) (ws : List Word) : Type 0 where
  ds : List ℕ
  ts : List ℕ
  tour : List ℕ
  is : ws ≡ table_words ds ts tour (i + length ds + length ts + length tour)
  good : GoodTables n fs ds ts tour
  nothing_left : left ≡ false

no-times : (n : ℕ) (fs : List ℕ) (i : ℕ) (ws : List Word) (left : Bool) → length fs ≡ n * n → TourEnd n [] left i ws → TablesEnd n fs left i ws
no-times n fs i ws left h E =
    let same : i + length E.tour ≡ i + 0 + 0 + length E.tour = omega arith in
    record {
      ds = [];
      ts = [];
      tour = E.tour;
      is = E.is ∙ ap (call_words E.tour) same;
      good = record { distances = tt; square = omega arith; times = tt; as_many = inl refl; alike = none-disagrees (fs ++ []); calls = tour-good E };
      nothing_left = E.nothing_left;
    }

with-times : (n : ℕ) (fs : List ℕ) (i v : ℕ) (ws : List Word) (left : Bool) → length fs ≡ n * n → is_leg v ≡ true → closed_apart (get_or fs 0 0) v ≡ false
    → TimesEnd (tail fs) n 1 left (suc i) ws → TablesEnd n fs left i (word 0xD v ∷ ws)
with-times n fs i v ws left h g w E =
    let same : suc i + length E.ts + length E.tour ≡ i + 0 + suc (length E.ts) + length E.tour = omega arith in
    record {
      ds = [];
      ts = v ∷ E.ts;
      tour = E.tour;
      is = ap (λ (l : List Word). word 0xD v ∷ l) (E.is ∙ ap (time_words E.ts E.tour) same);
      good = record {
        distances = tt;
        square = omega arith;
        times = (g, E.times);
        as_many = inr (omega (arith, E.square));
        alike = subst (λ (l : List ℕ). disagree Some l (v ∷ E.ts) ≡ false) (sym (append-nil fs)) (one-agrees fs E.ts v w E.alike);
        calls = E.calls;
      };
      nothing_left = E.nothing_left;
    }

-- one distance more in front
tables_more : {n : ℕ} {fs ds ts tour : List ℕ} (v : ℕ) → is_leg v ≡ true → GoodTables n (fs ++ (v ∷ [])) ds ts tour → GoodTables n fs (v ∷ ds) ts tour
tables_more {n} {fs} {ds} {ts} v h G =
    record {
      distances = (h, G.distances);
      square = omega (arith, G.square, length-append fs (v ∷ []));
      times = G.times;
      as_many = G.as_many;
      alike = subst (λ (l : List ℕ). disagree Some l ts ≡ false) (append_assoc fs (v ∷ []) ds) G.alike;
      calls = G.calls;
    }

distances-more : (n : ℕ) (fs : List ℕ) (i v : ℕ) (ws : List Word) (left : Bool) → is_leg v ≡ true → TablesEnd n (fs ++ (v ∷ [])) left (suc i) ws → TablesEnd n fs left i (word 0xC v ∷ ws)
distances-more n fs i v ws left h E =
    let same : suc i + length E.ds + length E.ts + length E.tour ≡ i + suc (length E.ds) + length E.ts + length E.tour = omega arith in
    record {
      ds = v ∷ E.ds;
      ts = E.ts;
      tour = E.tour;
      is = ap (λ (l : List Word). word 0xC v ∷ l) (E.is ∙ ap (table_words E.ds E.ts E.tour) same);
      good = tables_more v h E.good;
      nothing_left = E.nothing_left;
    }

distances-inv : (fs : List ℕ) (v r n d i : ℕ) (ws : List Word) (left : Bool) → length fs ≡ r → r ≤ n * n → 0 < n * n → walk (behind_legs fs 0xC v r n d) i ws left ≡ accepted
    → TablesEnd n fs left i ws
unfolding may_stand in_range
distances-inv fs v r n d i [] left l h z a = ended (behind_legs fs 0xC v r n d) i left a
distances-inv fs v r n d i (w ∷ ws) left l h z a =
    let s = behind_legs fs 0xC v r n d in
    by-test (ltb r (n * n))
    (λ t. by_word (TablesEnd n fs left) s i left w ws (0xC ∷ []) (rw t refl)
    ((λ T. distances-more n fs i w.value ws left T.ranged
    (distances-inv (fs ++ (w.value ∷ [])) w.value (suc r) n d (suc i) ws left (omega (arith, length-append fs (w.value ∷ []))) (ltb-true r (n * n) t) z T.on))
    or no_other) a)
    (λ f. let full : length fs ≡ n * n = omega (arith, ltb-false r (n * n) f) in
    by_word (TablesEnd n fs left) s i left w ws (0xD ∷ 0xE ∷ 0xF ∷ []) (rw f refl)
    ((λ T. with-times n fs i w.value ws left full T.ranged T.alike (times-inv (tail fs) w.value 1 n d (suc i) ws left z T.on))
    or map-kinds (tour-cases fs 0xC v r n d i w.value ws left refl) (λ k c T. no-times n fs i (word k w.value ∷ ws) left full (c T))) a)

-- ---- what stands from the next customer on, where d customers are to come

record Rest (n d : ℕ) (left : Bool) (i : ℕ) (ws : List Word) : Type 0 where
  -- which second demands that are 0 have a word
  said : List Bool
  cs : List Customer
  ds : List ℕ
  ts : List ℕ
  tour : List ℕ
  is : ws ≡ customer_words said cs ++ table_words ds ts tour (i + length (customer_words said cs) + length ds + length ts + length tour)
  counted : length cs ≡ d
  customers : All GoodCustomer cs
  tables : GoodTables n [] ds ts tour
  nothing_left : left ≡ false

-- no customer is left
from-distances : (n i : ℕ) (ws : List Word) (left : Bool) → TablesEnd n [] left i ws → Rest n 0 left i ws
from-distances n i ws left E =
    let same : i + length E.ds + length E.ts + length E.tour ≡ i + 0 + length E.ds + length E.ts + length E.tour = omega arith in
    record {
      said = [];
      cs = [];
      ds = E.ds;
      ts = E.ts;
      tour = E.tour;
      is = E.is ∙ ap (table_words E.ds E.ts E.tour) same;
      counted = refl;
      customers = tt;
      tables = E.good;
      nothing_left = E.nothing_left;
    }

-- ---- words that may be there or not, and what is behind them

record Begins {X : Type 0} (words : X → List Word) (Good : X → Type 0) (Next : ℕ → List Word → Type 0) (i : ℕ) (ws : List Word) : Type 0 where
  item : X
  rest : List Word
  is : ws ≡ words item ++ rest
  good : Good item
  beyond : Next (i + length (words item)) rest

-- they are there
there : {X : Type 0} {words : X → List Word} {Good : X → Type 0} {Next : ℕ → List Word → Type 0} {i : ℕ} (x : X) (ws : List Word) (j : ℕ) → j ≡ i + length (words x) → Good x → Next j ws
    → Begins words Good Next i (words x ++ ws)
there {Next} x ws j e g N = record { item = x; rest = ws; is = refl; good = g; beyond = subst (λ (q : ℕ). Next q ws) e N }

-- they are not there
absent : {X : Type 0} {words : X → List Word} {Good : X → Type 0} {Next : ℕ → List Word → Type 0} {i : ℕ} {ws : List Word} (x : X) → words x ≡ [] → Good x → Next i ws → Begins words Good Next i ws
absent {words} {Next} {i} {ws} x e g N =
    let same : i ≡ i + length (words x) = omega (arith, ap length e) in
    record { item = x; rest = ws; is = rw e refl; good = g; beyond = subst (λ (q : ℕ). Next q ws) same N }

-- not there, whatever the kind
skipping : {X : Type 0} (words : X → List Word) (Good : X → Type 0) (Next : ℕ → List Word → Type 0) (s : State) (i : ℕ) (left : Bool) (v : ℕ) (ws : List Word) (ks : List ℕ) (x : X)
    → words x ≡ [] → Good x → ByKind (Case Next s i left v ws) ks → ByKind (Case (Begins words Good Next) s i left v ws) ks
skipping words Good Next s i left v ws ks x e g cases = map-kinds cases (λ k c T. absent x e g (c T))

-- ---- a second capacity or demand

-- a word of kind j that holds a number, and what is behind it
record Following (j : ℕ) (Next : ℕ → List Word → Type 0) (i : ℕ) (ws : List Word) : Type 0 where
  value : ℕ
  rest : List Word
  is : ws ≡ word j value ∷ rest
  number : is_number value ≡ true
  beyond : Next (suc i) rest

-- whether a second capacity or demand that is 0 has a word, and how much it is: its words, and that it is in range behind a word of kind k
abbrev said_words : Bool × ℕ → List Word
said_words o = second_words o.0 o.1

abbrev Ranged : ℕ → Bool × ℕ → Type 0
Ranged k o = second_range k o.1 ≡ true

abbrev Seconded : ℕ → ℕ → (ℕ → List Word → Type 0) → ℕ → List Word → Type 0
Seconded k j Next = Begins said_words (Ranged k) (Following j Next)

second-inv : (Next : ℕ → List Word → Type 0) (j k v r n d : ℕ) (left : Bool) → Seconds j k v r n d
    → ((k' v' r' i u : ℕ) (ws : List Word) → eqb j k' ≡ false → Case (Following j Next) (behind_word k' v' r' n d) i left u ws j)
    → (i : ℕ) (ws : List Word) → walk (behind_word k v r n d) i ws left ≡ accepted → Seconded k j Next i ws
unfolding may_stand in_range
second-inv Next j k v r n d left S J i ws a = by_first (Seconded k j Next) s i left ws (0 ∷ j ∷ []) S.either cases a
  where
    s : State
    s = behind_word k v r n d

    row : ℕ
    row = cond (eqb 0 k) (suc r) 1

    none-ranged : second_range k 0 ≡ true
    none-ranged = by-test (eqb k 2) (λ t. rw t refl) (λ f. rw f refl)

    cases : (u : ℕ) (rest : List Word) → ByKind (Case (Seconded k j Next) s i left u rest) (0 ∷ j ∷ [])
    cases u rest =
        (λ T. there (true, u) rest (suc i) (omega arith) T.ranged
        (by_first (Following j Next) (behind_word 0 u row n d) (suc i) left rest (j ∷ []) (ap (λ (q : ℕ). q ∷ []) S.follows) (λ x more. J 0 u row (suc i) x more S.apart-0 or no_other) T.on))
        or skipping said_words (Ranged k) (Following j Next) s i left u rest (j ∷ []) (false, 0) refl none-ranged (J k v r i u rest S.apart or no_other)

module _ (n d : ℕ) (left : Bool) where
  -- what is to be shown of the word that begins the next customer or the distances
  record FromHere : Type 0 where
    on : (k v r i u : ℕ) (ws : List Word) → eqb 0xC k ≡ false → Case (Rest n d left) (behind_word k v r n d) i left u ws (onward (behind_word k v r n d))

  abbrev Penalised : ℕ → List Word → Type 0
  Penalised = Begins (optional 0xB) (IfAny is_penalty) (Rest n d left)

  abbrev Windowed : ℕ → List Word → Type 0
  Windowed = Begins window_words (Holds GoodWindow) Penalised

  abbrev Rested : ℕ → List Word → Type 0
  Rested = Begins break_words (Holds GoodBreak) (Rest n d left)

  abbrev Timed : ℕ → List Word → Type 0
  Timed = Begins (optional 5) (IfAny is_number) Rested

  abbrev Limited : ℕ → List Word → Type 0
  Limited = Begins (optional 4) (IfAny is_number) Timed

module _ (n d : ℕ) (left : Bool) (H : FromHere n d left) where
  onward-cases : (k v r i u : ℕ) (ws : List Word) → eqb 0xC k ≡ false
      → ByKind (Case (Rest n d left) (behind_word k v r n d) i left u ws) (onward (behind_word k v r n d) ∷ [])
  onward-cases k v r i u ws c = H.on k v r i u ws c or no_other

  -- ---- a customer behind its 8

  penalty-cases : (k v r i u : ℕ) (ws : List Word) → eqb 0xC k ≡ false → eqb 0xB k ≡ false
      → ByKind (Case (Penalised n d left) (behind_word k v r n d) i left u ws) (0xB ∷ onward (behind_word k v r n d) ∷ [])
  unfolding may_stand in_range
  penalty-cases k v r i u ws c b =
      let s = behind_word k v r n d in
      let B = behind_word 0xB u 1 n d in
      (λ T. there (Some u) ws (suc i) (omega arith) T.ranged
      (by_first (Rest n d left) B (suc i) left ws (onward B ∷ []) refl (λ x rest. onward-cases 0xB u 1 (suc i) x rest refl) (rw b at T.on)))
      or skipping (optional 0xB) (IfAny is_penalty) (Rest n d left) s i left u ws (onward s ∷ []) None refl tt (onward-cases k v r i u ws c)

  window-cases : (v i u : ℕ) (ws : List Word)
      → ByKind (Case (Windowed n d left) (behind_word 8 v 1 n d) i left u ws) (9 ∷ 0xB ∷ onward (behind_word 8 v 1 n d) ∷ [])
  unfolding may_stand in_range pair_falls
  window-cases v i u ws =
      let s = behind_word 8 v 1 n d in
      (λ T. by_first (λ j rest. Windowed n d left i (word 9 u ∷ rest)) (behind_word 9 u 1 n d) (suc i) left ws (0xA ∷ []) refl (λ b rest. window u b rest T.ranged or no_other) T.on)
      or skipping window_words (Holds GoodWindow) (Penalised n d left) s i left u ws (0xB ∷ onward s ∷ []) None refl tt (penalty-cases 8 v 1 i u ws refl refl)
    where
      window : (a b : ℕ) (rest : List Word) → is_number a ≡ true → Taken (behind_word 9 a 1 n d) (suc i) (word 0xA b) rest left → Windowed n d left i (word 9 a ∷ word 0xA b ∷ rest)
      window a b rest g T =
          let A = behind_word 0xA b 1 n d in
          there (Some (record { ready = a; due = b })) rest (suc (suc i)) (omega arith) (record { ready = g; due = T.ranged; rises = T.paired })
          (by_first (Penalised n d left) A (suc (suc i)) left rest (0xB ∷ onward A ∷ []) refl (λ x more. penalty-cases 0xA b 1 (suc (suc i)) x more refl refl) T.on)

  service-case : (k v r i u : ℕ) (ws : List Word) → eqb 8 k ≡ false → Case (Following 8 (Windowed n d left)) (behind_word k v r n d) i left u ws 8
  unfolding may_stand in_range
  service-case k v r i u ws h T =
      let S = behind_word 8 u 1 n d in
      record { value = u; rest = ws; is = refl; number = T.ranged; beyond = by_first (Windowed n d left) S (suc i) left ws (9 ∷ 0xB ∷ onward S ∷ []) refl (window-cases u (suc i)) (rw h at T.on) }

  -- ---- the break and the limits

  break-cases : (k v r i u : ℕ) (ws : List Word) → eqb 0xC k ≡ false → eqb 6 k ≡ false
      → ByKind (Case (Rested n d left) (behind_word k v r n d) i left u ws) (6 ∷ onward (behind_word k v r n d) ∷ [])
  unfolding may_stand in_range pair_falls
  break-cases k v r i u ws c b =
      let s = behind_word k v r n d in
      (λ T. by_first (λ j rest. Rested n d left i (word 6 u ∷ rest)) (behind_word 6 u 1 n d) (suc i) left ws (6 ∷ []) refl (λ x rest. second u x rest T.ranged or no_other) (rw b at T.on))
      or skipping break_words (Holds GoodBreak) (Rest n d left) s i left u ws (onward s ∷ []) None refl tt (onward-cases k v r i u ws c)
    where
      third : (e l x : ℕ) (rest : List Word) → is_number e ≡ true → is_number l ≡ true → ltb l e ≡ false → Taken (behind_word 6 l 2 n d) (suc (suc i)) (word 6 x) rest left
          → Rested n d left i (word 6 e ∷ word 6 l ∷ word 6 x ∷ rest)
      third e l x rest g h f T =
          let B = behind_word 6 x 3 n d in
          there (Some (record { earliest = e; latest = l; duration = x })) rest (suc (suc (suc i))) (omega arith) (record { earliest = g; latest = h; duration = T.ranged; rises = f })
          (by_first (Rest n d left) B (suc (suc (suc i))) left rest (onward B ∷ []) refl (λ y more. onward-cases 6 x 3 (suc (suc (suc i))) y more refl) T.on)

      second : (e l : ℕ) (rest : List Word) → is_number e ≡ true → Taken (behind_word 6 e 1 n d) (suc i) (word 6 l) rest left → Rested n d left i (word 6 e ∷ word 6 l ∷ rest)
      second e l rest g T =
          by_first (λ j more. Rested n d left i (word 6 e ∷ word 6 l ∷ more)) (behind_word 6 l 2 n d) (suc (suc i)) left rest (6 ∷ []) refl
          (λ x more. third e l x more g T.ranged T.paired or no_other) T.on

  duration-cases : (k v r i u : ℕ) (ws : List Word) → eqb 0xC k ≡ false → eqb 6 k ≡ false → eqb 5 k ≡ false
      → ByKind (Case (Timed n d left) (behind_word k v r n d) i left u ws) (5 ∷ 6 ∷ onward (behind_word k v r n d) ∷ [])
  unfolding may_stand in_range
  duration-cases k v r i u ws c b t =
      let s = behind_word k v r n d in
      let D = behind_word 5 u 1 n d in
      (λ T. there (Some u) ws (suc i) (omega arith) T.ranged
      (by_first (Rested n d left) D (suc i) left ws (6 ∷ onward D ∷ []) refl (λ x rest. break-cases 5 u 1 (suc i) x rest refl refl) (rw t at T.on)))
      or skipping (optional 5) (IfAny is_number) (Rested n d left) s i left u ws (6 ∷ onward s ∷ []) None refl tt (break-cases k v r i u ws c b)

  limit-cases : (v i u : ℕ) (ws : List Word)
      → ByKind (Case (Limited n d left) (behind_word 3 v 1 n d) i left u ws) (4 ∷ 5 ∷ 6 ∷ onward (behind_word 3 v 1 n d) ∷ [])
  unfolding may_stand in_range
  limit-cases v i u ws =
      let s = behind_word 3 v 1 n d in
      let L = behind_word 4 u 1 n d in
      (λ T. there (Some u) ws (suc i) (omega arith) T.ranged
      (by_first (Timed n d left) L (suc i) left ws (5 ∷ 6 ∷ onward L ∷ []) refl (λ x rest. duration-cases 4 u 1 (suc i) x rest refl refl refl) T.on))
      or skipping (optional 4) (IfAny is_number) (Timed n d left) s i left u ws (5 ∷ 6 ∷ onward s ∷ []) None refl tt (duration-cases 3 v 1 i u ws refl refl refl)

  fixed-case : (k v r i u : ℕ) (ws : List Word) → eqb 3 k ≡ false → Case (Following 3 (Limited n d left)) (behind_word k v r n d) i left u ws 3
  unfolding may_stand in_range
  fixed-case k v r i u ws h T =
      let S = behind_word 3 u 1 n d in
      record { value = u; rest = ws; is = refl; number = T.ranged; beyond = by_first (Limited n d left) S (suc i) left ws (4 ∷ 5 ∷ 6 ∷ onward S ∷ []) refl (limit-cases u (suc i)) (rw h at T.on) }

-- ---- the customers

with-customer : (n d : ℕ) (left : Bool) (i seats : ℕ) (ws : List Word) → is_demand seats ≡ true → Seconded 7 8 (Windowed n d left) (suc i) ws → Rest n (suc d) left i (word 7 seats ∷ ws)
with-customer n d left i seats ws h S =
    let F = S.beyond in
    let W = F.beyond in
    let P = W.beyond in
    let R = P.beyond in
    let b = S.item.0 in
    let c : Customer = record { demand = record { seats = seats; wheelchairs = S.item.1 }; service = F.value; window = W.item; penalty = P.item } in
    -- where the tables begin, counted word by word, and all words where F has the value f
    let begin = behind_customer b c i + length (customer_words R.said R.cs) in
    let words : ℕ → List Word = λ f. customer_then b c (customer_words R.said R.cs ++ table_words R.ds R.ts R.tour f) in
    let whole : word 7 seats ∷ ws ≡ words (begin + length R.ds + length R.ts + length R.tour) =
    ap (λ (l : List Word). word 7 seats ∷ l)
    (S.is ∙ ap (λ (l : List Word). second_words b S.item.1 ++ l)
    (F.is ∙ ap (λ (l : List Word). word 8 F.value ∷ l)
    (W.is ∙ ap (λ (l : List Word). window_words W.item ++ l) (P.is ∙ ap (λ (l : List Word). optional 0xB P.item ++ l) R.is)))) in
    let same = sym (behind-customer (b ∷ R.said) c R.cs i) in
    record {
      said = b ∷ R.said;
      cs = c ∷ R.cs;
      ds = R.ds;
      ts = R.ts;
      tour = R.tour;
      is = whole ∙ ap (λ (q : ℕ). words (q + length R.ds + length R.ts + length R.tour)) same ∙ sym (customer-then (b ∷ R.said) c R.cs (table_words R.ds R.ts R.tour _));
      counted = ap suc R.counted;
      customers = (record { demand = and-true (is_demand seats) (is_demand S.item.1) h S.good; service = F.number; window = W.good; penalty = P.good }, R.customers);
      tables = R.tables;
      nothing_left = R.nothing_left;
    }

onward-seven : (k v r n d : ℕ) → onward (behind_word k v r n (suc d)) ≡ 7
onward-seven k v r n d = rw (eqb-suc-zero d) refl

customer-case : (n d : ℕ) (left : Bool) → suc d < n → FromHere n d left → (k v r i u : ℕ) (ws : List Word) → Case (Rest n (suc d) left) (behind_word k v r n (suc d)) i left u ws 7
unfolding may_stand in_range
customer-case n d left h H k v r i u ws T =
    let row = cond (eqb 7 k) (suc r) 1 in
    with-customer n d left i u ws T.ranged
    (second-inv (Windowed n d left) 8 7 u row n d left (seconds-customer u row n d h) (service-case n d left H) (suc i) ws T.on)

from-here : (n d : ℕ) (left : Bool) → d < n → FromHere n d left
unfolding may_stand in_range
from-here n zero left h = record {
  on = λ k v r i u ws c T.
      let z = mul-le-mul h h in
      from-distances n i (word 0xC u ∷ ws) left (distances-more n [] i u ws left T.ranged (distances-inv (u ∷ []) u 1 n 0 (suc i) ws left refl z z (rw c at T.on)));
}
from-here n (suc d) left h = record {
  on = λ k v r i u ws c.
      subst (Case (Rest n (suc d) left) (behind_word k v r n (suc d)) i left u ws) (sym (onward-seven k v r n d))
      (customer-case n d left h (from-here n d left (omega arith)) k v r i u ws);
}

-- ---- the whole

-- the words are those of a good sheet and tour, and nothing is left over
pub record IsSheet (left : Bool) (ws : List Word) : Type 0 where
  -- which second capacity and demands that are 0 have a word
  pub said : List Bool
  pub sheet : Sheet
  pub tour : List ℕ
  pub is : ws ≡ all_words said sheet tour (word_count said sheet tour)
  pub good : GoodSheet sheet
  pub calls : GoodTour sheet.head.places tour
  pub nothing_left : left ≡ false

is-sheet : (n seats : ℕ) (left : Bool) (ws : List Word) → is_places n ≡ true → is_capacity seats ≡ true → Seconded 2 3 (Limited n (pred n) left) 2 ws
    → IsSheet left (word 1 n ∷ word 2 seats ∷ ws)
is-sheet n seats left ws p c S =
    let F = S.beyond in
    let L = F.beyond in
    let A = L.beyond in
    let B = A.beyond in
    let R = B.beyond in
    record {
      said = S.item.0 ∷ R.said;
      sheet = record {
        head = record {
          places = n;
          capacity = record { seats = seats; wheelchairs = S.item.1 };
          fixed = F.value;
          max_distance = L.item;
          max_duration = A.item;
          rest = B.item;
        };
        customers = depot ∷ R.cs;
        legs = record { distances = R.ds; times = R.ts };
      };
      tour = R.tour;
      is = ap (λ (l : List Word). word 1 n ∷ word 2 seats ∷ l)
          (S.is ∙ ap (λ (l : List Word). second_words S.item.0 S.item.1 ++ l)
          (F.is ∙ ap (λ (l : List Word). word 3 F.value ∷ l)
          (L.is ∙ ap (λ (l : List Word). optional 4 L.item ++ l)
          (A.is ∙ ap (λ (l : List Word). optional 5 A.item ++ l) (B.is ∙ ap (λ (l : List Word). break_words B.item ++ l) R.is)))));
      good = record {
        places = p;
        capacity = and-true (is_capacity seats) (is_capacity S.item.1) c S.good;
        fixed = F.number;
        max_distance = L.good;
        max_duration = A.good;
        rest = B.good;
        counted = omega (arith, R.counted, leb-true 1 n (and_left (leb 1 n) (leb n 64) p));
        first = refl;
        customers = R.customers;
        distances = R.tables.distances;
        square = omega (arith, R.tables.square);
        times = R.tables.times;
        as_many = R.tables.as_many;
        alike = R.tables.alike;
      };
      calls = R.tables.calls;
      nothing_left = R.nothing_left;
    }

pub accepted-is : (ws : List Word) (left : Bool) → walk start 0 ws left ≡ accepted → IsSheet left ws
unfolding may_stand in_range
accepted-is ws left a =
    by_first (λ i rest. IsSheet left rest) start 0 left ws (1 ∷ []) refl
    (λ n rest. (λ T. behind-1 n rest T.ranged T.on) or no_other) a
  where
    some-place : (n : ℕ) → is_places n ≡ true → 1 ≤ n
    some-place n p = leb-true 1 n (and_left (leb 1 n) (leb n 64) p)

    behind-2 : (n c : ℕ) (rest : List Word) → is_places n ≡ true → is_capacity c ≡ true → walk (behind_word 2 c 1 n (pred n)) 2 rest left ≡ accepted
        → IsSheet left (word 1 n ∷ word 2 c ∷ rest)
    behind-2 n c rest p g b =
        is-sheet n c left rest p g
        (second-inv (Limited n (pred n) left) 3 2 c 1 n (pred n) left (seconds-head c 1 n (some-place n p))
        (fixed-case n (pred n) left (from-here n (pred n) left (omega (arith, some-place n p)))) 2 rest b)

    behind-1 : (n : ℕ) (rest : List Word) → is_places n ≡ true → walk (behind_word 1 n 1 n (pred n)) 1 rest left ≡ accepted → IsSheet left (word 1 n ∷ rest)
    behind-1 n rest p b =
        by_first (λ i more. IsSheet left (word 1 n ∷ more)) (behind_word 1 n 1 n (pred n)) 1 left rest (2 ∷ []) refl
        (λ c more. (λ T. behind-2 n c more p T.ranged T.on) or no_other) b
