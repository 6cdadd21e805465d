-- The words of a good sheet and tour are accepted.
use Prim.Native.Nat.{ℕ, suc, pred, ◌+◌, ◌*◌, ◌≤◌, ◌<◌}
use native.Mathlib.Omega.{arith}
use native.Mathlib.Nat.{mul-le-mul}
use mathlib.Core.Path.{◌≡◌, refl, sym, ap, subst, ◌∙◌}
use mathlib.Core.Bool.{Bool, true, false, cond}
use mathlib.Core.List.{List, [], ◌∷◌, ◌++◌, append-nil, append_assoc, cons≢nil, tail}
use Rattle.std.specs.Prelude.{Option, None, Some}
use mathlib.Core.Logic.{inl, inr}
use lib.ListN.{length, drop, length-append}
use lib.Dec.{eqb, ltb, leb, eqb-suc-zero}
use borrow.Author.Tests.{leb-true, eq-eqb, ne_eqb, lt-ltb, le-ltb}
use Rattle.basics.proofs.TestLaws.{by-test, both, and_left, or_left, or_right}
use Rattle.basics.specs.Options.{Holds, IfAny}
use Rattle.basics.specs.Lists.{All, Passes}
use Rattle.definitions.specs.Domain.{is_demand, is_capacity, is_penalty, is_number, closed_apart, is_leg, is_call}
use Rattle.definitions.specs.Sheet.{Window, Break, Customer, Sheet}
use Rattle.definitions.specs.Words.{Word, word}
use Rattle.definitions.specs.Encoding.{optional, is_said, second_words, break_words, window_words, customer_words}
use Rattle.definitions.specs.Refusal.{first_fit}
use Rattle.definitions.specs.Refusals.{disagree}
use Rattle.definitions.specs.Reader.{State, start, next, onward, behind_second, may_stand, in_range, pair_falls, among, faults, fault_at, accepted, walk}
use Rattle.round_trip.proofs.Says.{second, second_is, second-any, call_words, time_words, table_words, limit_words, from_customers, from_limits, behind_seats, all_words, others}
use Rattle.theorems.proofs.Again.{again, again-repeats}
use Rattle.round_trip.proofs.Good.{GoodWindow, GoodBreak, GoodCustomer, AsMany, GoodSheet, GoodTour}

-- the state behind the word of kind k and value v, the r-th of its kind in a row, where the tour has the calls cs, and the times of the
-- distances fs have yet to come
abbrev pub behind_calls : List ℕ → List ℕ → ℕ → ℕ → ℕ → ℕ → ℕ → State
behind_calls fs cs k v r n d = record { last = word k v; row = r; places = n; coming = d; called = cs; facing = fs }

-- before the tour
abbrev pub behind_legs : List ℕ → ℕ → ℕ → ℕ → ℕ → ℕ → State
behind_legs fs k v r n d = behind_calls fs [] k v r n d

-- and before the tables
abbrev pub behind_word : ℕ → ℕ → ℕ → ℕ → ℕ → State
behind_word k v r n d = behind_legs [] k v r n d

-- a good word
pub record Fine (s : State) (i k v : ℕ) : Type 0 where
  pub stands : among k (may_stand s) ≡ true
  pub ranged : in_range s (word k v) ≡ true
  -- the tests behind 11 and 1: of a kind that they do not ask about, by computation
  pub others : first_fit (drop 2 (faults s i (word k v))) ≡ None

no-fault : (s : State) (i k v : ℕ) → Fine s i k v → fault_at s i (word k v) ≡ None
unfolding fault_at
no-fault s i k v F = rw (F.stands, F.ranged) F.others

pub step : (s : State) (i k v : ℕ) (ws : List Word) (left : Bool) → eqb k 0xF ≡ false → Fine s i k v → walk s i (word k v ∷ ws) left ≡ walk (next s (word k v)) (suc i) ws left
unfolding walk
step s i k v ws left n F = rw (no-fault s i k v F, n)

pub last_step : (s : State) (i v : ℕ) → among 0xF (may_stand s) ≡ true → v ≡ i → walk s i (word 0xF v ∷ []) false ≡ accepted
unfolding walk in_range pair_falls
last_step s i v m e = rw (no-fault s i 0xF v (record { stands = m; ranged = refl; others = rw (eq-eqb v i e) refl }))

-- ---- the tour and F

abbrev Accepted : State → ℕ → List Word → Type 0
Accepted s i ws = walk s i ws false ≡ accepted

tour-ok : (fs cs : List ℕ) (v r n d i : ℕ) (tour : List ℕ) (f : ℕ) → Passes (is_call n) tour → again cs tour ≡ false → f ≡ i + length tour
    → Accepted (behind_calls fs cs 0xE v r n d) i (call_words tour f)
unfolding may_stand in_range pair_falls
tour-ok fs cs v r n d i [] f a h e = last_step (behind_calls fs cs 0xE v r n d) i f refl (omega arith)
tour-ok fs cs v r n d i (c ∷ tour) f a h e =
    step (behind_calls fs cs 0xE v r n d) i 0xE c (call_words tour f) false refl
    (record { stands = refl; ranged = a.0; others = rw (or_left (among c cs) (again (c ∷ cs) tour) h) refl })
    ∙ tour-ok fs (c ∷ cs) c (suc r) n d (suc i) tour f a.1 (or_right (among c cs) (again (c ∷ cs) tour) h) (omega arith)

-- from a state that a tour may follow
tour-from : (fs : List ℕ) (k v r n d i : ℕ) (tour : List ℕ) (f : ℕ) → eqb 0xE k ≡ false
    → among 0xE (may_stand (behind_legs fs k v r n d)) ≡ true → among 0xF (may_stand (behind_legs fs k v r n d)) ≡ true
    → GoodTour n tour → f ≡ i + length tour → Accepted (behind_legs fs k v r n d) i (call_words tour f)
unfolding in_range pair_falls
tour-from fs k v r n d i [] f p m_e m_f C e = last_step (behind_legs fs k v r n d) i f m_f (omega arith)
tour-from fs k v r n d i (c ∷ tour) f p m_e m_f C e =
    step (behind_legs fs k v r n d) i 0xE c (call_words tour f) false refl
    (record { stands = m_e; ranged = C.each.0; others = refl })
    ∙ rw p (tour-ok fs (c ∷ []) c 1 n d (suc i) tour f C.each.1 (again-repeats (c ∷ tour) ∙ C.once) (omega arith))

-- ---- the tables

times-ok : (fs : List ℕ) (v r n d i : ℕ) (ts tour : List ℕ) (f : ℕ) → Passes is_leg ts → length fs ≡ length ts → disagree Some fs ts ≡ false → r + length ts ≡ n * n
    → GoodTour n tour → f ≡ i + length ts + length tour → Accepted (behind_legs fs 0xD v r n d) i (time_words ts tour f)
unfolding may_stand in_range pair_falls
times-ok fs v r n d i [] tour f a l w h C e =
    let full : ltb r (n * n) ≡ false = le-ltb r (n * n) (omega arith) in
    tour-from fs 0xD v r n d i tour f refl (rw full refl) (rw full refl) C (omega arith)
times-ok [] v r n d i (t ∷ ts) tour f a l w h C e = absurd (none-faced l)
  where
    none-faced : 0 ≡ suc (length ts) → ⊥
    none-faced z = omega arith
times-ok (x ∷ fs) v r n d i (t ∷ ts) tour f a l w h C e =
    step (behind_legs (x ∷ fs) 0xD v r n d) i 0xD t (time_words ts tour f) false refl
    (record { stands = rw (lt-ltb r (n * n) (omega arith)) refl; ranged = a.0; others = rw (or_left (closed_apart x t) (disagree Some fs ts) w) refl })
    ∙ times-ok fs t (suc r) n d (suc i) ts tour f a.1 (omega arith) (or_right (closed_apart x t) (disagree Some fs ts) w) (omega arith) C (omega arith)

-- the first time, behind the distances fs
times-from : (fs : List ℕ) (v r n d i t : ℕ) (ts tour : List ℕ) (f : ℕ) → r ≡ n * n → Passes is_leg (t ∷ ts) → length fs ≡ suc (length ts) → disagree Some fs (t ∷ ts) ≡ false
    → 1 + length ts ≡ n * n → GoodTour n tour → f ≡ i + suc (length ts) + length tour → Accepted (behind_legs fs 0xC v r n d) i (time_words (t ∷ ts) tour f)
unfolding may_stand in_range pair_falls
times-from [] v r n d i t ts tour f z a l w h C e = absurd (none-faced l)
  where
    none-faced : 0 ≡ suc (length ts) → ⊥
    none-faced z = omega arith
times-from (x ∷ fs) v r n d i t ts tour f z a l w h C e =
    step (behind_legs (x ∷ fs) 0xC v r n d) i 0xD t (time_words ts tour f) false refl
    (record { stands = rw (le-ltb r (n * n) (omega arith)) refl; ranged = a.0; others = rw (or_left (closed_apart x t) (disagree Some fs ts) w) refl })
    ∙ times-ok fs t 1 n d (suc i) ts tour f a.1 (omega arith) (or_right (closed_apart x t) (disagree Some fs ts) w) h C (omega arith)

-- the distances ds, behind the distances fs
distances-ok : (fs : List ℕ) (v n d i : ℕ) (ds ts tour : List ℕ) (f : ℕ) → 0 < n * n → Passes is_leg ds → length fs + length ds ≡ n * n → Passes is_leg ts → AsMany (n * n) ts
    → disagree Some (fs ++ ds) ts ≡ false → GoodTour n tour → f ≡ i + length ds + length ts + length tour
    → Accepted (behind_legs fs 0xC v (length fs) n d) i (table_words ds ts tour f)
unfolding may_stand in_range pair_falls
distances-ok fs v n d i [] [] tour f z a h at m w C e =
    let full : ltb (length fs) (n * n) ≡ false = le-ltb (length fs) (n * n) (omega arith) in
    tour-from fs 0xC v (length fs) n d i tour f refl (rw full refl) (rw full refl) C (omega arith)
distances-ok fs v n d i [] (t ∷ ts) tour f z a h at m w C e =
    times-from fs v (length fs) n d i t ts tour f (omega arith) at (omega (arith, many m)) (subst (λ (l : List ℕ). disagree Some l (t ∷ ts) ≡ false) (append-nil fs) w) (many m) C (omega arith)
  where
    many : AsMany (n * n) (t ∷ ts) → 1 + length ts ≡ n * n
    many (inl x) = absurd (cons≢nil x)
    many (inr x) = omega arith
distances-ok fs v n d i (c ∷ ds) ts tour f z a h at m w C e =
    step (behind_legs fs 0xC v (length fs) n d) i 0xC c (table_words ds ts tour f) false refl
    (record { stands = rw (lt-ltb (length fs) (n * n) (omega arith)) refl; ranged = a.0; others = refl })
    ∙ subst (λ (r : ℕ). Accepted (behind_legs (fs ++ (c ∷ [])) 0xC c r n d) (suc i) (table_words ds ts tour f)) one_more
    (distances-ok (fs ++ (c ∷ [])) c n d (suc i) ds ts tour f z a.1 (omega (arith, one_more)) at m
    (subst (λ (l : List ℕ). disagree Some l ts ≡ false) (sym (append_assoc fs (c ∷ []) ds)) w) C (omega arith))
  where
    one_more : length (fs ++ (c ∷ [])) ≡ suc (length fs)
    one_more = simp length-append (omega arith)

-- ---- a second capacity or demand

-- behind a word of kind k a 0 or a word of kind j may stand, and that kind behind the 0
pub record Seconds (j k v r n d : ℕ) : Type 0 where
  pub either : may_stand (behind_word k v r n d) ≡ 0 ∷ j ∷ []
  pub follows : behind_second (behind_word k v r n d) ≡ j
  pub apart : eqb j k ≡ false
  pub apart-0 : eqb j 0 ≡ false

-- in the head, where all customers are to come, and in a customer
pub seconds-head : (v r n : ℕ) → 1 ≤ n → Seconds 3 2 v r n (pred n)
unfolding may_stand
seconds-head v r n h = record { either = refl; follows = rw (eq-eqb (suc (pred n)) n (omega arith)) refl; apart = refl; apart-0 = refl }

pub seconds-customer : (v r n d : ℕ) → suc d < n → Seconds 8 7 v r n d
unfolding may_stand
seconds-customer v r n d h = record { either = refl; follows = rw (ne_eqb (suc d) n fewer) refl; apart = refl; apart-0 = refl }
  where
    fewer : suc d ≡ n → ⊥
    fewer e = omega arith

-- the range of the second, behind a word of kind k
abbrev pub second_range : ℕ → ℕ → Bool
second_range k m = cond (eqb k 2) (is_capacity m) (is_demand m)

-- what is left to show: the rest, which begins with a word of kind j, is accepted wherever that kind may stand
record Follows (j n d i : ℕ) (rest : List Word) : Type 0 where
  from : (k v r : ℕ) → eqb j k ≡ false → among j (may_stand (behind_word k v r n d)) ≡ true → Accepted (behind_word k v r n d) i rest

-- the same index, written otherwise
follows-at : {j n d a b : ℕ} {rest : List Word} → Follows j n d a rest → a ≡ b → Follows j n d b rest
follows-at {j} {n} {d} {rest} on e = subst (λ (q : ℕ). Follows j n d q rest) e on

second-ok : (b : Bool) (m j k v r n d i : ℕ) (rest : List Word) → Seconds j k v r n d → second_range k m ≡ true
    → Follows j n d (i + length (second_words b m)) rest → Accepted (behind_word k v r n d) i (second_words b m ++ rest)
unfolding may_stand in_range pair_falls
second-ok b m j k v r n d i rest S g on =
    rw (second_is b m) (go (second b m) (second-any (second_range k) b m g) (subst (λ (l : List Word). Follows j n d (i + length l) rest) (second_is b m) on))
  where
    same : eqb j j ≡ true
    same = eq-eqb j j refl

    go : (o : Option ℕ) → IfAny (second_range k) o → Follows j n d (i + length (optional 0 o)) rest → Accepted (behind_word k v r n d) i (optional 0 o ++ rest)
    go None p F = (follows-at {b = i} F (omega arith)).from k v r S.apart (rw (S.either, S.apart-0, same))
    go (Some x) p F =
        step (behind_word k v r n d) i 0 x rest false refl (record { stands = rw S.either refl; ranged = p; others = refl })
        ∙ (follows-at {b = suc i} F (omega arith)).from 0 x (cond (eqb 0 k) (suc r) 1) S.apart-0 (ap (λ (q : ℕ). among j (q ∷ [])) S.follows ∙ rw same refl)

-- ---- the customers

-- a kind, and how many of it in a row, behind which the next customer or the distances stand
pub record Ends (k r : ℕ) : Type 0 where
  pub on : (v n d : ℕ) → among (onward (behind_word k v r n d)) (may_stand (behind_word k v r n d)) ≡ true
  pub fresh : eqb 0xC k ≡ false

ends_by : (k r : ℕ) → eqb 0xC k ≡ false
    → ((v n d : ℕ) → eqb d 0 ≡ true → among (onward (behind_word k v r n d)) (may_stand (behind_word k v r n d)) ≡ true)
    → ((v n d : ℕ) → eqb d 0 ≡ false → among (onward (behind_word k v r n d)) (may_stand (behind_word k v r n d)) ≡ true) → Ends k r
ends_by k r h y z = record { on = λ v n d. by-test (eqb d 0) (y v n d) (z v n d); fresh = h }

pub ends-3 : Ends 3 1
unfolding may_stand
ends-3 = ends_by 3 1 refl (λ v n d e. rw e refl) (λ v n d e. rw e refl)

pub ends-4 : Ends 4 1
unfolding may_stand
ends-4 = ends_by 4 1 refl (λ v n d e. rw e refl) (λ v n d e. rw e refl)

pub ends-5 : Ends 5 1
unfolding may_stand
ends-5 = ends_by 5 1 refl (λ v n d e. rw e refl) (λ v n d e. rw e refl)

pub ends-6 : Ends 6 3
unfolding may_stand
ends-6 = ends_by 6 3 refl (λ v n d e. rw e refl) (λ v n d e. rw e refl)

pub ends-8 : Ends 8 1
unfolding may_stand
ends-8 = ends_by 8 1 refl (λ v n d e. rw e refl) (λ v n d e. rw e refl)

pub ends-A : Ends 0xA 1
unfolding may_stand
ends-A = ends_by 0xA 1 refl (λ v n d e. rw e refl) (λ v n d e. rw e refl)

pub ends-B : Ends 0xB 1
unfolding may_stand
ends-B = ends_by 0xB 1 refl (λ v n d e. rw e refl) (λ v n d e. rw e refl)

-- what is left to show: the rest is accepted wherever it begins
record Onward (n d i : ℕ) (rest : List Word) : Type 0 where
  from : (k v r : ℕ) → Ends k r → Accepted (behind_word k v r n d) i rest

-- the same index, written otherwise
at-index : {n d i j : ℕ} {rest : List Word} → Onward n d i rest → i ≡ j → Onward n d j rest
at-index {n} {d} {rest} on e = subst (λ (q : ℕ). Onward n d q rest) e on

penalty-ok : (p : Option ℕ) (k v n d i : ℕ) (rest : List Word) → IfAny is_penalty p → Ends k 1 → among 0xB (may_stand (behind_word k v 1 n d)) ≡ true
    → Onward n d (i + length (optional 0xB p)) rest → eqb 0xB k ≡ false → Accepted (behind_word k v 1 n d) i (optional 0xB p ++ rest)
unfolding in_range pair_falls
penalty-ok None k v n d i rest g E m on h = (at-index {j = i} on (omega arith)).from k v 1 E
penalty-ok (Some p) k v n d i rest g E m on h =
    step (behind_word k v 1 n d) i 0xB p rest false refl (record { stands = m; ranged = g; others = refl }) ∙ rw h ((at-index {j = suc i} on (omega arith)).from 0xB p 1 ends-B)

-- behind an 8: window and penalty
inner-ok : (w : Option Window) (p : Option ℕ) (v n d i : ℕ) (rest : List Word) → Holds GoodWindow w → IfAny is_penalty p
    → Onward n d (i + length (window_words w) + length (optional 0xB p)) rest → Accepted (behind_word 8 v 1 n d) i (window_words w ++ (optional 0xB p ++ rest))
unfolding may_stand in_range pair_falls
inner-ok None p v n d i rest g h on = penalty-ok p 8 v n d i rest h ends-8 refl (at-index on (omega arith)) refl
inner-ok (Some w) p v n d i rest g h on =
    step (behind_word 8 v 1 n d) i 9 w.ready (word 0xA w.due ∷ (optional 0xB p ++ rest)) false refl (record { stands = refl; ranged = g.ready; others = refl })
    ∙ step (behind_word 9 w.ready 1 n d) (suc i) 0xA w.due (optional 0xB p ++ rest) false refl (record { stands = refl; ranged = g.due; others = rw g.rises refl })
    ∙ penalty-ok p 0xA w.due n d (suc (suc i)) rest h ends-A refl (at-index on (omega arith)) refl

seven-next : (k v r n d : ℕ) → Ends k r → among 7 (may_stand (behind_word k v r n (suc d))) ≡ true
seven-next k v r n d E =
    let s = behind_word k v r n (suc d) in
    let seven : onward s ≡ 7 = rw (eqb-suc-zero d) refl in
    sym (ap (λ (j : ℕ). among j (may_stand s)) seven) ∙ E.on v n (suc d)

-- the words of a customer and the rest; and the index of the rest, where they begin at index i
abbrev pub customer_then : Bool → Customer → List Word → List Word
customer_then b c rest =
    word 7 c.demand.seats ∷ (second_words b c.demand.wheelchairs ++ (word 8 c.service ∷ (window_words c.window ++ (optional 0xB c.penalty ++ rest))))

abbrev pub behind_customer : Bool → Customer → ℕ → ℕ
behind_customer b c i = suc (suc i + length (second_words b c.demand.wheelchairs)) + length (window_words c.window) + length (optional 0xB c.penalty)

pub customer-then : (said : List Bool) (c : Customer) (cs : List Customer) (rest : List Word)
    → customer_words said (c ∷ cs) ++ rest ≡ customer_then (is_said said) c (customer_words (tail said) cs ++ rest)
customer-then said c cs rest = simp append_assoc

pub behind-customer : (said : List Bool) (c : Customer) (cs : List Customer) (i : ℕ)
    → i + length (customer_words said (c ∷ cs)) ≡ behind_customer (is_said said) c i + length (customer_words (tail said) cs)
behind-customer said c cs i = simp length-append (omega arith)

customer-ok : (b : Bool) (c : Customer) (k v r n d i : ℕ) (rest : List Word) → suc d < n → GoodCustomer c → Ends k r
    → Onward n d (behind_customer b c i) rest → Accepted (behind_word k v r n (suc d)) i (customer_then b c rest)
unfolding may_stand in_range pair_falls
customer-ok b c k v r n d i rest l g E on =
    step (behind_word k v r n (suc d)) i 7 c.demand.seats (second_words b c.demand.wheelchairs ++ serviced) false refl
    (record { stands = seven-next k v r n d E; ranged = demand.0; others = refl })
    ∙ second-ok b c.demand.wheelchairs 8 7 c.demand.seats row n d (suc i) serviced
    (seconds-customer c.demand.seats row n d l) demand.1 (record { from = from-service })
  where
    demand : (is_demand c.demand.seats ≡ true) × (is_demand c.demand.wheelchairs ≡ true)
    demand = both (is_demand c.demand.seats) (is_demand c.demand.wheelchairs) g.demand

    row : ℕ
    row = cond (eqb 7 k) (suc r) 1

    inner : List Word
    inner = window_words c.window ++ (optional 0xB c.penalty ++ rest)

    serviced : List Word
    serviced = word 8 c.service ∷ inner

    -- the index of the 8
    at8 : ℕ
    at8 = suc i + length (second_words b c.demand.wheelchairs)

    from-service : (k v r : ℕ) → eqb 8 k ≡ false → among 8 (may_stand (behind_word k v r n d)) ≡ true → Accepted (behind_word k v r n d) at8 serviced
    from-service k v r h m =
        step (behind_word k v r n d) at8 8 c.service inner false refl (record { stands = m; ranged = g.service; others = refl })
        ∙ rw h (inner-ok c.window c.penalty c.service n d (suc at8) rest g.window g.penalty on)

customers-ok : (said : List Bool) (cs : List Customer) (k v r n i : ℕ) (rest : List Word) → length cs < n → All GoodCustomer cs → Ends k r
    → Onward n 0 (i + length (customer_words said cs)) rest → Accepted (behind_word k v r n (length cs)) i (customer_words said cs ++ rest)
customers-ok said [] k v r n i rest l g E on = (at-index {j = i} on (omega arith)).from k v r E
customers-ok said (c ∷ cs) k v r n i rest l g E on =
    ap (λ (ws : List Word). walk (behind_word k v r n (suc (length cs))) i ws false) (customer-then said c cs rest)
    ∙ customer-ok (is_said said) c k v r n (length cs) i (customer_words (tail said) cs ++ rest) l g.0 E
    (record { from = λ k' v' r' E'. customers-ok (tail said) cs k' v' r' n (behind_customer (is_said said) c i) rest (omega arith) g.1 E' (at-index on (behind-customer said c cs i)) })

-- ---- all but the three first words

tables-ok : (k v r n i : ℕ) (ds ts tour : List ℕ) (f : ℕ) → Ends k r → 0 < n * n → Passes is_leg ds → length ds ≡ n * n → Passes is_leg ts → AsMany (n * n) ts
    → disagree Some ds ts ≡ false → GoodTour n tour → f ≡ i + length ds + length ts + length tour → Accepted (behind_word k v r n 0) i (table_words ds ts tour f)
unfolding in_range pair_falls
tables-ok k v r n i [] ts tour f E z a h at m w C e = absurd (none-due z h)
  where
    none-due : 0 < n * n → 0 ≡ n * n → ⊥
    none-due x y = omega arith
tables-ok k v r n i (c ∷ ds) ts tour f E z a h at m w C e =
    step (behind_word k v r n 0) i 0xC c (table_words ds ts tour f) false refl (record { stands = E.on v n 0; ranged = a.0; others = refl })
    ∙ rw E.fresh (distances-ok (c ∷ []) c n 0 (suc i) ds ts tour f z a.1 (omega arith) at m w C (omega arith))

break-ok : (b : Option Break) (k v n d i : ℕ) (rest : List Word) → Holds GoodBreak b → Ends k 1 → among 6 (may_stand (behind_word k v 1 n d)) ≡ true
    → eqb 6 k ≡ false → eqb k 6 ≡ false → Onward n d (i + length (break_words b)) rest → Accepted (behind_word k v 1 n d) i (break_words b ++ rest)
unfolding may_stand in_range pair_falls
break-ok None k v n d i rest g E m h h' on = (at-index {j = i} on (omega arith)).from k v 1 E
break-ok (Some b) k v n d i rest g E m h h' on =
    step (behind_word k v 1 n d) i 6 b.earliest (word 6 b.latest ∷ word 6 b.duration ∷ rest) false refl (record { stands = m; ranged = g.earliest; others = rw h' refl })
    ∙ rw h
    (step (behind_word 6 b.earliest 1 n d) (suc i) 6 b.latest (word 6 b.duration ∷ rest) false refl (record { stands = refl; ranged = g.latest; others = rw g.rises refl })
    ∙ step (behind_word 6 b.latest 2 n d) (suc (suc i)) 6 b.duration rest false refl (record { stands = refl; ranged = g.duration; others = refl })
    ∙ (at-index {j = suc (suc (suc i))} on (omega arith)).from 6 b.duration 3 ends-6)

limits-ok : (dl tl : Option ℕ) (br : Option Break) (v n d i : ℕ) (rest : List Word) → IfAny is_number dl → IfAny is_number tl → Holds GoodBreak br
    → Onward n d (i + length (optional 4 dl) + length (optional 5 tl) + length (break_words br)) rest → Accepted (behind_word 3 v 1 n d) i (limit_words dl tl br rest)
unfolding may_stand in_range pair_falls
limits-ok None None br v n d i rest a b g on = break-ok br 3 v n d i rest g ends-3 refl refl refl (at-index on (omega arith))
limits-ok None (Some t) br v n d i rest a b g on =
    step (behind_word 3 v 1 n d) i 5 t (break_words br ++ rest) false refl (record { stands = refl; ranged = b; others = refl })
    ∙ break-ok br 5 t n d (suc i) rest g ends-5 refl refl refl (at-index on (omega arith))
limits-ok (Some l) None br v n d i rest a b g on =
    step (behind_word 3 v 1 n d) i 4 l (break_words br ++ rest) false refl (record { stands = refl; ranged = a; others = refl })
    ∙ break-ok br 4 l n d (suc i) rest g ends-4 refl refl refl (at-index on (omega arith))
limits-ok (Some l) (Some t) br v n d i rest a b g on =
    step (behind_word 3 v 1 n d) i 4 l (word 5 t ∷ (break_words br ++ rest)) false refl (record { stands = refl; ranged = a; others = refl })
    ∙ step (behind_word 4 l 1 n d) (suc i) 5 t (break_words br ++ rest) false refl (record { stands = refl; ranged = b; others = refl })
    ∙ break-ok br 5 t n d (suc (suc i)) rest g ends-5 refl refl refl (at-index on (omega arith))

-- ---- the whole sheet

-- how many words stand before the 3, before the customers' words, before the tables, and before F
abbrev fixed_at : List Bool → Sheet → ℕ
fixed_at said s = 2 + length (second_words (is_said said) s.head.capacity.wheelchairs)

abbrev limits_end : List Bool → Sheet → ℕ
limits_end said s = suc (fixed_at said s) + length (optional 4 s.head.max_distance) + length (optional 5 s.head.max_duration) + length (break_words s.head.rest)

abbrev customers_end : List Bool → Sheet → ℕ
customers_end said s = limits_end said s + length (customer_words (tail said) (others s))

abbrev pub word_count : List Bool → Sheet → List ℕ → ℕ
word_count said s tour = customers_end said s + length s.legs.distances + length s.legs.times + length tour

pub all-ok : (said : List Bool) (s : Sheet) (tour : List ℕ) → GoodSheet s → GoodTour s.head.places tour
    → walk start 0 (all_words said s tour (word_count said s tour)) false ≡ accepted
unfolding may_stand in_range pair_falls
all-ok said s tour G C =
    step start 0 1 n (word 2 s.head.capacity.seats ∷ behind_seats said s tour f) false refl (record { stands = refl; ranged = G.places; others = refl })
    ∙ step (behind_word 1 n 1 n (pred n)) 1 2 s.head.capacity.seats (behind_seats said s tour f) false refl (record { stands = refl; ranged = capacity.0; others = refl })
    ∙ second-ok (is_said said) s.head.capacity.wheelchairs 3 2 s.head.capacity.seats 1 n (pred n) 2 fixed
    (seconds-head s.head.capacity.seats 1 n some-place) capacity.1 (record { from = from-fixed })
  where
    n : ℕ
    n = s.head.places

    f : ℕ
    f = word_count said s tour

    capacity : (is_capacity s.head.capacity.seats ≡ true) × (is_capacity s.head.capacity.wheelchairs ≡ true)
    capacity = both (is_capacity s.head.capacity.seats) (is_capacity s.head.capacity.wheelchairs) G.capacity

    fixed : List Word
    fixed = word 3 s.head.fixed ∷ from_limits said s tour f

    some-place : 1 ≤ n
    some-place = leb-true 1 n (and_left (leb 1 n) (leb n 64) G.places)

    from-tables : Onward n 0 (customers_end said s) (table_words s.legs.distances s.legs.times tour f)
    from-tables = record {
      from = λ k v r E.
          tables-ok k v r n (customers_end said s) s.legs.distances s.legs.times tour f
          E (mul-le-mul some-place some-place) G.distances G.square G.times G.as_many G.alike C refl;
    }

    others-counted : length (others s) ≡ pred n
    others-counted = omega (arith, G.counted, ap length G.first)

    from-customers : Onward n (pred n) (limits_end said s) (from_customers said s tour f)
    from-customers = record {
      from = λ k v r E.
          subst (λ (d : ℕ). Accepted (behind_word k v r n d) (limits_end said s) (from_customers said s tour f)) others-counted
          (customers-ok (tail said) (others s) k v r n (limits_end said s) (table_words s.legs.distances s.legs.times tour f)
          (omega (arith, others-counted, some-place)) G.customers E from-tables);
    }

    from-fixed : (k v r : ℕ) → eqb 3 k ≡ false → among 3 (may_stand (behind_word k v r n (pred n))) ≡ true
        → Accepted (behind_word k v r n (pred n)) (fixed_at said s) fixed
    from-fixed k v r h m =
        step (behind_word k v r n (pred n)) (fixed_at said s) 3 s.head.fixed (from_limits said s tour f) false refl (record { stands = m; ranged = G.fixed; others = refl })
        ∙ rw h (limits-ok s.head.max_distance s.head.max_duration s.head.rest s.head.fixed n (pred n) (suc (fixed_at said s)) (from_customers said s tour f)
        G.max_distance G.max_duration G.rest from-customers)
