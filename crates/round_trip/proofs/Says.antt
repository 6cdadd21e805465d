-- What the words of a sheet and its tour say is that sheet and that tour.
use Prim.Native.Nat.{ℕ, zero, suc}
use mathlib.Core.Path.{◌≡◌, refl, sym, ap, ◌∙◌}
use mathlib.Core.Bool.{Bool, true, false}
use mathlib.Core.List.{List, [], ◌∷◌, ◌++◌, map, append_assoc, append-nil, cons≢nil, tail}
use Rattle.std.specs.Prelude.{Option, None, Some}
use lib.ListN.{length}
use lib.Dec.{eqb}
use borrow.Author.Tests.{eq-eqb}
use Rattle.basics.proofs.TestLaws.{by-test}
use Rattle.basics.specs.Options.{value_or, IfAny}
use Rattle.definitions.specs.Load.{Load}
use Rattle.definitions.specs.Sheet.{Sheet, Window, Break, Customer, depot}
use Rattle.definitions.specs.Words.{Word, word}
use Rattle.definitions.specs.Encoding.{optional, is_said, second_words, break_words, window_words, customer_words, body_words, encode}
use Rattle.definitions.specs.Reader.{values_of, first_of, own, window_of, break_of, load_of, customer_of, customers_of, sheet_of, tour_of}

-- ---- the values of a kind

pub values-append : (k : ℕ) (xs ys : List Word) → values_of k (xs ++ ys) ≡ values_of k xs ++ values_of k ys
values-append k [] ys = refl
values-append k (w ∷ ws) ys =
    by-test (eqb w.kind k)
    (λ t. rw t (ap (λ (l : List ℕ). w.value ∷ l) (values-append k ws ys)))
    (λ n. rw n (values-append k ws ys))

-- none of the words is of kind k
abbrev pub Lacks : ℕ → List Word → Type 0
Lacks k ws = values_of k ws ≡ []

-- words that lack a kind are skipped, in front and behind
skip : (k : ℕ) (xs ys : List Word) → Lacks k xs → values_of k (xs ++ ys) ≡ values_of k ys
skip k xs ys h = rw (values-append k xs ys, h)

stop : (k : ℕ) (xs ys : List Word) → Lacks k ys → values_of k (xs ++ ys) ≡ values_of k xs
stop k xs ys h = rw (values-append k xs ys, h) (append-nil (values_of k xs))

lacks-append : (k : ℕ) (xs ys : List Word) → Lacks k xs → Lacks k ys → Lacks k (xs ++ ys)
lacks-append k xs ys h g = skip k xs ys h ∙ g

values-row : (k : ℕ) (vs : List ℕ) → values_of k (map (word k) vs) ≡ vs
values-row k [] = refl
values-row k (v ∷ vs) = rw (eq-eqb k k refl) (ap (λ (l : List ℕ). v ∷ l) (values-row k vs))

values_other : (j k : ℕ) (vs : List ℕ) → eqb j k ≡ false → Lacks k (map (word j) vs)
values_other j k [] h = refl
values_other j k (v ∷ vs) h = rw h (values_other j k vs h)

values-optional : (k : ℕ) (o : Option ℕ) → first_of (values_of k (optional k o)) ≡ o
values-optional k None = refl
values-optional k (Some v) = rw (eq-eqb k k refl) refl

other-optional : (j k : ℕ) (o : Option ℕ) → eqb j k ≡ false → Lacks k (optional j o)
other-optional j k None h = refl
other-optional j k (Some v) h = rw h refl

other-break : (k : ℕ) (b : Option Break) → eqb 6 k ≡ false → Lacks k (break_words b)
other-break k None h = refl
other-break k (Some b) h = rw h refl

other-window : (k : ℕ) (w : Option Window) → eqb 9 k ≡ false → eqb 0xA k ≡ false → Lacks k (window_words w)
other-window k None h g = refl
other-window k (Some w) h g = rw (h, g) refl

-- a second capacity or demand is a word that may be there: it is there where it is said or is not 0
abbrev pub second : Bool → ℕ → Option ℕ
second true n = Some n
second false zero = None
second false (suc n) = Some (suc n)

pub second_is : (b : Bool) (n : ℕ) → second_words b n ≡ optional 0 (second b n)
second_is true n = refl
second_is false zero = refl
second_is false (suc n) = refl

second-value : (b : Bool) (n : ℕ) → value_or 0 (second b n) ≡ n
second-value true n = refl
second-value false zero = refl
second-value false (suc n) = refl

-- what a number passes, it passes as such a word
pub second-any : (p : ℕ → Bool) (b : Bool) (n : ℕ) → p n ≡ true → IfAny p (second b n)
second-any p true n h = h
second-any p false zero h = tt
second-any p false (suc n) h = h

other-second : (k : ℕ) (b : Bool) (n : ℕ) → eqb 0 k ≡ false → Lacks k (second_words b n)
other-second k b n h = rw (second_is b n) (other-optional 0 k (second b n) h)

-- the words of a customer behind its 8, and behind its 7
abbrev inner : Customer → List Word
inner c = window_words c.window ++ optional 0xB c.penalty

abbrev behind_seven : Bool → Customer → List Word
behind_seven b c = second_words b c.demand.wheelchairs ++ (word 8 c.service ∷ inner c)

-- a kind that none of the words behind its 7 has
abbrev Strange : ℕ → Type 0
Strange k = (eqb 0 k ≡ false) × (eqb 8 k ≡ false) × (eqb 9 k ≡ false) × (eqb 0xA k ≡ false) × (eqb 0xB k ≡ false)

other-seven : (k : ℕ) (b : Bool) (c : Customer) → Strange k → Lacks k (behind_seven b c)
other-seven k b c h =
    lacks-append k (second_words b c.demand.wheelchairs) (word 8 c.service ∷ inner c) (other-second k b c.demand.wheelchairs h.0)
    (rw h.1 (lacks-append k (window_words c.window) (optional 0xB c.penalty) (other-window k c.window h.2 h.3) (other-optional 0xB k c.penalty h.4)))

customer-is : (said : List Bool) (c : Customer) (cs : List Customer) (t : List Word)
    → customer_words said (c ∷ cs) ++ t ≡ word 7 c.demand.seats ∷ (behind_seven (is_said said) c ++ (customer_words (tail said) cs ++ t))
customer-is said c cs t = simp append_assoc

other-customers : (k : ℕ) (said : List Bool) (cs : List Customer) → eqb 7 k ≡ false → Strange k → Lacks k (customer_words said cs)
other-customers k said [] s h = refl
other-customers k said (c ∷ cs) s h =
    ap (values_of k) (sym (append-nil (customer_words said (c ∷ cs))) ∙ customer-is said c cs [])
    ∙ rw s (lacks-append k (behind_seven (is_said said) c) (customer_words (tail said) cs ++ []) (other-seven k (is_said said) c h)
    (lacks-append k (customer_words (tail said) cs) [] (other-customers k (tail said) cs s h) refl))

-- ---- the customers

lacks-head : (k : ℕ) (w : Word) (ws : List Word) → Lacks k (w ∷ ws) → eqb w.kind k ≡ false
lacks-head k w ws h = by-test (eqb w.kind k) (λ t. absurd (cons≢nil (rw t at h))) (λ n. n)

lacks-tail : (k : ℕ) (w : Word) (ws : List Word) → Lacks k (w ∷ ws) → Lacks k ws
lacks-tail k w ws h = rw (lacks-head k w ws h) at h

customers-skip : (xs ys : List Word) → Lacks 7 xs → customers_of (xs ++ ys) ≡ customers_of ys
customers-skip [] ys h = refl
customers-skip (x ∷ xs) ys h = rw (lacks-head 7 x xs h) (customers-skip xs ys (lacks-tail 7 x xs h))

own-through : (xs ys : List Word) → Lacks 7 xs → own (xs ++ ys) ≡ xs ++ own ys
own-through [] ys h = refl
own-through (x ∷ xs) ys h = rw (lacks-head 7 x xs h) (ap (λ (l : List Word). x ∷ l) (own-through xs ys (lacks-tail 7 x xs h)))

own-skip : (k : ℕ) (xs ys : List Word) → Lacks 7 xs → Lacks k xs → values_of k (own (xs ++ ys)) ≡ values_of k (own ys)
own-skip k xs ys h g = ap (values_of k) (own-through xs ys h) ∙ skip k xs (own ys) g

own-all : (ws : List Word) → Lacks 7 ws → own ws ≡ ws
own-all ws h = ap own (sym (append-nil ws)) ∙ own-through ws [] h ∙ append-nil ws

-- words without a customer's
pub record Past (ws : List Word) : Type 0 where
  pub no0 : Lacks 0 ws
  pub no7 : Lacks 7 ws
  pub no8 : Lacks 8 ws
  pub no9 : Lacks 9 ws
  pub no_a : Lacks 0xA ws
  pub no_b : Lacks 0xB ws

own-lacks : (k : ℕ) (said : List Bool) (cs : List Customer) (t : List Word) → Lacks 7 t → Lacks k t → Lacks k (own (customer_words said cs ++ t))
own-lacks k said [] t h g = ap (values_of k) (own-all t h) ∙ g
own-lacks k said (c ∷ cs) t h g = refl

-- a customer's own words end where the next customer's begin
own-past : (said : List Bool) (cs : List Customer) (t : List Word) → Past t → Past (own (customer_words said cs ++ t))
own-past said cs t P =
    record {
      no0 = own-lacks 0 said cs t P.no7 P.no0;
      no7 = own-lacks 7 said cs t P.no7 P.no7;
      no8 = own-lacks 8 said cs t P.no7 P.no8;
      no9 = own-lacks 9 said cs t P.no7 P.no9;
      no_a = own-lacks 0xA said cs t P.no7 P.no_a;
      no_b = own-lacks 0xB said cs t P.no7 P.no_b;
    }

-- a load: the words before the next customer are those of its second part, and others that are of another kind
load_said : (b : Bool) (load : Load) (ws ys : List Word) → values_of 0 (own ws) ≡ values_of 0 (second_words b load.wheelchairs ++ ys) → Lacks 0 ys
    → load_of load.seats ws ≡ load
load_said b load ws ys e h = λ i. record { seats = load.seats; wheelchairs = wheelchairs i }
  where
    wheelchairs : value_or 0 (first_of (values_of 0 (own ws))) ≡ load.wheelchairs
    wheelchairs =
        ap (λ (l : List ℕ). value_or 0 (first_of l))
        (e ∙ stop 0 (second_words b load.wheelchairs) ys h ∙ ap (values_of 0) (second_is b load.wheelchairs))
        ∙ ap (value_or 0) (values-optional 0 (second b load.wheelchairs))
        ∙ second-value b load.wheelchairs

one-customer : (b : Bool) (c : Customer) (ys : List Word) → Past ys → customer_of c.demand.seats (behind_seven b c ++ ys) ≡ c
one-customer b c ys P =
    λ i. record { demand = demand i; service = service i; window = window i; penalty = penalty i }
  where
    -- behind the second demand
    behind : List Word
    behind = word 8 c.service ∷ (inner c ++ ys)

    whole : behind_seven b c ++ ys ≡ second_words b c.demand.wheelchairs ++ behind
    whole = append_assoc (second_words b c.demand.wheelchairs) (word 8 c.service ∷ inner c) ys

    past-second : (k : ℕ) → eqb 0 k ≡ false → values_of k (behind_seven b c ++ ys) ≡ values_of k behind
    past-second k h = ap (values_of k) whole ∙ skip k (second_words b c.demand.wheelchairs) behind (other-second k b c.demand.wheelchairs h)

    seven-lacks : Lacks 7 (behind_seven b c ++ ys)
    seven-lacks = lacks-append 7 (behind_seven b c) ys (other-seven 7 b c (refl, refl, refl, refl, refl)) P.no7

    inner-lacks : Lacks 0 (inner c)
    inner-lacks = lacks-append 0 (window_words c.window) (optional 0xB c.penalty) (other-window 0 c.window refl refl) (other-optional 0xB 0 c.penalty refl)

    demand : load_of c.demand.seats (behind_seven b c ++ ys) ≡ c.demand
    demand =
        load_said b c.demand (behind_seven b c ++ ys) behind (ap (values_of 0) (own-all (behind_seven b c ++ ys) seven-lacks ∙ whole))
        (lacks-append 0 (inner c) ys inner-lacks P.no0)

    service : value_or 0 (first_of (values_of 8 (behind_seven b c ++ ys))) ≡ c.service
    service = ap (λ (l : List ℕ). value_or 0 (first_of l)) (past-second 8 refl)

    window-of : (w : Option Window) (p : Option ℕ)
        → window_of (values_of 9 ((window_words w ++ optional 0xB p) ++ ys)) (values_of 0xA ((window_words w ++ optional 0xB p) ++ ys)) ≡ w
    window-of None None = rw P.no9 refl
    window-of None (Some p) = rw P.no9 refl
    window-of (Some w) None = refl
    window-of (Some w) (Some p) = refl

    window : window_of (values_of 9 (behind_seven b c ++ ys)) (values_of 0xA (behind_seven b c ++ ys)) ≡ c.window
    window = rw (past-second 9 refl, past-second 0xA refl) (window-of c.window c.penalty)

    penalty-of : (w : Option Window) (p : Option ℕ) → first_of (values_of 0xB ((window_words w ++ optional 0xB p) ++ ys)) ≡ p
    penalty-of None None = rw P.no_b refl
    penalty-of None (Some p) = refl
    penalty-of (Some w) None = rw P.no_b refl
    penalty-of (Some w) (Some p) = refl

    penalty : first_of (values_of 0xB (behind_seven b c ++ ys)) ≡ c.penalty
    penalty = ap first_of (past-second 0xB refl) ∙ penalty-of c.window c.penalty

pub customers-said : (said : List Bool) (cs : List Customer) (t : List Word) → Past t → customers_of (customer_words said cs ++ t) ≡ cs
customers-said said [] t P = ap customers_of (sym (append-nil t)) ∙ customers-skip t [] P.no7
customers-said said (c ∷ cs) t P =
    let b = is_said said in
    let rest = customer_words (tail said) cs ++ t in
    let no7 = other-seven 7 b c (refl, refl, refl, refl, refl) in
    ap customers_of (customer-is said c cs t)
    ∙ rw (own-through (behind_seven b c) rest no7, customers-skip (behind_seven b c) rest no7, customers-said (tail said) cs t P)
    (ap (λ (d : Customer). d ∷ cs) (one-customer b c (own rest) (own-past (tail said) cs t P)))

-- ---- the sheet

-- the words from the calls on, where F has the value f; from the times on; from the distances on
abbrev pub call_words : List ℕ → ℕ → List Word
call_words tour f = map (word 0xE) tour ++ (word 0xF f ∷ [])

abbrev pub time_words : List ℕ → List ℕ → ℕ → List Word
time_words ts tour f = map (word 0xD) ts ++ call_words tour f

abbrev pub table_words : List ℕ → List ℕ → List ℕ → ℕ → List Word
table_words ds ts tour f = map (word 0xC) ds ++ time_words ts tour f

-- the words between the three first and the customers
abbrev pub limit_words : Option ℕ → Option ℕ → Option Break → List Word → List Word
limit_words dl tl br rest = optional 4 dl ++ (optional 5 tl ++ (break_words br ++ rest))

-- the customers behind the depot: those that have words
abbrev pub others : Sheet → List Customer
others s = tail s.customers

-- the words of a sheet and its tour, where F has the value f: from the customers on, from the limits on, behind the seats, and all of them
abbrev pub from_customers : List Bool → Sheet → List ℕ → ℕ → List Word
from_customers said s tour f = customer_words (tail said) (others s) ++ table_words s.legs.distances s.legs.times tour f

abbrev pub from_limits : List Bool → Sheet → List ℕ → ℕ → List Word
from_limits said s tour f = limit_words s.head.max_distance s.head.max_duration s.head.rest (from_customers said s tour f)

abbrev pub behind_seats : List Bool → Sheet → List ℕ → ℕ → List Word
behind_seats said s tour f = second_words (is_said said) s.head.capacity.wheelchairs ++ (word 3 s.head.fixed ∷ from_limits said s tour f)

abbrev pub all_words : List Bool → Sheet → List ℕ → ℕ → List Word
all_words said s tour f = word 1 s.head.places ∷ word 2 s.head.capacity.seats ∷ behind_seats said s tour f

pub encode-is : (said : List Bool) (s : Sheet) (tour : List ℕ) → encode said s tour ≡ all_words said s tour (length (body_words said s tour))
unfolding encode body_words
encode-is said s tour = simp append_assoc

-- the limits' words alone
abbrev limits : Option ℕ → Option ℕ → Option Break → List Word
limits dl tl br = optional 4 dl ++ (optional 5 tl ++ break_words br)

limits-then : (dl tl : Option ℕ) (br : Option Break) (rest : List Word) → limit_words dl tl br rest ≡ limits dl tl br ++ rest
limits-then dl tl br rest = simp append_assoc

limits-lack : (k : ℕ) (dl tl : Option ℕ) (br : Option Break) → eqb 4 k ≡ false → eqb 5 k ≡ false → eqb 6 k ≡ false → Lacks k (limits dl tl br)
limits-lack k dl tl br a b c =
    lacks-append k (optional 4 dl) (optional 5 tl ++ break_words br) (other-optional 4 k dl a)
    (lacks-append k (optional 5 tl) (break_words br) (other-optional 5 k tl b) (other-break k br c))

calls-lack : (k : ℕ) (tour : List ℕ) (f : ℕ) → eqb 0xE k ≡ false → eqb 0xF k ≡ false → Lacks k (call_words tour f)
calls-lack k tour f e h = lacks-append k (map (word 0xE) tour) (word 0xF f ∷ []) (values_other 0xE k tour e) (rw h refl)

tables-lack : (k : ℕ) (ds ts tour : List ℕ) (f : ℕ) → eqb 0xC k ≡ false → eqb 0xD k ≡ false → eqb 0xE k ≡ false → eqb 0xF k ≡ false → Lacks k (table_words ds ts tour f)
tables-lack k ds ts tour f c d e h =
    lacks-append k (map (word 0xC) ds) (time_words ts tour f) (values_other 0xC k ds c)
    (lacks-append k (map (word 0xD) ts) (call_words tour f) (values_other 0xD k ts d) (calls-lack k tour f e h))

tables-past : (ds ts tour : List ℕ) (f : ℕ) → Past (table_words ds ts tour f)
tables-past ds ts tour f =
    record {
      no0 = tables-lack 0 ds ts tour f refl refl refl refl;
      no7 = tables-lack 7 ds ts tour f refl refl refl refl;
      no8 = tables-lack 8 ds ts tour f refl refl refl refl;
      no9 = tables-lack 9 ds ts tour f refl refl refl refl;
      no_a = tables-lack 0xA ds ts tour f refl refl refl refl;
      no_b = tables-lack 0xB ds ts tour f refl refl refl refl;
    }

break-said : (b : Option Break) → break_of (values_of 6 (break_words b)) ≡ b
break-said None = refl
break-said (Some b) = refl

module _ (said : List Bool) (s : Sheet) (tour : List ℕ) (f : ℕ) where
  abbrev tables : List Word
  tables = table_words s.legs.distances s.legs.times tour f

  abbrev rest : List Word
  rest = from_customers said s tour f

  abbrev limited : List Word
  limited = from_limits said s tour f

  abbrev headed : List Word
  headed = behind_seats said s tour f

  abbrev second_capacity : List Word
  second_capacity = second_words (is_said said) s.head.capacity.wheelchairs

  abbrev customers : List Word
  customers = customer_words (tail said) (others s)

  abbrev limits_here : List Word
  limits_here = limits s.head.max_distance s.head.max_duration s.head.rest

  limited-is : limited ≡ limits_here ++ rest
  limited-is = limits-then s.head.max_distance s.head.max_duration s.head.rest rest

  here-lacks : (k : ℕ) → eqb 4 k ≡ false → eqb 5 k ≡ false → eqb 6 k ≡ false → Lacks k limits_here
  here-lacks k = limits-lack k s.head.max_distance s.head.max_duration s.head.rest

  second-lacks : (k : ℕ) → eqb 0 k ≡ false → Lacks k second_capacity
  second-lacks k = other-second k (is_said said) s.head.capacity.wheelchairs

  -- a kind that stands behind the fixed cost
  to-limits : (k : ℕ) → eqb 0 k ≡ false → eqb 3 k ≡ false → values_of k headed ≡ values_of k limited
  to-limits k z h = skip k second_capacity (word 3 s.head.fixed ∷ limited) (second-lacks k z) ∙ rw h refl

  rest-lacks : (k : ℕ) → eqb 7 k ≡ false → Strange k → eqb 0xC k ≡ false → eqb 0xD k ≡ false → eqb 0xE k ≡ false → eqb 0xF k ≡ false → Lacks k rest
  rest-lacks k g h c d e n = lacks-append k customers tables (other-customers k (tail said) (others s) g h) (tables-lack k s.legs.distances s.legs.times tour f c d e n)

  -- a kind of the tables
  to-tables : (k : ℕ) → eqb 3 k ≡ false → eqb 4 k ≡ false → eqb 5 k ≡ false → eqb 6 k ≡ false → eqb 7 k ≡ false → Strange k → values_of k headed ≡ values_of k tables
  to-tables k z a b c g h =
      to-limits k h.0 z
      ∙ ap (values_of k) limited-is
      ∙ skip k limits_here rest (here-lacks k a b c)
      ∙ skip k customers tables (other-customers k (tail said) (others s) g h)

  past-tables : Past tables
  past-tables = tables-past s.legs.distances s.legs.times tour f

  capacity-said : load_of s.head.capacity.seats (all_words said s tour f) ≡ s.head.capacity
  capacity-said =
      load_said (is_said said) s.head.capacity (all_words said s tour f) (own (word 3 s.head.fixed ∷ limited))
      (ap (values_of 0) (own-through second_capacity (word 3 s.head.fixed ∷ limited) (second-lacks 7 refl)))
      (ap (λ (l : List Word). values_of 0 (own l)) limited-is
      ∙ own-skip 0 limits_here rest (here-lacks 7 refl refl refl) (here-lacks 0 refl refl refl)
      ∙ (own-past (tail said) (others s) tables past-tables).no0)

  fixed-said : value_or 0 (first_of (values_of 3 headed)) ≡ s.head.fixed
  fixed-said = ap (λ (l : List ℕ). value_or 0 (first_of l)) (skip 3 second_capacity (word 3 s.head.fixed ∷ limited) (second-lacks 3 refl))

  distance-limit-said : first_of (values_of 4 headed) ≡ s.head.max_distance
  distance-limit-said = ap first_of (to-limits 4 refl refl ∙ stop 4 (optional 4 s.head.max_distance) behind lacks) ∙ values-optional 4 s.head.max_distance
    where
      behind : List Word
      behind = optional 5 s.head.max_duration ++ (break_words s.head.rest ++ rest)

      lacks : Lacks 4 behind
      lacks =
          lacks-append 4 (optional 5 s.head.max_duration) (break_words s.head.rest ++ rest) (other-optional 5 4 s.head.max_duration refl)
          (lacks-append 4 (break_words s.head.rest) rest (other-break 4 s.head.rest refl) (rest-lacks 4 refl (refl, refl, refl, refl, refl) refl refl refl refl))

  duration-limit-said : first_of (values_of 5 headed) ≡ s.head.max_duration
  duration-limit-said =
      ap first_of
      (to-limits 5 refl refl
      ∙ skip 5 (optional 4 s.head.max_distance) (optional 5 s.head.max_duration ++ (break_words s.head.rest ++ rest)) (other-optional 4 5 s.head.max_distance refl)
      ∙ stop 5 (optional 5 s.head.max_duration) (break_words s.head.rest ++ rest) lacks)
      ∙ values-optional 5 s.head.max_duration
    where
      lacks : Lacks 5 (break_words s.head.rest ++ rest)
      lacks = lacks-append 5 (break_words s.head.rest) rest (other-break 5 s.head.rest refl) (rest-lacks 5 refl (refl, refl, refl, refl, refl) refl refl refl refl)

  rest-said : break_of (values_of 6 headed) ≡ s.head.rest
  rest-said =
      ap break_of
      (to-limits 6 refl refl
      ∙ skip 6 (optional 4 s.head.max_distance) (optional 5 s.head.max_duration ++ (break_words s.head.rest ++ rest)) (other-optional 4 6 s.head.max_distance refl)
      ∙ skip 6 (optional 5 s.head.max_duration) (break_words s.head.rest ++ rest) (other-optional 5 6 s.head.max_duration refl)
      ∙ stop 6 (break_words s.head.rest) rest (rest-lacks 6 refl (refl, refl, refl, refl, refl) refl refl refl refl))
      ∙ break-said s.head.rest

  others-said : customers_of headed ≡ others s
  others-said =
      customers-skip second_capacity (word 3 s.head.fixed ∷ limited) (second-lacks 7 refl)
      ∙ ap customers_of limited-is
      ∙ customers-skip limits_here rest (here-lacks 7 refl refl refl)
      ∙ customers-said (tail said) (others s) tables past-tables

  distances-said : values_of 0xC headed ≡ s.legs.distances
  distances-said =
      to-tables 0xC refl refl refl refl refl (refl, refl, refl, refl, refl)
      ∙ stop 0xC (map (word 0xC) s.legs.distances) (time_words s.legs.times tour f) lacks
      ∙ values-row 0xC s.legs.distances
    where
      lacks : Lacks 0xC (time_words s.legs.times tour f)
      lacks = lacks-append 0xC (map (word 0xD) s.legs.times) (call_words tour f) (values_other 0xD 0xC s.legs.times refl) (calls-lack 0xC tour f refl refl)

  times-said : values_of 0xD headed ≡ s.legs.times
  times-said =
      to-tables 0xD refl refl refl refl refl (refl, refl, refl, refl, refl)
      ∙ skip 0xD (map (word 0xC) s.legs.distances) (time_words s.legs.times tour f) (values_other 0xC 0xD s.legs.distances refl)
      ∙ stop 0xD (map (word 0xD) s.legs.times) (call_words tour f) (calls-lack 0xD tour f refl refl)
      ∙ values-row 0xD s.legs.times

  -- what the words say is the tour
  pub tour-said : tour_of (all_words said s tour f) ≡ tour
  unfolding tour_of
  tour-said =
      to-tables 0xE refl refl refl refl refl (refl, refl, refl, refl, refl)
      ∙ skip 0xE (map (word 0xC) s.legs.distances) (time_words s.legs.times tour f) (values_other 0xC 0xE s.legs.distances refl)
      ∙ skip 0xE (map (word 0xD) s.legs.times) (call_words tour f) (values_other 0xD 0xE s.legs.times refl)
      ∙ stop 0xE (map (word 0xE) tour) (word 0xF f ∷ []) refl
      ∙ values-row 0xE tour

  -- and the sheet, whose first record is the depot's
  pub sheet-said : s.customers ≡ depot ∷ others s → sheet_of (all_words said s tour f) ≡ s
  unfolding sheet_of
  sheet-said first = λ i.
      record {
        head =
            record {
              places = s.head.places;
              capacity = capacity-said i;
              fixed = fixed-said i;
              max_distance = distance-limit-said i;
              max_duration = duration-limit-said i;
              rest = rest-said i;
            };
        customers = (ap (λ (cs : List Customer). depot ∷ cs) others-said ∙ sym first) i;
        legs = record { distances = distances-said i; times = times-said i };
      }
