-- Reading a cutting's text, part by part: numbers, customers, and the line of a run. Assumes nothing.
use Prim.Native.Nat.{ℕ, suc, ◌+◌, ◌-◌, ◌*◌, ◌/◌, ◌%◌, ◌≤◌, ◌<◌}
use Prim.Native.Char.{code}
use native.Mathlib.Omega.{arith}
use mathlib.Core.Path.{◌≡◌, refl, sym, ap, subst, ◌∙◌}
use mathlib.Core.Bool.{true, false, cond, not, false≢true}
use mathlib.Core.List.{List, [], ◌∷◌, ◌++◌, append_assoc}
use Rattle.std.specs.Prelude.{Option, None, Some}
use lib.ListN.{length}
use lib.Dec.{ltb, leb, eqb}
use borrow.Author.Tests.{leb-true, le-leb, ne_eqb}
use Rattle.basics.specs.Options.{◌>>=◌, or_else}
use Rattle.basics.proofs.TestLaws.{by-test, both}
use Rattle.basics.proofs.OptionLaws.{same, bound}
use Rattle.basics.specs.Lists.{is_empty, All, Passes, Fails}
use Rattle.basics.proofs.ListLaws.{all-imp}
use Rattle.definitions.specs.Drop.{call_at, Result}
use Rattle.definitions.specs.Listing.{text, digits_in, decimal, is_digit, spaced, customers_text, rest_text, end_of_line, drop_lines, total_line}
use Rattle.texts.specs.CuttingText.{Number, a_customer, a_place, a_start, Mode, fresh, spelling, passing, before, within, between, State, to, taken, is_blank, is_line_end, grown, digit, letter, step, runs, walk}
use Rattle.theorems.proofs.Decimal.{value_from, decimal-value, decimal-digits}

-- ---- bytes one after the other

abbrev pub steps : State → List ℕ → Option State
steps s [] = Some s
steps s (b ∷ bs) = step s b >>= λ t. steps t bs

-- where no byte is bad, reading gives the runs
pub walked : (line column : ℕ) (s : State) (bs : List ℕ) (t : State) → steps s bs ≡ Some t → walk line column s bs ≡ runs t.calls t.ends t.places
unfolding walk
walked line column s [] t e = ap (λ (u : State). runs u.calls u.ends u.places) (same e)
walked line column s (b ∷ bs) t e = let (u, q, r) = bound (step s b) (λ u. steps u bs) t e in rw (q, walk) (walked (cond (is_line_end b) (suc line) line) (cond (is_line_end b) 1 (suc column)) u bs t r)

pub goes : (s : State) {t u : State} (xs ys : List ℕ) → steps s xs ≡ Some t → steps t ys ≡ Some u → steps s (xs ++ ys) ≡ Some u
goes s [] ys e f = ap (λ (x : State). steps x ys) (same e) ∙ f
goes s {t} (x ∷ xs) ys e f =
    let (v, q, r) = bound (step s x) (λ v. steps v xs) t e in
    ap (λ (o : Option State). o >>= λ w. steps w (xs ++ ys)) q ∙ goes v xs ys r f

-- ---- numbers

-- a digit is none of the bytes before 0
below-digits : (d : ℕ) → is_digit d ≡ true → (b : ℕ) → b < code "0" → eqb d b ≡ false
below-digits d h b l = ne_eqb d b (λ x. absurd (omega (arith, l, x, leb-true 48 d (both (leb 48 d) (leb d 57) h).0)))

digit-step : (m n : Mode) (s : State) (d : ℕ) → is_digit d ≡ true → letter m d ≡ Some n → step (to m s) d ≡ Some (to n s)
unfolding step
digit-step m n s d h e =
    let no = below-digits d h in
    rw (no 10 (omega arith), no 32 (omega arith), no 9 (omega arith), no 13 (omega arith), e) refl

-- from a mode in which a digit leads to another
digit-goes : (m n : Mode) (s u : State) (d : ℕ) (ds : List ℕ) → is_digit d ≡ true → letter m d ≡ Some n → steps (to n s) ds ≡ Some u → steps (to m s) (d ∷ ds) ≡ Some u
digit-goes m n s u d ds h e r = ap (λ (o : Option State). o >>= λ t. steps t ds) (digit-step m n s d h e) ∙ r

-- a decimal number has a digit
digits-some : (turns n : ℕ) → (d : ℕ) × (ds : List ℕ) × (digits_in (suc turns) n ≡ d ∷ ds)
unfolding digits_in
digits-some turns n = by-test (ltb n 10) (λ t. (code "0" + n, [], rw t)) (λ f. rw f (ended (digits_in turns (n / 10)) (code "0" + n % 10)))
  where
    ended : (l : List ℕ) (x : ℕ) → (d : ℕ) × (ds : List ℕ) × (l ++ (x ∷ []) ≡ d ∷ ds)
    ended [] x = (x, [], refl)
    ended (y ∷ l) x = (y, l ++ (x ∷ []), refl)

-- a customer or a place
module _ (k : Number) (counts : (n d : ℕ) → grown k n d ≡ n * 10 + d) where
  abbrev and : ℕ → ℕ → ℕ
  and n d = n * 10 + (d - code "0")

  more-digits : (n : ℕ) (ds : List ℕ) → n ≤ value_from n ds
  more-digits n [] = omega arith
  more-digits n (d ∷ ds) = omega (arith, more-digits (and n d) ds)

  grows : (n d : ℕ) (ds : List ℕ) → is_digit d ≡ true → value_from n (d ∷ ds) ≤ 255 → digit k n d ≡ Some (within k (and n d))
  grows n d ds h l = rw (counts n (d - code "0"), h, le-leb (and n d) 255 (omega (arith, l, more-digits (and n d) ds))) refl

  digits-go : (n : ℕ) (s : State) (ds : List ℕ) → Passes is_digit ds → value_from n ds ≤ 255 → steps (to (within k n) s) ds ≡ Some (to (within k (value_from n ds)) s)
  digits-go n s [] p l = refl
  digits-go n s (d ∷ ds) p l =
      digit-goes (within k n) (within k (and n d)) s (to (within k (value_from n (d ∷ ds))) s) d ds p.0 (grows n d ds p.0 l) (digits-go (and n d) s ds p.1 l)

  -- where the mode waits for one
  number-goes : (m : Mode) (s : State) (n : ℕ) → n ≤ 255 → ((d : ℕ) → is_digit d ≡ true → letter m d ≡ digit k 0 d) → steps (to m s) (decimal n) ≡ Some (to (within k n) s)
  number-goes m s n l waits =
      let (d, ds, e) = digits-some n n in
      let p = subst (Passes is_digit) e (decimal-digits n) in
      let v : value_from 0 (d ∷ ds) ≡ n = ap (value_from 0) (sym e) ∙ decimal-value n in
      let h : value_from 0 (d ∷ ds) ≤ 255 = omega (arith, v, l) in
      ap (steps (to m s)) e
      ∙ digit-goes m (within k (and 0 d)) s (to (within k (value_from 0 (d ∷ ds))) s) d ds p.0 (waits d p.0 ∙ grows 0 d ds p.0 h) (digits-go (and 0 d) s ds p.1 h)
      ∙ ap (λ (x : ℕ). Some (to (within k x) s)) v

  spaced-goes : (t u : State) (n : ℕ) → step t (code " ") ≡ Some u → ((d : ℕ) → is_digit d ≡ true → letter u.mode d ≡ digit k 0 d) → n ≤ 255 → steps t (spaced n) ≡ Some (to (within k n) u)
  spaced-goes t u n e waits l = ap (λ (o : Option State). o >>= λ x. steps x (decimal n)) e ∙ number-goes u.mode u n l waits

-- the start of a break
start-digits : (s : State) (ds : List ℕ) → Passes is_digit ds → steps (to (within a_start 0) s) ds ≡ Some (to (within a_start 0) s)
start-digits s [] p = refl
start-digits s (d ∷ ds) p = digit-goes (within a_start 0) (within a_start 0) s (to (within a_start 0) s) d ds p.0 (rw p.0 refl) (start-digits s ds p.1)

start-goes : (s : State) (n : ℕ) → steps (to (before a_start) s) (decimal n) ≡ Some (to (within a_start 0) s)
start-goes s n =
    let (d, ds, e) = digits-some n n in
    let p = subst (Passes is_digit) e (decimal-digits n) in
    ap (steps (to (before a_start) s)) e ∙ digit-goes (before a_start) (within a_start 0) s (to (within a_start 0) s) d ds p.0 (rw p.0 refl) (start-digits s ds p.1)

-- ---- a run's line

-- numbers that a byte holds
abbrev pub Byte : ℕ → Type 0
Byte n = n ≤ 255

-- a customer behind another
between-digit : (d : ℕ) → is_digit d ≡ true → letter between d ≡ digit a_customer 0 d
between-digit d h =
    let (lo, hi) = both (leb 48 d) (leb d 57) h in
    let u = leb-true d 57 hi in
    rw (ne_eqb d 114 (λ x. absurd (omega (arith, u, x)))) (first (digit a_customer 0 d))
  where
    first : (o : Option Mode) → or_else o None ≡ o
    first None = refl
    first (Some m) = refl

-- the line's customers so far
abbrev held : State → List ℕ → State
held s cs = record { mode = between; place = s.place; calls = s.calls ++ cs; ends = s.ends; places = s.places }

customers-go : (c : ℕ) (s : State) (cs : List ℕ) → All Byte cs
    → (n : ℕ) × (v : State) × (steps (to (within a_customer c) s) (customers_text cs) ≡ Some (to (within a_customer n) v)) × (taken a_customer n v ≡ held s (c ∷ cs))
unfolding step
customers-go c s [] a = (c, s, refl, refl)
customers-go c s (d ∷ cs) a =
    let u = taken a_customer c s in
    let (n, v, e, f) = customers-go d u cs a.1 in (
      n,
      v,
      goes (to (within a_customer c) s) (spaced d) (customers_text cs) (spaced-goes a_customer (λ n d. refl) (to (within a_customer c) s) u d refl between-digit a.0) e,
      f ∙ ap (λ (l : List ℕ). record { mode = between; place = s.place; calls = l; ends = s.ends; places = s.places }) (append_assoc s.calls (c ∷ []) (d ∷ cs)),
    )

-- at the start of a line, with these runs read
abbrev pub read : List ℕ → List ℕ → List ℕ → State
read calls ends places = record { mode = fresh; place = 0; calls = calls; ends = ends; places = places }

-- a run with this break place is read
abbrev closed : State → ℕ → State
closed s place = read s.calls (s.ends ++ length s.calls ∷ []) (s.places ++ place ∷ [])

-- the end of the line behind its customers, with a break or without
line-ends : (n : ℕ) (v : State) (place : ℕ) (o : Option ℕ) → Byte place → v.place ≡ 0 → (o ≡ None → place ≡ 0)
    → steps (to (within a_customer n) v) (rest_text place o ++ end_of_line) ≡ Some (closed (taken a_customer n v) place)
unfolding step
line-ends n v place None b z unbroken =
    let s = taken a_customer n v in ap (λ (p : ℕ). Some (closed s p)) (z ∙ sym (unbroken refl))
line-ends n v place (Some start) b z unbroken =
    let s = to (before a_place) (taken a_customer n v) in
    let rested = goes (to (within a_customer n) v) (text " rest") (spaced place) refl (spaced-goes a_place (λ n d. refl) (to (spelling [] (before a_place)) s) s place refl (λ d h. refl) b) in
    let started = goes (to (within a_customer n) v) (text " rest" ++ spaced place) (spaced start) rested (start-goes (taken a_place place s) start) in
    goes (to (within a_customer n) v) (rest_text place (Some start)) end_of_line started refl

-- the line of a run
pub line-goes : (calls ends places run : List ℕ) (place : ℕ) (o : Option ℕ) → not (is_empty run) ≡ true → All Byte run → Byte place → (o ≡ None → place ≡ 0)
    → let more = calls ++ run in
    steps (read calls ends places) (text "run" ++ customers_text run ++ rest_text place o ++ end_of_line) ≡ Some (read more (ends ++ length more ∷ []) (places ++ place ∷ []))
unfolding step
line-goes calls ends places [] place o some-calls a b unbroken = absurd (false≢true some-calls)
line-goes calls ends places (c ∷ cs) place o some-calls a b unbroken =
    let s = read calls ends places in
    let (n, v, e, f) = customers-go c s cs a.1 in
    let front = text "run" ++ customers_text (c ∷ cs) in
    let first = spaced-goes a_customer (λ n d. refl) (to (spelling [] (before a_customer)) s) (to (before a_customer) s) c refl (λ d h. refl) a.0 in
    let called = goes s (text "run") (customers_text (c ∷ cs)) refl (goes (to (spelling [] (before a_customer)) s) (spaced c) (customers_text cs) first e) in
    ap (steps s) (append_assoc front (rest_text place o) end_of_line)
    ∙ goes s front (rest_text place o ++ end_of_line) called (line-ends n v place o b (ap (λ (x : State). x.place) f) unbroken)
    ∙ ap (λ (x : State). Some (closed x place)) f

-- ---- lines that are passed over

passed : (s : State) (b : ℕ) → is_line_end b ≡ false → step (to passing s) b ≡ Some (to passing s)
unfolding step
passed s b h = by-test (is_blank b) (λ t. rw (h, t) refl) (λ f. rw (h, f) refl)

passing-goes : (s : State) (bs : List ℕ) → Fails is_line_end bs → steps (to passing s) bs ≡ Some (to passing s)
passing-goes s [] p = refl
passing-goes s (b ∷ bs) p = ap (λ (o : Option State). o >>= λ t. steps t bs) (passed s b p.0) ∙ passing-goes s bs p.1

number_passed : (s : State) (n : ℕ) → steps (to passing s) (decimal n) ≡ Some (to passing s)
number_passed s n = passing-goes s (decimal n) (all-imp (λ (d : ℕ). is_digit d ≡ true) (λ (d : ℕ). is_line_end d ≡ false) (λ d h. below-digits d h 10 (omega arith)) (decimal n) (decimal-digits n))

-- one more word and number of such a line
figure : (s : State) (front word : List ℕ) (n : ℕ) → steps (to passing s) word ≡ Some (to passing s) → steps s front ≡ Some (to passing s) → steps s (front ++ word ++ spaced n) ≡ Some (to passing s)
unfolding step
figure s front word n w f = goes s (front ++ word) (spaced n) (goes s front word f w) (number_passed s n)

module _ (calls ends places : List ℕ) where
  abbrev s : State
  s = read calls ends places

  pub drops-go : (tour dropped : List ℕ) → steps s (drop_lines tour dropped) ≡ Some s
  unfolding step
  drops-go tour [] = refl
  drops-go tour (p ∷ ps) =
      let line = text "drop" ++ spaced (call_at tour p) in
      let passed = goes s (text "drop") (spaced (call_at tour p)) refl (number_passed s (call_at tour p)) in
      goes s (line ++ end_of_line) (drop_lines tour ps) (goes s line end_of_line passed refl) (drops-go tour ps)

  pub total-goes : (x : Result) → steps s (total_line x) ≡ Some s
  unfolding step
  total-goes x =
      let a = text "total" ++ spaced x.distance in
      let b = a ++ text " cost" ++ spaced x.cost in
      let c = b ++ text " served" ++ spaced (length x.served) in
      let d = c ++ text " dropped" ++ spaced (length x.dropped) in
      let at_a = goes s (text "total") (spaced x.distance) refl (number_passed s x.distance) in
      let at_b = figure s a (text " cost") x.cost refl at_a in
      let at_c = figure s b (text " served") (length x.served) refl at_b in
      goes s d end_of_line (figure s c (text " dropped") (length x.dropped) refl at_c) refl
