-- Writing the text that a word shows, part by part: what stands before its number, and the number. Assumes nothing.
use Prim.Native.Nat.{ℕ, suc, ◌+◌, ◌-◌, ◌*◌, ◌/◌, ◌%◌, ◌≤◌, ◌<◌}
use Prim.Native.Char.{code}
use native.Mathlib.Omega.{arith}
use mathlib.Core.Path.{◌≡◌, refl, sym, ap, subst, ◌∙◌}
use mathlib.Core.Bool.{Bool, true, false, cond, ◌&&◌, ◌||◌, not, false≢true}
use mathlib.Core.List.{List, [], ◌∷◌, ◌++◌, append_assoc, append-nil}
use Rattle.std.specs.Prelude.{Some}
use lib.ListN.{length}
use lib.Dec.{ltb, leb, eqb}
use borrow.Author.Tests.{eqb-true, eqb-false, ne_eqb, leb-true, le-leb}
use Rattle.basics.specs.Lists.{is_empty, all, Passes}
use Rattle.basics.proofs.TestLaws.{by-test, both, not-true}
use Rattle.definitions.specs.Domain.{no_road, is_closed}
use Rattle.definitions.specs.Words.{Word, word}
use Rattle.definitions.specs.Reader.{State, next, among}
use Rattle.definitions.specs.Listing.{text, digits_in, decimal, is_digit}
use Rattle.texts.specs.CuttingText.{is_blank, is_line_end}
use Rattle.texts.specs.SheetText.{row_ends, number_text, Item, say, number, rows, numbers, value_in, value_of, Spelling, Step, on, bad, ◌then◌, of_table, ended, step}
use Rattle.round_trip.proofs.ByKind.{no_other, ◌or◌, by_kind}
use Rattle.theorems.proofs.Decimal.{value_from, decimal-value, decimal-digits}

-- ---- bytes one after the other

abbrev pub steps : ℕ → Spelling → List ℕ → Step
steps at s [] = on s
steps at s (b ∷ bs) = step at s b then λ t. steps (suc at) t bs

-- what a step led to
abbrev pub reached : Spelling → Step → Spelling
reached s (on t) = t
reached s (bad at x) = s

abbrev is_on : Step → Bool
is_on (on t) = true
is_on (bad at x) = false

pub gone : (r : Step) (f : Spelling → Step) (t : Spelling) → (r then f) ≡ on t → (u : Spelling) × (r ≡ on u) × (f u ≡ on t)
gone (on u) f t e = (u, refl, e)
gone (bad at x) f t e = absurd (false≢true (ap is_on e))

pub steps-append : (at : ℕ) (s t : Spelling) (xs ys : List ℕ) → steps at s xs ≡ on t → steps at s (xs ++ ys) ≡ steps (length xs + at) t ys
steps-append at s t [] ys e = ap (λ (r : Step). steps at (reached s r) ys) e ∙ ap (λ (n : ℕ). steps n t ys) (omega arith)
steps-append at s t (x ∷ xs) ys e =
    let (u, q, r) = gone (step at s x) (λ u. steps (suc at) u xs) t e in
    ap (λ (o : Step). o then λ v. steps (suc at) v (xs ++ ys)) q
    ∙ steps-append (suc at) u t xs ys r
    ∙ ap (λ (n : ℕ). steps n t ys) (omega arith)

-- no word has begun; these items have to come
abbrev pub settled : List Item → Bool → State → List Word → List ℕ → Spelling
settled is f s ws sp = record { passing = false; letters = []; awaited = is; fresh = f; state = s; made = ws; spots = sp }

-- these letters have come
abbrev pub begun : List ℕ → Spelling → Spelling
begun l s = record { passing = false; letters = l; awaited = s.awaited; fresh = s.fresh; state = s.state; made = s.made; spots = s.spots }

-- ---- numbers

-- a digit is none of the bytes before 0
below-digits : (d : ℕ) → is_digit d ≡ true → (b : ℕ) → b < code "0" → eqb d b ≡ false
below-digits d h b l = ne_eqb d b (λ x. absurd (omega (arith, l, x, leb-true 48 d (both (leb 48 d) (leb d 57) h).0)))

digit-step : (at : ℕ) (l : List ℕ) (s : Spelling) (d : ℕ) → is_digit d ≡ true → step at (begun l s) d ≡ on (begun (l ++ d ∷ []) s)
unfolding step
digit-step at l s d h =
    let no = below-digits d h in
    rw (no 10 (omega arith), no 32 (omega arith), no 9 (omega arith), no 13 (omega arith), no 35 (omega arith)) refl

digits-go : (at : ℕ) (l : List ℕ) (s : Spelling) (ds : List ℕ) → Passes is_digit ds → steps at (begun l s) ds ≡ on (begun (l ++ ds) s)
digits-go at l s [] h = ap (λ (m : List ℕ). on (begun m s)) (sym (append-nil l))
digits-go at l s (d ∷ ds) h =
    ap (λ (r : Step). r then λ t. steps (suc at) t ds) (digit-step at l s d h.0)
    ∙ digits-go (suc at) (l ++ d ∷ []) s ds h.1
    ∙ ap (λ (m : List ℕ). on (begun m s)) (append_assoc l (d ∷ []) ds)

more-digits : (n : ℕ) (ds : List ℕ) → n ≤ value_from n ds
more-digits n [] = omega arith
more-digits n (d ∷ ds) = omega (arith, more-digits (n * 10 + (d - code "0")) ds)

-- no digit is one too many where the number fits
value_in_lem : (n : ℕ) (ds : List ℕ) → value_from n ds ≤ no_road → value_in n ds ≡ value_from n ds
value_in_lem n [] h = refl
value_in_lem n (d ∷ ds) h =
    let m = n * 10 + (d - code "0") in
    rw (le-leb m no_road (omega (arith, h, more-digits m ds))) (value_in_lem m ds h)

all-passes : (ds : List ℕ) → Passes is_digit ds → all is_digit ds ≡ true
all-passes [] h = refl
all-passes (d ∷ ds) h = rw h.0 (all-passes ds h.1)

-- a decimal number has a digit
digits-some : (turns n : ℕ) → (d : ℕ) × (ds : List ℕ) × (digits_in (suc turns) n ≡ d ∷ ds)
unfolding digits_in
digits-some turns n = by-test (ltb n 10) (λ t. (code "0" + n, [], rw t)) (λ f. rw f (one_more (digits_in turns (n / 10)) (code "0" + n % 10)))
  where
    one_more : (l : List ℕ) (x : ℕ) → (d : ℕ) × (ds : List ℕ) × (l ++ (x ∷ []) ≡ d ∷ ds)
    one_more [] x = (x, [], refl)
    one_more (y ∷ l) x = (y, l ++ (x ∷ []), refl)

-- a number's letters, as they are shown, say it
pub record Says (l : List ℕ) (v : ℕ) : Type 0 where
  pub value : value_of l ≡ Some v
  pub some-letter : is_empty l ≡ false
  pub goes : (at : ℕ) (is : List Item) (f : Bool) (s : State) (ws : List Word) (sp : List ℕ) → steps at (settled is f s ws sp) l ≡ on (begun l (settled is f s ws sp))

pub decimal-says : (v : ℕ) → v ≤ no_road → Says (decimal v) v
decimal-says v h =
    let (d, ds, e) = digits-some v v in
    let p = subst (Passes is_digit) e (decimal-digits v) in
    let q : value_from 0 (d ∷ ds) ≡ v = ap (value_from 0) (sym e) ∙ decimal-value v in
    record {
      value = ap value_of e ∙ rw (below-digits d p.0 45 (omega arith), all-passes (d ∷ ds) p) (ap Some (value_in_lem 0 (d ∷ ds) (omega (arith, q, h)) ∙ q));
      some-letter = ap is_empty e;
      goes = λ at is f s ws sp. digits-go at [] (settled is f s ws sp) (decimal v) (decimal-digits v);
    }

-- a closed leg
dash : Says (text "-") no_road
unfolding step
dash = record { value = refl; some-letter = refl; goes = λ at is f s ws sp. refl }

pub number-says : (v : ℕ) → v ≤ no_road → Says (number_text v) v
number-says v h =
    by-test (is_closed v)
    (λ t. rw t (subst (Says (text "-")) (sym (eqb-true v no_road t)) dash))
    (λ f. rw f (decimal-says v h))

-- the text begins with a blank or the end of a line
abbrev pub begins : List ℕ → Bool
begins [] = false
begins (b ∷ bs) = is_line_end b || is_blank b

-- ---- a word that ends

-- a blank or the end of a line behind letters does what it does behind what they have said
pub ends : (at : ℕ) (l : List ℕ) (s : Spelling) (is : List Item) (f : Bool) (t : State) (ws : List Word) (sp bs : List ℕ) → begins bs ≡ true
    → ended at (begun l s) ≡ on (settled is f t ws sp) → steps at (begun l s) bs ≡ steps at (settled is f t ws sp) bs
unfolding step
ends at l s is f t ws sp [] h e = absurd (false≢true h)
ends at l s is f t ws sp (b ∷ bs) h e =
    let same : step at (begun l s) b ≡ step at (settled is f t ws sp) b =
    by-test (is_line_end b) (λ n. rw (n, e) refl) (λ n. let k : is_blank b ≡ true = rw n at h in rw (n, k, e) refl) in
    ap (λ (r : Step). r then λ t. steps (suc at) t bs) same

-- ---- what has to come

-- what has to come behind the words that left state s
abbrev pub items_at : State → List Item
items_at s =
    let k = s.last.kind in
    cond (eqb k 6) (cond (eqb s.row 1) (say "to" ∷ number 6 ∷ say "for" ∷ number 6 ∷ []) (cond (eqb s.row 2) (say "for" ∷ number 6 ∷ []) []))
    (cond (eqb k 9) (say "to" ∷ number 0xA ∷ [])
    (cond (eqb k 0xC) (rows 0xC ∷ []) (cond (eqb k 0xD) (rows 0xD ∷ []) (cond (eqb k 0xE) (numbers 0xE ∷ []) []))))

-- what has to come where the number of a word of kind k stands
abbrev pub items_for : State → ℕ → List Item
items_for s k =
    cond (eqb k 6) (cond (not (eqb s.last.kind 6)) (number 6 ∷ say "to" ∷ number 6 ∷ say "for" ∷ number 6 ∷ []) (cond (eqb s.row 1) (number 6 ∷ say "for" ∷ number 6 ∷ []) (number 6 ∷ [])))
    (cond (eqb k 9) (number 9 ∷ say "to" ∷ number 0xA ∷ [])
    (cond (eqb k 0xC) (rows 0xC ∷ []) (cond (eqb k 0xD) (rows 0xD ∷ []) (cond (eqb k 0xE) (numbers 0xE ∷ []) (number k ∷ [])))))

-- a table's number may stand here
abbrev pub row_goes : State → ℕ → Bool → Bool
row_goes s k f = not ((eqb k 0xC || eqb k 0xD) && eqb s.last.kind k && row_ends s && not f)

-- ---- the number of a word

-- the kinds whose number is shown
abbrev pub counted : List ℕ
counted = 0 ∷ 1 ∷ 2 ∷ 3 ∷ 4 ∷ 5 ∷ 6 ∷ 7 ∷ 8 ∷ 9 ∷ 0xA ∷ 0xB ∷ 0xC ∷ 0xD ∷ 0xE ∷ []

module _ (at : ℕ) (l : List ℕ) (s : State) (v : ℕ) (g : Bool) (ws : List Word) (sp : List ℕ) (h : is_empty l ≡ false) (e : value_of l ≡ Some v) (small : v ≤ no_road) where
  -- it makes the word of kind k
  abbrev Made : ℕ → Type 0
  Made k =
      ended at (begun l (settled (items_for s k) g s ws sp))
      ≡ on (settled (items_at (next s (word k v))) false (next s (word k v)) (ws ++ word k v ∷ []) (sp ++ (at - length l) ∷ []))

  -- where a number was to come, and then these
  pub made_by : (k : ℕ) (is : List Item) → items_for s k ≡ number k ∷ is → items_at (next s (word k v)) ≡ is → Made k
  made_by k is a b =
      ap (λ (is : List Item). ended at (begun l (settled is g s ws sp))) a
      ∙ rw (h, e, le-leb v no_road small) refl
      ∙ ap (λ (is : List Item). on (settled is false (next s (word k v)) (ws ++ word k v ∷ []) (sp ++ (at - length l) ∷ []))) (sym b)

  made-6 : 1 ≤ s.row → (eqb s.last.kind 6 ≡ true → s.row < 3) → Made 6
  made-6 one-at-least few = by-test (eqb s.last.kind 6) again first
    where
      again : eqb s.last.kind 6 ≡ true → Made 6
      again t =
          let k = eqb-true s.last.kind 6 t in
          by-test (eqb s.row 1)
          (λ q. let one = eqb-true s.row 1 q in made_by 6 (say "for" ∷ number 6 ∷ []) (rw (k, one) refl) (rw (k, one) refl))
          (λ q. let two : s.row ≡ 2 = omega (arith, one-at-least, few t, eqb-false s.row 1 q) in made_by 6 [] (rw (k, two) refl) (rw (k, two) refl))

      first : eqb s.last.kind 6 ≡ false → Made 6
      first n =
          let n' = ne_eqb 6 s.last.kind (λ x. eqb-false s.last.kind 6 n (sym x)) in
          made_by 6 (say "to" ∷ number 6 ∷ say "for" ∷ number 6 ∷ []) (rw n refl) (rw n' refl)

  made-C : row_goes s 0xC g ≡ true → Made 0xC
  made-C r = rw (h, e, not-true (of_table 0xC s && row_ends s && not g) r, le-leb v no_road small) refl

  made-D : row_goes s 0xD g ≡ true → Made 0xD
  made-D r = rw (h, e, not-true (of_table 0xD s && row_ends s && not g) r, le-leb v no_road small) refl

  made-E : Made 0xE
  made-E = rw (h, e, le-leb v no_road small) refl

  -- for each kind but the last
  pub made : (k : ℕ) → 1 ≤ s.row → (k ≡ 6 → eqb s.last.kind 6 ≡ true → s.row < 3) → row_goes s k g ≡ true → among k counted ≡ true → Made k
  made k one-at-least few r m =
      by_kind (λ (j : ℕ). (j ≡ 6 → eqb s.last.kind 6 ≡ true → s.row < 3) → row_goes s j g ≡ true → Made j) counted k
      ((λ few r. made_by 0 [] refl refl)
      or (λ few r. made_by 1 [] refl refl)
      or (λ few r. made_by 2 [] refl refl)
      or (λ few r. made_by 3 [] refl refl)
      or (λ few r. made_by 4 [] refl refl)
      or (λ few r. made_by 5 [] refl refl)
      or (λ few r. made-6 one-at-least (few refl))
      or (λ few r. made_by 7 [] refl refl)
      or (λ few r. made_by 8 [] refl refl)
      or (λ few r. made_by 9 (say "to" ∷ number 0xA ∷ []) refl refl)
      or (λ few r. made_by 0xA [] refl refl)
      or (λ few r. made_by 0xB [] refl refl)
      or (λ few r. made-C r)
      or (λ few r. made-D r)
      or (λ few r. made-E)
      or no_other) m few r
