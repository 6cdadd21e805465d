-- Accepted words, shown as text and written again, are the same words; so no two show the same text. Assumes nothing.
use Prim.Native.Nat.{ℕ, zero, suc, ◌+◌, ◌-◌, ◌≤◌, ◌<◌}
use native.Mathlib.Omega.{arith}
use mathlib.Core.Path.{◌≡◌, refl, sym, ap, subst, ◌∙◌}
use mathlib.Core.Bool.{Bool, true, false, cond, not, false≢true}
use mathlib.Core.List.{List, [], ◌∷◌, ◌++◌, append_assoc, append-nil}
use Rattle.std.specs.Prelude.{Option, None, Some}
use lib.ListN.{length, length-append}
use lib.Dec.{eqb, ltb}
use borrow.Author.Tests.{eqb-true, eqb-false, ltb-true}
use Rattle.basics.specs.Lists.{count}
use Rattle.basics.proofs.TestLaws.{by-test, not-false}
use Rattle.definitions.specs.Domain.{no_road}
use Rattle.definitions.specs.Words.{Word, word, words_of, left_over, bytes_of}
use Rattle.definitions.specs.Reader.{State, start, next, onward, may_stand, among, faults, fault_at, Outcome, accepted, refused, behind, unless, walk}
use Rattle.definitions.specs.Listing.{text, end_of_line}
use Rattle.texts.specs.SheetText.{tour_lead, leads, lead_in, number_text, show_from, show_words, number, numbers, records, Spelling, begin, Step, on, step}
use Rattle.texts.specs.SheetText.{Spelled, spell, Written, written, wrong_at, judged, write_text}
use Rattle.theorems.proofs.InOrder.{none-fits}
use Rattle.round_trip.proofs.Bytes.{Fits, AllFit, AllBytes, bytes-of-words}
use Rattle.texts.proofs.SheetSteps.{steps, reached, gone, steps-append, settled, begun, number-says, begins, ends, items_at, items_for, made_by, made}
use Rattle.texts.proofs.SheetLeads.{Leads, Closes, Behind, led}

-- ---- what a word without fault has passed

abbrev is_accepted : Outcome → Bool
is_accepted accepted = true
is_accepted (refused n i) = false

-- the reading of accepted words goes on behind their first
sound : (o : Option ℕ) (i : ℕ) (v : Outcome) → unless o i v ≡ accepted → (o ≡ None) × (v ≡ accepted)
sound None i v e = (refl, e)
sound (Some n) i v e = absurd (false≢true (ap is_accepted e))

module _ (s : State) (i : ℕ) (w : Word) (h : fault_at s i w ≡ None) where
  stands : among w.kind (may_stand s) ≡ true
  unfolding fault_at
  stands = not-false (among w.kind (may_stand s)) (none-fits (faults s i w) h 11)

  counts : eqb w.kind 0xF ≡ true → w.value ≡ i
  unfolding fault_at
  counts t =
      let f : not (eqb w.value i) ≡ false = rw t at (none-fits (faults s i w) h 3) in
      eqb-true w.value i (not-false (eqb w.value i) f)

-- ---- word by word

begins-append : (xs ys : List ℕ) → begins xs ≡ true → begins (xs ++ ys) ≡ true
begins-append [] ys h = absurd (false≢true h)
begins-append (x ∷ xs) ys h = h

-- what the words ws show behind others is written behind those
record Back (s : State) (done ws : List Word) : Type 0 where
  starts : begins (show_from s ws) ≡ true
  goes : (at : ℕ) (f : Bool) (sp : List ℕ)
      → (t : State) × (all : List Word) × (sq : List ℕ) × (steps at (settled (items_at s) f s done sp) (show_from s ws) ≡ on (settled (numbers 0xE ∷ []) true t all sq))
      × (all ++ word 0xF (length all) ∷ [] ≡ done ++ ws)

-- the state behind one more word
behind-word : (s : State) (w : Word) → s.places ≤ no_road → Fits w → Behind (next s w)
behind-word s w few fit =
    record {
      rowed = by-test (eqb w.kind s.last.kind) (λ t. rw t (omega arith)) (λ f. rw f (omega arith));
      few = by-test (eqb w.kind 1) (λ t. rw t (omega (arith, fit.value))) (λ f. rw f few);
      kinded = fit.kind;
    }

-- the kinds below the last
in_count : (a n k : ℕ) → a ≤ k → k < a + n → among k (count a n) ≡ true
in_count a zero k h l = absurd (omega (arith, h, l))
in_count a (suc n) k h l = by-test (eqb k a) (λ t. rw t refl) (λ f. rw f (in_count (suc a) n k (omega (arith, h, eqb-false k a f)) (omega (arith, l))))

-- a break has three numbers
third : (s : State) → among 6 (may_stand s) ≡ true → eqb s.last.kind 6 ≡ true → s.row < 3
unfolding may_stand
third s m t = by-test (ltb s.row 3) (ltb-true s.row 3) (λ f. absurd (false≢true (no_more f (rw (eqb-true s.last.kind 6 t) at m))))
  where
    no_more : ltb s.row 3 ≡ false → among 6 (cond (ltb s.row 3) (6 ∷ []) (onward s ∷ [])) ≡ true → false ≡ true
    no_more f q = by-test (eqb s.coming 0) (λ c. rw (f, c) at q) (λ c. rw (f, c) at q)

module _ (s : State) (B : Behind s) (done : List Word) (w : Word) (ws : List Word) (fit : Fits w) (m : among w.kind (may_stand s) ≡ true) where
  -- a word whose number is shown
  abbrev before : List ℕ
  before = lead_in (leads s) w.kind

  abbrev num : List ℕ
  num = number_text w.value

  abbrev rest : List ℕ
  rest = show_from (next s w) ws

  small : w.value ≤ no_road
  small = omega (arith, fit.value)

  shown : eqb w.kind 0xF ≡ false → show_from s (w ∷ ws) ≡ (before ++ text " ") ++ (num ++ rest)
  shown n = rw n (append_assoc (before ++ text " ") num rest)

  leads-on : eqb w.kind 0xF ≡ false → Leads (items_at s) s w.kind
  leads-on n = rw n at (led s B w.kind m)

  more : eqb w.kind 0xF ≡ false → Back (next s w) (done ++ w ∷ []) ws → Back s done (w ∷ ws)
  more n R =
      record {
        starts = ap begins (shown n) ∙ begins-append (before ++ text " ") (num ++ rest) (leads-on n).starts;
        goes = λ at f sp.
            let S = number-says w.value small in
            let (g, led, row) = (leads-on n).goes at f done sp in
            let here = settled (items_for s w.kind) g s done sp in
            let at1 = length (before ++ text " ") + at in
            let at2 = length num + at1 in
            let sp' = sp ++ (at2 - length num) ∷ [] in
            let (t, all, sq, gone, same) = R.goes at2 false sp' in (
              t,
              all,
              sq,
              ap (steps at (settled (items_at s) f s done sp)) (shown n)
                  ∙ steps-append at (settled (items_at s) f s done sp) here (before ++ text " ") (num ++ rest) led
                  ∙ steps-append at1 here (begun num here) num rest (S.goes at1 (items_for s w.kind) g s done sp)
                  ∙ ends at2 num here (items_at (next s w)) false (next s w) (done ++ w ∷ []) sp' rest R.starts
                  (made at2 num s w.value g done sp S.some-letter S.value small w.kind B.rowed
                  (λ e. third s (subst (λ (k : ℕ). among k (may_stand s) ≡ true) e m)) row (in_count 0 15 w.kind (omega arith) (omega (arith, fit.kind, eqb-false w.kind 0xF n))))
                  ∙ gone,
              same ∙ append_assoc done (w ∷ []) ws,
            );
      }

  -- the last word
  last_word : eqb w.kind 0xF ≡ true → w.value ≡ length done → ws ≡ [] → Back s done (w ∷ ws)
  last_word t count none_left =
      let C : Closes (items_at s) s = rw t at (led s B w.kind m) in
      let closing : show_from s (w ∷ ws) ≡ tour_lead s ++ end_of_line = ap (λ (l : List Word). show_from s (w ∷ l)) none_left ∙ rw t (append-nil (tour_lead s ++ end_of_line)) in
      let itself : w ≡ word 0xF (length done) = λ i. word (eqb-true w.kind 0xF t i) (count i) in
      record {
        starts = ap begins closing ∙ C.starts;
        goes = λ at f sp. (
          s,
          done,
          sp,
          ap (steps at (settled (items_at s) f s done sp)) closing ∙ C.goes at f done sp,
          ap (λ (x : Word). done ++ x ∷ []) (sym itself) ∙ ap (λ (l : List Word). done ++ w ∷ l) (sym none_left),
        );
      }

-- nothing stands behind the last word
nothing-behind : (i : ℕ) (ws : List Word) → behind i ws false ≡ accepted → ws ≡ []
nothing-behind i [] e = refl
nothing-behind i (w ∷ ws) e = absurd (false≢true (ap is_accepted e))

-- all words behind the first
back : (s : State) → Behind s → (done ws : List Word) → AllFit ws → walk s (length done) ws false ≡ accepted → Back s done ws
unfolding walk
back s B done [] a e = absurd (false≢true (ap is_accepted e))
back s B done (w ∷ ws) a e =
    let (f, goes_on) = sound (fault_at s (length done) w) (length done) (cond (eqb w.kind 0xF) (behind (suc (length done)) ws false) (walk (next s w) (suc (length done)) ws false)) e in
    let m = stands s (length done) w f in
    let long : suc (length done) ≡ length (done ++ w ∷ []) = omega (arith, length-append done (w ∷ [])) in
    by-test (eqb w.kind 0xF)
    (λ t. last_word s B done w ws a.0 m t (counts s (length done) w f t) (nothing-behind (suc (length done)) ws (rw t at goes_on)))
    (λ n. more s B done w ws a.0 m n
    (back (next s w) (behind-word s w B.few a.0) (done ++ w ∷ []) ws a.1 (ap (λ (i : ℕ). walk (next s w) i ws false) (sym long) ∙ (rw n at goes_on))))

-- ---- the whole text

spell-steps : (at : ℕ) (s t : Spelling) (xs ys : List ℕ) → steps at s xs ≡ on t → spell at s (xs ++ ys) ≡ spell (length xs + at) t ys
unfolding spell
spell-steps at s t [] ys e = ap (λ (r : Step). spell at (reached s r) ys) e ∙ ap (λ (n : ℕ). spell n t ys) (omega arith)
spell-steps at s t (x ∷ xs) ys e =
    let (u, q, r) = gone (step at s x) (λ u. steps (suc at) u xs) t e in
    rw (q, spell) (spell-steps (suc at) u t xs ys r ∙ ap (λ (n : ℕ). spell n t ys) (omega arith))

-- all words are written
abbrev All-back : List Word → Type 0
All-back ws =
    (t : State) × (all : List Word) × (sq : List ℕ) × (steps 0 begin (show_words ws) ≡ on (settled (numbers 0xE ∷ []) true t all sq)) × (all ++ word 0xF (length all) ∷ [] ≡ ws)

-- the places, with which all words begin
places-back : (v : ℕ) (ws : List Word) → AllFit (word 1 v ∷ ws) → walk (next start (word 1 v)) 1 ws false ≡ accepted → All-back (word 1 v ∷ ws)
unfolding step records show_words
places-back v ws a e =
    let w = word 1 v in
    let small : v ≤ no_road = omega (arith, a.0.value) in
    let n = number_text v in
    let S = number-says v small in
    let rest = show_from (next start w) ws in
    let at = length n + 7 in
    let sp = (at - length n) ∷ [] in
    let here = settled (number 1 ∷ []) true start [] [] in
    let R = back (next start w) (behind-word start w (omega arith) a.0) (w ∷ []) ws a.1 e in
    let (t, all, sq, go, same) = R.goes at false sp in (
      t,
      all,
      sq,
      ap (steps 0 begin) (append_assoc (text "places ") n rest)
          ∙ steps-append 0 begin here (text "places ") (n ++ rest) refl
          ∙ steps-append 7 here (begun n here) n rest (S.goes 7 (number 1 ∷ []) true start [] [])
          ∙ ends at n here (items_at (next start w)) false (next start w) (w ∷ []) sp rest R.starts (made_by at n start v true [] [] S.some-letter S.value small 1 [] refl refl)
          ∙ go,
      same,
    )

all_back : (ws : List Word) → AllFit ws → walk start 0 ws false ≡ accepted → All-back ws
unfolding walk may_stand
all_back [] a e = absurd (false≢true (ap is_accepted e))
all_back (w ∷ ws) a e =
    let f = (sound (fault_at start 0 w) 0 (cond (eqb w.kind 0xF) (behind 1 ws false) (walk (next start w) 1 ws false)) e).0 in
    let one : w.kind ≡ 1 = by-test (eqb w.kind 1) (eqb-true w.kind 1) (λ n. absurd (false≢true (rw n at (stands start 0 w f)))) in
    subst (λ (k : ℕ). AllFit (word k w.value ∷ ws) → walk start 0 (word k w.value ∷ ws) false ≡ accepted → All-back (word k w.value ∷ ws)) (sym one)
    (λ a e. places-back w.value ws a (sound (fault_at start 0 (word 1 w.value)) 0 (walk (next start (word 1 w.value)) 1 ws false) e).1) a e

-- written from their text, accepted words are the same
pub write-shown : (ws : List Word) → AllFit ws → walk start 0 ws false ≡ accepted → write_text (show_words ws) ≡ written ws
unfolding write_text spell step
write-shown ws a e =
    let bytes = show_words ws in
    let (t, all, sq, go, same) = all_back ws a e in
    let spelled = spell-steps 0 begin (settled (numbers 0xE ∷ []) true t all sq) bytes end_of_line go in
    ap (λ (r : Spelled). judged bytes r (walk start 0 r.made false)) spelled
    ∙ ap (λ (l : List Word). judged bytes (record { made = l; spots = sq; end = suc (length bytes + 0); wrong = None }) (walk start 0 l false)) same
    ∙ ap (λ (o : Outcome). judged bytes (record { made = ws; spots = sq; end = suc (length bytes + 0); wrong = None }) o) e

-- so different words show different texts
pub show-injective : (vs ws : List Word) → AllFit vs → AllFit ws → walk start 0 vs false ≡ accepted → walk start 0 ws false ≡ accepted → show_words vs ≡ show_words ws → vs ≡ ws
show-injective vs ws a b e f same = ap words_in (sym (write-shown vs a e) ∙ ap write_text same ∙ write-shown ws b f)
  where
    words_in : Written → List Word
    words_in (written l) = l
    words_in (wrong_at line column x) = []

-- ---- the bytes of a file

words-fit : (bs : List ℕ) → AllBytes bs → AllFit (words_of bs)
words-fit [] a = tt
words-fit (x ∷ []) a = tt
words-fit (x ∷ y ∷ []) a = tt
words-fit (x ∷ y ∷ z ∷ []) a = tt
words-fit (x ∷ y ∷ z ∷ u ∷ bs) a = (
  record { kind = omega (arith, a.0, a.1.0, a.1.1.0, a.1.1.1.0); value = omega arith },
  words-fit bs a.1.1.1.1,
)

-- nothing is left over behind words that are accepted
whole-behind : (i : ℕ) (ws : List Word) (left : Bool) → behind i ws left ≡ accepted → left ≡ false
whole-behind i [] true e = absurd (false≢true (ap is_accepted e))
whole-behind i [] false e = refl
whole-behind i (w ∷ ws) left e = absurd (false≢true (ap is_accepted e))

whole_words : (s : State) (i : ℕ) (ws : List Word) (left : Bool) → walk s i ws left ≡ accepted → left ≡ false
unfolding walk
whole_words s i [] left e = absurd (false≢true (ap is_accepted e))
whole_words s i (w ∷ ws) left e =
    let goes_on = (sound (fault_at s i w) i (cond (eqb w.kind 0xF) (behind (suc i) ws left) (walk (next s w) (suc i) ws left)) e).1 in
    by-test (eqb w.kind 0xF) (λ t. whole-behind (suc i) ws left (rw t at goes_on)) (λ n. whole_words (next s w) (suc i) ws left (rw n at goes_on))

-- an accepted file, shown and written again, is the same bytes
pub file-shown : (bs : List ℕ) → AllBytes bs → walk start 0 (words_of bs) (left_over bs) ≡ accepted
    → (ws : List Word) × (write_text (show_words (words_of bs)) ≡ written ws) × (bytes_of ws ≡ bs)
file-shown bs a e =
    let left = whole_words start 0 (words_of bs) (left_over bs) e in
    (words_of bs, write-shown (words_of bs) (words-fit bs a) (subst (λ (b : Bool). walk start 0 (words_of bs) b ≡ accepted) left e), bytes-of-words bs a left)
