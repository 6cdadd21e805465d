-- What a word shows before its number, written: it leads from behind the word before to where the number has to come. Assumes nothing.
use Prim.Native.Nat.{ℕ, suc, ◌+◌, ◌*◌, ◌≤◌, ◌<◌}
use native.Mathlib.Omega.{arith}
use mathlib.Core.Path.{◌≡◌, refl, sym, ap, subst, ◌∙◌}
use mathlib.Core.Bool.{Bool, true, false, cond, ◌&&◌, ◌||◌, not, false≢true}
use mathlib.Core.List.{List, [], ◌∷◌, ◌++◌, append_assoc}
use Rattle.std.specs.Prelude.{None, Some}
use lib.ListN.{length}
use lib.Dec.{ltb, eqb}
use borrow.Author.Tests.{eqb-true, eqb-false, eq-eqb, ne_eqb, ltb-true, ltb-false}
use Rattle.basics.specs.Lists.{is_empty}
use Rattle.basics.proofs.TestLaws.{by-test}
use Rattle.definitions.specs.Domain.{no_road}
use Rattle.definitions.specs.Words.{Word}
use Rattle.definitions.specs.Reader.{State, After, lookup, onward, behind_second, table, may_stand, among}
use Rattle.definitions.specs.Listing.{text, decimal, end_of_line}
use Rattle.texts.specs.SheetText.{own_number, row_ends, table_lead, tour_lead, leads, lead_in, records, Item, own, say, number, rows, numbers, value_of, behind_in, on, of_table, full, ended, step}
use Rattle.round_trip.proofs.ByKind.{ByKind, no_other, ◌or◌, by_kind}
use Rattle.texts.proofs.SheetSteps.{steps, steps-append, settled, begun, decimal-says, begins, ends, items_at, items_for, row_goes}

-- ---- behind a whole record

-- what stands before a number of kind k leads there
pub record Leads (is : List Item) (s : State) (k : ℕ) : Type 0 where
  pub starts : begins (lead_in (leads s) k ++ text " ") ≡ true
  pub goes : (at : ℕ) (f : Bool) (ws : List Word) (sp : List ℕ)
      → (g : Bool) × (steps at (settled is f s ws sp) (lead_in (leads s) k ++ text " ") ≡ on (settled (items_for s k) g s ws sp)) × (row_goes s k g ≡ true)

-- a customer's own number
own-ends : (at : ℕ) (l : List ℕ) (is : List Item) (f : Bool) (s : State) (ws : List Word) (sp : List ℕ) → is_empty l ≡ false → value_of l ≡ Some (own_number s)
    → ended at (begun l (settled (own ∷ is) f s ws sp)) ≡ on (settled is f s ws sp)
own-ends at l is f s ws sp h v = rw (h, v, eq-eqb (own_number s) (own_number s) refl) refl

-- behind a whole record
module _ (s : State) where
  opens-2 : Leads [] s 2
  unfolding step records
  opens-2 = record { starts = refl; goes = λ at f ws sp. (true, refl, refl) }

  opens-0 : Leads [] s 0
  unfolding step records
  opens-0 = record { starts = refl; goes = λ at f ws sp. (f, refl, refl) }

  opens-3 : Leads [] s 3
  unfolding step records
  opens-3 = record { starts = refl; goes = λ at f ws sp. (true, refl, refl) }

  opens-4 : Leads [] s 4
  unfolding step records
  opens-4 = record { starts = refl; goes = λ at f ws sp. (true, refl, refl) }

  opens-5 : Leads [] s 5
  unfolding step records
  opens-5 = record { starts = refl; goes = λ at f ws sp. (true, refl, refl) }

  opens-6 : eqb s.last.kind 6 ≡ false → Leads [] s 6
  unfolding step records
  opens-6 n = record { starts = rw n refl; goes = λ at f ws sp. (true, rw n refl, refl) }

  opens-8 : Leads [] s 8
  unfolding step records
  opens-8 = record { starts = refl; goes = λ at f ws sp. (f, refl, refl) }

  opens-9 : Leads [] s 9
  unfolding step records
  opens-9 = record { starts = refl; goes = λ at f ws sp. (f, refl, refl) }

  opens-B : Leads [] s 0xB
  unfolding step records
  opens-B = record { starts = refl; goes = λ at f ws sp. (f, refl, refl) }

  opens-7 : s.places ≤ no_road → Leads [] s 7
  unfolding step records
  opens-7 few =
      let n = own_number s in
      let S = decimal-says n (omega (arith, few)) in
      record {
        starts = refl;
        goes = λ at f ws sp.
            let at_own = settled (own ∷ say "seats" ∷ number 7 ∷ []) true s ws sp in
            let seats = text " seats" ++ text " " in (
              true,
              ap (λ (l : List ℕ). steps at (settled [] f s ws sp) (text "\ncustomer " ++ l)) (append_assoc (decimal n) (text " seats") (text " "))
                  ∙ steps-append at (settled [] f s ws sp) at_own (text "\ncustomer ") (decimal n ++ seats) refl
                  ∙ steps-append (10 + at) at_own (begun (decimal n) at_own) (decimal n) seats (S.goes (10 + at) (own ∷ say "seats" ∷ number 7 ∷ []) true s ws sp)
                  ∙ ends (length (decimal n) + (10 + at)) (decimal n) at_own (say "seats" ∷ number 7 ∷ []) true s ws sp seats refl
                  (own-ends (length (decimal n) + (10 + at)) (decimal n) (say "seats" ∷ number 7 ∷ []) true s ws sp S.some-letter S.value),
              refl,
            );
      }

-- ---- in a table

-- the end of a line, where the row is whole, or none has begun, or the table is full
line-goes : (at k : ℕ) (f : Bool) (s : State) (ws : List Word) (sp : List ℕ) → of_table k s && not (full k s) && not (row_ends s) ≡ false
    → steps at (settled (rows k ∷ []) f s ws sp) end_of_line ≡ on (settled (rows k ∷ []) true s ws sp)
unfolding step
line-goes at k f s ws sp h = rw h refl

full-goes : (a b c : Bool) → b ≡ true → a && not b && c ≡ false
full-goes true true c h = refl
full-goes true false c h = absurd (false≢true h)
full-goes false b c h = refl

-- a name behind a table that is full opens the next record
name-ends : (at k : ℕ) (l : List ℕ) (f : Bool) (s : State) (ws : List Word) (sp : List ℕ) (is : List Item) → full k s ≡ true → is_empty l ≡ false → value_of l ≡ None → behind_in records l ≡ Some is
    → ended at (begun l (settled (rows k ∷ []) f s ws sp)) ≡ on (settled is f s ws sp)
unfolding records
name-ends at k l f s ws sp is h some-letter v b = rw (some-letter, v, h, b) refl

-- a record that opens behind a full table
behind-table : (at k : ℕ) (name : List ℕ) (f : Bool) (s : State) (ws : List Word) (sp : List ℕ) (is : List Item) (bs : List ℕ) → full k s ≡ true → begins bs ≡ true
    → is_empty name ≡ false → value_of name ≡ None → behind_in records name ≡ Some is
    → ((at : ℕ) → steps at (settled (rows k ∷ []) true s ws sp) name ≡ on (begun name (settled (rows k ∷ []) true s ws sp)))
    → steps at (settled (rows k ∷ []) f s ws sp) (end_of_line ++ name ++ bs) ≡ steps (length name + (1 + at)) (settled is true s ws sp) bs
behind-table at k name f s ws sp is bs h g some-letter v b spelled =
    let in_table = settled (rows k ∷ []) true s ws sp in
    steps-append at (settled (rows k ∷ []) f s ws sp) in_table end_of_line (name ++ bs) (line-goes at k f s ws sp (full-goes (of_table k s) (full k s) (not (row_ends s)) h))
    ∙ steps-append (1 + at) in_table (begun name in_table) name bs (spelled (1 + at))
    ∙ ends (length name + (1 + at)) name in_table is true s ws sp bs g (name-ends (length name + (1 + at)) k name true s ws sp is h some-letter v b)

-- the end of a line behind the name of a table
module _ (s : State) (at : ℕ) (ws : List Word) (sp : List ℕ) where
  table-opens : (k : ℕ) → eqb s.last.kind k ≡ false → steps at (settled (rows k ∷ []) true s ws sp) (text "\n  ") ≡ on (settled (rows k ∷ []) true s ws sp)
  unfolding step
  table-opens k n = rw n refl

module _ (s : State) where
  opens-C : eqb s.last.kind 0xC ≡ false → Leads [] s 0xC
  unfolding step records
  opens-C n =
      record {
        starts = rw n refl;
        goes = λ at f ws sp. (
          true,
          rw n (steps-append at (settled [] f s ws sp) (begun (text "distances") (settled [] true s ws sp)) (text "\ndistances") (text "\n  ") refl
              ∙ ends (10 + at) (text "distances") (settled [] true s ws sp) (rows 0xC ∷ []) true s ws sp (text "\n  ") refl refl
              ∙ table-opens s (10 + at) ws sp 0xC n),
          rw n refl,
        );
      }

-- ---- in a record

module _ (s : State) where
  leads-to : eqb s.last.kind 6 ≡ true → eqb s.row 1 ≡ true → Leads (say "to" ∷ number 6 ∷ say "for" ∷ number 6 ∷ []) s 6
  unfolding step records
  leads-to t q = record { starts = rw (t, q) refl; goes = λ at f ws sp. (f, rw (t, q) refl, refl) }

  leads-for : eqb s.last.kind 6 ≡ true → eqb s.row 1 ≡ false → Leads (say "for" ∷ number 6 ∷ []) s 6
  unfolding step records
  leads-for t q = record { starts = rw (t, q) refl; goes = λ at f ws sp. (f, rw (t, q) refl, refl) }

  leads-due : Leads (say "to" ∷ number 0xA ∷ []) s 0xA
  unfolding step records
  leads-due = record { starts = refl; goes = λ at f ws sp. (f, refl, refl) }

  leads-call : eqb s.last.kind 0xE ≡ true → Leads (numbers 0xE ∷ []) s 0xE
  unfolding step records
  leads-call t = record { starts = rw t refl; goes = λ at f ws sp. (f, rw t refl, refl) }

-- ---- in a table and behind it

row-whole : (a b : Bool) → a && not b && false ≡ false
row-whole true true = refl
row-whole true false = refl
row-whole false b = refl

module _ (s : State) where
  -- the next number of the table of kind k
  leads-row : (k : ℕ) (name : List ℕ) → lead_in (leads s) k ≡ table_lead k name s → items_for s k ≡ rows k ∷ [] → eqb s.last.kind k ≡ true → Leads (rows k ∷ []) s k
  unfolding step
  leads-row k name l is t =
      by-test (row_ends s)
      (λ r. let shown : table_lead k name s ≡ text "\n " = rw (t, r) refl in
      let whole : lead_in (leads s) k ++ text " " ≡ text "\n  " = ap (λ (x : List ℕ). x ++ text " ") (l ∙ shown) in
      record {
        starts = ap begins whole;
        goes = λ at f ws sp. (
          true,
          ap (steps at (settled (rows k ∷ []) f s ws sp)) whole
              ∙ steps-append at (settled (rows k ∷ []) f s ws sp) (settled (rows k ∷ []) true s ws sp) end_of_line (text "  ")
              (line-goes at k f s ws sp (rw r (row-whole (of_table k s) (full k s))))
              ∙ ap (λ (js : List Item). on (settled js true s ws sp)) (sym is),
          rw (t, r) (in-line (eqb k 0xC || eqb k 0xD)),
        );
      })
      (λ r. let shown : table_lead k name s ≡ [] = rw (t, r) refl in
      let whole : lead_in (leads s) k ++ text " " ≡ text " " = ap (λ (x : List ℕ). x ++ text " ") (l ∙ shown) in
      record {
        starts = ap begins whole;
        goes = λ at f ws sp. (
          f,
          ap (steps at (settled (rows k ∷ []) f s ws sp)) whole ∙ ap (λ (js : List Item). on (settled js f s ws sp)) (sym is),
          rw (t, r) (within (eqb k 0xC || eqb k 0xD) f),
        );
      })
    where
      in-line : (b : Bool) → not (b && true && true && false) ≡ true
      in-line true = refl
      in-line false = refl

      within : (b f : Bool) → not (b && true && false && not f) ≡ true
      within true f = refl
      within false f = refl

  -- the times behind the distances
  leads-times : full 0xC s ≡ true → eqb s.last.kind 0xD ≡ false → Leads (rows 0xC ∷ []) s 0xD
  unfolding step records
  leads-times h n =
      record {
        starts = rw n refl;
        goes = λ at f ws sp. (
          true,
          rw n (behind-table at 0xC (text "times") f s ws sp (rows 0xD ∷ []) (text "\n  ") h refl refl refl refl (λ a. refl) ∙ table-opens s (5 + (1 + at)) ws sp 0xD n),
          rw n refl,
        );
      }

  -- the tour behind a table
  leads-tour : (k : ℕ) → full k s ≡ true → eqb s.last.kind 0xE ≡ false → Leads (rows k ∷ []) s 0xE
  unfolding step records
  leads-tour k h n =
      record {
        starts = rw n refl;
        goes = λ at f ws sp. (true, rw n (behind-table at k (text "tour") f s ws sp (numbers 0xE ∷ []) (text " ") h refl refl refl refl (λ a. refl)), refl);
      }

-- what stands behind all words, up to the end of the tour's line
pub record Closes (is : List Item) (s : State) : Type 0 where
  pub starts : begins (tour_lead s ++ end_of_line) ≡ true
  pub goes : (at : ℕ) (f : Bool) (ws : List Word) (sp : List ℕ) → steps at (settled is f s ws sp) (tour_lead s ++ end_of_line) ≡ on (settled (numbers 0xE ∷ []) true s ws sp)

module _ (s : State) where
  closes-table : (k : ℕ) → full k s ≡ true → eqb s.last.kind 0xE ≡ false → Closes (rows k ∷ []) s
  unfolding step records
  closes-table k h n =
      record {
        starts = rw n refl;
        goes = λ at f ws sp. rw n (behind-table at k (text "tour") f s ws sp (numbers 0xE ∷ []) end_of_line h refl refl refl refl (λ a. refl));
      }

  closes-tour : eqb s.last.kind 0xE ≡ true → Closes (numbers 0xE ∷ []) s
  unfolding step records
  closes-tour t = record { starts = rw t refl; goes = λ at f ws sp. rw t refl }

-- ---- by the word before

-- what a word of kind k shows before its number, or behind all words
abbrev pub Led : List Item → State → ℕ → Type 0
Led is s k = cond (eqb k 0xF) (Closes is s) (Leads is s k)

infixr 5 ◌also◌
-- what holds of each line of the reader's table
data ByLine (P : After → Type 0) : List After → Type 0 where
  no_line : ByLine P []
  ◌also◌ : {a : After} {lines : List After} → P a → ByLine P lines → ByLine P (a ∷ lines)

by-line : {G : Type 0} (j k : ℕ) (lines : List After) → ByLine (λ (a : After). j ≡ a.kind → among k a.kinds ≡ true → G) lines → among k (lookup j lines) ≡ true → G
by-line j k [] no_line m = absurd (false≢true m)
by-line j k (a ∷ lines) (p also ps) m = by-test (eqb j a.kind) (λ t. p (eqb-true j a.kind t) (rw t at m)) (λ f. by-line j k lines ps (rw f at m))

-- what of the state is known behind some word
pub record Behind (s : State) : Type 0 where
  pub rowed : 1 ≤ s.row
  pub few : s.places ≤ no_road
  pub kinded : s.last.kind < 16

module _ (s : State) (B : Behind s) where
  other : (j k : ℕ) → s.last.kind ≡ j → eqb j k ≡ false → eqb s.last.kind k ≡ false
  other j k e n = ap (λ (i : ℕ). eqb i k) e ∙ n

  -- the next customer, or the distances
  opens-onward : eqb s.last.kind 0xC ≡ false → Led [] s (onward s)
  opens-onward n = by-test (eqb s.coming 0) (λ t. rw t (opens-C s n)) (λ f. rw f (opens-7 s B.few))

  opens-second : Led [] s (behind_second s)
  opens-second = by-test (eqb (suc s.coming) s.places) (λ t. rw t (opens-3 s)) (λ f. rw f (opens-8 s))

  pub led : (k : ℕ) → among k (may_stand s) ≡ true → Led (items_at s) s k
  unfolding may_stand
  led k m =
      by-line s.last.kind k (table s)
      ((λ e q. absurd (omega (arith, B.kinded, e)))
      also (λ e q. plain (rw e refl) (behind_second s ∷ []) (opens-second or no_other) q)
      also (λ e q. plain (rw e refl) (2 ∷ []) (opens-2 s or no_other) q)
      also (λ e q. plain (rw e refl) (0 ∷ 3 ∷ []) (opens-0 s or opens-3 s or no_other) q)
      also (λ e q. plain (rw e refl) (4 ∷ 5 ∷ 6 ∷ onward s ∷ []) (opens-4 s or opens-5 s or opens-6 s (other 3 6 e refl) or opens-onward (other 3 0xC e refl) or no_other) q)
      also (λ e q. plain (rw e refl) (5 ∷ 6 ∷ onward s ∷ []) (opens-5 s or opens-6 s (other 4 6 e refl) or opens-onward (other 4 0xC e refl) or no_other) q)
      also (λ e q. plain (rw e refl) (6 ∷ onward s ∷ []) (opens-6 s (other 5 6 e refl) or opens-onward (other 5 0xC e refl) or no_other) q)
      also in-break
      also (λ e q. plain (rw e refl) (0 ∷ 8 ∷ []) (opens-0 s or opens-8 s or no_other) q)
      also (λ e q. plain (rw e refl) (9 ∷ 0xB ∷ onward s ∷ []) (opens-9 s or opens-B s or opens-onward (other 8 0xC e refl) or no_other) q)
      also (λ e q. among-items (say "to" ∷ number 0xA ∷ []) (rw e refl) (0xA ∷ []) (leads-due s or no_other) q)
      also (λ e q. plain (rw e refl) (0xB ∷ onward s ∷ []) (opens-B s or opens-onward (other 0xA 0xC e refl) or no_other) q)
      also (λ e q. plain (rw e refl) (onward s ∷ []) (opens-onward (other 0xB 0xC e refl) or no_other) q)
      also in-distances
      also in-times
      also (λ e q. let t = eq-eqb s.last.kind 0xE e in among-items (numbers 0xE ∷ []) (rw e refl) (0xE ∷ 0xF ∷ []) (leads-call s t or closes-tour s t or no_other) q)
      also no_line) m
    where
      among-items : (is : List Item) → items_at s ≡ is → (ks : List ℕ) → ByKind (Led is s) ks → among k ks ≡ true → Led (items_at s) s k
      among-items is e ks p q = subst (λ (js : List Item). Led js s k) (sym e) (by_kind (Led is s) ks k p q)

      -- behind a whole record
      plain : items_at s ≡ [] → (ks : List ℕ) → ByKind (Led [] s) ks → among k ks ≡ true → Led (items_at s) s k
      plain e ks p q = subst (λ (js : List Item). Led js s k) (sym e) (by_kind (Led [] s) ks k p q)

      in-break : s.last.kind ≡ 6 → among k (cond (ltb s.row 3) (6 ∷ []) (onward s ∷ [])) ≡ true → Led (items_at s) s k
      in-break e q =
          let six = eq-eqb s.last.kind 6 e in
          by-test (ltb s.row 3)
          (λ t. let few = ltb-true s.row 3 t in
          let q' : among k (6 ∷ []) ≡ true = rw t at q in
          by-test (eqb s.row 1)
          (λ o. among-items (say "to" ∷ number 6 ∷ say "for" ∷ number 6 ∷ []) (rw (e, o) refl) (6 ∷ []) (leads-to s six o or no_other) q')
          (λ o. let two : s.row ≡ 2 = omega (arith, B.rowed, few, eqb-false s.row 1 o) in
          among-items (say "for" ∷ number 6 ∷ []) (rw (e, two) refl) (6 ∷ []) (leads-for s six o or no_other) q'))
          (λ f. let more = ltb-false s.row 3 f in
          let not-one = ne_eqb s.row 1 (λ x. absurd (omega (arith, more, x))) in
          let not-two = ne_eqb s.row 2 (λ x. absurd (omega (arith, more, x))) in
          among-items [] (rw (e, not-one, not-two) refl) (onward s ∷ []) (opens-onward (other 6 0xC e refl) or no_other) (rw f at q))

      in-distances : s.last.kind ≡ 0xC → among k (cond (ltb s.row (s.places * s.places)) (0xC ∷ []) (0xD ∷ 0xE ∷ 0xF ∷ [])) ≡ true → Led (items_at s) s k
      in-distances e q =
          let t = eq-eqb s.last.kind 0xC e in
          by-test (ltb s.row (s.places * s.places))
          (λ l. among-items (rows 0xC ∷ []) (rw e refl) (0xC ∷ []) (leads-row s 0xC (text "distances") refl refl t or no_other) (rw l at q))
          (λ n. let h : full 0xC s ≡ true = rw (t, n) refl in
          let no_call = other 0xC 0xE e refl in
          among-items (rows 0xC ∷ []) (rw e refl) (0xD ∷ 0xE ∷ 0xF ∷ []) (leads-times s h (other 0xC 0xD e refl) or leads-tour s 0xC h no_call or closes-table s 0xC h no_call or no_other) (rw n at q))

      in-times : s.last.kind ≡ 0xD → among k (cond (ltb s.row (s.places * s.places)) (0xD ∷ []) (0xE ∷ 0xF ∷ [])) ≡ true → Led (items_at s) s k
      in-times e q =
          let t = eq-eqb s.last.kind 0xD e in
          by-test (ltb s.row (s.places * s.places))
          (λ l. among-items (rows 0xD ∷ []) (rw e refl) (0xD ∷ []) (leads-row s 0xD (text "times") refl refl t or no_other) (rw l at q))
          (λ n. let h : full 0xD s ≡ true = rw (t, n) refl in
          let no_call = other 0xD 0xE e refl in
          among-items (rows 0xD ∷ []) (rw e refl) (0xE ∷ 0xF ∷ []) (leads-tour s 0xD h no_call or closes-table s 0xD h no_call or no_other) (rw n at q))
