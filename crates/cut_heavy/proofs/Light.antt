-- The calls that fit alone: they are among those of the tour, and what is held of them is what is held of the tour. Assumes nothing.
use Prim.Native.Nat.{ℕ, zero, suc, ◌-◌, ◌<◌, ◌≤◌}
use native.Mathlib.Omega.{arith}
use mathlib.Core.Path.{◌≡◌, refl, sym, ap, subst, ◌∙◌}
use mathlib.Core.Bool.{Bool, true, false, cond}
use mathlib.Core.List.{List, [], ◌∷◌, ◌++◌, map}
use lib.ListN.{length, get_or, take, drop, length-map, get_or-map}
use lib.Seq.{drop-nil}
use lib.Ieee.{Float}
use Rattle.basics.specs.Lists.{only, All}
use Rattle.basics.proofs.TestLaws.{by-test}
use Rattle.definitions.specs.Load.{carried, Load}
use Rattle.definitions.specs.Sheet.{CustomerOf}
use Rattle.definitions.specs.Drop.{call_at}
use Rattle.definitions.specs.Room.{written}
use Rattle.models.specs.declared.customer.Customer.{Customer}
use Rattle.models.specs.Load.{space_of}
use Rattle.evaluation.specs.Tables.{record_index, blank, record_f, demand_f}
use Rattle.cut_table.specs.Table.{Table}
use Rattle.cut_table.proofs.Writing.{front-written}
use Rattle.cut_stops.specs.Stops.{Below64, StopF, stop_in, stop_at}
use Rattle.cut_runs.specs.Runs.{Instance, bare_f, tariff}
use Rattle.cut_drops.specs.Drops.{drops_f}
use Rattle.cut_drops.specs.Refill.{Given, tables_with, instance_with, ListsOf, SomeLists, Stayed, Holds}
use Rattle.cut_heavy.specs.Heavy.{fits_alone, spread}
use Rattle.cut_heavy.proofs.Barred.{heavy-goes}
use Rattle.cut_heavy.proofs.First.{Bars, held_same, dropped-same, each-counted}

-- ---- lists

each_all : (P : ℕ → Type 0) (l : List ℕ) → ((j : ℕ) → j < length l → P (get_or l j 0)) → All P l
each_all P [] w = tt
each_all P (x ∷ l) w = (w 0 (omega arith), each_all P l (λ j h. w (suc j) (omega arith)))

all-each : (P : ℕ → Type 0) (l : List ℕ) → All P l → (j : ℕ) → j < length l → P (get_or l j 0)
all-each P [] a j h = absurd (clash h)
  where
    clash : j < 0 → ⊥
    clash h = omega arith
all-each P (x ∷ l) a zero h = a.0
all-each P (x ∷ l) a (suc j) h = all-each P l a.1 j (omega arith)

module _ (p : ℕ → Bool) where
  all-only : (P : ℕ → Type 0) (l : List ℕ) → All P l → All P (only p l)
  all-only P [] a = tt
  all-only P (x ∷ l) a = by-test (p x) (λ t. rw t (a.0, all-only P l a.1)) (λ f. rw f (all-only P l a.1))

  each-only : (P : ℕ → Type 0) (l : List ℕ) → ((j : ℕ) → j < length l → P (get_or l j 0)) → (j : ℕ) → j < length (only p l) → P (get_or (only p l) j 0)
  each-only P l w = all-each P (only p l) (all-only P l (each_all P l w))

  pub only-few : (l : List ℕ) → length (only p l) ≤ length l
  only-few [] = omega arith
  only-few (x ∷ l) = by-test (p x) (λ t. let e = only-few l in rw t (omega (arith, e))) (λ f. let e = only-few l in rw f (omega (arith, e)))

  -- where none is left out, they are all
  pub only-all : (l : List ℕ) → length (only p l) ≡ length l → only p l ≡ l
  only-all [] e = refl
  only-all (x ∷ l) e = by-test (p x) (λ t. rw t (ap (λ (m : List ℕ). x ∷ m) (only-all l (fewer t)))) (λ f. absurd (clash f))
    where
      fewer : p x ≡ true → length (only p l) ≡ length l
      fewer t = let z : suc (length (only p l)) ≡ suc (length l) = rw t at e in omega arith

      clash : p x ≡ false → ⊥
      clash f = let z : length (only p l) ≡ suc (length l) = rw f at e in omega (arith, only-few l)

  pub below-only : (l : List ℕ) → Below64 l → Below64 (only p l)
  unfolding Below64
  below-only l w = each-only (λ (c : ℕ). c < 64) l w

-- what is written over what was written, and is no shorter
drop-over : (n : ℕ) (l old : List ℕ) → length l ≤ n → drop n (l ++ drop (length l) old) ≡ drop n old
drop-over n [] old h = refl
drop-over zero (x ∷ l) old h = absurd (clash h)
  where
    clash : suc (length l) ≤ 0 → ⊥
    clash h = omega arith
drop-over (suc n) (x ∷ l) [] h = ap (λ (r : List ℕ). drop n (l ++ r)) (sym (drop-nil (length l))) ∙ drop-over n l [] (omega arith) ∙ drop-nil n
drop-over (suc n) (x ∷ l) (y ∷ old) h = drop-over n l old (omega arith)

written_twice : (l l' old : List ℕ) → length l' ≤ length l → written l (written l' old) ≡ written l old
written_twice l l' old h = ap (λ (r : List ℕ). l ++ r) (drop-over (length l) l' old h)

-- ---- what a call asks for is not changed by records without windows

demand-bare : (alone : Bool) (cs : List (CustomerOf Float)) (c : ℕ) → demand_f (cond alone (map bare_f cs) cs) c ≡ demand_f cs c
unfolding demand_f
demand-bare true cs c = ap (λ (x : CustomerOf Float). x.demand) (get_or-map bare_f cs (record_index c) blank)
demand-bare false cs c = refl

-- ---- the calls that fit alone

module _ (E : Given) (tour : List ℕ) where
  abbrev pub fits : ℕ → Bool
  fits = fits_alone E.stops (space_of E.terms.capacity)

  abbrev pub light : List ℕ
  light = only fits tour

  pub lists-light : (customers : List Customer) → ListsOf E tour customers → ListsOf E light customers
  lists-light customers W =
      record {
        long = W.long;
        stops-are = each-only fits (λ (c : ℕ). stop_at E.stops c ≡ stop_in (tables_with E customers) c) tour W.stops-are;
      }

  pub some-light : SomeLists E tour → SomeLists E light
  unfolding SomeLists
  some-light S = (S.0, lists-light S.0 S.1)

  -- one that does not never stays
  asks : (customers : List Customer) → ListsOf E tour customers → (j : ℕ) → j < length tour
      → (stop_at E.stops (get_or tour j 0)).customer.demand ≡ (tariff (instance_with E customers)).demand (get_or tour j 0)
  unfolding stop_in record_f demand_f
  asks customers W j h =
      ap (λ (s : StopF). s.customer.demand) (W.stops-are j h)
      ∙ sym (demand-bare E.terms.loads_alone (tables_with E customers).customers (get_or tour j 0))

  bars : (customers : List Customer) → ListsOf E tour customers → All (Bars (instance_with E customers) fits) tour
  bars customers W =
      each_all (Bars (instance_with E customers) fits) tour
      (λ j h f kept.
      heavy-goes (instance_with E customers) kept (get_or tour j 0) (ap (λ (d : Load). carried d (space_of E.terms.capacity)) (sym (asks customers W j h)) ∙ f))

  module _ (customers : List Customer) (W : ListsOf E tour customers) where
    abbrev I : Instance
    I = instance_with E customers

    stayed-light : (dropped₀ : List ℕ) (n : ℕ) (held among : List ℕ) (t : Table) → Stayed I light dropped₀ n held among t
        → (dropped : List ℕ) → dropped ≡ written (spread fits tour 1 1 (take (length light - n) among)) among → Stayed I tour dropped₀ n held dropped t
    stayed-light dropped₀ n held among t S dropped e =
        let same = held_same I fits tour (bars customers W) in
        let gone : take (length light - n) among ≡ (drops_f I light).dropped
        = ap (take (length light - n)) S.dropped-are
        ∙ ap (λ (k : ℕ). take k (written (drops_f I light).dropped dropped₀)) S.dropped-count
        ∙ front-written (drops_f I light).dropped dropped₀
        in
        let count : n ≡ length (drops_f I tour).held
        = S.held-count ∙ sym (length-map (drops_f I light).held (call_at light)) ∙ ap length (sym same) ∙ length-map (drops_f I tour).held (call_at tour)
        in
        let all : length tour - n ≡ length (drops_f I tour).dropped = omega (arith, each-counted I tour, count) in
        record {
          held-count = count;
          dropped-count = all;
          few = omega (arith, S.few, only-few fits tour);
          held-are = S.held-are ∙ sym same;
          dropped-are =
              e
              ∙ ap (λ (l : List ℕ). written (spread fits tour 1 1 l) among) gone
              ∙ ap (λ (l : List ℕ). written l among) (sym (dropped-same I fits tour (bars customers W)))
              ∙ ap (written (drops_f I tour).dropped) S.dropped-are
              ∙ written_twice (drops_f I tour).dropped (drops_f I light).dropped dropped₀ (omega (arith, all, S.dropped-count, only-few fits tour));
          whole = S.whole;
        }

  -- they stand at the front
  pub front-light : (m : ℕ) (held₀ held : List ℕ) → m ≡ length light → held ≡ written light held₀ → take m held ≡ light
  front-light m held₀ held c e = ap (take m) e ∙ ap (λ (k : ℕ). take k (written light held₀)) c ∙ front-written light held₀

  -- what is held of them is what is held of the tour
  module _ (calls : List ℕ) (ec : calls ≡ light) (dropped₀ : List ℕ) (n : ℕ) (held among : List ℕ) (t : Table) (H : Holds E calls dropped₀ n held among t) where
    pub holds-light : (m : ℕ) → m ≡ length light → (dropped : List ℕ) → dropped ≡ written (spread fits tour 1 1 (take (m - n) among)) among → Holds E tour dropped₀ n held dropped t
    unfolding Holds
    holds-light m em dropped e customers W =
        stayed-light customers W dropped₀ n held among t
        (subst (λ (l : List ℕ). Stayed (instance_with E customers) l dropped₀ n held among t) ec
        (H customers (subst (λ (l : List ℕ). ListsOf E l customers) (sym ec) (lists-light customers W))))
        dropped (e ∙ ap (λ (k : ℕ). written (spread fits tour 1 1 (take (k - n) among)) among) em)

    -- where they are all
    pub holds-all : light ≡ tour → Holds E tour dropped₀ n held among t
    holds-all all = subst (λ (l : List ℕ). Holds E l dropped₀ n held among t) (ec ∙ all) H
