-- A step of the code: what a turn that is known leads to, and one more element of a list. Assumes nothing.
use Prim.Native.Nat.{ℕ, suc, ◌+◌, ◌≤◌, ◌<◌}
use native.Mathlib.Omega.{arith}
use mathlib.Core.Path.{◌≡◌, refl, sym, ap, ◌∙◌}
use mathlib.Core.Bool.{Bool, true, false, cond}
use mathlib.Core.List.{List, [], ◌∷◌, ◌++◌}
use Rattle.std.specs.Prelude.{Option, None, Some, option_map}
use lib.ListN.{length, get_or, take, drop, set}
use lib.Seq.{take-suc-set, drop-cons, length-take-le}
use borrow.Author.Tests.{eq-eqb, ne_eqb}
use Rattle.basics.specs.Options.{◌>>=◌, value_or}
use Rattle.definitions.specs.Listing.{end_of_line}
use Rattle.texts.specs.CuttingText.{Mode, fresh, State, to, is_blank, blank, is_line_end, run_ended, line_ended, letter, step, expected, missing, runs, bad_at, walk}
use Rattle.cutting_text.specs.declared.mode.Mode.TheVariants.{Fresh}
use Rattle.cutting_text.specs.declared.read.TextSoFar.{TextSoFar}
use Rattle.cutting_text.specs.TextSoFar.{state_of, More, Few}
use Rattle.cutting_text.specs.declared.read.CuttingRead.{CuttingRead}
use Rattle.cutting_text.specs.declared.read.CuttingRead.TheVariants.{Runs, Bad}

pub known : {A B : Type 0} (f : A → B) {t u : A} {x : B} → t ≡ u → f t ≡ x → f u ≡ x
known f g e = sym (ap f g) ∙ e

pub pushed : (l : List ℕ) (i n : ℕ) → i < length l → take (i + 1) (set l i n) ≡ take i l ++ (n ∷ [])
pushed l i n h = let e : i + 1 ≡ suc i = omega arith in ap (λ (j : ℕ). take j (set l i n)) e ∙ take-suc-set l i n h

-- a run more
pub run-stored : (r : TextSoFar) (calls ends places : List ℕ) → r.calls ≤ length calls → r.runs < length ends → r.runs < length places
    → let q : TextSoFar = record { mode = Fresh; place = 0; calls = r.calls; runs = r.runs + 1 } in
    Some (state_of q calls (set ends r.runs r.calls) (set places r.runs r.place)) ≡ Some (run_ended (state_of r calls ends places))
run-stored r calls ends places h e p =
    λ i.
    Some (record {
      mode = fresh;
      place = 0;
      calls = take r.calls calls;
      ends = (pushed ends r.runs r.calls e ∙ ap (λ (n : ℕ). take r.runs ends ++ (n ∷ [])) (sym (length-take-le r.calls calls h))) i;
      places = pushed places r.runs r.place p i;
    })

-- ---- the next byte, by what it is

module _ (s : State) (b : ℕ) where
  pub at-line-end : {x : Option State} (t : State) → b ≡ 10 → Some t ≡ blank s.mode s → x ≡ line_ended t.mode t → x ≡ step s b
  unfolding step
  at-line-end t e f g = rw (eq-eqb b 10 e) (g ∙ ap (λ (o : Option State). o >>= λ t. line_ended t.mode t) f)

  pub stuck_there : b ≡ 10 → None ≡ blank s.mode s → None ≡ step s b
  unfolding step
  stuck_there e f = rw (eq-eqb b 10 e) (ap (λ (o : Option State). o >>= λ t. line_ended t.mode t) f)

  pub at-blank : {x : Option State} → (b ≡ 10 → ⊥) → is_blank b ≡ true → x ≡ blank s.mode s → x ≡ step s b
  unfolding step
  at-blank n e f = rw (ne_eqb b 10 n, e) f

  pub at-letter : {o : Option Mode} → (b ≡ 10 → ⊥) → is_blank b ≡ false → o ≡ letter s.mode b → option_map (λ m. to m s) o ≡ step s b
  unfolding step
  at-letter n e f = rw (ne_eqb b 10 n, e) (ap (option_map (λ m. to m s)) f)

  pub ended-too-early : {o : Option State} → b ≡ 10 → o ≡ blank s.mode s → expected (value_or s o).mode ≡ missing s b
  ended-too-early e f = rw (eq-eqb b 10 e) (ap (λ (o : Option State). expected (value_or s o).mode) f)

-- ---- how many calls and runs more

pub more-run : (r : TextSoFar) (t : (Option TextSoFar)) → More 1 0 r t → More 1 1 r t
more-run r None m = tt
more-run r (Some q) m = (m.0, omega (arith, m.1))

pub more-both : (r q : TextSoFar) (t : (Option TextSoFar)) → q.calls ≤ r.calls + 1 → q.runs ≤ r.runs + 0 → More 0 1 q t → More 1 1 r t
more-both r q None h k m = tt
more-both r q (Some u) h k m = (omega (arith, h, m.0), omega (arith, k, m.1))

pub few-more : {c n d m : ℕ} (t : CuttingRead) → c ≤ d → n ≤ m → Few c n t → Few d m t
few-more (Runs calls ends) h k f = (omega (arith, f.0), omega (arith, f.1))
few-more (Bad line column m) h k f = tt

-- ---- reading on

walk-on : (line column : ℕ) (s : State) (b : ℕ) (bs : List ℕ) (t : State) → Some t ≡ step s b
    → walk line column s (b ∷ bs) ≡ walk (cond (is_line_end b) (suc line) line) (cond (is_line_end b) 1 (suc column)) t bs
unfolding walk
walk-on line column s b bs t e = rw (sym e, walk) refl

walk-stuck : (line column : ℕ) (s : State) (b : ℕ) (bs : List ℕ) → None ≡ step s b → walk line column s (b ∷ bs) ≡ bad_at line column (missing s b)
unfolding walk
walk-stuck line column s b bs e = rw (sym e, walk) refl

-- the end of the text
pub ends_read : (line column : ℕ) (s t : State) → Some t ≡ step s 10 → runs t.calls t.ends t.places ≡ walk line column s end_of_line
unfolding walk
ends_read line column s t e = sym (walk-on line column s 10 [] t e)

pub ends_stuck : (line column : ℕ) (s : State) → None ≡ step s 10 → bad_at line column (missing s 10) ≡ walk line column s end_of_line
ends_stuck line column s e = sym (walk-stuck line column s 10 [] e)

-- a byte of it
module _ (line column : ℕ) (s : State) (bytes : List ℕ) (i : ℕ) (h : i < length bytes) where
  abbrev b : ℕ
  b = get_or bytes i 0

  pub read-on : (t : State) → Some t ≡ step s b
      → walk line column s (drop i bytes ++ end_of_line) ≡ walk (cond (is_line_end b) (suc line) line) (cond (is_line_end b) 1 (suc column)) t (drop (suc i) bytes ++ end_of_line)
  read-on t e = ap (λ (l : List ℕ). walk line column s (l ++ end_of_line)) (drop-cons bytes i 0 h) ∙ walk-on line column s b (drop (suc i) bytes ++ end_of_line) t e

  pub read-stuck : None ≡ step s b → walk line column s (drop i bytes ++ end_of_line) ≡ bad_at line column (missing s b)
  read-stuck e = ap (λ (l : List ℕ). walk line column s (l ++ end_of_line)) (drop-cons bytes i 0 h) ∙ walk-stuck line column s b (drop (suc i) bytes ++ end_of_line) e

-- line, column and index of the next byte as the code has them
pub moved : {line column x y : ℕ} → line ≡ x → column ≡ y → (t : State) (bytes : List ℕ) (i : ℕ)
    → walk line column t (drop (i + 1) bytes ++ end_of_line) ≡ walk x y t (drop (suc i) bytes ++ end_of_line)
moved p q t bytes i = let e : i + 1 ≡ suc i = omega arith in λ k. walk (p k) (q k) t (drop (e k) bytes ++ end_of_line)

pub at-most-either : (b : Bool) (x y n : ℕ) → x ≤ n → y ≤ n → cond b x y ≤ n
at-most-either true x y n h k = h
at-most-either false x y n h k = k
