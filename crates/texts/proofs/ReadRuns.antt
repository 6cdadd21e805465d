-- The run ends that are read in any text are at most the number of its calls. Assumes nothing.
use Prim.Native.Nat.{ℕ, suc, ◌≤◌}
use native.Mathlib.Omega.{arith}
use mathlib.Core.Path.{◌≡◌, refl, subst}
use mathlib.Core.Bool.{cond}
use mathlib.Core.List.{List, [], ◌∷◌, ◌++◌}
use Rattle.std.specs.Prelude.{Option, None, Some, option_map}
use lib.ListN.{length, length-append}
use Rattle.basics.proofs.TestLaws.{by-test}
use Rattle.basics.proofs.OptionLaws.{same, clash, bound}
use Rattle.basics.specs.Lists.{All}
use Rattle.basics.proofs.ListLaws.{all-imp, all_append}
use Rattle.definitions.specs.Listing.{end_of_line}
use Rattle.texts.specs.CuttingText.{a_customer, a_place, a_start, Mode, fresh, spelling, passing, before, within, between, behind, State, begin, to, is_blank, blank, is_line_end, run_ended, line_ended, letter, step, CuttingRead, runs, bad_at, walk, read_cutting}

-- each is at most the number of these calls
abbrev pub EndsIn : (calls ends : List ℕ) → Type 0
EndsIn calls ends = All (λ (e : ℕ). e ≤ length calls) ends

abbrev Ended : State → Type 0
Ended s = EndsIn s.calls s.ends

-- ---- a step

blank-keeps : (m : Mode) (s t : State) → Ended s → blank m s ≡ Some t → Ended t
blank-keeps fresh s t E e = subst Ended (same e) E
blank-keeps (spelling [] m) s t E e = subst Ended (same e) E
blank-keeps (spelling (l ∷ ls) m) s t E e = clash e
blank-keeps passing s t E e = subst Ended (same e) E
blank-keeps (before k) s t E e = subst Ended (same e) E
blank-keeps (within a_customer n) s t E e =
    subst Ended (same e)
    (all-imp (λ (x : ℕ). x ≤ length s.calls) (λ (x : ℕ). x ≤ length (s.calls ++ n ∷ [])) (λ x h. omega (arith, h, length-append s.calls (n ∷ []))) s.ends E)
blank-keeps (within a_place n) s t E e = subst Ended (same e) E
blank-keeps (within a_start n) s t E e = subst Ended (same e) E
blank-keeps between s t E e = subst Ended (same e) E
blank-keeps behind s t E e = subst Ended (same e) E

-- a run more
run-keeps : (s : State) → Ended s → Ended (run_ended s)
run-keeps s E = all_append (λ (e : ℕ). e ≤ length s.calls) s.ends (length s.calls ∷ []) E (omega arith, tt)

line-keeps : (m : Mode) (s t : State) → Ended s → line_ended m s ≡ Some t → Ended t
line-keeps fresh s t E e = subst Ended (same e) E
line-keeps (spelling ls m) s t E e = clash e
line-keeps passing s t E e = subst Ended (same e) E
line-keeps (before k) s t E e = clash e
line-keeps (within k n) s t E e = clash e
line-keeps between s t E e = subst Ended (same e) (run-keeps s E)
line-keeps behind s t E e = subst Ended (same e) (run-keeps s E)

letter-keeps : (o : Option Mode) (s t : State) → Ended s → option_map (λ m. to m s) o ≡ Some t → Ended t
letter-keeps None s t E e = clash e
letter-keeps (Some m) s t E e = subst Ended (same e) E

step_keeps : (s t : State) (b : ℕ) → Ended s → step s b ≡ Some t → Ended t
unfolding step
step_keeps s t b E e =
    by-test (is_line_end b)
    (λ y. let (u, q, r) = bound (blank s.mode s) (λ u. line_ended u.mode u) t (rw y at e) in line-keeps u.mode u t (blank-keeps s.mode s u E q) r)
    (λ n. by-test (is_blank b) (λ y. blank-keeps s.mode s t E (rw (n, y) at e)) (λ m. letter-keeps (letter s.mode b) s t E (rw (n, m) at e)))

-- ---- all steps

-- what is said of the runs, where runs are read
abbrev Said : CuttingRead → Type 0
Said (runs calls ends places) = EndsIn calls ends
Said (bad_at line column e) = Unit {0}

walk-keeps : (line column : ℕ) (s : State) (bs : List ℕ) → Ended s → Said (walk line column s bs)
unfolding walk
walk-keeps line column s [] E = E
walk-keeps line column s (b ∷ bs) E = go (step s b) refl (λ x y t F. walk-keeps x y t bs F)
  where
    go : (o : Option State) → step s b ≡ o → ((x y : ℕ) (t : State) → Ended t → Said (walk x y t bs)) → Said (walk line column s (b ∷ bs))
    go None e rest = rw (e, walk) tt
    go (Some t) e rest = rw (e, walk) (rest (cond (is_line_end b) (suc line) line) (cond (is_line_end b) 1 (suc column)) t (step_keeps s t b E e))

pub read-ends : (bytes calls ends places : List ℕ) → read_cutting bytes ≡ runs calls ends places → EndsIn calls ends
unfolding read_cutting
read-ends bytes calls ends places e = subst Said e (walk-keeps 1 1 begin (bytes ++ end_of_line) tt)
