-- A call put into a list whose elements move one place on, and run ends that are raised. Assumes nothing.
use Prim.Native.Nat.{ℕ, ◌+◌, ◌-◌, ◌<◌, ◌≤◌}
use native.Mathlib.Omega.{arith}
use mathlib.Core.Path.{◌≡◌, sym, ap, ap₂, ◌∙◌}
use mathlib.Core.List.{List, [], ◌∷◌, ◌++◌, map, append_assoc}
use lib.ListN.{length, get_or, set, take, drop, length-append, length-set, length-map, length-take, length-drop}
use lib.Seq.{paste, length-take-le, take-take, set_at}
use Rattle.std.proofs.lemmas.List.{take_more, get_or_default}
use Rattle.std.proofs.lemmas.List.Edits.{length-paste, map_over_more}
use Rattle.improve_runs.specs.RunLists.{room, Front, insert_at, shifted}
use Rattle.improve_runs.proofs.Fronts.{front-of, part-is}

-- ---- c put before element number `at` of the first n

module _ (old : List ℕ) (n at c : ℕ) (long : length old ≡ room) (h : at ≤ n) (fits : n < room) where
  abbrev made : List ℕ
  made = set (paste old (at + 1) (drop at old) (n - at)) at c

  made-is : made ≡ insert_at at c (take n old) ++ drop (at + 1 + (n - at)) old
  made-is =
      let x = get_or old at 0 in
      let moved = take (n - at) (drop at old) in
      let rest = drop (at + 1 + (n - at)) old in
      let first : take (at + 1) old ≡ take at old ++ (x ∷ []) = take_more old at 0 (omega arith) in
      let split : (take (at + 1) old ++ moved) ++ rest ≡ take at old ++ (x ∷ (moved ++ rest)) = rw first (simp append_assoc) in
      ap (λ (l : List ℕ). set l at c) split
      ∙ set_at (take at old) x (moved ++ rest) c at (length-take-le at old (omega arith))
      ∙ sym (append_assoc (take at old) (c ∷ moved) rest)
      ∙ ap₂ (λ (l m : List ℕ). (l ++ (c ∷ m)) ++ rest) (sym (take-take at n old h)) (part-is old at n)

  pub put-front : Front (insert_at at c (take n old)) made
  put-front =
      let same : length made ≡ room =
      length-set _ at c ∙ length-paste old (at + 1) (drop at old) (n - at) (omega arith) (simp length-drop (omega arith)) ∙ long in
      rw made-is (front-of _ _ (rw made-is at same))

-- ---- run ends from number k on raised by one

-- those before i of a list
abbrev pub raised_to : List ℕ → ℕ → List ℕ
raised_to l i = map (shifted 1 0) (take i l) ++ drop i l

module _ (old ends : List ℕ) (i : ℕ) (e : ends ≡ raised_to old i) (b : i < length old) where
  pub raise-more : set ends i (get_or ends i 0 + 1) ≡ raised_to old (i + 1)
  raise-more =
      let x = get_or ends i 0 in
      let one : x + 1 ≡ shifted 1 0 x = omega arith in
      let inside : i < length ends = rw e (simp (length-append, length-map, length-take, length-drop) (omega arith)) in
      ap (set ends i) one ∙ map_over_more (shifted 1 0) old ends i x b e (get_or_default ends i 0 x inside)
