-- A customer put into a run, and a run taken out: what happens to the joined calls and to the run ends. Assumes nothing.
use Prim.Native.Nat.{ℕ, zero, suc, ◌+◌, ◌-◌, ◌<◌, ◌≤◌}
use native.Mathlib.Omega.{arith}
use native.Mathlib.Nat.{zero-add, not-suc-le-zero, le_of_suc-le-suc}
use native.Mathlib.Numerals.{add-one}
use mathlib.Core.Path.{◌≡◌, refl, sym, ap, ap₂, subst, ◌∙◌}
use mathlib.Core.List.{List, [], ◌∷◌, ◌++◌, map, append_assoc}
use lib.ListN.{length, get_or, take, drop, length-append, length-drop}
use lib.Seq.{length-take-le, take_at, drop_at, take-append-add, drop-append-add, take-append-le, drop-append-le, take-append_seam, drop-append_seam, drop-drop}
use Rattle.basics.specs.Lists.{without}
use Rattle.definitions.specs.RunList.{calls_of, ends_from, ends_of}
use Rattle.theorems.proofs.RunListLaws.{ends-many}
use Rattle.improve_runs.specs.RunLists.{run_at, insert_at, put_in, shifted}
use Rattle.improve_runs.proofs.Holding.{start_at, calls-append, parts}

pub ends-append : (p : ℕ) (a b : List (List ℕ)) → ends_from p (a ++ b) ≡ ends_from p a ++ ends_from (p + length (calls_of a)) b
ends-append p [] b = ap (λ (q : ℕ). ends_from q b) (let e : p ≡ p + 0 = omega arith in e)
ends-append p (r ∷ a) b =
    let e : p + length r + length (calls_of a) ≡ p + length (r ++ calls_of a) = omega (arith, length-append r (calls_of a)) in
    ap (λ (l : List ℕ). (p + length r) ∷ l) (ends-append (p + length r) a b ∙ ap (λ (q : ℕ). ends_from (p + length r) a ++ ends_from q b) e)

-- the ends behind a place that moves
ends-shifted : (up down p q : ℕ) (rs : List (List ℕ)) → p + up ≡ q + down → map (shifted up down) (ends_from p rs) ≡ ends_from q rs
ends-shifted up down p q [] e = refl
ends-shifted up down p q (r ∷ rs) e =
    let here : p + length r + up - down ≡ q + length r = omega arith in
    ap₂ (λ (x : ℕ) (l : List ℕ). x ∷ l) here (ends-shifted up down (p + length r) (q + length r) rs (omega arith))

pub put-run : (k pos c : ℕ) (rs : List (List ℕ)) → k < length rs → run_at (put_in k pos c rs) k ≡ insert_at pos c (run_at rs k)
put-run k pos c [] h = absurd (not-suc-le-zero h)
put-run zero pos c (r ∷ rs) h = refl
put-run (suc k) pos c (r ∷ rs) h = put-run k pos c rs (le_of_suc-le-suc h)

put-at : (pre post : List (List ℕ)) (r : List ℕ) (pos c : ℕ) → put_in (length pre) pos c (pre ++ (r ∷ post)) ≡ pre ++ (insert_at pos c r ∷ post)
put-at [] post r pos c = refl
put-at (x ∷ pre) post r pos c = ap (λ (l : List (List ℕ)). x ∷ l) (put-at pre post r pos c)

without_at : (pre post : List (List ℕ)) (r : List ℕ) → without (length pre) (pre ++ (r ∷ post)) ≡ pre ++ post
without_at [] post r = refl
without_at (x ∷ pre) post r = ap (λ (l : List (List ℕ)). x ∷ l) (without_at pre post r)

pub length-put : (k pos c : ℕ) (rs : List (List ℕ)) → length (put_in k pos c rs) ≡ length rs
length-put k pos c [] = refl
length-put zero pos c (r ∷ rs) = refl
length-put (suc k) pos c (r ∷ rs) = ap suc (length-put k pos c rs)

-- a run r between those before and those behind it
module _ (pre post : List (List ℕ)) (r : List ℕ) where
  abbrev calls : List ℕ
  calls = calls_of (pre ++ (r ∷ post))

  abbrev ends : List ℕ
  ends = ends_of (pre ++ (r ∷ post))

  abbrev start : ℕ
  start = length (calls_of pre)

  calls_are : calls ≡ calls_of pre ++ (r ++ calls_of post)
  calls_are = calls-append pre (r ∷ post)

  ends-are : ends ≡ ends_of pre ++ ends_from start (r ∷ post)
  ends-are = ends-append 0 pre (r ∷ post) ∙ ap (λ (q : ℕ). ends_of pre ++ ends_from q (r ∷ post)) (zero-add start)

  first_ends : take (length pre) ends ≡ ends_of pre
  first_ends = ap (take (length pre)) ends-are ∙ take_at (ends_of pre) (ends_from start (r ∷ post)) (length pre) (ends-many 0 pre)

  later-ends : drop (length pre) ends ≡ ends_from start (r ∷ post)
  later-ends = ap (drop (length pre)) ends-are ∙ drop_at (ends_of pre) (ends_from start (r ∷ post)) (length pre) (ends-many 0 pre)

  put-calls : (pos c : ℕ) → pos ≤ length r → calls_of (pre ++ (insert_at pos c r ∷ post)) ≡ take (start + pos) calls ++ (c ∷ drop (start + pos) calls)
  put-calls pos c h =
      let t : take (start + pos) calls ≡ calls_of pre ++ take pos r =
      ap (take (start + pos)) calls_are ∙ take-append-add (calls_of pre) (r ++ calls_of post) pos ∙ ap (λ (l : List ℕ). calls_of pre ++ l) (take-append-le pos r (calls_of post) h) in
      let d : drop (start + pos) calls ≡ drop pos r ++ calls_of post =
      ap (drop (start + pos)) calls_are ∙ drop-append-add (calls_of pre) (r ++ calls_of post) pos ∙ drop-append-le pos r (calls_of post) h in
      calls-append pre (insert_at pos c r ∷ post)
      ∙ ap (λ (l : List ℕ). calls_of pre ++ l) (append_assoc (take pos r) (c ∷ drop pos r) (calls_of post))
      ∙ sym (append_assoc (calls_of pre) (take pos r) (c ∷ (drop pos r ++ calls_of post)))
      ∙ ap₂ (λ (x y : List ℕ). x ++ (c ∷ y)) (sym t) (sym d)

  put-ends : (pos c : ℕ) → pos ≤ length r → ends_of (pre ++ (insert_at pos c r ∷ post)) ≡ take (length pre) ends ++ map (shifted 1 0) (drop (length pre) ends)
  put-ends pos c h =
      let longer : length (insert_at pos c r) ≡ suc (length r) = omega (arith, length-append (take pos r) (c ∷ drop pos r), length-take-le pos r h, length-drop pos r) in
      let here : start + length (insert_at pos c r) ≡ start + length r + 1 - 0 = omega arith in
      ends-append 0 pre (insert_at pos c r ∷ post)
      ∙ ap (λ (q : ℕ). ends_of pre ++ ends_from q (insert_at pos c r ∷ post)) (zero-add start)
      ∙ ap₂ (λ (x : List ℕ) (l : List ℕ). x ++ l) (sym first_ends)
      (ap₂ (λ (x : ℕ) (l : List ℕ). x ∷ l) here (sym (ends-shifted 1 0 (start + length r) (start + length (insert_at pos c r)) post (omega arith)))
      ∙ ap (map (shifted 1 0)) (sym later-ends))

  less-calls : calls_of (pre ++ post) ≡ take start calls ++ drop (start + length r) calls
  less-calls =
      calls-append pre post
      ∙ ap₂ (λ (x y : List ℕ). x ++ y) (sym (ap (take start) calls_are ∙ take-append_seam (calls_of pre) (r ++ calls_of post)))
      (sym (ap (drop (start + length r)) calls_are ∙ drop-append-add (calls_of pre) (r ++ calls_of post) (length r) ∙ drop-append_seam r (calls_of post)))

  less-ends : ends_of (pre ++ post) ≡ take (length pre) ends ++ map (shifted 0 (length r)) (drop (suc (length pre)) ends)
  less-ends =
      let d : drop (suc (length pre)) ends ≡ ends_from (start + length r) post =
      ap (λ (n : ℕ). drop n ends) (sym (add-one (length pre)))
      ∙ ap₂ (λ (n : ℕ) (l : List ℕ). drop (n + 1) l) (sym (ends-many 0 pre)) ends-are
      ∙ drop-append-add (ends_of pre) (ends_from start (r ∷ post)) 1 in
      ends-append 0 pre post
      ∙ ap (λ (q : ℕ). ends_of pre ++ ends_from q post) (zero-add start)
      ∙ ap₂ (λ (x y : List ℕ). x ++ y) (sym first_ends) (sym (ap (map (shifted 0 (length r))) d ∙ ends-shifted 0 (length r) (start + length r) start post (omega arith)))

-- each end is between where the runs start and where they end
ends-between : (p : ℕ) (rs : List (List ℕ)) (j : ℕ) → j < length (ends_from p rs) → (p ≤ get_or (ends_from p rs) j 0) × (get_or (ends_from p rs) j 0 ≤ p + length (calls_of rs))
ends-between p [] j h = absurd (not-suc-le-zero h)
ends-between p (r ∷ rs) zero h = (omega arith, omega (arith, length-append r (calls_of rs)))
ends-between p (r ∷ rs) (suc j) h =
    let b = ends-between (p + length r) rs j (le_of_suc-le-suc h) in
    (omega (arith, b.0), omega (arith, b.1, length-append r (calls_of rs)))

-- ---- run k of the runs

module _ (rs : List (List ℕ)) (k : ℕ) (h : k < length rs) where
  abbrev pre : List (List ℕ)
  pre = take k rs

  abbrev post : List (List ℕ)
  post = drop (suc k) rs

  abbrev run : List ℕ
  run = run_at rs k

  before-k : length pre ≡ k
  before-k = length-take-le k rs (omega arith)

  runs-put : (pos c : ℕ) → put_in k pos c rs ≡ pre ++ (insert_at pos c run ∷ post)
  runs-put pos c = ap₂ (λ (n : ℕ) (l : List (List ℕ)). put_in n pos c l) (sym before-k) (parts rs k h) ∙ put-at pre post run pos c

  runs-less : without k rs ≡ pre ++ post
  runs-less = ap₂ (λ (n : ℕ) (l : List (List ℕ)). without n l) (sym before-k) (parts rs k h) ∙ without_at pre post run

  pub calls-put : (pos c : ℕ) → pos ≤ length run → calls_of (put_in k pos c rs) ≡ take (start_at rs k + pos) (calls_of rs) ++ (c ∷ drop (start_at rs k + pos) (calls_of rs))
  unfolding start_at
  calls-put pos c b =
      ap calls_of (runs-put pos c) ∙ put-calls pre post run pos c b
      ∙ ap (λ (l : List ℕ). take (start_at rs k + pos) l ++ (c ∷ drop (start_at rs k + pos) l)) (ap calls_of (sym (parts rs k h)))

  pub ends-put : (pos c : ℕ) → pos ≤ length run → ends_of (put_in k pos c rs) ≡ take k (ends_of rs) ++ map (shifted 1 0) (drop k (ends_of rs))
  ends-put pos c b =
      ap ends_of (runs-put pos c) ∙ put-ends pre post run pos c b
      ∙ ap₂ (λ (n : ℕ) (l : List ℕ). take n l ++ map (shifted 1 0) (drop n l)) before-k (ap ends_of (sym (parts rs k h)))

  pub calls-less : calls_of (without k rs) ≡ take (start_at rs k) (calls_of rs) ++ drop (start_at rs k + length run) (calls_of rs)
  unfolding start_at
  calls-less =
      ap calls_of runs-less ∙ less-calls pre post run
      ∙ ap (λ (l : List ℕ). take (start_at rs k) l ++ drop (start_at rs k + length run) l) (ap calls_of (sym (parts rs k h)))

  pub ends-less : ends_of (without k rs) ≡ take k (ends_of rs) ++ map (shifted 0 (length run)) (drop (suc k) (ends_of rs))
  ends-less =
      ap ends_of runs-less ∙ less-ends pre post run
      ∙ ap₂ (λ (n : ℕ) (l : List ℕ). take n l ++ map (shifted 0 (length run)) (drop (suc n) l)) before-k (ap ends_of (sym (parts rs k h)))

  -- the ends from run k on, and those behind it
  from-k : drop k (ends_of rs) ≡ ends_from (start_at rs k) (run ∷ post)
  unfolding start_at
  from-k = ap₂ (λ (n : ℕ) (l : List (List ℕ)). drop n (ends_of l)) (sym before-k) (parts rs k h) ∙ later-ends pre post run

  behind-k : drop (suc k) (ends_of rs) ≡ ends_from (start_at rs k + length run) post
  behind-k = ap (λ (n : ℕ). drop n (ends_of rs)) (sym (add-one k)) ∙ sym (drop-drop 1 k (ends_of rs)) ∙ ap (drop 1) from-k

  all-calls : start_at rs k + length (calls_of (run ∷ post)) ≡ length (calls_of rs)
  unfolding start_at
  all-calls = sym (length-append (calls_of pre) (calls_of (run ∷ post))) ∙ ap length (sym (calls-append pre (run ∷ post))) ∙ ap (λ (l : List (List ℕ)). length (calls_of l)) (sym (parts rs k h))

  pub ends-inside : (j : ℕ) → j < length (drop k (ends_of rs)) → get_or (drop k (ends_of rs)) j 0 ≤ length (calls_of rs)
  ends-inside j b =
      let at = subst (λ (l : List ℕ). j < length l) from-k b in
      rw from-k (omega (arith, (ends-between (start_at rs k) (run ∷ post) j at).1, all-calls))

  pub ends-behind : (j : ℕ) → j < length (drop (suc k) (ends_of rs)) → (length run ≤ get_or (drop (suc k) (ends_of rs)) j 0) × (get_or (drop (suc k) (ends_of rs)) j 0 ≤ length (calls_of rs))
  ends-behind j b =
      let at = subst (λ (l : List ℕ). j < length l) behind-k b in
      let e = ends-between (start_at rs k + length run) post j at in
      rw behind-k (omega (arith, e.0), omega (arith, e.1, all-calls, length-append run (calls_of post)))
