-- The drop process: each drop is the end of the shortest beginning without a legal cutting; in the end there is no such beginning; positions are served or dropped, and both rise. Assumes nothing.
use Prim.Native.Nat.{ℕ, zero, suc, ◌+◌, ◌-◌, ◌≤◌, ◌<◌}
use native.Mathlib.Omega.{arith}
use native.Mathlib.Nat.{le_refl, not-suc-le-zero}
use mathlib.Core.Path.{◌≡◌, refl, sym, ap, subst, ◌∙◌}
use mathlib.Core.Logic.{◌⊎◌, inl, inr, ⊎_elim}
use mathlib.Core.List.{List, [], ◌∷◌, ◌++◌, map, append-nil, append_assoc}
use Rattle.std.specs.Prelude.{Option, None}
use lib.ListN.{length, take, drop, get_or, length-append, length-map}
use lib.Dec.{ltb}
use borrow.Author.Tests.{ltb-true, ltb-false}
use Rattle.basics.proofs.TestLaws.{by-test}
use Rattle.basics.specs.Lists.{without, count, In, first, next, Rising}
use Rattle.basics.proofs.ListLaws.{length_without, length-count}
use Rattle.definitions.specs.Clock.{Arc}
use Rattle.definitions.specs.Cutting.{stuck}
use Rattle.definitions.specs.Drop.{all_held, call_at, calls_at, Held, drop_from, drops, drop_at}
use Rattle.definitions.specs.Promise.{beginning, Settles, stop, goes, Parts, ended, kept, gone}
use Rattle.theorems.proofs.Shortest.{Cuttable, Stuck, never, at_call, stuck-is}

-- ---- the process, step by step

module _ (arc : List ℕ → Option Arc) (tour : List ℕ) where
  module _ (empty : arc [] ≡ None) where
    settles-in : (turns : ℕ) (h : Held) → length h.held ≤ turns → Settles (Cuttable arc) tour h (drop_from arc tour turns h)
    unfolding drop_from
    settles-in zero h l = stop (λ i b. (0, nothing_left i))
      where
        none-held : (held : List ℕ) → length held ≤ 0 → held ≡ []
        none-held [] l = refl
        none-held (x ∷ held) l = absurd (not-suc-le-zero l)

        nil : (i : ℕ) → ◌≡◌ {A = List ℕ} (take i []) []
        nil zero = refl
        nil (suc i) = refl

        nothing_left : (i : ℕ) → Rattle.theorems.proofs.Least.Reach arc (beginning tour i h) 0
        nothing_left i = Rattle.theorems.proofs.Least.start (ap (λ (q : List ℕ). take i (calls_at tour q)) (none-held h.held l) ∙ nil i) refl
    settles-in (suc turns) h l = go (stuck-is arc empty (calls_at tour h.held)) (λ g b. settles-in turns g b)
      where
        lm : length (calls_at tour h.held) ≡ length h.held
        lm = length-map h.held (call_at tour)

        go : Stuck arc (calls_at tour h.held) (stuck arc (calls_at tour h.held)) → ((g : Held) → length g.held ≤ turns → Settles (Cuttable arc) tour g (drop_from arc tour turns g))
            → Settles (Cuttable arc) tour h (drop_from arc tour (suc turns) h)
        go (never e a) ih = rw (e, drop_from) (stop (λ i b. a i (subst (λ (n : ℕ). i ≤ n) (sym lm) b)))
        go (at_call k e b x a) ih =
            let b' : k < length h.held = subst (λ (n : ℕ). k < n) lm b in
            let w : suc (length (without k h.held)) ≡ length h.held = length_without k h.held b' in
            rw (e, drop_from) (goes k b' x a (ih (drop_at k h) (omega arith)))

    pub settles : Settles (Cuttable arc) tour (all_held tour) (drops arc tour)
    unfolding drops
    settles = settles-in (length tour) (all_held tour) (subst (λ (n : ℕ). n ≤ length tour) (sym (length-count 1 (length tour))) (le_refl (length tour)))

-- when no such beginning is left: every beginning of the calls held in the end has a cutting
pub settled : (Has : List ℕ → Type 0) (tour : List ℕ) {h g : Held} → Settles Has tour h g → (i : ℕ) → i ≤ length g.held → Has (beginning tour i g)
settled Has tour (stop a) = a
settled Has tour (goes k b x a s) = settled Has tour s

-- ---- every position is either served or dropped

all-kept : (l : List ℕ) → Parts l l []
all-kept [] = ended
all-kept (x ∷ l) = kept x (all-kept l)

parts-append : {l h d l' h' d' : List ℕ} → Parts l h d → Parts l' h' d' → Parts (l ++ l') (h ++ h') (d ++ d')
parts-append ended Q = Q
parts-append (kept x P) Q = kept x (parts-append P Q)
parts-append (gone x P) Q = gone x (parts-append P Q)

pub without_at : (u : List ℕ) (y : ℕ) (v : List ℕ) → without (length u) (u ++ (y ∷ v)) ≡ u ++ v
without_at [] y v = refl
without_at (x ∷ u) y v = ap (λ (l : List ℕ). x ∷ l) (without_at u y v)

take-without : (f : ℕ → ℕ) (i k : ℕ) (l : List ℕ) → i ≤ k → take i (map f (without k l)) ≡ take i (map f l)
take-without f zero k l h = refl
take-without f (suc i) k [] h = refl
take-without f (suc i) zero (x ∷ l) h = absurd (not-suc-le-zero h)
take-without f (suc i) (suc k) (x ∷ l) h = ap (λ (m : List ℕ). f x ∷ m) (take-without f i k l (native.Mathlib.Nat.le_of_suc-le-suc h))

module _ (arc : List ℕ → Option Arc) (tour : List ℕ) where
  -- what is settled of the positions: those before `post`
  record Front (all : List ℕ) (h : Held) : Type 0 where
    pre : List ℕ
    post : List ℕ
    seen : List ℕ
    held-is : pre ++ post ≡ h.held
    all-is : seen ++ post ≡ all
    parts : Parts seen pre h.dropped
    fine : (i : ℕ) → i ≤ length pre → Cuttable arc (beginning tour i h)

  -- the front moves past the call that goes
  onward : (all : List ℕ) (h : Held) (k : ℕ) (F : Front all h) (mid : List ℕ) (y : ℕ) (post : List ℕ) → F.post ≡ mid ++ (y ∷ post) → length (F.pre ++ mid) ≡ k
      → ((i : ℕ) → i ≤ k → Cuttable arc (beginning tour i h)) → Front all (drop_at k h)
  onward all h k F mid y post e z a =
      record {
        pre = F.pre ++ mid;
        post = post;
        seen = F.seen ++ (mid ++ (y ∷ []));
        held-is = sym (ap (λ (n : ℕ). without n h.held) (sym z) ∙ ap (λ (l : List ℕ). without (length (F.pre ++ mid)) l) held ∙ without_at (F.pre ++ mid) y post);
        all-is = append_assoc F.seen (mid ++ (y ∷ [])) post ∙ ap (λ (l : List ℕ). F.seen ++ l) (append_assoc mid (y ∷ []) post ∙ sym e) ∙ F.all-is;
        parts = subst (λ (x : ℕ). Parts (F.seen ++ (mid ++ (y ∷ []))) (F.pre ++ mid) (h.dropped ++ (x ∷ []))) (sym gone-is)
            (parts-append F.parts (subst (λ (l : List ℕ). Parts (mid ++ (y ∷ [])) l (y ∷ [])) (append-nil mid) (parts-append (all-kept mid) (gone y ended))));
        fine = λ i b. subst (Cuttable arc) (sym (take-without (call_at tour) i k h.held (subst (λ (n : ℕ). i ≤ n) z b))) (a i (subst (λ (n : ℕ). i ≤ n) z b));
      }
    where
      held : h.held ≡ F.pre ++ mid ++ (y ∷ post)
      held = sym F.held-is ∙ ap (λ (l : List ℕ). F.pre ++ l) e ∙ sym (append_assoc F.pre mid (y ∷ post))

      gone-is : get_or h.held k 0 ≡ y
      gone-is = ap (λ (n : ℕ). get_or h.held n 0) (sym z) ∙ ap (λ (l : List ℕ). get_or l (length (F.pre ++ mid)) 0) held ∙ lib.Seq.get_or-append_seam (F.pre ++ mid) y post 0

  settles-parts : (all : List ℕ) {h g : Held} → Settles (Cuttable arc) tour h g → Front all h → Parts all g.held g.dropped
  settles-parts all {h} (stop a) F =
      subst (λ (l : List ℕ). Parts l h.held h.dropped) F.all-is
      (subst (λ (l : List ℕ). Parts (F.seen ++ F.post) l h.dropped) F.held-is
      (subst (λ (l : List ℕ). Parts (F.seen ++ F.post) (F.pre ++ F.post) l) (append-nil h.dropped)
      (parts-append F.parts (all-kept F.post))))
  settles-parts all {h} (goes k b x a s) F =
      let j = k - length F.pre in
      let le : length F.pre ≤ k =
      by-test (lib.Dec.ltb k (length F.pre)) (λ t. absurd (x (F.fine (suc k) (borrow.Author.Tests.ltb-true k (length F.pre) t)))) (λ f. borrow.Author.Tests.ltb-false k (length F.pre) f) in
      let lh : length F.pre + length F.post ≡ length h.held = sym (length-append F.pre F.post) ∙ ap length F.held-is in
      let lj : j < length F.post = omega arith in
      let lt : length (take j F.post) ≡ j = lib.Seq.length-take-le j F.post (omega arith) in
      let lk : length F.pre + length (take j F.post) ≡ k = omega arith in
      settles-parts all s
      (onward all h k F (take j F.post) (get_or F.post j 0) (drop (suc j) F.post) (lib.Seq.split_at F.post j 0 lj) (length-append F.pre (take j F.post) ∙ lk) a)

  -- the positions of the tour, each served or dropped
  pub drops-parts : arc [] ≡ None → Parts (count 1 (length tour)) (drops arc tour).held (drops arc tour).dropped
  drops-parts empty =
      settles-parts (count 1 (length tour)) (settles arc tour empty)
      (record { pre = []; post = count 1 (length tour); seen = []; held-is = refl; all-is = refl; parts = ended; fine = λ i b. (0, Rattle.theorems.proofs.Least.start (none_of i b) refl) })
    where
      none_of : (i : ℕ) → i ≤ 0 → take i (calls_at tour (count 1 (length tour))) ≡ []
      none_of zero b = refl
      none_of (suc i) b = absurd (not-suc-le-zero b)

-- ---- in rising order, and never both

rising-from : (a b : ℕ) (l : List ℕ) → a < b → Rising b l → Rising a l
rising-from a b [] h r = tt
rising-from a b (x ∷ l) h r = (native.Mathlib.Nat.lt_trans h r.0, r.1)

pub count-rises : (a n : ℕ) → Rising a (count (suc a) n)
count-rises a zero = tt
count-rises a (suc n) = (le_refl (suc a), count-rises (suc a) n)

pub parts-rise : {l h d : List ℕ} (a : ℕ) → Parts l h d → Rising a l → Rising a h × Rising a d
parts-rise a ended r = (tt, tt)
parts-rise a (kept {d = d} x P) r = let q = parts-rise x P r.1 in ((r.0, q.0), rising-from a x d r.0 q.1)
parts-rise a (gone {h = h} x P) r = let q = parts-rise x P r.1 in (rising-from a x h r.0 q.0, (r.0, q.1))

rising-above : {x : ℕ} (a : ℕ) {l : List ℕ} → Rising a l → In x l → a < x
rising-above a r In.first = r.0
rising-above a r (In.next {y = y} {l = l} i) = rising-above a {l = l} (rising-from a y l r.0 r.1) i

pub parts-either : {l h d : List ℕ} {x : ℕ} → Parts l h d → In x l → In x h ⊎ In x d
parts-either ended x10 = elim x10 [ ]
parts-either (kept x P) In.first = inl In.first
parts-either (gone x P) In.first = inr In.first
parts-either (kept x P) (In.next i) = ⊎_elim (λ j. inl (In.next j)) (λ j. inr j) (parts-either P i)
parts-either (gone x P) (In.next i) = ⊎_elim (λ j. inl j) (λ j. inr (In.next j)) (parts-either P i)

pub parts-not-both : {l h d : List ℕ} {y : ℕ} (a : ℕ) → Parts l h d → Rising a l → In y h → In y d → ⊥
parts-not-both {y = y} a ended r i j = elim i [ ]
parts-not-both a (kept {d = d} x P) r In.first j = native.Mathlib.Nat.lt_irrefl _ (rising-above x {l = d} (parts-rise x P r.1).1 j)
parts-not-both a (kept x P) r (In.next i) j = parts-not-both x P r.1 i j
parts-not-both a (gone {h = h} x P) r i In.first = native.Mathlib.Nat.lt_irrefl _ (rising-above x {l = h} (parts-rise x P r.1).0 i)
parts-not-both a (gone x P) r i (In.next j) = parts-not-both x P r.1 i j

-- the drops lead to one end only
pub settles-one : (Has : List ℕ → Type 0) (tour : List ℕ) {h g g' : Held} → Settles Has tour h g → Settles Has tour h g' → g ≡ g'
settles-one Has tour (stop a) (stop b) = refl
settles-one Has tour (stop a) (goes k l x b r) = absurd (x (a (suc k) l))
settles-one Has tour (goes k l x b r) (stop a) = absurd (x (a (suc k) l))
settles-one Has tour {h} {g} {g'} (goes k l x a r) (goes k' l' x' a' r') =
    settles-one Has tour r (subst (λ (n : ℕ). Settles Has tour (drop_at n h) g') (sym one) r')
  where
    one : k ≡ k'
    one =
        by-test (ltb k k') (λ t. absurd (x (a' (suc k) (ltb-true k k' t))))
        (λ f. by-test (ltb k' k) (λ t. absurd (x' (a (suc k') (ltb-true k' k t)))) (λ g. even (ltb-false k k' f) (ltb-false k' k g)))
      where
        even : k' ≤ k → k ≤ k' → k ≡ k'
        even p q = omega arith
