-- On a sheet without a closed leg `split` serves exactly the calls that fit alone, in tour order: the drops are the calls that do not, as if
-- they had been removed in advance. Assumes nothing.
use Prim.Native.Nat.{ℕ, zero, suc, ◌+◌, ◌-◌, ◌≤◌, ◌<◌}
use native.Mathlib.Omega.{arith}
use native.Mathlib.Nat.{not-suc-le-zero}
use mathlib.Core.Path.{◌≡◌, refl, sym, ap, subst, ◌∙◌}
use mathlib.Core.Bool.{Bool, true, false, not, ◌&&◌}
use mathlib.Core.List.{List, [], ◌∷◌, ◌++◌, map, append-nil, append_assoc}
use Rattle.std.specs.Prelude.{Option, None, Some}
use lib.ListN.{length, take, get_or, length-append, length-map}
use Rattle.basics.proofs.TestLaws.{by-test, not-both, both, and-true}
use Rattle.basics.specs.Options.{◌>>=◌, given}
use Rattle.basics.proofs.OptionLaws.{bound, unbound, granted}
use Rattle.basics.specs.Lists.{is_empty, all, only, count}
use Rattle.definitions.specs.Sheet.{Sheet, customer}
use Rattle.definitions.specs.Run.{distance_from, fits, price}
use Rattle.definitions.specs.Clock.{Arc}
use Rattle.definitions.specs.Drop.{call_at, calls_at, Held, drops, plain_arc, split, drop_at}
use Rattle.definitions.specs.Promise.{Settles, stop, goes}
use Rattle.definitions.specs.Refusals.{any_closed, Within}
use Rattle.definitions.proofs.LoadLaws.{fits-first, fits-rest}
use Rattle.theorems.proofs.Dropping.{settles, settles-one, without_at}
use Rattle.theorems.proofs.Least.{Reach, more}
use Rattle.theorems.proofs.Roads.{run-open}
use Rattle.theorems.proofs.Shortest.{Cuttable}

-- ---- which calls have a cutting: all that are light

module _ (s : Sheet) where
  abbrev light_call : ℕ → Bool
  light_call c = fits s (c ∷ [])

  abbrev Light : List ℕ → Type 0
  Light calls = all light_call calls ≡ true

  light-append : (u v : List ℕ) → Light u → Light v → Light (u ++ v)
  light-append [] v p q = q
  light-append (x ∷ u) v p q = let b = both (light_call x) _ p in and-true _ _ b.0 (light-append u v b.1 q)

  append-light : (u v : List ℕ) → Light (u ++ v) → Light u × Light v
  append-light [] v p = (refl, p)
  append-light (x ∷ u) v p = let b = both (light_call x) _ p in let r = append-light u v b.1 in (and-true _ _ b.0 r.0, r.1)

  -- a run that fits has light calls
  fits-light : (calls : List ℕ) → fits s calls ≡ true → Light calls
  fits-light [] h = refl
  fits-light (x ∷ calls) h =
      and-true _ _ (fits-first (λ c. (customer s c).demand) s.head.capacity x calls h) (fits-light calls (fits-rest (λ c. (customer s c).demand) s.head.capacity x calls h))

  reach-light : {calls : List ℕ} {n : ℕ} → Reach (plain_arc s) calls n → Light calls
  unfolding plain_arc
  reach-light (Reach.start e z) = subst Light (sym e) refl
  reach-light (more before since m a R q e z) =
      let d = bound (distance_from s 0 since) _ a q in
      let g = granted (not (is_empty since) && fits s since) _ a d.2 in
      let b = both (not (is_empty since)) _ g.0 in
      subst Light e (light-append before since (reach-light R) (fits-light since b.1))

  -- every call alone can be driven to and back
  abbrev EachOpen : Type 0
  EachOpen = (c : ℕ) → (d : ℕ) × (distance_from s 0 (c ∷ []) ≡ Some d)

  light-reach : EachOpen → (before : List ℕ) (m : ℕ) → Reach (plain_arc s) before m → (calls : List ℕ) → Light calls → Cuttable (plain_arc s) (before ++ calls)
  unfolding plain_arc
  light-reach O before m R [] h = (m, subst (λ (l : List ℕ). Reach (plain_arc s) l m) (sym (append-nil before)) R)
  light-reach O before m R (c ∷ cs) h =
      let b = both (light_call c) _ h in
      let cost = price s (O c).0 0 in
      let x = light-reach O (before ++ (c ∷ [])) (m + cost) (more before (c ∷ []) m (record { place = 0; cost = cost }) R (alone c b.0) refl refl) cs b.1 in
      (x.0, subst (λ (l : List ℕ). Reach (plain_arc s) l x.0) (append_assoc before (c ∷ []) cs) x.1)
    where
      alone : (c : ℕ) → light_call c ≡ true → plain_arc s (c ∷ []) ≡ Some (record { place = 0; cost = price s (O c).0 0 })
      alone c t = ap (λ (o : Option ℕ). o >>= λ d. given {A = Arc} (fits s (c ∷ [])) (record { place = 0; cost = price s d 0 })) (O c).1 ∙ rw t refl

  light-cuttable : EachOpen → (calls : List ℕ) → Light calls → Cuttable (plain_arc s) calls
  light-cuttable O calls h = light-reach O [] 0 (Reach.start refl refl) calls h

-- ---- the drops are the calls that are not light, in tour order

take-light : (s : Sheet) (i : ℕ) (calls : List ℕ) → Light s calls → Light s (take i calls)
take-light s zero calls h = refl
take-light s (suc i) [] h = refl
take-light s (suc i) (c ∷ cs) h = let b = both (light_call s c) _ h in and-true _ _ b.0 (take-light s i cs b.1)

take-front : {A : Type 0} (i : ℕ) (u v : List A) → i ≤ length u → take i (u ++ v) ≡ take i u
take-front zero u v h = refl
take-front (suc i) [] v h = absurd (not-suc-le-zero h)
take-front (suc i) (x ∷ u) v h = ap (λ l. x ∷ l) (take-front i u v (native.Mathlib.Nat.le_of_suc-le-suc h))

take_next : {A : Type 0} (u : List A) (x : A) (v : List A) → take (suc (length u)) (u ++ (x ∷ v)) ≡ u ++ (x ∷ [])
take_next [] x v = refl
take_next (y ∷ u) x v = ap (λ l. y ∷ l) (take_next u x v)

map-append : {A B : Type 0} (f : A → B) (u v : List A) → map f (u ++ v) ≡ map f u ++ map f v
map-append f [] v = refl
map-append f (x ∷ u) v = ap (λ l. f x ∷ l) (map-append f u v)

module _ (s : Sheet) (tour : List ℕ) where
  -- a position whose call fits alone
  abbrev pub fits_alone : ℕ → Bool
  fits_alone p = fits s (call_at tour p ∷ [])

  abbrev pub too_big : ℕ → Bool
  too_big p = not (fits_alone p)

module _ (s : Sheet) (O : EachOpen s) (tour : List ℕ) where
  abbrev light : ℕ → Bool
  light = fits_alone s tour

  abbrev heavy : ℕ → Bool
  heavy = too_big s tour

  abbrev Has : List ℕ → Type 0
  Has = Cuttable (plain_arc s)

  -- the positions before `post` are light
  light-settles : (pre post dropped : List ℕ) → Light s (calls_at tour pre)
      → Settles Has tour (record { held = pre ++ post; dropped = dropped })
      (record { held = pre ++ only light post; dropped = dropped ++ only heavy post })
  light-settles pre [] dropped L =
      subst (λ (d : List ℕ). Settles Has tour (record { held = pre ++ []; dropped = dropped }) (record { held = pre ++ []; dropped = d })) (sym (append-nil dropped))
      (stop (λ i h. light-cuttable s O _ (subst (λ (l : List ℕ). Light s (take i (calls_at tour l))) (sym (append-nil pre)) (take-light s i (calls_at tour pre) L))))
  light-settles pre (x ∷ post) dropped L =
      by-test (light x)
      (λ t. stays t (light-settles (pre ++ (x ∷ [])) post dropped (lighter t)))
      (λ f. leaves f (light-settles pre post (dropped ++ (x ∷ [])) L))
    where
      at : List ℕ → List ℕ → Held
      at h d = record { held = h; dropped = d }

      lighter : light x ≡ true → Light s (calls_at tour (pre ++ (x ∷ [])))
      lighter t = subst (Light s) (sym (map-append (call_at tour) pre (x ∷ []))) (light-append s (calls_at tour pre) (call_at tour x ∷ []) L (and-true _ _ t refl))

      End : Type 0
      End = Settles Has tour (at (pre ++ (x ∷ post)) dropped) (at (pre ++ only light (x ∷ post)) (dropped ++ only heavy (x ∷ post)))

      stays : light x ≡ true
          → Settles Has tour (at (pre ++ (x ∷ []) ++ post) dropped) (at (pre ++ (x ∷ []) ++ only light post) (dropped ++ only heavy post)) → End
      stays t r =
          rw t (subst (λ (h : List ℕ). Settles Has tour (at (pre ++ (x ∷ post)) dropped) (at h (dropped ++ only heavy post)))
          (append_assoc pre (x ∷ []) (only light post))
          (subst (λ (h : List ℕ). Settles Has tour (at h dropped) (at (pre ++ (x ∷ []) ++ only light post) (dropped ++ only heavy post)))
          (append_assoc pre (x ∷ []) post) r))

      long : length (calls_at tour pre) ≡ length pre
      long = length-map pre (call_at tour)

      whole : calls_at tour (pre ++ (x ∷ post)) ≡ calls_at tour pre ++ (call_at tour x ∷ calls_at tour post)
      whole = map-append (call_at tour) pre (x ∷ post)

      here : length pre < length (pre ++ (x ∷ post))
      here = omega (arith, length-append pre (x ∷ post))

      before : (i : ℕ) → i ≤ length pre → Has (take i (calls_at tour (pre ++ (x ∷ post))))
      before i h =
          light-cuttable s O _
          (subst (Light s) (sym (ap (λ (l : List ℕ). take i l) whole ∙ take-front i (calls_at tour pre) (call_at tour x ∷ calls_at tour post) (subst (λ (n : ℕ). i ≤ n) (sym long) h)))
          (take-light s i (calls_at tour pre) L))

      too-big : light x ≡ false → Has (take (suc (length pre)) (calls_at tour (pre ++ (x ∷ post)))) → ⊥
      too-big f c =
          let e : take (suc (length pre)) (calls_at tour (pre ++ (x ∷ post))) ≡ calls_at tour pre ++ (call_at tour x ∷ []) =
          ap (λ (l : List ℕ). take (suc (length pre)) l) whole
          ∙ ap (λ (n : ℕ). take (suc n) (calls_at tour pre ++ (call_at tour x ∷ calls_at tour post))) (sym long)
          ∙ take_next (calls_at tour pre) (call_at tour x) (calls_at tour post) in
          let g = append-light s (calls_at tour pre) (call_at tour x ∷ []) (subst (Light s) e (reach-light s c.1)) in
          not-both (light x) (both (light x) _ g.1).0 f

      leaves : light x ≡ false
          → Settles Has tour (at (pre ++ post) (dropped ++ (x ∷ []))) (at (pre ++ only light post) (dropped ++ (x ∷ []) ++ only heavy post)) → End
      leaves f r =
          rw f (goes (length pre) here (too-big f) before
          (subst (λ (d : List ℕ). Settles Has tour (drop_at (length pre) (at (pre ++ (x ∷ post)) dropped)) (at (pre ++ only light post) d))
          (append_assoc dropped (x ∷ []) (only heavy post))
          (subst (λ (h : List ℕ). Settles Has tour (at h (dropped ++ (get_or (pre ++ (x ∷ post)) (length pre) 0 ∷ [])))
          (at (pre ++ only light post) (dropped ++ (x ∷ []) ++ only heavy post))) (sym (without_at pre x post))
          (subst (λ (y : ℕ). Settles Has tour (at (pre ++ post) (dropped ++ (y ∷ []))) (at (pre ++ only light post) (dropped ++ (x ∷ []) ++ only heavy post)))
          (sym (lib.Seq.get_or-append_seam pre x post 0)) r))))

plain-empty : (s : Sheet) → plain_arc s [] ≡ None
unfolding plain_arc
plain-empty s = unbound (distance_from s 0 []) _ (λ d. refl)

module _ (s : Sheet) (W : Within s) (O : any_closed Some s.legs ≡ false) (tour : List ℕ) where
  each-open : EachOpen s
  each-open c = (_, run-open s W O 0 (c ∷ []))

  abbrev pub positions : List ℕ
  positions = count 1 (length tour)

  pub split-drops : drops (plain_arc s) tour ≡ record { held = only (fits_alone s tour) positions; dropped = only (too_big s tour) positions }
  split-drops = settles-one (Cuttable (plain_arc s)) tour (settles (plain_arc s) tour (plain-empty s)) (light-settles s each-open tour [] positions [] refl)

  -- served are the calls that fit alone, and dropped the positions of the others, both in tour order
  pub split-serves : ((split s tour).served ≡ calls_at tour (only (fits_alone s tour) positions)) × ((split s tour).dropped ≡ only (too_big s tour) positions)
  unfolding split
  split-serves = (ap (λ (h : Held). calls_at tour h.held) split-drops, ap (λ (h : Held). h.dropped) split-drops)
