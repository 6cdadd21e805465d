-- The locals of a function in a walk by hand, as one item of the context: a step names a local by its number, and no position changes.
--     locals σ         the item: each local has its type, its block, and what it holds, if anything
--     opens            the locals are allocated, all unset.        passed-in    the parameters are stored.        closes       the locals are freed
--     set n σ i        local i is given its first value; the item stands at entry n of the context
--     held σ i         local i as a part of the item, for `look_in` and `sub`.        reads    the item's part at an entry that is equal to it
--     finds σ i        the place of local i.        args n σ is      the locals of those numbers as operands
-- Where the locals are written out, σ is `_` and each equation is `refl`.
-- Assumes `Logic`.
use mathlib.Core.Path.{◌≡◌, refl, sym, ap, subst, ◌∙◌}
use Prim.Native.Nat.{ℕ, zero, suc}
use native.Mathlib.Omega.{arith}
use mathlib.Core.List.{List, [], ◌∷◌, map}
use Rattle.std.specs.Prelude.{Option, None, Some}
use seplogic.Ra.Ura.{Ura}
use base.Fraction.{full_share}
use lib.Dec.{T}
use mir.Syntax.{Ty, Local, Step as PStep, local, copy, place}
use mir.Val.{Val, WT, has_ty}
use base.Logic.{SProp, ent, sep, wand, all, via, assoc∗, mono_l, mono_r, wand_i, apply∗, all_e, guard_i}
use base.Fml.{fat, froom, fdies, ftrue}
use prog.Wp.{Env, Spot, spot_of}
use types.Logic.{Logic}
use types.Kit.{Goal, allocs, params', passes, frees, Item, ‵, raw, ◌⊛◌, mean, ⋆, nth, del, put, pull, fill, Seq, Step, step, ◌$◌, ◌∵◌, !, qed, move, drop, use1, use2, split, join, assume, frame, each, done}
use types.Part.{Part, look_in}
use types.Run.{Reads, Writes, Walks as Steps, Finds, Opd, Opds, init, stop, from, and_then, no_more, forget, load, alloc1, alloc0, params1, pass1, pass0, free1, free0}
use denote.Steps.{nothing}

-- a local: its type, its block, and what it holds
pub data Cell : Type 0 where
  unset : Ty → ℕ → Cell
  holds : Ty → ℕ → Val → Cell

abbrev type_of : Cell → Ty
type_of (unset τ b) = τ
type_of (holds τ b v) = τ

abbrev block_of : Cell → ℕ
block_of (unset τ b) = b
block_of (holds τ b v) = b

-- the local of that number is x
abbrev pub Here : List Cell → ℕ → Cell → Type 0
Here [] i x = ⊥
Here (c ∷ σ) zero x = c ≡ x
Here (c ∷ σ) (suc i) x = Here σ i x

-- with another value
abbrev pub set_at : List Cell → ℕ → Val → List Cell
set_at [] i v = []
set_at (c ∷ σ) zero v = holds (type_of c) (block_of c) v ∷ σ
set_at (c ∷ σ) (suc i) v = c ∷ set_at σ i v

-- the value is there
pub here-set : (σ : List Cell) (i : ℕ) (τ : Ty) (b : ℕ) (v : Val) → Here σ i (unset τ b) → Here (set_at σ i v) i (holds τ b v)
here-set [] i τ b v e = absurd e
here-set (c ∷ σ) zero τ b v e = ap (λ (x : Cell). holds (type_of x) (block_of x) v) e
here-set (c ∷ σ) (suc i) τ b v e = here-set σ i τ b v e

-- the others are as they were
pub here-other : (σ : List Cell) (i j : ℕ) (x : Cell) (v : Val) → (i ≡ j → ⊥) → Here σ i x → Here (set_at σ j v) i x
here-other [] i j x v ne e = absurd e
here-other (c ∷ σ) zero zero x v ne e = absurd (ne refl)
here-other (c ∷ σ) zero (suc j) x v ne e = e
here-other (c ∷ σ) (suc i) zero x v ne e = e
here-other (c ∷ σ) (suc i) (suc j) x v ne e = here-other σ i j x v (λ p. ne (ap suc p)) e

-- one that is set is not one that is unset
pub apart : (σ : List Cell) (i j : ℕ) (τ τ' : Ty) (b b' : ℕ) (v : Val) → Here σ i (holds τ b v) → Here σ j (unset τ' b') → i ≡ j → ⊥
apart [] i j τ τ' b b' v e f p = absurd e
apart (c ∷ σ) zero zero τ τ' b b' v e f p = let z : ◌≡◌ {A = ℕ} 0 1 = cc in omega arith
apart (c ∷ σ) zero (suc j) τ τ' b b' v e f p = omega arith
apart (c ∷ σ) (suc i) zero τ τ' b b' v e f p = omega arith
apart (c ∷ σ) (suc i) (suc j) τ τ' b b' v e f p = apart σ i j τ τ' b b' v e f (omega arith)

-- the value that it holds changes nothing
set_same : (σ : List Cell) (i : ℕ) (τ : Ty) (b : ℕ) (v : Val) → Here σ i (holds τ b v) → set_at σ i v ≡ σ
set_same [] i τ b v e = absurd e
set_same (unset τ' b' ∷ σ) zero τ b v e = let z : ◌≡◌ {A = ℕ} 0 1 = cc in absurd (omega arith)
set_same (holds τ' b' w ∷ σ) zero τ b v e = let same : v ≡ w = cc in ap (λ (u : Val). holds τ' b' u ∷ σ) same
set_same (c ∷ σ) (suc i) τ b v e = ap (λ (l : List Cell). c ∷ l) (set_same σ i τ b v e)

-- what a local holds, if anything
abbrev value_of : Cell → Option Val
value_of (unset τ b) = None
value_of (holds τ b v) = Some v

abbrev pub value_at : List Cell → ℕ → Option Val
value_at [] i = None
value_at (c ∷ σ) zero = value_of c
value_at (c ∷ σ) (suc i) = value_at σ i

pub value-here : (σ : List Cell) (i : ℕ) (τ : Ty) (b : ℕ) (v : Val) → Here σ i (holds τ b v) → value_at σ i ≡ Some v
value-here [] i τ b v e = absurd e
value-here (c ∷ σ) zero τ b v e = ap value_of e
value-here (c ∷ σ) (suc i) τ b v e = value-here σ i τ b v e

-- the local that holds v
record Found (σ : List Cell) (i : ℕ) (v : Val) : Type 0 where
  pub ty : Ty
  pub block : ℕ
  pub here : Here σ i (holds ty block v)

found : (σ : List Cell) (i : ℕ) (v : Val) → value_at σ i ≡ Some v → Found σ i v
found [] i v e = let z : ◌≡◌ {A = ℕ} 0 1 = cc in absurd (omega arith)
found (unset τ b ∷ σ) zero v e = let z : ◌≡◌ {A = ℕ} 0 1 = cc in absurd (omega arith)
found (holds τ b w ∷ σ) zero v e = let same : w ≡ v = cc in record { ty = τ; block = b; here = ap (holds τ b) same }
found (c ∷ σ) (suc i) v e = let f = found σ i v e in record { ty = f.ty; block = f.block; here = f.here }

-- the first of them are given these values, each of its type
abbrev pub pass_to : List Cell → List Val → List Cell
pass_to σ [] = σ
pass_to [] (v ∷ vs) = []
pass_to (c ∷ σ) (v ∷ vs) = holds (type_of c) (block_of c) v ∷ pass_to σ vs

abbrev pub Takes : List Cell → List Val → Type 0
Takes σ [] = Unit {0}
Takes [] (v ∷ vs) = ⊥
Takes (unset τ b ∷ σ) (v ∷ vs) = (T (has_ty τ v) × WT v) × Takes σ vs
Takes (holds τ b w ∷ σ) (v ∷ vs) = ⊥

-- a block for each of them
abbrev pub Blocks : List Local → Type 0
Blocks [] = Unit {0}
Blocks (l ∷ ls) = ℕ × Blocks ls

abbrev pub unset_of : (ls : List Local) → Blocks ls → List Cell
unset_of [] bs = []
unset_of (local τ h ∷ ls) bs = unset τ bs.0 ∷ unset_of ls bs.1

module _ {M : Type 1} {𝓤 : Ura M} (𝓛 : Logic 𝓤) where
  -- the places
  open 𝓛 use {H}

  abbrev pub env_at : List Cell → Env 𝓤 H
  env_at [] = []
  env_at (c ∷ σ) = (type_of c, block_of c) ∷ env_at σ

  -- where a local is
  spot : (σ : List Cell) (i : ℕ) (x : Cell) → Here σ i x → spot_of 𝓤 H (env_at σ) i ≡ (type_of x, block_of x, 0)
  spot [] i x e = absurd e
  spot (c ∷ σ) zero x e = ap (λ (y : Cell). (type_of y, block_of y, 0)) e
  spot (c ∷ σ) (suc i) x e = spot σ i x e

  -- a value changes no place
  pub same-env : (σ : List Cell) (i : ℕ) (v : Val) → env_at (set_at σ i v) ≡ env_at σ
  same-env [] i v = refl
  same-env (c ∷ σ) zero v = refl
  same-env (c ∷ σ) (suc i) v = ap (λ (E : Env 𝓤 H). (type_of c, block_of c) ∷ E) (same-env σ i v)

  -- nor does a parameter
  pub same-passed : (σ : List Cell) (vs : List Val) → Takes σ vs → env_at (pass_to σ vs) ≡ env_at σ
  same-passed σ [] w = refl
  same-passed [] (v ∷ vs) w = absurd w
  same-passed (holds τ b u ∷ σ) (v ∷ vs) w = absurd w
  same-passed (unset τ b ∷ σ) (v ∷ vs) w = ap (λ (E : Env 𝓤 H). (τ, b) ∷ E) (same-passed σ vs w.1)

  -- the cell, or room for one
  abbrev cell : Cell → Item 𝓤
  cell (unset τ b) = ‵ (froom τ b 0)
  cell (holds τ b v) = ‵ (fat full_share τ b 0 v)

  unfoldable pub locals : List Cell → Item 𝓤
  locals [] = ‵ ftrue
  locals (c ∷ σ) = (cell c ⊛ ‵ (fdies (type_of c) (block_of c))) ⊛ locals σ

  module _ where
    -- a local can be taken out, and put back with any value
    abbrev Back : List Cell → ℕ → Cell → Val → SProp 𝓤
    Back σ i x u = wand 𝓤 (H.at full_share (type_of x) (block_of x) 0 u) (mean 𝓛 (locals (set_at σ i u)))

    out : (σ : List Cell) (i : ℕ) (x : Cell) → Here σ i x → ent 𝓤 (mean 𝓛 (locals σ)) (sep 𝓤 (mean 𝓛 (cell x)) (all 𝓤 (Back σ i x)))
    unfolding locals
    out [] i x e = absurd e
    out (c ∷ σ) zero x e =
        subst (λ (y : Cell). ent 𝓤 (mean 𝓛 (locals (c ∷ σ))) (sep 𝓤 (mean 𝓛 (cell y)) (all 𝓤 (Back (c ∷ σ) zero y)))) e
        (qed 𝓛 (locals (c ∷ σ) ∷ []) ∵ split ! $ split ! $ frame ! $ each ! (Back (c ∷ σ) zero c) (λ u. assume ! (‵ (fat full_share (type_of c) (block_of c) 0 u)) $ join ! $ join ! $ done !))
    out (c ∷ σ) (suc i) x e =
        qed 𝓛 (locals (c ∷ σ) ∷ []) ∵ split ! $ move ! (1 ∷ []) $ use1 𝓛 (cell x ⊛ raw (all 𝓤 (Back σ i x))) (out σ i x e) $ split ! $ frame ! $
        each ! (Back (c ∷ σ) (suc i) x) (λ u. assume ! (‵ (fat full_share (type_of x) (block_of x) 0 u)) $
        -- [the local's cell with u; the way back to the others; the first local]
        move ! (1 ∷ []) $ use1 𝓛 (raw (Back σ i x u)) (all_e 𝓤 (Back σ i x) u) $ move ! (1 ∷ 0 ∷ []) $
        use2 𝓛 (locals (set_at σ i u)) (apply∗ 𝓤 (H.at full_share (type_of x) (block_of x) 0 u) (mean 𝓛 (locals (set_at σ i u)))) $ move ! (1 ∷ 0 ∷ []) $ join ! $ done !)

module _ {M : Type 1} {𝓤 : Ura M} {𝓛 : Logic 𝓤} {K : Type 0} where
  open 𝓛 use {H}

  pub held : K → (σ : List Cell) (i : ℕ) {τ : Ty} {b : ℕ} {v : Val} → Here σ i (holds τ b v) → Part K 𝓛 (locals 𝓛 σ) full_share τ b 0 v (λ u. locals 𝓛 (set_at σ i u))
  held t σ i {τ} {b} {v} e = record { out = out 𝓛 σ i (holds τ b v) e; same = ap (locals 𝓛) (set_same σ i τ b v e) }

  module _ {Γ : List (Item 𝓤)} where
    -- the place of a local, and of a part of it
    pub finds : K → {E : Env 𝓤 H} (σ : List Cell) (i : ℕ) (x : Cell) {st : List PStep} {sp : Spot 𝓤 H} → env_at 𝓛 σ ≡ E → Here σ i x → Steps K 𝓛 Γ E (type_of x, block_of x, 0) st sp
        → Finds K 𝓛 Γ E (place i st) sp
    finds t {E} σ i x {st} {sp} env e w =
        from t (subst (λ (s₀ : Spot 𝓤 H). Steps K 𝓛 Γ E s₀ st sp) (sym (ap (λ (F : Env 𝓤 H). spot_of 𝓤 H F i) (sym env) ∙ spot 𝓛 σ i x e)) w)

    -- what a local holds, or a part of it, as an operand
    pub reads : K → (n : ℕ) (σ : List Cell) {τ : Ty} {b o : ℕ} {v : Val} {back : Val → Item 𝓤} → nth 𝓛 n Γ ≡ locals 𝓛 σ → Part K 𝓛 (locals 𝓛 σ) full_share τ b o v back → Reads K 𝓛 Γ τ b o v
    reads t n σ {τ} {b} {o} {v} {back} at p = look_in t n (subst (λ (j : Item 𝓤). Part K 𝓛 j full_share τ b o v back) (sym at) p)

    pub arg : K → {E : Env 𝓤 H} (n : ℕ) (σ : List Cell) (i : ℕ) {v : Val} → nth 𝓛 n Γ ≡ locals 𝓛 σ → env_at 𝓛 σ ≡ E → value_at σ i ≡ Some v → Opd K 𝓛 Γ E (copy (place i [])) v
    arg t n σ i {v} at env e =
        let f = found σ i v e in
        load t (finds t σ i (holds f.ty f.block v) env f.here (stop t)) (reads t n σ at (held t σ i f.here))

    -- the locals of those numbers as operands
    pub args : K → {E : Env 𝓤 H} (n : ℕ) (σ : List Cell) (is : List ℕ) {vs : List Val} → nth 𝓛 n Γ ≡ locals 𝓛 σ → env_at 𝓛 σ ≡ E → map (value_at σ) is ≡ map Some vs
        → Opds K 𝓛 Γ E (map (λ i. copy (place i [])) is) vs
    args t n σ [] {vs = []} at env e = no_more t
    args t n σ [] {vs = v ∷ vs} at env e = let z : ◌≡◌ {A = ℕ} 0 1 = cc in absurd (omega arith)
    args t n σ (i ∷ is) {vs = []} at env e = let z : ◌≡◌ {A = ℕ} 0 1 = cc in absurd (omega arith)
    args t n σ (i ∷ is) {vs = v ∷ vs} at env e =
        let first : value_at σ i ≡ Some v = cc in
        let others : map (value_at σ) is ≡ map Some vs = cc in
        and_then t (arg t n σ i at env first) (args t n σ is at env others)

    pub set : K → (n : ℕ) (σ : List Cell) (i : ℕ) {τ : Ty} {b : ℕ} {v : Val} → nth 𝓛 n Γ ≡ locals 𝓛 σ → Here σ i (unset τ b) → T (has_ty τ v) × WT v
        → Writes K 𝓛 Γ τ b 0 v (put 𝓛 n (locals 𝓛 (set_at σ i v)) Γ)
    set t n σ i {τ} {b} {v} at e wt = record {
      go = λ P h.
          via 𝓤 (sep 𝓤 (H.room τ b 0) (wand 𝓤 (H.at full_share τ b 0 v) P))
          (via 𝓤 (sep 𝓤 (mean 𝓛 (locals 𝓛 σ)) (⋆ 𝓛 (del 𝓛 n Γ))) (subst (λ (j : Item 𝓤). ent 𝓤 (⋆ 𝓛 Γ) (sep 𝓤 (mean 𝓛 j) (⋆ 𝓛 (del 𝓛 n Γ)))) at (pull 𝓛 n Γ))
          (via 𝓤 (sep 𝓤 (sep 𝓤 (H.room τ b 0) (all 𝓤 (Back 𝓛 σ i (unset τ b)))) (⋆ 𝓛 (del 𝓛 n Γ))) (mono_l 𝓤 (⋆ 𝓛 (del 𝓛 n Γ)) (out 𝓛 σ i (unset τ b) e))
          (via 𝓤 (sep 𝓤 (H.room τ b 0) (sep 𝓤 (all 𝓤 (Back 𝓛 σ i (unset τ b))) (⋆ 𝓛 (del 𝓛 n Γ))))
          (assoc∗ 𝓤 (H.room τ b 0) (all 𝓤 (Back 𝓛 σ i (unset τ b))) (⋆ 𝓛 (del 𝓛 n Γ)))
          (mono_r 𝓤 (H.room τ b 0) (wand_i 𝓤 (sep 𝓤 (all 𝓤 (Back 𝓛 σ i (unset τ b))) (⋆ 𝓛 (del 𝓛 n Γ))) (H.at full_share τ b 0 v) P
          (via 𝓤 (sep 𝓤 (mean 𝓛 (locals 𝓛 (set_at σ i v))) (⋆ 𝓛 (del 𝓛 n Γ)))
          (qed 𝓛 ((raw (all 𝓤 (Back 𝓛 σ i (unset τ b))) ⊛ raw (⋆ 𝓛 (del 𝓛 n Γ))) ∷ ‵ (fat full_share τ b 0 v) ∷ []) ∵ split ! $
          use1 𝓛 (raw (Back 𝓛 σ i (unset τ b) v)) (all_e 𝓤 (Back 𝓛 σ i (unset τ b)) v) $ move ! (2 ∷ 0 ∷ []) $
          use2 𝓛 (locals 𝓛 (set_at σ i v)) (apply∗ 𝓤 (H.at full_share τ b 0 v) (mean 𝓛 (locals 𝓛 (set_at σ i v)))) $ done !)
          (via 𝓤 (⋆ 𝓛 (put 𝓛 n (locals 𝓛 (set_at σ i v)) Γ)) (fill 𝓛 n (locals 𝓛 (set_at σ i v)) Γ) h)))))))
          (guard_i 𝓤 (T (has_ty τ v) × WT v) (sep 𝓤 (H.room τ b 0) (wand 𝓤 (H.at full_share τ b 0 v) P)) wt);
    }

  pub opens : K → (ls : List Local) {Γ : List (Item 𝓤)} {Kt : Env 𝓤 H → Goal 𝓤 H} → ((bs : Blocks ls) → Seq K 𝓛 (locals 𝓛 (unset_of ls bs) ∷ Γ) (Kt (env_at 𝓛 (unset_of ls bs))))
      → Seq K 𝓛 Γ (allocs ls Kt)
  unfolding locals
  opens t [] k = alloc0 t $ nothing t $ k tt
  opens t (local τ h ∷ ls) k = alloc1 t (λ b. opens t ls (λ bs. move t (1 ∷ 2 ∷ []) $ join t $ join t $ k (b, bs)))

  takes : K → {G : Goal 𝓤 H} (σ : List Cell) (vs : List Val) {Γ : List (Item 𝓤)} → Takes σ vs → Seq K 𝓛 (locals 𝓛 (pass_to σ vs) ∷ Γ) G → Seq K 𝓛 (locals 𝓛 σ ∷ Γ) (passes (env_at 𝓛 σ) vs G)
  unfolding locals
  takes t σ [] w s = pass0 t $ s
  takes t [] (v ∷ vs) w s = absurd w
  takes t (holds τ b u ∷ σ) (v ∷ vs) w s = absurd w
  takes t (unset τ b ∷ σ) (v ∷ vs) w s =
      split t $ split t $ pass1 t (init t 0 refl w.0) $ join t $ move t (1 ∷ []) $ takes t σ vs w.1 (move t (1 ∷ 0 ∷ []) $ join t $ s)

  -- the parameters are the locals after the result
  pub passed-in : K → {Γ : List (Item 𝓤)} {G : Goal 𝓤 H} (c : Cell) (σ : List Cell) (vs : List Val) → Takes σ vs
      → Step K 𝓛 (locals 𝓛 (c ∷ pass_to σ vs) ∷ Γ) G (locals 𝓛 (c ∷ σ) ∷ Γ) (params' (env_at 𝓛 (c ∷ σ)) vs G)
  unfolding locals
  passed-in t c σ vs w = step (λ s. params1 t $ split t $ move t (1 ∷ []) $ takes t σ vs w (move t (1 ∷ 0 ∷ []) $ join t $ s))

  frees_all : K → {Γ : List (Item 𝓤)} {G : Goal 𝓤 H} (σ : List Cell) → Step K 𝓛 Γ G (locals 𝓛 σ ∷ Γ) (frees (env_at 𝓛 σ) G)
  unfolding locals
  frees_all t [] = step (λ s. drop t $ free0 t $ s)
  frees_all t (unset τ b ∷ σ) = step (λ s. split t $ split t $ free1 t $ frees_all t σ $ s)
  frees_all t (holds τ b v ∷ σ) = step (λ s. split t $ split t $ forget t 0 refl $ free1 t $ frees_all t σ $ s)

  pub closes : K → {Γ : List (Item 𝓤)} {G : Goal 𝓤 H} {E : Env 𝓤 H} (σ : List Cell) → env_at 𝓛 σ ≡ E → Step K 𝓛 Γ G (locals 𝓛 σ ∷ Γ) (frees E G)
  closes t {Γ} {G} σ env = subst (λ (F : Env 𝓤 H). Step K 𝓛 Γ G (locals 𝓛 σ ∷ Γ) (frees F G)) env (frees_all t σ)
