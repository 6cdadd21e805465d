-- A call in a walk by hand whose context has one item F at its head, which is there again after the call: so no position of a local changes over a call.
-- F is what a function with no `&mut` has of its parameters: its tokens and what they own. `out` takes of F what the callee asks (its tokens,
-- and what its parameters own) and leaves Rest, and `back` makes F again of the callee's tokens and Rest.
--     calls-kept       the call
-- Assumes `Logic`.
use mathlib.Core.List.{List, [], ◌∷◌}
use seplogic.Ra.Ura.{Ura}
use mir.Syntax.{Callee, Place, Opd as Operand, Body, seq, call}
use mir.Val.{Val}
use base.Logic.{SProp, ent, sep, emp, id⊢, via, mono_l}
use prog.Wp.{Env, Calls, Loops}
use types.Logic.{Logic, sem}
use sound.WpLaws.{FmC}
use contract.Lifetimes.{Lfts, Shares, AllOutlive}
use contract.Monad.{fact}
use types.Kit.{Goal, Soaks, Item, ‵, raw, mean, ◌⊛◌, some, later, Post, runs, lands, Seq, ◌$◌, ◌∵◌, !, qed, move, drop, use0, use1, use2, split, join, pick, await, done}
use types.Run.{Opds}
use denote.RattleType.{owns}
use denote.Laws.{Is, shows}
use denote.Signature.{type_at, types_at}
use denote.Steps.{peeks, heard}
use denote.Triple.Bound.{passed}
use denote.Triple.Call.{calls_from}
use denote.Triple.Clauses.{Ended, Clauses, Lasts, AtExit, at_exit, lasts, ensured}
use denote.Triple.Entry.{Args, Vals, Res, alive}
use denote.Triple.Statement.{Triple}
use Rattle.walks.proofs.Calling.{Met}

module _ {M : Type 1} {𝓤 : Ura M} (𝓛 : Logic 𝓤) (T : Ended) (κs : Lfts T.signature.lifetimes) (qs : Shares T.signature.lifetimes) (a : Args T.signature κs)
    (vss : Vals T.signature κs) where
  -- what the callee asks, and the tokens that it gives back
  open 𝓛 use {H}

  abbrev pub Asks : SProp 𝓤
  Asks = sep 𝓤 (alive 𝓛 T.signature κs qs) (sem 𝓛 (owns (types_at T.signature.params κs) a vss))

  abbrev pub Gives : SProp 𝓤
  Gives = alive 𝓛 T.signature κs qs

  -- F gives the call, at its `post` beside Rest
  framed : (c : Clauses 𝓤 T) (bs : AllOutlive T.signature.lifetimes T.signature.outlives κs) (g : (c κs a).ghost) (F Rest : Item 𝓤) (C : Calls 𝓤 H) (f : Callee)
      → FmC 𝓤 H 𝓛.laws C → Triple 𝓤 (C f) (Met 𝓛 T c) → ent 𝓤 (emp 𝓤) ((c κs a).requires g) → ent 𝓤 (mean 𝓛 F) (sep 𝓤 Asks (mean 𝓛 Rest))
      → ent 𝓤 (mean 𝓛 F) (C f (passed 𝓛 T.signature (κs, qs, bs, a, vss)) (λ u. sep 𝓤 ((Met 𝓛 T c).post ((κs, qs, bs, a, vss), g) u) (mean 𝓛 Rest)))
  framed c bs g F Rest C f fm met req out =
      via 𝓤 (sep 𝓤 ((Met 𝓛 T c).pre ((κs, qs, bs, a, vss), g)) (mean 𝓛 Rest))
      (qed 𝓛 (F ∷ []) ∵ use1 𝓛 (raw Asks ⊛ Rest) out $ split ! $ use0 𝓛 (raw ((c κs a).requires g)) req $ move ! (1 ∷ 0 ∷ []) $ join ! $ done !)
      (via 𝓤 (sep 𝓤 (C f (passed 𝓛 T.signature (κs, qs, bs, a, vss)) ((Met 𝓛 T c).post ((κs, qs, bs, a, vss), g))) (mean 𝓛 Rest))
      (mono_l 𝓤 (mean 𝓛 Rest) (met ((κs, qs, bs, a, vss), g)))
      (fm f (passed 𝓛 T.signature (κs, qs, bs, a, vss)) ((Met 𝓛 T c).post ((κs, qs, bs, a, vss), g)) (λ u. sep 𝓤 ((Met 𝓛 T c).post ((κs, qs, bs, a, vss), g) u) (mean 𝓛 Rest))
      (mean 𝓛 Rest) (λ u. id⊢ 𝓤 _)))

module _ {M : Type 1} {𝓤 : Ura M} {𝓛 : Logic 𝓤} {K : Type 0} {Γ : List (Item 𝓤)} where
  -- once the call has returned u
  open 𝓛 use {H}

  opened : K → {G : Goal 𝓤 H} → Soaks G → (T : Ended) (c : Clauses 𝓤 T) (κs : Lfts T.signature.lifetimes) (qs : Shares T.signature.lifetimes)
      (bs : AllOutlive T.signature.lifetimes T.signature.outlives κs) (a : Args T.signature κs) (vss : Vals T.signature κs) (g : (c κs a).ghost)
      → (φ : Res T.signature κs → Type 0) → ((r : Res T.signature κs) (e : AtExit T κs) → ent 𝓤 ((c κs a).ensures g r e) (fact 𝓤 (φ r)))
      → (F Rest : Item 𝓤) → ent 𝓤 (sep 𝓤 (Gives 𝓛 T κs qs a vss) (mean 𝓛 Rest)) (mean 𝓛 F) → (u : Val)
      → ((r : Res T.signature κs) → φ r → Is (type_at T.signature.result κs) r (u ∷ []) → Seq K 𝓛 (F ∷ Γ) G)
      → Seq K 𝓛 (raw (sep 𝓤 ((Met 𝓛 T c).post ((κs, qs, bs, a, vss), g) u) (mean 𝓛 Rest)) ∷ Γ) G
  opened t z T c κs qs bs a vss g φ ens F Rest back u k =
      use1 𝓛 (later (some (λ (r : Res T.signature κs). (raw (alive 𝓛 T.signature κs qs) ⊛ ‵ ((type_at T.signature.result κs).own_val r (u ∷ []))) ⊛ raw (ensured 𝓛 T c κs a g r))) ⊛ Rest)
      (id⊢ 𝓤 _) $ split t $ await t z $ pick t (λ r.
      split t $ move t (1 ∷ []) $ use1 𝓛 (some (λ (ws : Lasts T κs a). ‵ (lasts T κs a ws) ⊛ raw ((c κs a).ensures g r (at_exit T κs a ws)))) (id⊢ 𝓤 _) $ pick t (λ ws.
      split t $ move t (1 ∷ []) $ use1 𝓛 (raw (fact 𝓤 (φ r))) (ens r (at_exit T κs a ws)) $ heard t (φ r) (λ e. drop t $
      split t $ move t (1 ∷ []) $ peeks t (type_at T.signature.result κs) (Is (type_at T.signature.result κs)) (shows 𝓛 (type_at T.signature.result κs)) r (u ∷ [])
      (λ is. drop t $ use2 𝓛 F back $ k r e is))))

  module _ {E : Env 𝓤 H} {C : Calls 𝓤 H} {Λ : Loops 𝓤 H} {q : Post 𝓤 H} {f : Callee} {xs : List Operand} {d : Place} where
    pub calls-kept : K → FmC 𝓤 H 𝓛.laws C → {rest : Body} (T : Ended) (c : Clauses 𝓤 T) → Triple 𝓤 (C f) (Met 𝓛 T c)
        → (κs : Lfts T.signature.lifetimes) (qs : Shares T.signature.lifetimes) (bs : AllOutlive T.signature.lifetimes T.signature.outlives κs) (a : Args T.signature κs)
        (vss : Vals T.signature κs) (g : (c κs a).ghost)
        → ent 𝓤 (emp 𝓤) ((c κs a).requires g) → (φ : Res T.signature κs → Type 0) → ((r : Res T.signature κs) (e : AtExit T κs) → ent 𝓤 ((c κs a).ensures g r e) (fact 𝓤 (φ r)))
        → (F Rest : Item 𝓤) → ent 𝓤 (mean 𝓛 F) (sep 𝓤 (Asks 𝓛 T κs qs a vss) (mean 𝓛 Rest)) → ent 𝓤 (sep 𝓤 (Gives 𝓛 T κs qs a vss) (mean 𝓛 Rest)) (mean 𝓛 F)
        → Opds K 𝓛 (F ∷ Γ) E xs (passed 𝓛 T.signature (κs, qs, bs, a, vss))
        → ((u : Val) (r : Res T.signature κs) → φ r → Is (type_at T.signature.result κs) r (u ∷ []) → Seq K 𝓛 (F ∷ Γ) (lands C Λ E d u rest q))
        → Seq K 𝓛 (F ∷ Γ) (runs C Λ E (seq (call f xs d) rest) q)
    calls-kept t fm T c met κs qs bs a vss g req φ ens F Rest out back os k =
        calls_from t fm F (passed 𝓛 T.signature (κs, qs, bs, a, vss)) (λ u. sep 𝓤 ((Met 𝓛 T c).post ((κs, qs, bs, a, vss), g) u) (mean 𝓛 Rest))
        (framed 𝓛 T κs qs a vss c bs g F Rest C f fm met req out) os (λ u. opened t tt T c κs qs bs a vss g φ ens F Rest back u (k u))
