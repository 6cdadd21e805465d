-- A call in a walk by hand, as one step.
--     calls-said       the callee's tokens and what its parameters own stand at the head. Once the call has returned u: the result's denotation r, what the `ensures` states
--                      of it (φ), its relation, and in the context what the result owns, the tokens, and what says the parameters' last values
--     calls-plain      the same of a callee with no lifetimes whose parameters own only facts: nothing is taken from the context and nothing is put into it
-- In both the `requires` is shown from nothing (`asked`, `asked-none`), and the `ensures` is a fact, which `(λ r e. id⊢ 𝓤 _)` shows. Of several `ensures`:
--     heard-both       the facts of two are one fact.        told-both     they are shown from nothing
--     says_all         a goal P ∗ E, where E is shown from nothing: P is left
-- Assumes `Logic`.
use mathlib.Core.List.{List, [], ◌∷◌}
use seplogic.Ra.Ura.{Ura}
use mir.Syntax.{Callee, Place, Opd as Operand, Body, seq, call}
use mir.Val.{Val}
use base.Logic.{SProp, ent, sep, emp, id⊢, via, mono_l, mono∗, emp∗, comm∗, fst∗, snd∗}
use prog.Wp.{Env, Calls, Loops}
use types.Logic.{Logic}
use sound.WpLaws.{FmC}
use contract.Lifetimes.{Lfts, Shares, AllOutlive}
use contract.Monad.{fact, fact_i, fact_use}
use types.Kit.{Item, Step, step, prop, ‵, raw, ◌⊛◌, some, later, Post, runs, lands, Seq, ◌$◌, ◌∵◌, !, qed, move, drop, use0, use1, use2, split, join, pick, await, done}
use types.Run.{Opds}
use denote.RattleType.{owns}
use denote.Laws.{Is, Ises, Are, Makess, owns_make, shows}
use denote.Signature.{type_at, types_at}
use denote.Steps.{peeks, heard}
use denote.Triple.Bound.{passed}
use denote.Triple.Call.{calls_at}
use denote.Triple.Clauses.{Ended, Clauses, Lasts, AtExit, at_exit, lasts, ensured, closing}
use denote.Triple.Entry.{Args, Vals, Res, alive}
use denote.Triple.Spec.{triple_of}
use denote.Triple.Statement.{Contract, Triple}

-- a `requires` that states a fact, and one that states nothing
pub asked : {M : Type 1} (𝓤 : Ura M) {φ : Type 0} → φ → ent 𝓤 (emp 𝓤) (fact 𝓤 φ)
asked 𝓤 {φ} x = fact_i 𝓤 φ (emp 𝓤) x

pub asked-none : {M : Type 1} (𝓤 : Ura M) → ent 𝓤 (emp 𝓤) (emp 𝓤)
asked-none 𝓤 = id⊢ 𝓤 (emp 𝓤)

-- several clauses stand beside each other under ∗
pub heard-both : {M : Type 1} (𝓤 : Ura M) {φ ψ : Type 0} {P Q : SProp 𝓤} → ent 𝓤 P (fact 𝓤 φ) → ent 𝓤 Q (fact 𝓤 ψ) → ent 𝓤 (sep 𝓤 P Q) (fact 𝓤 (φ × ψ))
heard-both 𝓤 {φ} {ψ} {P} {Q} p q =
    fact_use 𝓤 φ (via 𝓤 P (fst∗ 𝓤 P Q) p) (λ x. via 𝓤 Q (snd∗ 𝓤 P Q) (fact_use 𝓤 ψ q (λ y. fact_i 𝓤 (φ × ψ) Q (x, y))))

pub told-both : {M : Type 1} (𝓤 : Ura M) {P Q : SProp 𝓤} → ent 𝓤 (emp 𝓤) P → ent 𝓤 (emp 𝓤) Q → ent 𝓤 (emp 𝓤) (sep 𝓤 P Q)
told-both 𝓤 p q = via 𝓤 (sep 𝓤 (emp 𝓤) (emp 𝓤)) (emp∗ 𝓤 (emp 𝓤)) (mono∗ 𝓤 p q)

pub says_all : {M : Type 1} {𝓤 : Ura M} {𝓛 : Logic 𝓤} {K : Type 0} {Γ : List (Item 𝓤)} → K → {P E : SProp 𝓤} → ent 𝓤 (emp 𝓤) E → Step K 𝓛 Γ (prop P) Γ (prop (sep 𝓤 P E))
says_all {𝓤 = 𝓤} t {P} {E} e = step (λ s. record { prf = via 𝓤 P s.prf (via 𝓤 (sep 𝓤 (emp 𝓤) P) (emp∗ 𝓤 P) (via 𝓤 (sep 𝓤 E P) (mono_l 𝓤 P e) (comm∗ 𝓤 E P))) })

-- the contract that a proof cites of a callee
abbrev pub Met : {M : Type 1} {𝓤 : Ura M} (𝓛 : Logic 𝓤) (T : Ended) → Clauses 𝓤 T → Contract 𝓤
Met 𝓛 T c = triple_of 𝓛 T.signature (closing 𝓛 T c)

module _ {M : Type 1} {𝓤 : Ura M} {𝓛 : Logic 𝓤} {K : Type 0} {Γ : List (Item 𝓤)} {E : Env 𝓤 𝓛.H} {C : Calls 𝓤 𝓛.H} {Λ : Loops 𝓤 𝓛.H} {q : Post 𝓤 𝓛.H} {f : Callee}
    {xs : List Operand} {d : Place} {rest : Body} where
  open 𝓛 use {H}

  pub calls-said : K → FmC 𝓤 H 𝓛.laws C → (T : Ended) (c : Clauses 𝓤 T) → Triple 𝓤 (C f) (Met 𝓛 T c)
      → (κs : Lfts T.signature.lifetimes) (qs : Shares T.signature.lifetimes) (bs : AllOutlive T.signature.lifetimes T.signature.outlives κs) (a : Args T.signature κs)
      (vss : Vals T.signature κs) (g : (c κs a).ghost)
      → ent 𝓤 (emp 𝓤) ((c κs a).requires g)
      → (φ : Res T.signature κs → AtExit T κs → Type 0) → ((r : Res T.signature κs) (e : AtExit T κs) → ent 𝓤 ((c κs a).ensures g r e) (fact 𝓤 (φ r e)))
      → Opds K 𝓛 (raw ((Met 𝓛 T c).pre ((κs, qs, bs, a, vss), g)) ∷ Γ) E xs (passed 𝓛 T.signature (κs, qs, bs, a, vss))
      → ((u : Val) (r : Res T.signature κs) (ws : Lasts T κs a) → φ r (at_exit T κs a ws) → Is (type_at T.signature.result κs) r (u ∷ [])
      → Seq K 𝓛 (‵ ((type_at T.signature.result κs).own_val r (u ∷ [])) ∷ raw (alive 𝓛 T.signature κs qs) ∷ ‵ (lasts T κs a ws) ∷ Γ) (lands C Λ E d u rest q))
      → Seq K 𝓛 (raw (alive 𝓛 T.signature κs qs) ∷ ‵ (owns (types_at T.signature.params κs) a vss) ∷ Γ) (runs C Λ E (seq (call f xs d) rest) q)
  calls-said t fm T c met κs qs bs a vss g req φ ens os k =
      use2 𝓛 (raw ((Met 𝓛 T c).pre ((κs, qs, bs, a, vss), g)))
      (qed 𝓛 (raw (alive 𝓛 T.signature κs qs) ∷ ‵ (owns (types_at T.signature.params κs) a vss) ∷ []) ∵ use0 𝓛 (raw ((c κs a).requires g)) req $ move ! (1 ∷ 2 ∷ []) $ join ! $ done !) $
      calls_at t fm (Met 𝓛 T c) met ((κs, qs, bs, a, vss), g) os (λ u.
      use1 𝓛 (later (some (λ (r : Res T.signature κs). (raw (alive 𝓛 T.signature κs qs) ⊛ ‵ ((type_at T.signature.result κs).own_val r (u ∷ []))) ⊛ raw (ensured 𝓛 T c κs a g r))))
      (id⊢ 𝓤 _) $ await t tt $ pick t (λ r.
      split t $ move t (1 ∷ []) $ use1 𝓛 (some (λ (ws : Lasts T κs a). ‵ (lasts T κs a ws) ⊛ raw ((c κs a).ensures g r (at_exit T κs a ws)))) (id⊢ 𝓤 _) $ pick t (λ ws.
      split t $ move t (1 ∷ []) $ use1 𝓛 (raw (fact 𝓤 (φ r (at_exit T κs a ws)))) (ens r (at_exit T κs a ws)) $ heard t (φ r (at_exit T κs a ws)) (λ e.
      move t (1 ∷ []) $ split t $ move t (1 ∷ []) $ peeks t (type_at T.signature.result κs) (Is (type_at T.signature.result κs)) (shows 𝓛 (type_at T.signature.result κs)) r (u ∷ [])
      (λ is. k u r ws e is)))))

  pub calls-plain : K → FmC 𝓤 H 𝓛.laws C → (T : Ended) (c : Clauses 𝓤 T) → Triple 𝓤 (C f) (Met 𝓛 T c)
      → (κs : Lfts T.signature.lifetimes) (qs : Shares T.signature.lifetimes) (bs : AllOutlive T.signature.lifetimes T.signature.outlives κs) (a : Args T.signature κs)
      (vss : Vals T.signature κs) (g : (c κs a).ghost)
      → ent 𝓤 (emp 𝓤) (alive 𝓛 T.signature κs qs) → Makess 𝓛 (types_at T.signature.params κs) (Ises (types_at T.signature.params κs))
      → Are (types_at T.signature.params κs) (Ises (types_at T.signature.params κs)) a vss
      → ent 𝓤 (emp 𝓤) ((c κs a).requires g)
      → (φ : Res T.signature κs → AtExit T κs → Type 0) → ((r : Res T.signature κs) (e : AtExit T κs) → ent 𝓤 ((c κs a).ensures g r e) (fact 𝓤 (φ r e)))
      → Opds K 𝓛 (raw ((Met 𝓛 T c).pre ((κs, qs, bs, a, vss), g)) ∷ Γ) E xs (passed 𝓛 T.signature (κs, qs, bs, a, vss))
      → ((u : Val) (r : Res T.signature κs) (ws : Lasts T κs a) → φ r (at_exit T κs a ws) → Is (type_at T.signature.result κs) r (u ∷ []) → Seq K 𝓛 Γ (lands C Λ E d u rest q))
      → Seq K 𝓛 Γ (runs C Λ E (seq (call f xs d) rest) q)
  calls-plain t fm T c met κs qs bs a vss g none mk are req φ ens os k =
      use0 𝓛 (‵ (owns (types_at T.signature.params κs) a vss)) (owns_make 𝓛 (types_at T.signature.params κs) (Ises (types_at T.signature.params κs)) mk a vss are) $
      use0 𝓛 (raw (alive 𝓛 T.signature κs qs)) none $
      calls-said t fm T c met κs qs bs a vss g req φ ens os (λ u r ws e is. drop t $ drop t $ drop t $ k u r ws e is)
