-- How a function's walk ends that has given what its parameters own to a callee for good: at exit it has of each just what its contract says of the last value, as the callee has left it.
--     stay-left, all_left      what is had of one parameter, and of all
--     all_go                   the law that they owe
--     leaves                   the walk's end: the result, the tokens, and what is said of the last values ws; the `ensures` is shown from nothing
--     leaves-plain             the same where nothing is said of the last values, as of a function with no `&mut`
--     all_meet                 a function whose walk so ends, from each choice of its parameters, meets its contract
-- Assumes `Logic`.
use Prim.Native.Nat.{ℕ}
use mathlib.Core.List.{List, [], ◌∷◌}
use seplogic.Ra.Ura.{Ura}
use mir.Syntax.{Fn}
use mir.Val.{Val}
use base.Logic.{ent, sep, emp, id⊢, mono_r}
use prog.Wp.{Tables, WpFn}
use types.Logic.{Logic, sem}
use sound.WpLaws.{WpFn-mono}
use contract.Lifetimes.{Lfts, Shares, AllOutlive}
use types.Kit.{‵, raw, ⋆, ◌$◌, ◌∵◌, !, qed, by, move, use0, use1, suffices, frame, done}
use denote.Exit.{Kept, left}
use denote.Laws.{Are, Ises, Spells, valss, Tellss}
use denote.RattleType.{Denots, Valss, flat}
use denote.Shadow.{Pure, shadow, makes_shadow}
use denote.Signature.{Slot, type_at, types_at}
use denote.Triple.Clauses.{Ended, Clauses, Lasts, at_exit, lasts, closing}
use denote.Triple.End.{Kepts, Fins, lasts_of}
use denote.Triple.Entry.{Args, Res, alive, on_entry}
use denote.Triple.Spec.{Meets}
use denote.Triple.Walked.{Stay, Stays, fits_of, has_of, AllGo, walk_of, ends_at, walked, walk_Meets}
use Rattle.walks.proofs.Calling.{says_all}

module _ {n : ℕ} where
  abbrev pub stay-left : (s : Slot n) (k : Kept) → Stay s k
  stay-left s k = record { fit = λ κs x f. Unit {0}; has = λ κs x f vs. left ((s.row κs).exit k) x f }

  abbrev pub all_left : (ss : List (Slot n)) (ks : Kepts ss) → Stays ss ks
  all_left [] ks = tt
  all_left (s ∷ ss) ks = (stay-left s ks.0, all_left ss ks.1)

  fits : (κs : Lfts n) (ss : List (Slot n)) (ks : Kepts ss) (a : Denots (types_at ss κs)) (ws : Fins κs ss ks a) → fits_of κs ss ks (all_left ss ks) a ws
  fits κs [] ks a ws = tt
  fits κs (s ∷ ss) ks a ws = (tt, fits κs ss ks.1 a.1 ws.1)

module _ {M : Type 1} {𝓤 : Ura M} (𝓛 : Logic 𝓤) where
  open 𝓛 use {H}

  had : {n : ℕ} (κs : Lfts n) (ss : List (Slot n)) (ks : Kepts ss) (a : Denots (types_at ss κs)) (ws : Fins κs ss ks a) (vss : Valss (types_at ss κs))
      → ent 𝓤 (sem 𝓛 (lasts_of κs ss ks a ws)) (sem 𝓛 (has_of κs ss ks (all_left ss ks) a ws vss))
  had κs [] ks a ws vss = id⊢ 𝓤 _
  had κs (s ∷ ss) ks a ws vss = mono_r 𝓤 (sem 𝓛 (left ((s.row κs).exit ks.0) a.0 ws.0)) (had κs ss ks.1 a.1 ws.1 vss.1)

  module _ where
    pub all_go : {n : ℕ} (ss : List (Slot n)) (ks : Kepts ss) → AllGo 𝓛 n ss ks (all_left ss ks)
    all_go [] ks = tt
    all_go (s ∷ ss) ks = (λ κs x f vs ok. 𝓛.laws.⇛_intro _, all_go ss ks.1)

    module _ (T : Ended) (c : Clauses 𝓤 T) (y : (walk_of 𝓛 T (all_left T.signature.params T.kept) c).Ghost) where
      pub leaves : (u : Val) (r : Res T.signature y.0.0) (ws : Lasts T y.0.0 y.0.3) → ent 𝓤 (emp 𝓤) ((c y.0.0 y.0.3).ensures y.1 r (at_exit T y.0.0 y.0.3 ws))
          → ent 𝓤 (⋆ 𝓛 (‵ ((type_at T.signature.result y.0.0).own_val r (u ∷ [])) ∷ raw (alive 𝓛 T.signature y.0.0 y.0.1) ∷ ‵ (lasts T y.0.0 y.0.3 ws) ∷ []))
          ((walk_of 𝓛 T (all_left T.signature.params T.kept) c).post y u)
      leaves u r ws e =
          qed 𝓛 (‵ ((type_at T.signature.result y.0.0).own_val r (u ∷ [])) ∷ raw (alive 𝓛 T.signature y.0.0 y.0.1) ∷ ‵ (lasts T y.0.0 y.0.3 ws) ∷ []) ∵
          suffices ! _ (ends_at 𝓛 T (all_left T.signature.params T.kept) c y u r ws (fits y.0.0 T.signature.params T.kept y.0.3 ws)) $ says_all ! e $
          move ! (1 ∷ 2 ∷ []) $ frame ! $ use1 𝓛 (‵ (has_of y.0.0 T.signature.params T.kept (all_left T.signature.params T.kept) y.0.3 ws y.0.4))
          (had y.0.0 T.signature.params T.kept y.0.3 ws y.0.4) $ frame ! $ done !

      pub leaves-plain : (u : Val) (r : Res T.signature y.0.0) (ws : Lasts T y.0.0 y.0.3) → Pure (lasts T y.0.0 y.0.3 ws) → shadow (lasts T y.0.0 y.0.3 ws)
          → ent 𝓤 (emp 𝓤) ((c y.0.0 y.0.3).ensures y.1 r (at_exit T y.0.0 y.0.3 ws))
          → ent 𝓤 (⋆ 𝓛 (‵ ((type_at T.signature.result y.0.0).own_val r (u ∷ [])) ∷ raw (alive 𝓛 T.signature y.0.0 y.0.1) ∷ []))
          ((walk_of 𝓛 T (all_left T.signature.params T.kept) c).post y u)
      leaves-plain u r ws pure holds e =
          qed 𝓛 (‵ ((type_at T.signature.result y.0.0).own_val r (u ∷ [])) ∷ raw (alive 𝓛 T.signature y.0.0 y.0.1) ∷ []) ∵
          use0 𝓛 (‵ (lasts T y.0.0 y.0.3 ws)) (makes_shadow 𝓛 (lasts T y.0.0 y.0.3 ws) pure holds) $ move ! (1 ∷ 2 ∷ []) $ by ! (leaves u r ws e)

    module _ (T : Ended) (c : Clauses 𝓤 T) (𝓣 : Tables 𝓤 H) (f : Fn) where
      pub all_meet : (sp : (κs : Lfts T.signature.lifetimes) → Spells (types_at T.signature.params κs))
          → ((κs : Lfts T.signature.lifetimes) → Tellss (types_at T.signature.params κs) (Ises (types_at T.signature.params κs)) (sp κs))
          → ((κs : Lfts T.signature.lifetimes) (qs : Shares T.signature.lifetimes) (bounds : AllOutlive T.signature.lifetimes T.signature.outlives κs) (a : Args T.signature κs)
          (g : (c κs a).ghost)
          → Are (types_at T.signature.params κs) (Ises (types_at T.signature.params κs)) a (valss (types_at T.signature.params κs) (sp κs) a)
          → ent 𝓤 (sep 𝓤 (on_entry 𝓛 T.signature κs qs a (valss (types_at T.signature.params κs) (sp κs) a)) ((c κs a).requires g))
          (WpFn 𝓤 H 𝓣.C 𝓣.Λ f (flat (types_at T.signature.params κs) (valss (types_at T.signature.params κs) (sp κs) a))
          ((walk_of 𝓛 T (all_left T.signature.params T.kept) c).post ((κs, qs, bounds, a, valss (types_at T.signature.params κs) (sp κs) a), g))))
          → Meets 𝓛 T.signature (WpFn 𝓤 H 𝓣.C 𝓣.Λ f) (closing 𝓛 T c)
      all_meet sp tells walk =
          walk_Meets 𝓛 T (all_left T.signature.params T.kept) (all_go T.signature.params T.kept) c (WpFn 𝓤 H 𝓣.C 𝓣.Λ f) (WpFn-mono 𝓤 H 𝓛.laws 𝓣 f)
          (walked 𝓛 T (all_left T.signature.params T.kept) c (WpFn 𝓤 H 𝓣.C 𝓣.Λ f) sp tells walk)
