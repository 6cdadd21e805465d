-- The tokens of a caller's lifetimes, as a callee with fewer or more lifetimes asks them.
--     first_out, first_back      the callee takes the first of two, and gives it back
--     halved, joined             a callee with two lifetimes takes the halves of the caller's one, and gives them back
-- Assumes `Logic`, for the halves alone.
use seplogic.Ra.Ura.{Ura}
use base.Fraction.{left, right}
use base.Logic.{ent, sep, emp, via, assoc∗, assoc', mono_l, fst∗}
use base.Fml.{Lft, Share}
use types.Logic.{Logic}
use sound.Laws.{∗emp}
use contract.Lifetimes.{toks}

module _ {M : Type 1} {𝓤 : Ura M} (𝓛 : Logic 𝓤) (κ κ' : Lft) (q q' : Share) where
  open 𝓛 use {A}

  pub first_out : ent 𝓤 (toks 𝓛 2 (κ, (κ', tt)) (q, (q', tt))) (sep 𝓤 (toks 𝓛 1 (κ, tt) (q, tt)) (toks 𝓛 1 (κ', tt) (q', tt)))
  first_out = mono_l 𝓤 (toks 𝓛 1 (κ', tt) (q', tt)) (∗emp 𝓤 (A.lft κ q))

  pub first_back : ent 𝓤 (sep 𝓤 (toks 𝓛 1 (κ, tt) (q, tt)) (toks 𝓛 1 (κ', tt) (q', tt))) (toks 𝓛 2 (κ, (κ', tt)) (q, (q', tt)))
  first_back = mono_l 𝓤 (toks 𝓛 1 (κ', tt) (q', tt)) (fst∗ 𝓤 (A.lft κ q) (emp 𝓤))

module _ {M : Type 1} {𝓤 : Ura M} (𝓛 : Logic 𝓤) (κ : Lft) (q : Share) where
  open 𝓛 use {A}

  pub halved : ent 𝓤 (toks 𝓛 1 (κ, tt) (q, tt)) (toks 𝓛 2 (κ, (κ, tt)) (left q, (right q, tt)))
  halved =
      via 𝓤 (sep 𝓤 (sep 𝓤 (A.lft κ (left q)) (A.lft κ (right q))) (emp 𝓤)) (mono_l 𝓤 (emp 𝓤) (𝓛.lfts.lft_split κ q))
      (assoc∗ 𝓤 (A.lft κ (left q)) (A.lft κ (right q)) (emp 𝓤))

  pub joined : ent 𝓤 (toks 𝓛 2 (κ, (κ, tt)) (left q, (right q, tt))) (toks 𝓛 1 (κ, tt) (q, tt))
  joined =
      via 𝓤 (sep 𝓤 (sep 𝓤 (A.lft κ (left q)) (A.lft κ (right q))) (emp 𝓤)) (assoc' 𝓤 (A.lft κ (left q)) (A.lft κ (right q)) (emp 𝓤))
      (mono_l 𝓤 (emp 𝓤) (𝓛.lfts.lft_join κ q))
