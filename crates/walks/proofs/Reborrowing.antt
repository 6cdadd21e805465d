-- Lent lists that are borrowed again in a walk by hand: of a `&mut` slice in a local the address is put into another, and the slice behind that.
--     reborrow x, reborrows xs     the code.        Lent σ x, Lents σ xs     what the locals σ hold for it.        lends        of a reference
--     borrows-all                  it is run; the locals stand behind the first item of the context
-- Assumes `Logic`.
use mathlib.Core.Path.{◌≡◌, refl, ◌∙◌}
use Prim.Native.Nat.{ℕ, suc, ◌<◌, ◌^◌}
use native.Mathlib.Omega.{arith}
use mathlib.Core.List.{List, [], ◌∷◌}
use Rattle.std.specs.Prelude.{Some}
use seplogic.Ra.Ura.{Ura}
use lib.ListN.{length}
use mir.Syntax.{Lifetime, Ty, Body, copy, place, field, deref, addr_of, aggregate, seq, assign, ty_ref, mut, erased, w64}
use mir.Val.{vptr, Fits}
use prog.Wp.{Env, Calls, Loops}
use types.Logic.{Logic}
use types.Kit.{Post, runs, Item, Step, step, ◌$◌}
use types.Part.{sub, agg}
use types.Run.{stop, hop, fld, addr, assigns, and_then, no_more, load}
use denote.Ref.{Bor}
use denote.Slice.{slice_ty, slice_val}
use Rattle.walks.proofs.Locals.{Cell, unset, holds, Here, set_at, here-set, here-other, apart, value_at, value-here, env_at, same-env, locals, held, finds, reads, arg, set}

-- its number, the number of its address, which the slice follows, and the type of an element, as it is and as a reference names it
pub record Again : Type 0 where
  pub list : ℕ
  pub into : ℕ
  pub element : Ty
  pub pointed : Ty

abbrev pub reborrow : Again → Body → Body
reborrow x rest =
    seq (assign (place x.into []) (addr_of (place x.list (field 0 ∷ deref x.element ∷ []))))
    (seq (assign (place (suc x.into) []) (aggregate (copy (place x.into []) ∷ copy (place x.list (field 1 ∷ [])) ∷ []))) rest)

-- what the locals hold for it: where they are written out, the last three are seen
pub record Lent (σ : List Cell) (x : Again) : Type 0 where
  pub lifetime : Lifetime
  pub at : ℕ × ℕ
  pub size : ℕ
  pub fits : Fits w64 size
  pub block : ℕ
  pub block' : ℕ
  pub block'' : ℕ
  pub listed : Here σ x.list (holds (slice_ty (ty_ref lifetime mut x.pointed)) block (slice_val at size))
  pub free : Here σ x.into (unset (ty_ref erased mut x.pointed) block')
  pub behind : Here σ (suc x.into) (unset (slice_ty (ty_ref erased mut x.pointed)) block'')

-- of a reference
abbrev pub lends : {X : Type 0} (σ : List Cell) (x : Again) (ℓ : Lifetime) (l : Bor (List X)) → length l.now < 2 ^ 64 → (b b' b'' : ℕ)
    → Here σ x.list (holds (slice_ty (ty_ref ℓ mut x.pointed)) b (slice_val l.ref_ptr (length l.now))) → Here σ x.into (unset (ty_ref erased mut x.pointed) b')
    → Here σ (suc x.into) (unset (slice_ty (ty_ref erased mut x.pointed)) b'') → Lent σ x
lends σ x ℓ l fits b b' b'' listed free behind =
    record { lifetime = ℓ; at = l.ref_ptr; size = length l.now; fits = record { fits = fits }; block = b; block' = b'; block'' = b''; listed = listed; free = free; behind = behind }

-- the locals with the address, and with the slice
abbrev addressed : (σ : List Cell) (x : Again) → Lent σ x → List Cell
addressed σ x l = set_at σ x.into (vptr l.at.0 l.at.1)

abbrev borrowed : (σ : List Cell) (x : Again) → Lent σ x → List Cell
borrowed σ x l = set_at (addressed σ x l) (suc x.into) (slice_val l.at l.size)

-- ---- several, one after the other

abbrev pub reborrows : List Again → Body → Body
reborrows [] rest = rest
reborrows (x ∷ xs) rest = reborrow x (reborrows xs rest)

abbrev pub Lents : List Cell → List Again → Type 0
Lents σ [] = Unit {0}
Lents σ (x ∷ xs) = (l : Lent σ x) × Lents (borrowed σ x l) xs

abbrev pub after_all : (σ : List Cell) (xs : List Again) → Lents σ xs → List Cell
after_all σ [] l = σ
after_all σ (x ∷ xs) l = after_all (borrowed σ x l.0) xs l.1

module _ {M : Type 1} {𝓤 : Ura M} (𝓛 : Logic 𝓤) where
  same-borrowed : (σ : List Cell) (x : Again) (l : Lent σ x) → env_at 𝓛 (borrowed σ x l) ≡ env_at 𝓛 σ
  same-borrowed σ x l = same-env 𝓛 (addressed σ x l) (suc x.into) (slice_val l.at l.size) ∙ same-env 𝓛 σ x.into (vptr l.at.0 l.at.1)

  pub same_after : (σ : List Cell) (xs : List Again) (l : Lents σ xs) → env_at 𝓛 (after_all σ xs l) ≡ env_at 𝓛 σ
  same_after σ [] l = refl
  same_after σ (x ∷ xs) l = same_after (borrowed σ x l.0) xs l.1 ∙ same-borrowed σ x l.0

module _ {M : Type 1} {𝓤 : Ura M} {𝓛 : Logic 𝓤} {K : Type 0} {F : Item 𝓤} {Δ : List (Item 𝓤)} {E : Env 𝓤 𝓛.H} {C : Calls 𝓤 𝓛.H} {Λ : Loops 𝓤 𝓛.H} {q : Post 𝓤 𝓛.H} where
  borrows : K → (σ : List Cell) (x : Again) (l : Lent σ x) {rest : Body} → env_at 𝓛 σ ≡ E
      → Step K 𝓛 (F ∷ locals 𝓛 (borrowed σ x l) ∷ Δ) (runs C Λ E rest q) (F ∷ locals 𝓛 σ ∷ Δ) (runs C Λ E (reborrow x rest) q)
  borrows t σ x l env =
      step (λ s.
      assigns t (addr t (finds t σ x.list _ env l.listed (fld t refl (hop t (reads t 1 σ refl (sub t 0 refl (held t σ x.list l.listed))) (stop t)))))
      (finds t σ x.into _ env l.free (stop t)) (set t 1 σ x.into refl l.free (tt, tt)) $
      assigns t (agg t (and_then t (arg t 1 σ' x.into refl env' address)
      (and_then t (load t (finds t σ' x.list _ env' still (fld t refl (stop t))) (reads t 1 σ' refl (sub t 1 refl (held t σ' x.list still)))) (no_more t))))
      (finds t σ' (suc x.into) _ env' behind (stop t))
      (set t 1 σ' (suc x.into) refl behind (tt, (tt, (l.fits, tt)))) $ s)
    where
      -- with the address
      σ' : List Cell
      σ' = addressed σ x l

      env' : env_at 𝓛 σ' ≡ E
      env' = same-env 𝓛 σ x.into (vptr l.at.0 l.at.1) ∙ env

      address : value_at σ' x.into ≡ Some (vptr l.at.0 l.at.1)
      address = value-here σ' x.into _ _ _ (here-set σ x.into _ _ (vptr l.at.0 l.at.1) l.free)

      still : Here σ' x.list (holds (slice_ty (ty_ref l.lifetime mut x.pointed)) l.block (slice_val l.at l.size))
      still = here-other σ x.list x.into _ _ (apart σ x.list x.into _ _ _ _ _ l.listed l.free) l.listed

      behind : Here σ' (suc x.into) (unset (slice_ty (ty_ref erased mut x.pointed)) l.block'')
      behind = here-other σ (suc x.into) x.into _ _ (λ p. omega arith) l.behind

  pub borrows-all : K → (σ : List Cell) (xs : List Again) (l : Lents σ xs) {rest : Body} → env_at 𝓛 σ ≡ E
      → Step K 𝓛 (F ∷ locals 𝓛 (after_all σ xs l) ∷ Δ) (runs C Λ E rest q) (F ∷ locals 𝓛 σ ∷ Δ) (runs C Λ E (reborrows xs rest) q)
  borrows-all t σ [] l env = step (λ s. s)
  borrows-all t σ (x ∷ xs) l env = step (λ s. borrows t σ x l.0 env $ borrows-all t (borrowed σ x l.0) xs l.1 (same-borrowed 𝓛 σ x l.0 ∙ env) $ s)
