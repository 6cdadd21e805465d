-- The cut points of calls are those of its beginnings, each with the best cutting of its beginning. Assumes nothing.
use Prim.Native.Nat.{ℕ}
use mathlib.Core.Path.{◌≡◌, refl, sym, ap, subst, ◌∙◌}
use mathlib.Core.List.{List, [], ◌∷◌, ◌++◌, map, append-nil, append_assoc}
use Rattle.std.specs.Prelude.{Option, None, Some}
use Rattle.definitions.specs.Clock.{Arc}
use Rattle.definitions.specs.Cutting.{Best, Point, longer, nothing, least, grow, points_from, points, last_best, cheapest}

last_snoc : (x : Option Best) (ps : List Point) (p : Point) → last_best x (ps ++ (p ∷ [])) ≡ p.best
last_snoc x [] p = refl
last_snoc x (q ∷ ps) p = last_snoc q.best ps p

module _ (arc : List ℕ → Option Arc) where
  points-more : (ps : List Point) (u v : List ℕ) → points_from arc ps (u ++ v) ≡ points_from arc (points_from arc ps u) v
  unfolding points_from
  points-more ps [] v = refl
  points-more ps (c ∷ u) v = points-more (grow arc ps c) u v

  points-snoc : (u : List ℕ) (c : ℕ) → points arc (u ++ (c ∷ [])) ≡ grow arc (points arc u) c
  unfolding points_from
  points-snoc u c = points-more _ u (c ∷ [])

  -- one more call: the scan of all cut points before it
  pub best-snoc : (u : List ℕ) (c : ℕ) → cheapest arc (u ++ (c ∷ [])) ≡ least arc None (map (longer c) (points arc u))
  unfolding cheapest
  best-snoc u c = ap (λ (ps : List Point). last_best None ps) (points-snoc u c) ∙ last_snoc None (map (longer c) (points arc u)) _

  pub best_none : cheapest arc [] ≡ Some nothing
  unfolding cheapest points_from
  best_none = refl

  -- the cut points of pre ++ rest from pre on, each with the best of its beginning
  abbrev pub tails : List ℕ → List ℕ → List Point
  tails pre [] = record { best = cheapest arc pre; since = [] } ∷ []
  tails pre (c ∷ rest) = record { best = cheapest arc pre; since = c ∷ rest } ∷ tails (pre ++ (c ∷ [])) rest

  tails-snoc : (pre rest : List ℕ) (c : ℕ) → tails pre (rest ++ (c ∷ [])) ≡ map (longer c) (tails pre rest) ++ (record { best = cheapest arc (pre ++ (rest ++ (c ∷ []))); since = [] } ∷ [])
  tails-snoc pre [] c = refl
  tails-snoc pre (d ∷ rest) c =
      ap (λ (ps : List Point). record { best = cheapest arc pre; since = d ∷ (rest ++ (c ∷ [])) } ∷ ps)
      (tails-snoc (pre ++ (d ∷ [])) rest c
      ∙ ap (λ (l : List ℕ). map (longer c) (tails (pre ++ (d ∷ [])) rest) ++ (record { best = cheapest arc l; since = [] } ∷ [])) (append_assoc pre (d ∷ []) (rest ++ (c ∷ []))))

  points-from : (u v : List ℕ) → points arc u ≡ tails [] u → points arc (u ++ v) ≡ tails [] (u ++ v)
  points-from u [] e = ap (λ (l : List ℕ). points arc l) (append-nil u) ∙ e ∙ ap (λ (l : List ℕ). tails [] l) (sym (append-nil u))
  points-from u (c ∷ v) e =
      subst (λ (l : List ℕ). points arc l ≡ tails [] l) (append_assoc u (c ∷ []) v)
      (points-from (u ++ (c ∷ [])) v
      (points-snoc u c
      ∙ ap (λ (b : Option Best). map (longer c) (points arc u) ++ (record { best = b; since = [] } ∷ [])) (sym (best-snoc u c))
      ∙ ap (λ (ps : List Point). map (longer c) ps ++ (record { best = cheapest arc (u ++ (c ∷ [])); since = [] } ∷ [])) e
      ∙ sym (tails-snoc [] u c)))

  -- the cut points of calls are those of its beginnings
  pub points-are : (calls : List ℕ) → points arc calls ≡ tails [] calls
  unfolding points_from cheapest
  points-are calls = points-from [] calls refl
