use Rattle.std.proofs.Common.{◌≡◌, Bool, List, [], ◌∷◌, ◌||◌, Float, refl, ap, ◌∙◌, rules, tests}
use Rattle.std.specs.List.{list_any, zip}
use Rattle.std.proofs.lemmas.Iterator.{YieldsList-from_slice, YieldsList-from_zip}
use Rattle.std.proofs.lemmas.Iterator.Consumers.{YieldsList-at}
use Rattle.std.proofs.lemmas.Iterator.Search.{any_from_yields_List}
use Rattle.refuse_numbers.specs.ClosedLegs.{apart_f, disagree_f}
use Rattle.refuse_numbers.proofs.closures.closures_differ.Goals as goal

abbrev apart : Float × Float → Bool
apart p = apart_f p.0 p.1

any_apart : (ds ts : List Float) → list_any apart (zip ds ts) ≡ disagree_f ds ts
any_apart [] ts = refl
any_apart (d ∷ ds) [] = refl
any_apart (d ∷ ds) (t ∷ ts) = ap (λ b. apart_f d t || b) (any_apart ds ts)

pub returns : goal.returns
returns c =
    let road = YieldsList-from_zip (YieldsList-at c.zip.ensures.first (YieldsList-from_slice c.args.distances.now c.iter.ensures.rest)) (YieldsList-from_slice c.args.times.now c.zip.ensures.second.0) in
    any_from_yields_List apart c.any.new.self _ _ c.any.ensures.ran road (λ x b q k. search (rules, tests)) ∙ any_apart c.args.distances.now c.args.times.now
