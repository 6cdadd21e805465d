-- `route_elimination::eliminate` meets its contract. The invariant of the searches is `Searching`, and that of one search `Trying`: the
-- runs that are left decide. Each search that goes on has a run less. Assumes nothing.
-- ---- the places on the way: from a search, from the loop over its runs, from the shortest of them, from the run tried, and from its going
-- the runs given, those that are left when a search begins, those of them that are not empty, and those that are left then
use Prim.Native.Nat.{◌-◌}
use native.Mathlib.Omega.{arith}
use mathlib.Core.Path.{◌≡◌, refl, sym, ap, subst, ◌∙◌}
use Rattle.std.specs.Prelude.{Some}
use lib.ListN.{replicate}
use lib.Seq.{length-take-le}
use Rattle.cut_stops.specs.Stops.{numbers}
use Rattle.definitions.specs.Elimination.{non_empty}
use Rattle.improve_runs.specs.RunLists.{Runs, runs, runs_in, Sound}
use Rattle.improve_runs.proofs.Holding.{held}
use Rattle.improve_runs.proofs.Changing.{all-rise, lengths-are}
use Rattle.place_choice.specs.Insertion.{given_in}
use Rattle.route_elimination.specs.Elimination.{search_f}
use Rattle.route_elimination.proofs.Searching.{trying-first, trying-all, Pick, Turn, tried-all, tried-pick, tried-turn, searching-first, searching-over, searching-less, searching-again}
use borrow.Author.Rules.{rules}
use Rattle.route_elimination.proofs.route_elimination.eliminate.Goals as goal
use Rattle.route_elimination.proofs.route_elimination.eliminate.Goals.{After-drop_empty-left, After-emptied-goes, After-shortest-j, After-take_over, At-search}

abbrev pick : (c : After-shortest-j) →
    let at = c in
    Pick (runs_in (runs at.search.calls at.drop_empty-left.new.ends at.args.many at.drop_empty-left.result)) at.loop-n.pending at.loop-n.n c.shortest-j.result
pick c =
    let at = c in
    let l = at.loop-n in
    tried-pick (given_in at.args.given (numbers at.args.codes.now at.args.figures.now) at.args.distances.now at.args.times.now) (runs at.search.calls at.drop_empty-left.new.ends at.args.many at.drop_empty-left.result) at.lengths_of-lengths.result l.pending l.n l.invariant.1 c.loop-n-test.true
    c.shortest-j.result c.shortest-j.ensures

abbrev turn : (c : After-emptied-goes) →
    let at = c in
    let k = at in
    Turn (given_in k.args.given (numbers k.args.codes.now k.args.figures.now) k.args.distances.now k.args.times.now) (let l = k.search in runs l.calls l.ends k.args.many l.left) (runs k.search.calls k.drop_empty-left.new.ends k.args.many k.drop_empty-left.result) at.lengths_of-lengths.result at.loop-n.pending at.loop-n.n c.shortest-j.result c.emptied-goes.result
    (runs c.emptied-goes.new.rest_calls c.emptied-goes.new.rest_ends k.args.many (at.loop-n.left - 1))
turn c =
    let least = c in
    let at = least in
    let l = at.loop-n in
    let k = at in
    let X = k in
    tried-turn (given_in X.args.given (numbers X.args.codes.now X.args.figures.now) X.args.distances.now X.args.times.now) (runs k.search.calls k.drop_empty-left.new.ends k.args.many k.drop_empty-left.result) at.lengths_of-lengths.result l.pending l.n l.invariant.1 least.loop-n-test.true least.shortest-j.result
    least.shortest-j.ensures
    (let l = X.search in runs l.calls l.ends X.args.many l.left) (runs l.calls l.ends X.args.many l.left) (let at = k in k.drop_empty-left.ensures at.search.calls at.args.many at.search.invariant.0.sound).is l.invariant.0 c.emptied-goes.result _ c.emptied-goes.ensures

goes_on : (c : After-take_over) →
    let X = c in
    search_f (given_in X.args.given (numbers X.args.codes.now X.args.figures.now) X.args.distances.now X.args.times.now) (non_empty (runs_in (let l = X.search in runs l.calls l.ends X.args.many l.left))) ≡ Some (runs_in (let tried = c in let at = tried in runs c.take_over.new.calls c.take_over.new.ends at.args.many (at.loop-n.left - 1)))
goes_on c = let went = c in (let least = went in let at = least in let l = at.loop-n in let k = at in let X = k in tried-turn (given_in X.args.given (numbers X.args.codes.now X.args.figures.now) X.args.distances.now X.args.times.now) (runs k.search.calls k.drop_empty-left.new.ends k.args.many k.drop_empty-left.result) at.lengths_of-lengths.result l.pending l.n l.invariant.1 least.loop-n-test.true least.shortest-j.result least.shortest-j.ensures (let l = X.search in runs l.calls l.ends X.args.many l.left) (runs l.calls l.ends X.args.many l.left) (let at = k in k.drop_empty-left.ensures at.search.calls at.args.many at.search.invariant.0.sound).is l.invariant.0 went.emptied-goes.result _ went.emptied-goes.ensures).found went.if-goes.true ∙ ap Some (sym c.take_over.ensures.is)

pub search-init : goal.search-init
search-init c =
    let s = c in
    (searching-first (given_in s.args.given (numbers s.args.codes.now s.args.figures.now) s.args.distances.now s.args.times.now) (runs_in (runs s.args.calls.now s.args.ends.now s.args.many s.args.count)) (runs s.args.calls.now s.args.ends.now s.args.many s.args.count) s.requires.sound refl, search rules, search rules)

pub lengths_of-lengths-requires : goal.lengths_of-lengths-requires
lengths_of-lengths-requires c =
    let k = c in
    let S = (let at = k in k.drop_empty-left.ensures at.search.calls at.args.many at.search.invariant.0.sound).sound in
    (S.ends-long, S.runs_fit, all-rise (runs k.search.calls k.drop_empty-left.new.ends k.args.many k.drop_empty-left.result) S)

pub loop-n-init : goal.loop-n-init
loop-n-init c =
    let numbered = c in
    let m = numbered in
    let k = m in
    let S = (let at = k in k.drop_empty-left.ensures at.search.calls at.args.many at.search.invariant.0.sound).sound in
    let many = (held (runs k.search.calls k.drop_empty-left.new.ends k.args.many k.drop_empty-left.result) S).count-is in
    let at = k in (
      refl,
      trying-first (given_in at.args.given (numbers at.args.codes.now at.args.figures.now) at.args.distances.now at.args.times.now) (runs_in (runs k.search.calls k.drop_empty-left.new.ends k.args.many k.drop_empty-left.result)) _ (λ j h. lengths-are (runs k.search.calls k.drop_empty-left.new.ends k.args.many k.drop_empty-left.result) S _ m.lengths_of-lengths.ensures j (omega (arith, many))) (omega (arith, many, S.runs_fit)) _
          (replicate 128 0) _ many refl numbered.number.ensures,
      at.search.invariant.1,
      at.search.invariant.2,
    )

pub shortest-j-requires : goal.shortest-j-requires
shortest-j-requires c =
    let tested = c in
    let at = tested in
    let l = at.loop-n in
    let long = length-take-le l.n l.pending (omega (arith, l.invariant.1.fits, l.invariant.1.long)) in
    (omega (arith, long, tested.loop-n-test.true), trying-all (given_in at.args.given (numbers at.args.codes.now at.args.figures.now) at.args.distances.now at.args.times.now) (runs_in (runs at.search.calls at.drop_empty-left.new.ends at.args.many at.drop_empty-left.result)) _ l.pending l.n l.invariant.1)

pub bounds-pending-j : goal.bounds-pending-j
bounds-pending-j c = omega (arith, (let at = c in let l = at.loop-n in tried-pick (given_in at.args.given (numbers at.args.codes.now at.args.figures.now) at.args.distances.now at.args.times.now) (runs at.search.calls at.drop_empty-left.new.ends at.args.many at.drop_empty-left.result) at.lengths_of-lengths.result l.pending l.n l.invariant.1 c.loop-n-test.true c.shortest-j.result c.shortest-j.ensures).picks, c.loop-n.invariant.1.fits)

pub emptied-goes-requires : goal.emptied-goes-requires
emptied-goes-requires c =
    let least = c in
    let at = least in
    let l = at.loop-n in
    let k = at in
    let S = (let at = k in k.drop_empty-left.ensures at.search.calls at.args.many at.search.invariant.0.sound).sound in
    let e = l.invariant.0 in record {
      sound = (subst Sound (sym e) S, omega (arith, (pick (goal.at.emptied-goes-requires least).After-shortest-j).inside, (held (runs k.search.calls k.drop_empty-left.new.ends k.args.many k.drop_empty-left.result) S).count-is, ap (λ (r : Runs). r.count) e));
      rest_calls_len = (l.invariant.2, l.invariant.3);
      fact = k.requires.fact;
      all_open = k.requires.all_open;
    }

pub search-smaller : goal.search-smaller
search-smaller c =
    let t = c in
    let went = t in
    let tried = went in
    let X = tried in
    searching-less (given_in X.args.given (numbers X.args.codes.now X.args.figures.now) X.args.distances.now X.args.times.now) (runs_in (runs X.args.calls.now X.args.ends.now X.args.many X.args.count)) (let l = X.search in runs l.calls l.ends X.args.many l.left) X.search.invariant.0 (let tried = t in let at = tried in runs t.take_over.new.calls t.take_over.new.ends at.args.many (at.loop-n.left - 1)) t.take_over.ensures.sound (goes_on (goal.at.search-smaller t).After-take_over)

pub search-preserved : goal.search-preserved
search-preserved c =
    let t = c in
    let went = t in
    let tried = went in
    let X = tried in
    (searching-again (given_in X.args.given (numbers X.args.codes.now X.args.figures.now) X.args.distances.now X.args.times.now) (runs_in (runs X.args.calls.now X.args.ends.now X.args.many X.args.count)) (let l = X.search in runs l.calls l.ends X.args.many l.left) X.search.invariant.0 (let tried = t in let at = tried in runs t.take_over.new.calls t.take_over.new.ends at.args.many (at.loop-n.left - 1)) t.take_over.ensures.sound (goes_on (goal.at.search-preserved t).After-take_over), search rules, search rules)

pub remove-requires : goal.remove-requires
remove-requires c =
    let tried = c in
    let least = tried in
    let Y = least.loop-n.invariant.1 in
    ((pick (goal.at.remove-requires least).After-shortest-j).picks, omega (arith, Y.fits, Y.long))

pub loop-n-preserved : goal.loop-n-preserved
loop-n-preserved c =
    let removed = c in
    let failed = removed in
    let tried = failed in
    (tried.loop-n.invariant.0, (turn (goal.at.loop-n-preserved tried).After-emptied-goes).more failed.if-goes.false _ (search rules) removed.remove.ensures, search rules, search rules)

pub returns : goal.returns
returns c =
    let at = c in
    let l = at.loop-n in
    let k = at in
    let K = (let at = k in k.drop_empty-left.ensures at.search.calls at.args.many at.search.invariant.0.sound) in
    let X = k in
    let T = (given_in X.args.given (numbers X.args.codes.now X.args.figures.now) X.args.distances.now X.args.times.now) in
    let none = tried-all T (runs k.search.calls k.drop_empty-left.new.ends k.args.many k.drop_empty-left.result) _ l.pending l.n l.invariant.1 (let l = X.search in runs l.calls l.ends X.args.many l.left) K.is (omega arith) in
    let over = searching-over T (runs_in (runs X.args.calls.now X.args.ends.now X.args.many X.args.count)) (let l = X.search in runs l.calls l.ends X.args.many l.left) X.search.invariant.0 none in
    record { is = ap runs_in l.invariant.0 ∙ K.is ∙ over; sound = subst Sound (sym l.invariant.0) K.sound }

pub offset_bounds-pending-j : goal.offset_bounds-pending-j
offset_bounds-pending-j c =
    let p : Pick (runs_in (runs c.search.calls c.drop_empty-left.new.ends c.args.many c.drop_empty-left.result)) c.loop-n.pending c.loop-n.n c.shortest-j.result = let at = c in let l = at.loop-n in tried-pick (given_in at.args.given (numbers at.args.codes.now at.args.figures.now) at.args.distances.now at.args.times.now) (runs at.search.calls at.drop_empty-left.new.ends at.args.many at.drop_empty-left.result) at.lengths_of-lengths.result l.pending l.n l.invariant.1 c.loop-n-test.true c.shortest-j.result c.shortest-j.ensures in
    omega (arith, p.picks, c.loop-n.invariant.1.fits, c.loop-n.invariant.1.long)

pub overflow_sub-left : goal.overflow_sub-left
overflow_sub-left c =
    let p : Pick (runs_in (runs c.search.calls c.drop_empty-left.new.ends c.args.many c.drop_empty-left.result)) c.loop-n.pending c.loop-n.n c.shortest-j.result = let at = c in let l = at.loop-n in tried-pick (given_in at.args.given (numbers at.args.codes.now at.args.figures.now) at.args.distances.now at.args.times.now) (runs at.search.calls at.drop_empty-left.new.ends at.args.many at.drop_empty-left.result) at.lengths_of-lengths.result l.pending l.n l.invariant.1 c.loop-n-test.true c.shortest-j.result c.shortest-j.ensures in
    let S = (c.drop_empty-left.ensures c.search.calls c.args.many c.search.invariant.0.sound).sound in
    omega (arith, p.inside, (held (runs c.search.calls c.drop_empty-left.new.ends c.args.many c.drop_empty-left.result) S).count-is, ap (λ (r : Runs). r.count) c.loop-n.invariant.0)
