-- `text::sheet_text` meets its contract. Assumes nothing.
use Prim.Native.Nat.{ℕ}
use mathlib.Core.Path.{subst}
use mathlib.Core.List.{List}
use Rattle.definitions.specs.Drop.{split_tw}
use Rattle.definitions.specs.Listing.{plan_text}
use Rattle.sheet_read.specs.Summary.{held_counts}
use Rattle.listing_lines.specs.Put.{Put}
use Rattle.sheet_loaded.proofs.Reading.{is-accepted}
use Rattle.sheet_loaded.proofs.Loading.{far-inside, far-counted, long-inside, long-counted, calls-inside, calls-counted, calls_are, held}
use Rattle.listing_text.proofs.Listed.{is-plan}
use Rattle.listing_text.proofs.text.sheet_text.Goals as goal

pub slice_bounds-tour-end : goal.slice_bounds-tour-end
slice_bounds-tour-end c =
    let x = c in
    let made = x in
    let s = made in
    let q = is-accepted s.args.bytes.now (held_counts s.args.found) s.requires.found in
    calls-inside (x.load-l.ensures q.0 q.1 q.2)

pub slice_bounds-held_text-end : goal.slice_bounds-held_text-end
slice_bounds-held_text-end c =
    let x = c in
    let made = x in
    let s = made in
    let q = is-accepted s.args.bytes.now (held_counts s.args.found) s.requires.found in
    calls-counted (x.load-l.ensures q.0 q.1 q.2)

pub slice_bounds-distances-end : goal.slice_bounds-distances-end
slice_bounds-distances-end c =
    let x = c in
    let made = x in
    let s = made in
    let q = is-accepted s.args.bytes.now (held_counts s.args.found) s.requires.found in
    far-inside (x.load-l.ensures q.0 q.1 q.2)

pub slice_bounds-held_text-end-2 : goal.slice_bounds-held_text-end-2
slice_bounds-held_text-end-2 c =
    let x = c in
    let made = x in
    let s = made in
    let q = is-accepted s.args.bytes.now (held_counts s.args.found) s.requires.found in
    far-counted (x.load-l.ensures q.0 q.1 q.2)

pub slice_bounds-times-end : goal.slice_bounds-times-end
slice_bounds-times-end c =
    let x = c in
    let made = x in
    let s = made in
    let q = is-accepted s.args.bytes.now (held_counts s.args.found) s.requires.found in
    long-inside (x.load-l.ensures q.0 q.1 q.2)

pub slice_bounds-held_text-end-3 : goal.slice_bounds-held_text-end-3
slice_bounds-held_text-end-3 c =
    let x = c in
    let made = x in
    let s = made in
    let q = is-accepted s.args.bytes.now (held_counts s.args.found) s.requires.found in
    long-counted (x.load-l.ensures q.0 q.1 q.2)

pub held_text-requires : goal.held_text-requires
held_text-requires c =
    let x = c in
    let made = x in
    let s = made in
    let q = is-accepted s.args.bytes.now (held_counts s.args.found) s.requires.found in
    record { in_bounds = s.requires.in_bounds; held = held (x.load-l.ensures q.0 q.1 q.2) }

pub returns : goal.returns
returns c =
    let y = c in
    let shared = y in
    let x = shared in
    let made = x in
    let s = made in
    let q = is-accepted s.args.bytes.now (held_counts s.args.found) s.requires.found in
    let H = x.load-l.ensures q.0 q.1 q.2 in
    let out = s.args.out.now in
    let t = y.held_text in
    let put : Put 0 (plan_text q.0 q.1 (split_tw q.0 q.1)) out t.new.out t.result =
    subst (λ (l : List ℕ). Put 0 (plan_text q.0 l (split_tw q.0 l)) out t.new.out t.result) (calls_are H) (t.ensures.text q.0 H.in_memory) in
    record { text = subst (λ (l : List ℕ). Put 0 l out t.new.out t.result) (is-plan s.args.bytes.now q.0 q.1 q.2) put; short = t.ensures.short }
