-- `stop::stop_line` meets its contract. Assumes nothing.
use native.Mathlib.Omega.{arith}
use Rattle.models.specs.Records.{opening_of}
use Rattle.listing_lines.proofs.Putting.{joined}
use Rattle.times_lines.specs.Told.{pause_in, stop_in}
use Rattle.times_lines.proofs.Templates.{put_as, stop_is}
use Rattle.times_lines.proofs.stop.stop_line.Goals as goal

pub returns : goal.returns
returns c =
    let ended = c in
    let service = ended in
    let left = service in
    let rest = left in
    let reached = rest in
    let arrived = reached in
    let begun = arrived in
    let a = begun.args in
    let told = stop_in (pause_in a.duration a.start) (opening_of a.opening) a.visit a.begin in
    let head = rw arrived.whole_part.ensures at reached.filled-end.ensures.text in
    let middle = rw (begun.whole_part-served.ensures, left.whole_part-2.ensures) at service.filled-end-2.ensures.text in
    let end = rw begun.whole_part-served.ensures at ended.window_words.ensures.text in
    let room = reached.filled-end.ensures.short in
    let room₂ = rest.rest_words-end.ensures.short in
    let room₃ = service.filled-end-2.ensures.short in record {
      text = put_as (stop_is a.n a.k told)
          (joined head (joined rest.rest_words-end.ensures.text (joined middle end (omega arith)) (omega arith)) (omega arith));
      short = omega arith;
    }
