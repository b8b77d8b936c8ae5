use Rattle.std.proofs.Common.{◌≡◌, ◌+◌, ◌-◌, ◌∙◌, ◌∷◌, [], List, drop, length, length-append, ap, arith}
use Rattle.client_commands.specs.Patterns.{IsRow, fits}
use Rattle.client_commands.specs.declared.patterns.Part.{Part}
use Rattle.client_commands.proofs.PatternLemmas.{next_place, one_place_more}
use Rattle.client_commands.proofs.patterns.next_row.Goals as goal

pub loop-count-preserved : goal.loop-count-preserved
loop-count-preserved c =
    let text = c.args.text.now in
    let row = c.args.row.now in
    let count = c.loop-count.count in
    let more = c.in_ok-push-2.ensures.items in
    let last : (parts : List Part) → IsRow parts text row →
    c.fits_here-last.result ≡ fits (c.args.part ∷ parts) (drop (length text - (count + 1)) text) =
    λ parts is. c.fits_here-last.ensures
    ∙ next_place c.args.part parts text row count c.loop-count.last c.loop-count-test.true is (c.loop-count.invariant.2 parts is) in
    let size : length c.push-in-loop-count.new.self.items ≡ count + 1 + 1 =
    omega (arith, ap length more, length-append c.loop-count.next.items (c.fits_here-last.result ∷ []), c.loop-count.invariant.0) in (
      size,
      (λ parts is. one_place_more c.loop-count.next.items c.push-in-loop-count.new.self.items c.fits_here-last.result count
          (λ i. fits (c.args.part ∷ parts) (drop (length text - i) text)) more c.loop-count.invariant.0 (c.loop-count.invariant.1 parts is)
          (last parts is)),
      last,
    )
