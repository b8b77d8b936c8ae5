use Rattle.std.proofs.Common.{◌≡◌, ◌∙◌, IfOk, List, subst, sym}
use Rattle.letter.specs.declared.letter.Letter.{Letter}
use Rattle.node_keeper.proofs.AskedAgainLemmas.{again_read, again_resent, no_letters, read_on_done, some_letters, whatever}
use Rattle.node_keeper.proofs.objects.requests.ask_again.Goals as goal

pub returns-then-is_empty-clause-done : goal.returns-then-is_empty-clause-done
returns-then-is_empty-clause-done c =
    whatever c.resend.result
    (read_on_done c.args.object.now c.read_on.new.self c.args.id c.in_ok-letters.letters.items c.in_ok-letters.ensures.done)

pub returns-then-is_empty-clause-letters : goal.returns-then-is_empty-clause-letters
returns-then-is_empty-clause-letters c =
    let letters = c.in_ok-letters.letters in
    subst (λ (those : List Letter). IfOk c.resend.result (λ again. again.items ≡ those))
    (again_resent c.args.object.now c.read_on.new.self c.args.id letters.items c.in_ok-letters.ensures.done
    (no_letters letters.items _ letters.ok.0 (sym c.is_empty.ensures ∙ c.if-is_empty.true))) c.resend.ensures.letters

pub returns-clause-done : goal.returns-clause-done
returns-clause-done c =
    read_on_done c.args.object.now c.read_on.new.self c.args.id c.in_ok-letters.letters.items c.in_ok-letters.ensures.done

pub returns-clause-letters : goal.returns-clause-letters
returns-clause-letters c =
    let letters = c.in_ok-letters.letters in
    again_read c.args.object.now c.read_on.new.self c.args.id letters.items c.in_ok-letters.ensures.done
    (some_letters letters.items _ letters.ok.0 (sym c.is_empty.ensures ∙ c.if-is_empty.false))
