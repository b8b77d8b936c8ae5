use Rattle.std.proofs.Common.{◌≡◌, ◌<◌, ◌^◌, ◌==◌, option_copied, Some, sym, ap, subst, ◌∙◌}
use Rattle.std.specs.List.{position}
use Rattle.register.specs.Position.{Position}
use Rattle.register.proofs.ServerBankLemmas.{bytes_of, stored_by, stored_none}
use Rattle.register.proofs.position.Position.stored.Goals as goal

pub bytes-requires : goal.bytes-requires
bytes-requires c =
    let p = c.args.self.now in
    let is : position (λ m. m == c.args.server) p.layout.members ≡ Some c.in-Some.member =
    ap (λ (p : Position). position (λ m. m == c.args.server) p.layout.members) (sym c.self.view_is) ∙ sym c.point_of.ensures
    ∙ c.in-Some.is in
    let stored = stored_by c.args.server p.layout.members p.banks c.in-Some.member c.requires.lawful.distinct is
    ∙ ap bytes_of (sym c.bank.ensures ∙ ap option_copied c.in-Some-bank.is) in
    subst (λ n. n < 2 ^ 64) stored c.requires.room

pub returns-in-None : goal.returns-in-None
returns-in-None c =
    let p = c.args.self.now in
    sym (stored_none c.args.server p.layout.members p.banks
    (ap (λ (p : Position). position (λ m. m == c.args.server) p.layout.members) (sym c.self.view_is) ∙ sym c.point_of.ensures
    ∙ c.in-None.is))

pub returns-in-None-bank : goal.returns-in-None-bank
returns-in-None-bank c =
    let p = c.args.self.now in
    let is : position (λ m. m == c.args.server) p.layout.members ≡ Some c.in-Some.member =
    ap (λ (p : Position). position (λ m. m == c.args.server) p.layout.members) (sym c.self.view_is) ∙ sym c.point_of.ensures
    ∙ c.in-Some.is in
    sym (stored_by c.args.server p.layout.members p.banks c.in-Some.member c.requires.lawful.distinct is
    ∙ ap bytes_of (sym c.bank.ensures ∙ ap option_copied c.in-None-bank.is))

pub returns-in-Some-bank : goal.returns-in-Some-bank
returns-in-Some-bank c =
    let p = c.args.self.now in
    let is : position (λ m. m == c.args.server) p.layout.members ≡ Some c.in-Some.member =
    ap (λ (p : Position). position (λ m. m == c.args.server) p.layout.members) (sym c.self.view_is) ∙ sym c.point_of.ensures
    ∙ c.in-Some.is in
    c.bytes.ensures ∙ sym (stored_by c.args.server p.layout.members p.banks c.in-Some.member c.requires.lawful.distinct is
    ∙ ap bytes_of (sym c.bank.ensures ∙ ap option_copied c.in-Some-bank.is))
