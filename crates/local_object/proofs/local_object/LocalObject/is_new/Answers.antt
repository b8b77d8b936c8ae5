use Rattle.std.proofs.Common.{◌≡◌, ◌↔◌, Bool, true, sym, subst}
use Rattle.local_object.specs.Local.{new_local}
use Rattle.local_object.proofs.NewObjectLemmas.{new_decided}
use Rattle.local_object.proofs.local_object.LocalObject.is_new.Goals as goal

pub returns : goal.returns
returns c =
    let local = c.args.self.now in
    subst (λ (b : Bool). (b ≡ true) ↔ (local ≡ new_local c.args.node c.args.delta c.args.first.now)) (sym c.is_made_of.ensures)
    (new_decided local c.args.node c.args.delta c.args.first.now)
