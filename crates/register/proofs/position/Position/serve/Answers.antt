use Rattle.std.proofs.Common.{◌≡◌, ℕ, List, get_or, set, slice_get, Some, Result, Ok, Err, IfOk, ap, ◌∙◌}
use Rattle.std.proofs.lemmas.List.{set-get_or}
use Rattle.std.proofs.lemmas.Option.{get_or_from_slice_get}
use Rattle.std.proofs.lemmas.Result.{on_ok_weaker, on_err_weaker}
use Rattle.bank.specs.Bank.{Bank}
use Rattle.bank.specs.Serve.{served_bank, reply_to}
use Rattle.bank.specs.declared.reply.Reply.{Reply}
use Rattle.layout.specs.Layout.{Layout}
use Rattle.register.specs.Position.{Position}
use Rattle.register.proofs.position.Position.serve.Goals as goal

-- the bank that is read is the member's
read_is : (items old : List Bank) (i member : ℕ) (read bank : Bank) → items ≡ old → i ≡ member → read ≡ get_or items i read
    → slice_get old member ≡ Some bank → read ≡ bank
read_is items old i member read bank same at is held =
    is ∙ ap (λ banks. get_or banks i read) same ∙ ap (λ k. get_or old k read) at ∙ get_or_from_slice_get old member bank read held

-- a reply that is made of the bank that is read is made of the member's
if_replied : {E : Type 0} (r : Result Reply E) (reply : Bank → Reply) (read : Bank) (held : Bank → Type 0)
    → ((bank : Bank) → held bank → read ≡ bank) → IfOk r (λ given. given ≡ reply read)
    → IfOk r (λ given. (bank : Bank) → held bank → given ≡ reply bank)
if_replied (Ok given) reply read held same is = λ bank h. is ∙ ap reply (same bank h)
if_replied (Err e) reply read held same is = is

abbrev with_banks : Layout → List Bank → Position
with_banks layout banks = record { layout = layout; banks = banks }

pub returns : goal.returns
returns c =
    let items = c.self.inside.banks.items in
    let old = c.args.self.now.banks in
    let same : items ≡ old = ap (λ (p : Position). p.banks) c.self.view_is in
    let i = c.from.result in
    record {
      layout = ap (λ (p : Position). p.layout) c.self.view_is;
      bank = on_ok_weaker c.serve.result
          (λ served bank held.
          let read = read_is items old c.from.result c.args.member c.index_mut.result.now bank same c.from.ensures
          c.index_mut.ensures.value held in
          let put = served_bank bank c.args.request.now c.args.now in
          ap (set items c.from.result) (served ∙ ap (λ b. served_bank b c.args.request.now c.args.now) read)
          ∙ ap (λ banks. set banks c.from.result put) same ∙ ap (λ k. set old k put) c.from.ensures)
          c.serve.ensures.bank;
      reply = if_replied c.serve.result (λ bank. reply_to bank c.args.request.now c.args.now) c.index_mut.result.now
          (λ bank. slice_get old c.args.member ≡ Some bank)
          (λ bank held. read_is items old c.from.result c.args.member c.index_mut.result.now bank same c.from.ensures
          c.index_mut.ensures.value held)
          c.serve.ensures.reply;
      refused = c.serve.ensures.refused;
      unchanged = on_err_weaker c.serve.result
          (λ kept. ap (with_banks c.self.inside.layout)
          (ap (set items i) (kept ∙ c.index_mut.ensures.value) ∙ set-get_or items i c.index_mut.result.now)
          ∙ c.self.view_is)
          c.serve.ensures.unchanged;
    }
