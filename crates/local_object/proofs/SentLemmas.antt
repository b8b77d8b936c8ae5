-- The requests of a phase with the pieces of a call's value.
use Rattle.std.proofs.Common.{◌≡◌, ℕ, suc, List, [], ◌∷◌, ap, ◌∙◌, refl}
use Rattle.encoder.specs.Fragment.{fragment}
use Rattle.layout.specs.Layout.{Layout}
use Rattle.bank.specs.declared.kind.Kind.{Kind}
use Rattle.bank.specs.declared.kind.Kind.TheVariants.{Next, Spread, Query, PreWrite, Finalize, Fetch}
use Rattle.bank.specs.declared.request.Request.{Request}
use Rattle.mail.specs.declared.message.Body.TheVariants as body
use Rattle.mail.specs.declared.message.Message.{Message}
use Rattle.record.specs.Sending.{fragment_piece, request_to, requests}
use Rattle.call.specs.Call.{OpenCall as Machine}
use Rattle.call.specs.Pieces.{piece_from}
use Rattle.local_object.specs.Coding.{phase_coding, call_value}

pub request_same : (kind : Kind) (layout : Layout) (call : Machine) (member : ℕ)
    → request_to kind (piece_from (phase_coding kind layout call) member)
    ≡ request_to kind (fragment_piece fragment layout (call_value call) member)
request_same Next layout call member = refl
request_same (Spread status) layout call member = refl
request_same Query layout call member = refl
request_same (PreWrite tag) layout call member = refl
request_same (Finalize tag) layout call member = refl
request_same (Fetch tag) layout call member = refl

abbrev pub with_request : (id phase position member : ℕ) → Request → Message
with_request id phase position member asked =
    record { call = id; phase = phase; position = position; member = member; body = body.Request asked }

module _ (id phase position : ℕ) (kind : Kind) (layout : Layout) (call : Machine) where
  pub requests_same : (servers : List ℕ) (member : ℕ)
      → requests id phase kind position servers member (piece_from (phase_coding kind layout call))
      ≡ requests id phase kind position servers member (fragment_piece fragment layout (call_value call))
  requests_same [] member = refl
  requests_same (server ∷ servers) member =
      ap (λ asked. with_request id phase position member asked
      ∷ requests id phase kind position servers (suc member) (piece_from (phase_coding kind layout call)))
      (request_same kind layout call member)
      ∙ ap (λ (ms : List Message).
      with_request id phase position member (request_to kind (fragment_piece fragment layout (call_value call) member)) ∷ ms)
      (requests_same servers (suc member))
