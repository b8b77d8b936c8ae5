use Rattle.std.proofs.Common.{sym, ap, ◌∙◌}
use Rattle.std.proofs.lemmas.Result.{IfOk-weaker}
use Rattle.mail.specs.Phase.{Phase}
use Rattle.local_object.specs.Local.{layout_in, heard_place}
use Rattle.local_object.specs.Pieces.{first_pieces}
use Rattle.local_object.proofs.FetchedLemmas.{decoded_as, fetched_by, match_weaker, none_fetched}
use Rattle.local_object.proofs.going.fetched.Goals as goal

pub returns-in_default-clause-value : goal.returns-in_default-clause-value
returns-in_default-clause-value c = λ v.
    let places = c.args.places.now in
    none_fetched places c.args.call.now v
    (sym (c.in_default.ensures
    ∙ ap (λ n. layout_in (heard_place places n))
    (c.from.ensures ∙ c.position.ensures ∙ ap (λ (p : Phase). p.position) c.phase-phase.ensures.value)))

pub returns-clause-value : goal.returns-clause-value
returns-clause-value c =
    let places = c.args.places.now in
    let call = c.args.call.now in
    let layout = c.in-Some.layout.now in
    let known = sym (c.in-Some.ensures
    ∙ ap (λ n. layout_in (heard_place places n))
    (c.from.ensures ∙ c.position.ensures ∙ ap (λ (p : Phase). p.position) c.phase-phase.ensures.value)) in
    let k = c.k-2.ensures.value in
    let pieces = c.in_ok-pieces.ensures.pieces ∙ ap (λ k. first_pieces k c.replies.result.now) c.k.ensures.value
    ∙ ap (first_pieces layout.k) (c.replies.ensures ∙ ap (λ (p : Phase). p.replies) c.phase-phase.ensures.value) in
    IfOk-weaker c.decoded.result _ _
    (λ value is. match_weaker value
    (λ none v fetched. none v (decoded_as (sym k) (sym pieces) (fetched_by places call layout v known fetched)))
    (λ v is. record {
      layout = layout;
      known = known;
      decoded = decoded_as k pieces is.decoded;
      only = λ other decoded. is.only other (decoded_as (sym k) (sym pieces) decoded);
    }) is)
    c.decoded.ensures.value
