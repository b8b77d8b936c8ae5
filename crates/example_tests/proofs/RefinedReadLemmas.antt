-- The read, part by part.
use Rattle.std.proofs.Common.{◌≡◌, [], ◌∷◌, ◌≤◌, inl, refl, sym, subst, ap, ◌∙◌, le_refl, arith}
use Rattle.std.proofs.Common.{Bool, true, false, cond, List, Option, Some, None, length, slice_get, suc, ◌+◌, ◌*◌}
use Rattle.bank.specs.declared.reply.Answer.TheVariants as answer
use Rattle.bank.specs.declared.reply.Reply.{Reply}
use Rattle.network.specs.Events.{Event}
use Rattle.record.specs.declared.call.Entry.{Entry}
use Rattle.record.specs.declared.call.Operation.TheVariants as operation
use Rattle.refinement.specs.Refined.{if_replied}
use Rattle.tag.specs.declared.tag.Tag.{Tag}
use Rattle.tag.specs.Tag.{opening_tag}
use Rattle.piece.specs.declared.piece.Piece.{Piece}
use Rattle.layout.specs.Layout.{Layout}
use Rattle.bank.specs.Bank.{empty_piece, opened_bank, piece_of}
use Rattle.bank.specs.declared.kind.Kind.TheVariants.{Fetch}
use Rattle.bank.specs.declared.request.Request.TheVariants as request
use Rattle.bank.specs.declared.status.Status.TheVariants.{Unset}
use Rattle.local_object.specs.ChangedBanks.{bank_after, changes_bank, kept_bank}
use Rattle.local_object.specs.Events.{reply_letters}
use Rattle.local_object.specs.Outcomes.{learnt_from}
use Rattle.local_object.specs.KeptBanks.{kept_reply}
use Rattle.letter.specs.declared.letter.Letter.{Letter}
use Rattle.local_object.specs.Local.{LocalObject, bank_or_opened}
use Rattle.local_object.specs.Reports.{told_by}
use Rattle.local_object.specs.declared.kept_bank.KeptBank.{KeptBank}
use Rattle.local_object.specs.declared.kept_bank.KeptBank.TheVariants as kept
use Rattle.mail.specs.declared.message.Body.TheVariants as body
use Rattle.refinement.specs.Systems.{MayRunIn, System, system_run}
use Rattle.example_tests.specs.RecordExamples.{whole}
use Rattle.example_tests.proofs.EventRunLemmas.{one_distinct, ready, ready_settled}
use Rattle.example_tests.proofs.KeptRowLemmas.{opened_greatest, opened_piece, opened_unchanged}
use Rattle.example_tests.specs.RefinedExamples.{about, read, read_asked, read_begun, read_ended, read_settled, replied, start, telling}
use Rattle.example_tests.proofs.RunLemmas.{knows, piece_told, pointer_told, tag_told, told_piece}

abbrev pub after_query : System
after_query = system_run whole read_asked start

abbrev pub after_fetch : System
after_fetch = system_run whole read_settled after_query

-- what node 0 keeps as it answers the second question for the pointer
abbrev answers : LocalObject
answers = learnt_from (after_fetch.objects 0) (about 3 4 (body.Request request.Next))

-- the bank that node 0 keeps after the fetch, if this is whether it keeps one, and its answer
abbrev fetched_bank : (keeps : Bool) → Option KeptBank
fetched_bank keeps = cond keeps (Some (kept.Open (bank_after (opened_bank 0 None 0) (request.Fetch opening_tag)))) None

abbrev fetch_told : (keeps : Bool) → Option Letter
fetch_told keeps = Some (record (replied 3 3 (Fetch opening_tag) (answer.Piece (piece_of (opened_bank 0 None 0) opening_tag))
    (telling opening_tag None)) { told = told_by (bank_or_opened (fetched_bank keeps) 0 None) false })

fetch_answered : fetch_told (changes_bank (opened_bank 0 None 0) (request.Fetch opening_tag))
    ≡ piece_told 3 3 opening_tag (Some (empty_piece 0)) opening_tag
fetch_answered =
    ap fetch_told (opened_unchanged 0)
    ∙ ap (λ (tag : Tag). piece_told 3 3 opening_tag (piece_of (opened_bank 0 None 0) opening_tag) tag) (opened_greatest 0)
    ∙ ap (λ (piece : Option Piece). piece_told 3 3 opening_tag piece opening_tag) (opened_piece 0)

pub asks : MayRunIn whole read_asked start
asks = (
  (refl, tt),
  (
    (((_, refl), (_, refl, refl)), (0, refl)),
    (
      (
        (_, _, refl),
        (1, told_piece (opened_bank 0 None 0) opening_tag (empty_piece 0) (opened_greatest 0) (opened_piece 0)),
      ),
      (
        ((_, refl, inl (ready _ refl refl, refl), knows ((system_run whole read_begun start).objects 1) _ _ refl refl), tt),
        (
          (((_, refl), (_, refl, refl)), (2, refl)),
          (((_, _, refl), (3, ap (tag_told 3 2) (opened_greatest 0))), tt),
        ),
      ),
    ),
  ),
)

pub settles : MayRunIn whole read_settled after_query
settles = (
  ((_, refl, inl (ready _ refl refl, refl), knows (after_query.objects 1) _ _ refl refl), tt),
  (
    (((_, refl), (_, refl, refl)), (4, refl)),
    (
      ((_, _, refl), (5, fetch_answered)),
      (
        (
          (
            _,
            refl,
            record {
              complete = refl;
              fetch = (_, refl);
              unsettled = refl;
              enough = refl;
              layout = _;
              known = refl;
              pieces = λ object same. record {
                members = 0 ∷ [];
                distinct = one_distinct 0;
                enough = subst (λ (l : Layout). l.k ≤ 1) (sym same) (le_refl 1);
                pieces = (
                  record {
                    place = 0;
                    reply = _;
                    within = refl;
                    same_member = refl;
                    piece = _;
                    same_piece = refl;
                    is_fragment = record { point = refl; len = refl; bytes = refl };
                  },
                  tt,
                );
              };
              is_value = (tt, omega arith);
            },
          ),
          tt,
        ),
        tt,
      ),
    ),
  ),
)

-- the answer to the second question for the pointer, if this is whether node 0 keeps a bank since the fetch
abbrev next_told : (keeps : Bool) → Option Letter
next_told keeps =
    slice_get (reply_letters answers (about 3 4 (body.Request request.Next))
    (told_by (bank_or_opened (kept_bank (fetched_bank keeps) 0 None request.Next) 0 None) false)
    (kept_reply (bank_or_opened (fetched_bank keeps) 0 None) request.Next)) 0

still_unset : next_told (changes_bank (opened_bank 0 None 0) (request.Fetch opening_tag)) ≡ pointer_told 3 4 opening_tag
still_unset = ap next_told (opened_unchanged 0) ∙ ap (pointer_told 3 4) (opened_greatest 0)

-- its reply, and the entry of the read if node 0 makes this reply, or none
pub still_replies : (keeps : Bool) →
    kept_reply (bank_or_opened (fetched_bank keeps) 0 None) request.Next ≡ Some (record { step = 0; answer = answer.Pointer Unset })
still_replies true = refl
still_replies false = refl

abbrev pub entry_with : Option Reply → List Entry
entry_with reply = record {
  call = 3;
  kind = operation.Read;
  called = 1;
  answered = Some (suc (11 * 512 + (length (if_replied reply (Event.Serve (about 3 4 (body.Request request.Next)).message)) + 511)
      + (1 + 511)));
  value = Some [];
} ∷ []

pub read_entry : (system_run whole read start).history ≡ entry_with (Some (record { step = 0; answer = answer.Pointer Unset }))
read_entry = ap entry_with (still_replies (changes_bank (opened_bank 0 None 0) (request.Fetch opening_tag)))

pub ends : MayRunIn whole read_ended after_fetch
ends = (
  ((_, refl, inl (ready_settled _ refl refl, refl), knows (after_fetch.objects 1) _ _ refl refl), tt),
  (
    (((_, refl), (_, refl, refl)), (6, refl)),
    (
      ((_, _, refl), (7, still_unset)),
      (((_, refl, ready _ refl refl, refl), tt), tt),
    ),
  ),
)
