-- The contracts that docs/trusted.md lists do not depend on this file; other contracts and proofs do.
-- The line of a call.
use Rattle.std.specs.Prelude.{ℕ, List, [], ◌∷◌, codes}
use Rattle.std.specs.Fmt.{decimal}
use Rattle.tag.specs.Tag.{tag_text}
use Rattle.call.specs.declared.receipt.CallView.{CallView}
use Rattle.printing.specs.Vocabulary.{word_of_kind, word_of_operation, word_of_want}
use Rattle.printing.specs.Words.{in_words, text_or_dash}

-- the line: the call and what it does, its current phase, that phase's replies, the tag, and what the call wants
abbrev pub call_text : (call : ℕ) → CallView → List ℕ
call_text call view = in_words (
    codes "call" ∷ decimal call ∷ word_of_operation view.kind
    ∷ codes "phase" ∷ decimal view.number ∷ word_of_kind view.phase ∷ decimal view.position
    ∷ codes "replies" ∷ decimal view.replies ∷ codes "of" ∷ decimal view.quorum
    ∷ codes "tag" ∷ text_or_dash tag_text view.tag
    ∷ codes "want" ∷ word_of_want view.want ∷ [])
