-- Which letters have only tags whose numbers are within the limit.
use Rattle.std.specs.Prelude.{Bool, true, ◌&&◌, nat_le, Option, None, Some}
use Rattle.tag.specs.declared.tag.Tag.{Tag}
use Rattle.bank.specs.declared.kind.Kind.{Kind}
use Rattle.bank.specs.declared.kind.Kind.TheVariants as kind
use Rattle.bank.specs.declared.reply.Answer.{Answer}
use Rattle.bank.specs.declared.reply.Answer.TheVariants as answer
use Rattle.bank.specs.Serve.{kind_of}
use Rattle.mail.specs.declared.message.Body.{Body}
use Rattle.mail.specs.declared.message.Body.TheVariants as body
use Rattle.letter.specs.declared.letter.Letter.{Letter}
use Rattle.letter.specs.declared.telling.Telling.{Telling}
use Rattle.node_messages.specs.declared.limits.TheConstants.{MOST_TAG_NUMBER}

-- whether the number of a tag is within the limit
abbrev pub is_low : Tag → Bool
is_low tag = nat_le tag.number MOST_TAG_NUMBER

-- whether a kind has no tag, or one whose number is within the limit
abbrev pub has_low_kind : Kind → Bool
has_low_kind kind.Next = true
has_low_kind (kind.Spread found) = true
has_low_kind kind.Query = true
has_low_kind (kind.PreWrite tag) = is_low tag
has_low_kind (kind.Finalize tag) = is_low tag
has_low_kind (kind.Fetch tag) = is_low tag

-- whether an answer has no tag, or one whose number is within the limit
abbrev pub has_low_answer : Answer → Bool
has_low_answer answer.Done = true
has_low_answer (answer.Pointer found) = true
has_low_answer (answer.Greatest tag) = is_low tag
has_low_answer (answer.Piece piece) = true

-- whether the body of a message has no tag whose number is above the limit
abbrev pub has_low_body : Body → Bool
has_low_body (body.Request q) = has_low_kind (kind_of q)
has_low_body (body.Reply k r) = has_low_kind k && has_low_answer r.answer

-- whether nothing is told, or the greatest tag that is told has a number within the limit
abbrev pub has_low_telling : Option Telling → Bool
has_low_telling None = true
has_low_telling (Some telling) = is_low telling.greatest

-- whether a letter has no tag whose number is above the limit, neither in its message nor in what it tells
abbrev pub has_low_tags : Letter → Bool
has_low_tags letter = has_low_body letter.message.body && has_low_telling letter.told
