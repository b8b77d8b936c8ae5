-- Fit letters can be sent, and records of fit things can go to a log.
use Rattle.std.proofs.Common.{◌≡◌, ◌<◌, ◌≤◌, ◌^◌, ℕ, Bool, true, false, cond, List, [], ◌∷◌, length, length-append, Option, Some, None}
use Rattle.std.proofs.Common.{slice_get, refl, arith}
use Rattle.std.specs.Fmt.{decimal}
use Rattle.std.specs.List.{AllByRecursion}
use Rattle.std.specs.Prelude.{codes, ◌==◌}
use Rattle.std.proofs.lemmas.Fmt.{length-decimal-le}
use Rattle.cluster_file.specs.declared.file.TheConstants.{DIGEST_LENGTH}
use Rattle.fitting.specs.Letters.{IsFitLayout, IsFitLetter}
use Rattle.fitting.proofs.MessageLemmas.{message_fits}
use Rattle.frames.specs.Frame.{IsFrame, IsShort}
use Rattle.frames.specs.declared.limits.TheConstants.{LONGEST_STRING, MOST_STRINGS}
use Rattle.layout.specs.Layout.{Layout}
use Rattle.letter.specs.declared.letter.Letter.{Letter}
use Rattle.letter.specs.declared.letter.NamedLetter.{NamedLetter}
use Rattle.node_keeper.specs.Fitting.{HasFrame, IsLoggable, IsSendable}
use Rattle.node_keeper.specs.Sendings.{Sending, asked, going, member_or, message_of, one_or, reply_sendings, sending, to_itself, to_others}
use Rattle.node_messages.specs.Strings.{body_piece, piece_strings, strings_of, told_piece}
use Rattle.node_messages.specs.declared.message.NodeMessage.{NodeMessage}
use Rattle.node_strings.specs.Arrival.{node_address}
use Rattle.node_strings.specs.Layouts.{layout_string}
use Rattle.node_strings.specs.Strings.{Strings}
use Rattle.open_calls.proofs.ListLemmas.{all_at, all_weaker}
use Rattle.piece.specs.declared.piece.Piece.{Piece}
use Rattle.recoveries.specs.Records.{LogRecord}
use Rattle.tag.specs.declared.limits.TheConstants.{LONGEST_NAME, MOST_MEMBERS}
use Rattle.writable.specs.Keepers.{AreBytes, IsFitNamed, IsShortName}

-- Strings

small : (string : List ℕ) → length string ≤ 1000 → IsShort string
small string le = let limit : LONGEST_STRING ≡ 16842752 = refl in omega arith

address_short : (to : ℕ) → to < 2 ^ 8 → IsShort (node_address to)
address_short to within =
    let digits : length (decimal to) ≤ 3 = length-decimal-le 3 to (omega arith) (omega arith) (omega arith) in
    small (node_address to) (omega (arith, length-append (codes "node ") (decimal to)))

name_short : (name : List ℕ) → IsShortName name → IsShort name
name_short name short = let limit : LONGEST_NAME ≡ 255 = refl in small name (omega arith)

layout_short : (layout : Layout) → IsFitLayout layout → IsShort (layout_string layout)
layout_short layout lawful =
    let most : MOST_MEMBERS ≡ 255 = refl in
    let few = lawful.lawful.few in
    small (layout_string layout) (omega (arith, most, few))

pieces_few : (o : Option Piece) → length (piece_strings o) ≤ 1
pieces_few None = omega arith
pieces_few (Some piece) = omega arith

strings_few : (m : NodeMessage) → length (strings_of m) ≤ 4
strings_few m =
    let own = body_piece m.named.letter.message.body in
    let told = told_piece m.named.letter.told in
    let few = pieces_few own in
    let more = pieces_few told in
    omega (arith, length-append (piece_strings own) (piece_strings told))

-- one more short string before the strings of a message
framed_behind : (first : List ℕ) (m : NodeMessage) → IsShort first → IsFrame (strings_of m) → IsFrame (first ∷ strings_of m)
framed_behind first m short is =
    let limit : MOST_STRINGS ≡ 1024 = refl in
    let few = strings_few m in
    record { few = omega arith; short = (short, is.short) }

-- Letters that go out

-- a letter that goes out is fit, and goes to a node whose number is a byte
pub record IsFitSending (send : Sending) : Type 0 where
  pub to : send.to < 2 ^ 8
  pub it : IsFitNamed send.it

pub going_fit : (to : Letter → ℕ) (name : List ℕ) → IsShortName name → ((letter : Letter) → IsFitLetter letter → to letter < 2 ^ 8) →
    (letters : List Letter) → AllByRecursion IsFitLetter letters → AllByRecursion IsFitSending (going to name letters)
going_fit to name short nodes [] all = tt
going_fit to name short nodes (letter ∷ letters) all = (
  record { to = nodes letter all.0; it = record { name = short; letter = all.0 } },
  going_fit to name short nodes letters all.1,
)

pub replies_fit : (asker : ℕ) (name : List ℕ) → asker < 2 ^ 8 → IsShortName name → (letters : List Letter) →
    AllByRecursion IsFitLetter letters → AllByRecursion IsFitSending (reply_sendings asker name letters)
replies_fit asker name node short letters all = going_fit (λ letter. asker) name short (λ letter fit. node) letters all

pub asked_fit : (number : ℕ) (name : List ℕ) → number < 2 ^ 8 → IsShortName name → (letters : List Letter) →
    AllByRecursion IsFitLetter letters → AllByRecursion IsFitSending (asked number name letters)
asked_fit number name node short letters all = going_fit (member_or number) name short to letters all
  where
    to : (letter : Letter) → IsFitLetter letter → member_or number letter < 2 ^ 8
    to letter fit = go (slice_get letter.layout.members letter.message.member) refl
      where
        go : (o : Option ℕ) → slice_get letter.layout.members letter.message.member ≡ o → one_or number o < 2 ^ 8
        go None e = node
        go (Some member) e = all_at (λ m. m < 2 ^ 8) letter.layout.members letter.message.member member fit.layout.members e

pub others_fit : (number : ℕ) (it : NamedLetter) → IsFitNamed it → (nodes : List ℕ) → AreBytes nodes →
    AllByRecursion IsFitSending (to_others number it nodes)
others_fit number it fit [] bytes = tt
others_fit number it fit (node ∷ nodes) bytes = go (node == number) (others_fit number it fit nodes bytes.1)
  where
    go : (b : Bool) → AllByRecursion IsFitSending (to_others number it nodes) →
        AllByRecursion IsFitSending (cond b (to_others number it nodes) (sending node it ∷ to_others number it nodes))
    go true rest = rest
    go false rest = (record { to = bytes.0; it = fit }, rest)

-- of these, the letters of the node of this number to itself
pub own_fit : (number : ℕ) (sends : List Sending) → AllByRecursion IsFitSending sends → AllByRecursion IsFitNamed (to_itself number sends)
own_fit number [] all = tt
own_fit number (send ∷ sends) all = go (send.to == number) (own_fit number sends all.1)
  where
    go : (b : Bool) → AllByRecursion IsFitNamed (to_itself number sends) →
        AllByRecursion IsFitNamed (cond b (send.it ∷ to_itself number sends) (to_itself number sends))
    go true rest = (all.0.it, rest)
    go false rest = rest

module _ (digest : List ℕ) (whole : length digest ≡ DIGEST_LENGTH) where
  has_frame : (send : Sending) → IsFitSending send → HasFrame digest send
  has_frame send fit =
      let m = message_of digest send.it in
      let is = message_fits m whole fit.it.name fit.it.letter in record {
        message = is.0;
        frame = framed_behind (node_address send.to) m (address_short send.to fit.to) is.1;
      }

  pub all_sendable : (number : ℕ) (sends : List Sending) → AllByRecursion IsFitSending sends →
      AllByRecursion (IsSendable number digest) sends
  all_sendable number sends all = all_weaker IsFitSending (IsSendable number digest) (λ send fit other. has_frame send fit) sends all

  -- Records

  pub serves_loggable : (it : NamedLetter) → IsFitNamed it → IsLoggable digest (LogRecord.Serves it.name it.letter)
  serves_loggable it fit =
      let m = message_of digest it in
      let is = message_fits m whole fit.name fit.letter in
      record { message = is.0; entry = framed_behind (codes "serve") m (small (codes "serve") (omega arith)) is.1 }

  pub takes_loggable : (it : NamedLetter) → IsFitNamed it → IsLoggable digest (LogRecord.Takes it.name it.letter)
  takes_loggable it fit =
      let m = message_of digest it in
      let is = message_fits m whole fit.name fit.letter in
      record { message = is.0; entry = framed_behind (codes "take") m (small (codes "take") (omega arith)) is.1 }

  pub moves_loggable : (name : List ℕ) (id : ℕ) (layout : Layout) → IsShortName name → id < 2 ^ 64 → IsFitLayout layout →
      IsLoggable digest (LogRecord.Moves name id layout)
  moves_loggable name id layout short within lawful =
      let limit : MOST_STRINGS ≡ 1024 = refl in
      let digits : length (decimal id) ≤ 20 = length-decimal-le 20 id (omega arith) (omega arith) within in record {
        message = tt;
        entry = record {
          few = omega arith;
          short = (
            small (codes "move") (omega arith),
            (small (decimal id) (omega arith), (name_short name short, (layout_short layout lawful, tt))),
          );
        };
      }

  -- a short string, the number of a position in digits, a short name, and at most one more short string
  position_entry : (word name : List ℕ) (position : ℕ) (more : Strings) → IsShort word → IsShortName name → position < 2 ^ 32 →
      length more ≤ 1 → AllByRecursion IsShort more → IsFrame (word ∷ decimal position ∷ name ∷ more)
  position_entry word name position more first short within few rest =
      let limit : MOST_STRINGS ≡ 1024 = refl in
      let below : position < 2 ^ 64 = omega (arith, within) in
      let digits : length (decimal position) ≤ 20 = length-decimal-le 20 position (omega arith) (omega arith) below in record {
        few = omega (arith, few);
        short = (first, (small (decimal position) (omega (arith, digits)), (name_short name short, rest)));
      }

  pub closes_loggable : (name : List ℕ) (position : ℕ) → IsShortName name → position < 2 ^ 32 →
      IsLoggable digest (LogRecord.Closes name position)
  closes_loggable name position short within = record {
    message = within;
    entry = position_entry (codes "close") name position [] (small (codes "close") (omega arith)) short within (omega arith) tt;
  }

  pub hears_loggable : (name : List ℕ) (position : ℕ) (layout : Layout) → IsShortName name → position < 2 ^ 32 → IsFitLayout layout →
      IsLoggable digest (LogRecord.Hears name position layout)
  hears_loggable name position layout short within lawful = record {
    message = (within, lawful.lawful);
    entry = position_entry (codes "hear") name position (layout_string layout ∷ []) (small (codes "hear") (omega arith)) short within
        (omega arith) (layout_short layout lawful, tt);
  }

  pub starts_loggable : IsLoggable digest LogRecord.Starts
  starts_loggable = record { message = tt; entry = record { few = omega arith; short = (small (codes "start") (omega arith), tt) } }
