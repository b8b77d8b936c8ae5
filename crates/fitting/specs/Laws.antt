-- The contracts that docs/trusted.md lists do not depend on this file; other contracts and proofs do.
-- The laws: fit letters can be written, and what a node does with a fit object leaves it fit, with fit letters only.
use Rattle.std.specs.Prelude.{◌≡◌, ◌≤◌, ℕ, length, List, Option}
use Rattle.std.specs.List.{AllByRecursion}
use Rattle.cluster_file.specs.declared.file.TheConstants.{DIGEST_LENGTH}
use Rattle.encoder.specs.Fragment.{fragment}
use Rattle.frames.specs.Frame.{IsFrame}
use Rattle.layout.specs.Layout.{Layout}
use Rattle.local_object.specs.Events.{LocalEvent, all_done, done_here}
use Rattle.local_object.specs.Local.{LocalObject, new_local}
use Rattle.node_messages.specs.Message.{IsMessage}
use Rattle.node_messages.specs.Strings.{strings_of}
use Rattle.node_messages.specs.declared.message.NodeMessage.{NodeMessage}
use Rattle.tag.specs.declared.limits.TheConstants.{LONGEST_NAME}
use Rattle.fitting.specs.Events.{HasRoom, HaveRoom}
use Rattle.fitting.specs.Letters.{IsFitLayout, IsFitLetter}
use Rattle.fitting.specs.Objects.{IsFitObject}

-- a fit letter with a short name and a digest is a message, and its strings are a frame
abbrev pub FitLettersAreMessages : Type 0
FitLettersAreMessages = (m : NodeMessage) → length m.digest ≡ DIGEST_LENGTH → length m.named.name ≤ LONGEST_NAME →
    IsFitLetter m.named.letter → IsMessage m × IsFrame (strings_of m)

-- an object of which a node has not heard is fit
abbrev pub NewIsFit : Type 0
NewIsFit = (node : ℕ) (delta : Option ℕ) (first : Layout) → IsFitLayout first → IsFitObject (new_local node delta first)

-- what a node does with a fit object, if there is room for it, leaves the object fit, and each letter sent is fit
abbrev pub StaysFit : Type 0
StaysFit = (local : LocalObject) (event : LocalEvent) → IsFitObject local → HasRoom local event →
    IsFitObject (done_here fragment local event).local
    × AllByRecursion IsFitLetter (done_here fragment local event).sent

-- so do several such events, one after another
abbrev pub AllStayFit : Type 0
AllStayFit = (local : LocalObject) (events : List LocalEvent) → IsFitObject local → HaveRoom local events →
    IsFitObject (all_done fragment local events).local
    × AllByRecursion IsFitLetter (all_done fragment local events).sent
