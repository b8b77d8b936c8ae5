-- A start of the world stays one, and so does each letter that was sent. The start that a node tells is one of the world.
use Rattle.std.proofs.Common.{◌≡◌, ℕ, suc, Bool, true, false, cond, eqb, Option, None, Some, slice_get, refl, subst}
use Rattle.std.proofs.lemmas.Option.{same_Some}
use Rattle.layout.specs.Layout.{Layout}
use Rattle.mail.specs.declared.message.Message.{Message}
use Rattle.soundness.proofs.ListLemmas.{all_weaker}
use Rattle.network.specs.Worlds.{World, known_layouts}
use Rattle.network.specs.Premises.{WasSent}
use Rattle.starts.specs.Starts.{HasFinal, IsStart}
use Rattle.starts.proofs.FinalPointerLemmas.{Keeps, layouts_grow}
use Rattle.letter.specs.declared.letter.Letter.{Letter}
use Rattle.letter.specs.declared.start.Start.{Start}
use Rattle.local_object.specs.Local.{LocalObject, layout_here, start_at, told_start}
use Rattle.refinement.specs.Parts.{IsStartOf, WasSentAs}

-- Worlds that keep what is final, and layouts

pub start_kept : (world new : World) → Keeps world new → (start : ℕ) → IsStart world start → IsStart new start
start_kept world new keeps start is position less =
    let final = is position less in record {
      layout = final.layout;
      at = layouts_grow world new keeps position final.layout final.at;
      members = final.members;
      quorum = final.quorum;
      final = all_weaker (HasFinal world position) (HasFinal new position) (keeps.final position) final.members final.final;
    }

-- a letter that was sent was so in a world that keeps these and the messages
pub letter_kept : (world new : World) → Keeps world new → ((message : Message) → WasSent world message → WasSent new message) →
    (letter : Letter) → WasSentAs world letter → WasSentAs new letter
letter_kept world new keeps grows letter was = record {
  sent = grows letter.message was.sent;
  layout = layouts_grow world new keeps letter.message.position letter.layout was.layout;
  next = λ layout e. layouts_grow world new keeps (suc letter.message.position) layout (was.next layout e);
  start = λ start e. let is = was.start start e in record {
    starts = start_kept world new keeps start.position is.starts;
    layout = layouts_grow world new keeps start.position start.layout is.layout;
  };
}

-- The start that a node tells

-- the start that a node with a start of the world tells is that one, with its layout
pub told_is_start : (world : World) (local : LocalObject) → IsStart world local.start →
    ((position : ℕ) (layout : Layout) → layout_here local position ≡ Some layout →
    slice_get (known_layouts world 0) position ≡ Some layout) →
    (start : Start) → told_start local ≡ Some start → IsStartOf world start
told_is_start world local starts known start told = go (layout_here local local.start) refl told
  where
    own : Layout → Start
    own layout = record { position = local.start; layout = layout }

    at : (layout : Layout) → layout_here local local.start ≡ Some layout → (first : Bool) →
        cond first None (Some (own layout)) ≡ Some start → IsStartOf world start
    at layout e true is = absurd (cc)
    at layout e false is =
        subst (IsStartOf world) (same_Some (own layout) start is) (record { starts = starts; layout = known local.start layout e })

    go : (o : Option Layout) → layout_here local local.start ≡ o → start_at local.start o ≡ Some start → IsStartOf world start
    go None e is = absurd (cc)
    go (Some layout) e is = at layout e (eqb local.start 0) is
