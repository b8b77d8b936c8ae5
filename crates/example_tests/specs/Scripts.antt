-- The contracts that docs/trusted.md lists do not depend on this file; other contracts and proofs do.
-- What the worked examples are made of: layouts, a code, and the events of one phase. The code keeps whole values.
use Rattle.std.specs.Prelude.{ℕ, List, [], ◌∷◌, None}
use Rattle.tag.specs.declared.tag.Tag.{Tag}
use Rattle.layout.specs.Layout.{Layout}
use Rattle.piece.specs.declared.piece.Piece.{Piece}
use Rattle.bank.specs.Serve.{kind_of}
use Rattle.bank.specs.declared.reply.Answer.{Answer}
use Rattle.bank.specs.declared.request.Request.{Request}
use Rattle.bank.specs.declared.request.Request.TheVariants as request
use Rattle.mail.specs.declared.message.Body.TheVariants as body
use Rattle.network.specs.Worlds.{ClusterFile, World, after_restart, opened_world}
use Rattle.network.specs.Events.{Event}

-- a layout whose members are the nodes 0, 1 and 2; a quorum is any two of them
abbrev pub three_nodes : Layout
three_nodes = record { k = 1; members = 0 ∷ 1 ∷ 2 ∷ [] }

-- the cluster file of three nodes, whose banks keep all versions
abbrev pub three_file : ClusterFile
three_file = record { delta = None; mover = 0; first = three_nodes }

-- the opened world of three nodes
abbrev pub start : World
start = opened_world (λ node. three_file)

-- the value that is written: the byte 65
abbrev pub letter : List ℕ
letter = 65 ∷ []

-- the tag of the write, whose id is 7
abbrev pub write_tag : Tag
write_tag = record { number = 1; call = 7 }

-- a member's piece of the value
abbrev pub letter_piece : (member : ℕ) → Piece
letter_piece member = record { point = member; len = 1; bytes = letter }

-- the request to keep the member's piece of the value
abbrev pub to_keep : (member : ℕ) → Request
to_keep member = request.PreWrite write_tag (letter_piece member)

-- the node of a member serves the request that a phase sent to the member
abbrev pub served : (call phase position : ℕ) → (ℕ → Request) → (member : ℕ) → Event
served call phase position asked member = Event.Serve (record {
  call = call;
  phase = phase;
  position = position;
  member = member;
  body = body.Request (asked member);
})

-- a call takes the answer of a member to the request that a phase sent to it
abbrev pub taken : (call phase position : ℕ) → (ℕ → Request) → (member : ℕ) → Answer → Event
taken call phase position asked member said = Event.Take (record {
  call = call;
  phase = phase;
  position = position;
  member = member;
  body = body.Reply (kind_of (asked member)) (record { step = 0; answer = said });
})

-- two members of position 0 serve the requests of a phase, and the call takes their answers
abbrev pub both : (call phase : ℕ) → (ℕ → Request) → (first second : ℕ) → (said_first said_second : Answer) → List Event
both call phase asked first second said_first said_second =
    served call phase 0 asked first ∷ served call phase 0 asked second
    ∷ taken call phase 0 asked first said_first ∷ taken call phase 0 asked second said_second ∷ []

-- the only member of a position serves the request of a phase, and the call takes its answer
abbrev pub alone : (call phase position : ℕ) → (ℕ → Request) → Answer → List Event
alone call phase position asked said =
    served call phase position asked 0 ∷ taken call phase position asked 0 said ∷ []

-- a node stops and starts again from its log, with banks and moves as they are in this world
abbrev pub restarted : (node : ℕ) → World → Event
restarted node world = Event.Restart node world.banks (after_restart node world.calls)
