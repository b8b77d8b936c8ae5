-- The world of one object: what its nodes keep of it, and all messages that they ever sent.
use Rattle.std.specs.Prelude.{ℕ, suc, ◌==◌, ◌&&◌, not, List, [], ◌∷◌, Option, get_or}
use Rattle.std.specs.List.{filter}
use Rattle.layout.specs.Layout.{Layout}
use Rattle.bank.specs.Bank.{Bank, opened_bank}
use Rattle.mail.specs.declared.message.Message.{Message}
use Rattle.record.specs.declared.call.Entry.{Entry}
use Rattle.record.specs.Legal.{is_move}
use Rattle.record.specs.Records.{Object, no_bank, no_layout}
use Rattle.open_calls.specs.OpenCalls.{NodeCall}

-- a cluster file: how many finalized versions banks keep besides the newest (None: all), which node moves objects, and
-- the layout of the object's position 0
pub record ClusterFile : Type 0 where
  pub delta : Option ℕ
  pub mover : ℕ
  pub first : Layout

-- a world: the cluster file that each node runs with; the layouts of the positions from 1 on, and the banks by position
-- (each bank is kept by the node that the layout names); the nodes' open calls; all messages ever sent; and as history
-- the entries of the calls, and how many events there were
pub record World : Type 0 where
  pub files : (node : ℕ) → ClusterFile
  pub later : List Layout
  pub banks : List (List Bank)
  pub calls : List NodeCall
  pub sent : List Message
  pub history : List Entry
  pub now : ℕ

-- the new banks of the members `member`, `member` + 1 and so on, each opened by its node, as the node's file says
abbrev pub new_banks : (files : ℕ → ClusterFile) → (servers : List ℕ) → (member : ℕ) → List Bank
new_banks files [] member = []
new_banks files (server ∷ servers) member =
    opened_bank member (files server).delta 0 ∷ new_banks files servers (suc member)

-- a world before the first event, with these cluster files; position 0 has the banks that the file of node 0 names
abbrev pub opened_world : (files : ℕ → ClusterFile) → World
opened_world files = record {
  files = files;
  later = [];
  banks = new_banks files (files 0).first.members 0 ∷ [];
  calls = [];
  sent = [];
  history = [];
  now = 0;
}

-- the layouts of all positions, as a node knows them: that of position 0 is in its file
abbrev pub known_layouts : World → (node : ℕ) → List Layout
known_layouts world node = (world.files node).first ∷ world.later

-- the layout of a position, as a node knows it
abbrev pub known_layout : World → (node position : ℕ) → Layout
known_layout world node position = get_or (known_layouts world node) position no_layout

-- the bank that the member of a position keeps
abbrev pub member_bank : World → (position member : ℕ) → Bank
member_bank world position member = get_or (get_or world.banks position []) member no_bank

-- the layouts that a node knows, the banks and the messages, as a record of an object without calls
abbrev pub parts_of : World → (node : ℕ) → Object
parts_of world node = record {
  delta = (world.files node).delta;
  layouts = known_layouts world node;
  banks = world.banks;
  mail = world.sent;
  calls = [];
}

-- the calls that are there after a node stopped and started again: its reads and writes are gone
abbrev pub after_restart : (node : ℕ) → List NodeCall → List NodeCall
after_restart node calls = filter (λ call. not (call.node == node && not (is_move call.kind))) calls
