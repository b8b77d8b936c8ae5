-- What a node tells about itself: the text of INFO, in sections as Redis has them.
use Rattle.std.specs.Prelude.{◌+◌, ◌-◌, ◌^◌, ℕ, min, Bool, true, false, if◌then◌else◌}
use Rattle.std.specs.Prelude.{◌==◌, List, [], ◌∷◌, ◌++◌, length, get_or, codes, Option, None, Some}
use Rattle.std.specs.Fmt.{decimal}
use Rattle.std.specs.List.{concat, count_by, flat_map}
use Rattle.words.specs.Hexadecimal.{hexadecimal_text}
use Rattle.client_commands.specs.declared.sections.Sections.{Sections}
use Rattle.node_strings.specs.declared.heard.Heard.{Heard}
use Rattle.node_keeper.specs.Objects.{bytes_in_banks, heard_names}
use Rattle.node_keeper.specs.Sizes.{closed_banks, known_tags, open_banks}
use Rattle.node_keeper.specs.Written.{written_names}
use Rattle.node_clients.specs.declared.counts.Counts.{Counts}
use Rattle.node_clients.specs.declared.open_call.OpenCall.{OpenCall}
use Rattle.node_keeper.specs.declared.keeper.Keeper.{Keeper}
use Rattle.node.specs.Peers.{frames_dropped}
use Rattle.node.specs.Ready.{hears_now, is_ready}
use Rattle.node.specs.Shown.{node_word}
use Rattle.node.specs.declared.drops.Drops.{Drops}
use Rattle.node.specs.declared.peers.Peers.{Peers}

-- how Redis says whether a cluster can serve: ok or fail
abbrev pub state_word : Bool → List ℕ
state_word true = codes "ok"
state_word false = codes "fail"

-- whether a call is a move
abbrev pub is_move_open : OpenCall → Bool
is_move_open call = call.is_move

-- Lines

-- a section, if it is asked for; each one ends with an empty line
abbrev pub section_if : (asked : Bool) → List ℕ → List ℕ
section_if asked section = if asked then section else []

-- the lines on the cluster: whether it can serve, how many nodes it has and how many of them are heard, and how many
-- calls and moves are open
abbrev pub cluster_lines : (ready : Bool) → (nodes heard calls moves : ℕ) → List ℕ
cluster_lines ready nodes heard calls moves = concat (
    codes "# Cluster\r\ncluster_enabled:0\r\ncluster_state:" ∷ state_word ready
    ∷ codes "\r\ncluster_known_nodes:" ∷ decimal nodes ∷ codes "\r\ncluster_nodes_heard:" ∷ decimal heard
    ∷ codes "\r\ncluster_calls_open:" ∷ decimal calls ∷ codes "\r\ncluster_moves_open:" ∷ decimal moves
    ∷ codes "\r\n" ∷ [])

-- the lines of that section with how many banks of all objects the node keeps, and how many tags these know
abbrev pub kept_lines : (banks tags : ℕ) → List ℕ
kept_lines banks tags = concat (
    codes "cluster_open_banks:" ∷ decimal banks ∷ codes "\r\ncluster_tags:" ∷ decimal tags ∷ codes "\r\n" ∷ [])

-- the lines of that section with what was given up and dropped; `dropped` is the number of all frames that were
-- dropped, and `foreign` that of messages of nodes with another cluster file
abbrev pub lost_lines : Counts → (dropped foreign : ℕ) → List ℕ
lost_lines counts dropped foreign = concat (
    codes "cluster_calls_given_up:" ∷ decimal counts.given_up
    ∷ codes "\r\ncluster_frames_dropped:" ∷ decimal dropped
    ∷ codes "\r\ncluster_frames_of_other_clusters:" ∷ decimal foreign ∷ codes "\r\n" ∷ [])

-- the lines of that section with the frames that were dropped for each other cause
abbrev pub drop_lines : Drops → List ℕ
drop_lines drops = concat (
    codes "cluster_frames_malformed:" ∷ decimal drops.malformed
    ∷ codes "\r\ncluster_frames_unreadable:" ∷ decimal drops.unreadable
    ∷ codes "\r\ncluster_frames_not_admitted:" ∷ decimal drops.not_admitted
    ∷ codes "\r\ncluster_frames_not_heeded:" ∷ decimal drops.not_heeded ∷ codes "\r\n" ∷ [])

-- the line that says whether a node is heard: 1 or 0
abbrev pub heard_line : (heard : Bool) → (node : ℕ) → List ℕ
heard_line heard node = concat (
    codes "cluster_node_" ∷ decimal node ∷ codes "_heard:" ∷ decimal (if heard then 1 else 0) ∷ codes "\r\n" ∷ [])

-- for each of these nodes the line that says whether the node of this number hears it
abbrev pub heard_lines : (number : ℕ) → Option Heard → List ℕ → List ℕ
heard_lines number heard nodes = flat_map (λ node. heard_line (hears_now number heard node) node) nodes

-- the ticks since a node was named: a number, or `never`
abbrev pub silence_word : Option ℕ → List ℕ
silence_word None = codes "never"
silence_word (Some ticks) = decimal ticks

-- the line with the ticks since a node was named
abbrev pub silence_line : (silence : Option ℕ) → (node : ℕ) → List ℕ
silence_line silence node = concat (
    codes "cluster_node_" ∷ decimal node ∷ codes "_ticks_since_heard:" ∷ silence_word silence ∷ codes "\r\n" ∷ [])

-- that line of a node, unless it is the node of this number itself
abbrev pub silence_line_of : (number : ℕ) → (silences : List (Option ℕ)) → (node : ℕ) → List ℕ
silence_line_of number silences node =
    if node == number then [] else silence_line (get_or silences node None) node

-- these lines for these nodes
abbrev pub silence_lines : (number : ℕ) → (silences : List (Option ℕ)) → List ℕ → List ℕ
silence_lines number silences nodes = flat_map (silence_line_of number silences) nodes

-- the lines that name the program, the node, the node that moves objects, the cluster and the epoch
abbrev pub name_lines : (node mover : ℕ) → (digest : List ℕ) → (epoch : ℕ) → List ℕ
name_lines node mover digest epoch = concat (
    codes "# Node\r\nprogram:casd\r\nnode:" ∷ decimal node ∷ codes "\r\nmover:" ∷ decimal mover
    ∷ codes "\r\ncluster:" ∷ hexadecimal_text digest ∷ codes "\r\nepoch:" ∷ decimal epoch ∷ codes "\r\n" ∷ [])

-- the lines with the numbers of objects, of bytes that their banks store, of closed banks, of connections, and of open
-- calls
abbrev pub size_lines : (objects bytes closed clients calls : ℕ) → List ℕ
size_lines objects bytes closed clients calls = concat (
    codes "objects:" ∷ decimal objects ∷ codes "\r\nbytes_stored:" ∷ decimal bytes
    ∷ codes "\r\nclosed_banks:" ∷ decimal closed
    ∷ codes "\r\nclients:" ∷ decimal clients ∷ codes "\r\ncalls_open:" ∷ decimal calls ∷ codes "\r\n" ∷ [])

-- the lines with how many commands were answered and calls were given up; `dropped` is as in `lost_lines`
abbrev pub count_lines : Counts → (dropped : ℕ) → List ℕ
count_lines counts dropped = concat (
    codes "commands_answered:" ∷ decimal counts.answered ∷ codes "\r\ncalls_given_up:" ∷ decimal counts.given_up
    ∷ codes "\r\nframes_dropped:" ∷ decimal dropped ∷ codes "\r\n" ∷ [])

-- the lines with how many messages came of nodes with another cluster file, how many requests for fragments closed
-- banks have declined, and how many bytes the log has
abbrev pub other_lines : (foreign declined log_bytes : ℕ) → List ℕ
other_lines foreign declined log_bytes = concat (
    codes "frames_of_other_clusters:" ∷ decimal foreign ∷ codes "\r\nfetches_declined:" ∷ decimal declined
    ∷ codes "\r\nbytes_of_the_log:" ∷ decimal log_bytes ∷ codes "\r\n" ∷ [])

-- the lines with the nodes of the cluster file, each behind a space, and an empty line
abbrev pub file_lines : (nodes later : List ℕ) → List ℕ
file_lines nodes later =
    codes "nodes:" ++ flat_map node_word nodes ++ codes "\r\nlater:" ++ flat_map node_word later ++ codes "\r\n\r\n"

-- Sections

-- the section on the program, as which Redis clients see it
abbrev pub server_section : List ℕ
server_section = codes "# Server\r\nredis_version:1.0.0\r\nredis_mode:standalone\r\n\r\n"

-- the section on so many connections
abbrev pub clients_section : (clients : ℕ) → List ℕ
clients_section clients = concat (codes "# Clients\r\nconnected_clients:" ∷ decimal clients ∷ codes "\r\n\r\n" ∷ [])

-- the section on so many bytes of fragments
abbrev pub memory_section : (bytes : ℕ) → List ℕ
memory_section bytes = concat (codes "# Memory\r\nused_memory_dataset:" ∷ decimal bytes ∷ codes "\r\n\r\n" ∷ [])

-- the section on a log of so many bytes
abbrev pub persistence_section : (log_bytes : ℕ) → List ℕ
persistence_section log_bytes = concat (
    codes "# Persistence\r\nloading:0\r\naof_enabled:1\r\naof_current_size:" ∷ decimal log_bytes
    ∷ codes "\r\n\r\n" ∷ [])

-- the section on so many commands that were answered
abbrev pub stats_section : (answered : ℕ) → List ℕ
stats_section answered =
    concat (codes "# Stats\r\ntotal_commands_processed:" ∷ decimal answered ∷ codes "\r\n\r\n" ∷ [])

-- the section by which Redis clients know that they can write
abbrev pub replication_section : List ℕ
replication_section = codes "# Replication\r\nrole:master\r\nconnected_slaves:0\r\n\r\n"

-- the section on the only database, which has so many names
abbrev pub keyspace_section : (names : ℕ) → List ℕ
keyspace_section names =
    concat (codes "# Keyspace\r\ndb0:keys=" ∷ decimal names ∷ codes ",expires=0,avg_ttl=0\r\n\r\n" ∷ [])

-- how many bytes of fragments a node keeps, or 2^64 - 1 if there are more
abbrev pub stored_bytes : Keeper → ℕ
stored_bytes keeper = min (bytes_in_banks keeper.objects) (2 ^ 64 - 1)

-- how many open banks a node keeps, or 2^64 - 1 if there are more
abbrev pub kept_banks : Keeper → ℕ
kept_banks keeper = min (open_banks keeper.objects) (2 ^ 64 - 1)

-- how many tags these banks know, or 2^64 - 1 if there are more
abbrev pub kept_tags : Keeper → ℕ
kept_tags keeper = min (known_tags keeper.objects) (2 ^ 64 - 1)

-- how many closed banks a node keeps, or 2^64 - 1 if there are more
abbrev pub kept_closed : Keeper → ℕ
kept_closed keeper = min (closed_banks keeper.objects) (2 ^ 64 - 1)

-- how many of these nodes a node hears
abbrev pub count_heard : Keeper → Peers → List ℕ → ℕ
count_heard keeper peers nodes = count_by (hears_now keeper.ids.node peers.heard) nodes

-- what the section on the cluster tells of all nodes together, of a node with so many open calls, and moves among these
abbrev pub about_cluster : Keeper → Peers → (calls moves : ℕ) → Counts → List ℕ
about_cluster keeper peers calls moves counts =
    let fixed = keeper.file.fixed in
    let later = keeper.file.later in
    let heard = count_heard keeper peers fixed.nodes in
    cluster_lines (is_ready fixed heard) (length fixed.nodes + length later)
    (heard + count_heard keeper peers later) calls moves
    ++ (kept_lines (kept_banks keeper) (kept_tags keeper)
    ++ (lost_lines counts (frames_dropped peers) peers.foreign ++ drop_lines peers.drops))

-- what that section tells of these nodes one by one
abbrev pub about_nodes : Keeper → Peers → List ℕ → List ℕ
about_nodes keeper peers nodes =
    heard_lines keeper.ids.node peers.heard nodes ++ silence_lines keeper.ids.node peers.silences nodes

-- the section on the cluster
abbrev pub cluster_section : Keeper → Peers → (calls moves : ℕ) → Counts → List ℕ
cluster_section keeper peers calls moves counts =
    about_cluster keeper peers calls moves counts ++ about_nodes keeper peers keeper.file.fixed.nodes
    ++ about_nodes keeper peers keeper.file.later ++ codes "\r\n"

-- the node's own lines up to those with the nodes of the cluster file, of a node with so many connections and calls
abbrev pub about_node : Keeper → Peers → (clients calls : ℕ) → Counts → List ℕ
about_node keeper peers clients calls counts =
    name_lines keeper.ids.node keeper.file.fixed.mover keeper.digest keeper.ids.epoch
    ++ (size_lines (length (heard_names keeper.objects)) (stored_bytes keeper) (kept_closed keeper) clients calls
    ++ (count_lines counts (frames_dropped peers)
    ++ other_lines peers.foreign peers.declined counts.log_bytes))

-- the section with the node's own lines
abbrev pub node_section : Keeper → Peers → (clients calls : ℕ) → Counts → List ℕ
node_section keeper peers clients calls counts =
    about_node keeper peers clients calls counts ++ file_lines keeper.file.fixed.nodes keeper.file.later

-- The whole text

-- the sections that Redis has on a single server, as far as they are asked for
abbrev pub redis_sections : Sections → (clients bytes : ℕ) → Counts → List ℕ
redis_sections asked clients bytes counts =
    section_if asked.server server_section ++ section_if asked.clients (clients_section clients)
    ++ section_if asked.memory (memory_section bytes)
    ++ section_if asked.persistence (persistence_section counts.log_bytes)
    ++ section_if asked.stats (stats_section counts.answered) ++ section_if asked.replication replication_section

-- the text of INFO for these sections, of a node with so many connections, open calls, and moves among these: exactly
-- the sections that are asked for, each once and in this order
abbrev pub info_lines : Sections → Keeper → Peers → (clients calls moves : ℕ) → Counts → List ℕ
info_lines asked keeper peers clients calls moves counts =
    redis_sections asked clients (stored_bytes keeper) counts
    ++ section_if asked.cluster (cluster_section keeper peers calls moves counts)
    ++ section_if asked.keyspace (keyspace_section (length (written_names keeper.objects)))
    ++ section_if asked.node (node_section keeper peers clients calls counts)
