-- What a machine wants done, in the order in which it wants it, and what of it was done.
use Rattle.std.specs.Prelude.{◌≡◌, ◌++◌, [], ◌∷◌, ℕ, List, Option}
use Rattle.std.specs.List.{flat_map}
use Rattle.std.specs.Io.KnownBytes.{Appends}
use Rattle.frames.specs.Frame.{frame_bytes}
use Rattle.node_log.specs.Entry.{chain_behind}
use Rattle.node_effects.specs.Work.{send_all}
use Rattle.node_effects.specs.declared.effects.Effects.{Effects}
use Rattle.node_effects.specs.declared.output.Output.{Output}
use Rattle.node_effects.specs.declared.output.Output.TheVariants as output
use Rattle.node_store.specs.Recovery.{log_bytes}
use Rattle.node_store.specs.declared.batch.Batch.{Batch}

-- what a machine wants done: entries for its log and frames to nodes, in its order, and behind them answers to clients
abbrev pub effects_outputs : Effects → List Output
effects_outputs effects = effects.outputs.items ++ send_all effects.answers.items

-- the entry that the log gets
abbrev pub logged_of : Output → List (List (List ℕ))
logged_of (output.Log entry) = entry ∷ []
logged_of (output.Send frame) = []

-- the bytes that are sent
abbrev pub sent_of : Output → List ℕ
sent_of (output.Log entry) = []
sent_of (output.Send frame) = frame_bytes frame

-- the entries that the log gets, one after another
abbrev pub all_logged : List Output → List (List (List ℕ))
all_logged outputs = flat_map logged_of outputs

-- the chain behind these entries, and the bytes of them behind a chain
abbrev pub chain_after_all : ℕ → List Output → ℕ
chain_after_all chain outputs = chain_behind chain (all_logged outputs)

abbrev pub bytes_logged : ℕ → List Output → List ℕ
bytes_logged chain outputs = log_bytes chain (all_logged outputs)

-- the bytes that are sent, one after another
abbrev pub all_sent : List Output → List ℕ
all_sent outputs = flat_map sent_of outputs

-- The batch, which began behind this chain, has these outputs: the bytes of the first ones, which are frames, and those
-- of the entries and of the frames among the others. If it has no entry, all frames are among the first ones.
pub record HasGathered (chain : ℕ) (batch : Batch) (outputs : List Output) : Type 0 where
  pub first : List Output
  pub rest : List Output
  pub all : outputs ≡ first ++ rest
  pub unlogged : all_logged first ≡ []
  pub early : batch.early ≡ all_sent first
  pub log : batch.log ≡ bytes_logged chain rest
  pub chain_now : batch.chain.state ≡ chain_after_all chain rest
  pub late : batch.output ≡ all_sent rest
  pub none : batch.log ≡ [] → batch.output ≡ []

-- the batch has these outputs behind those that it had
abbrev pub Gathers : (before after : Batch) → List Output → Type 0
Gathers before after outputs =
    (chain : ℕ) (prior : List Output) → HasGathered chain before prior → HasGathered chain after (prior ++ outputs)

-- some first part of these bytes was appended to the known bytes
abbrev pub AppendsFront : Option (List ℕ) → Option (List ℕ) → List ℕ → Type 0
AppendsFront old new bytes = (front back : List ℕ) × (bytes ≡ front ++ back) × Appends old new front

-- known bytes grew by a front of all these bytes, which has at least these first ones
abbrev pub AppendsPart : Option (List ℕ) → Option (List ℕ) → (least all : List ℕ) → Type 0
AppendsPart old new least all =
    (more back : List ℕ) × (all ≡ (least ++ more) ++ back) × Appends old new (least ++ more)

-- the log, which ended behind this chain, keeps the entries among these outputs, and their frames were written
abbrev pub WritesAll : (chain : ℕ) → (kept keeps held holds : Option (List ℕ)) → List Output → Type 0
WritesAll chain kept keeps held holds outputs =
    Appends kept keeps (bytes_logged chain outputs) × Appends held holds (all_sent outputs)

-- The log keeps the entries among the first of these outputs, perhaps with a front of the bytes of the other entries.
-- Nothing was written but a front of the frames among the first outputs. So a frame was written only if the log keeps
-- all entries that stand before it.
abbrev pub WritesFirst : (chain : ℕ) → (kept keeps held holds : Option (List ℕ)) → List Output → Type 0
WritesFirst chain kept keeps held holds outputs =
    (first rest : List Output) × (outputs ≡ first ++ rest)
    × AppendsPart kept keeps (bytes_logged chain first) (bytes_logged chain outputs)
    × AppendsFront held holds (all_sent first)
