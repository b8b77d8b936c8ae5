-- What a node has from a log that is written anew.
use Rattle.std.proofs.Common.{◌≡◌, ℕ, List, [], ◌∷◌, map, refl, sym, subst, ap, ◌∙◌}
use Rattle.std.specs.Prelude.{codes}
use Rattle.std.specs.List.{AllByRecursion}
use Rattle.deeds.specs.Kept.{KeptNode}
use Rattle.node_strings.specs.Record.{record_at, record_strings}
use Rattle.node_strings.specs.declared.record.Record.{Record}
use Rattle.node_strings.specs.declared.record.Record.TheVariants as record_of
use Rattle.node_strings.proofs.RecordLemmas.{record_ok}
use Rattle.recoveries.specs.Records.{LogRecord, Recovers}
use Rattle.recoveries.proofs.NodeCopyLemmas.{same_self}
use Rattle.recoveries.proofs.RecoveredLemmas.{two_recovered}
use Rattle.node_strings.specs.Strings.{Strings}
use Rattle.node_keeper.specs.Keeping.{kept_of}
use Rattle.node_keeper.specs.Logging.{IsReadBack, deeds_if, deeds_of, log_entry_of}
use Rattle.node.specs.declared.node.Node.{Node}
use Rattle.node.specs.Anew.{AnewGivesCopies, CarriesOutAll}
use Rattle.node.specs.Recovering.{CarriesOutEntry}
use Rattle.node.specs.Starts.{cluster_entry}

-- the entry that names the cluster and the node records nothing that the node did
pub named_deeds : (digest : List ℕ) (number : ℕ) (it : Record) → record_strings (record_of.Cluster digest number) ≡ record_strings it →
    deeds_of it ≡ []
named_deeds digest number (record_of.Cluster other node) same = refl
named_deeds digest number record_of.Start same = absurd (let word : codes "cluster" ≡ codes "start" = cc in cc)
named_deeds digest number (record_of.Serve frame) same = absurd (let word : codes "cluster" ≡ codes "serve" = cc in cc)
named_deeds digest number (record_of.Take frame) same = absurd (let word : codes "cluster" ≡ codes "take" = cc in cc)
named_deeds digest number (record_of.Move id name layout) same =
    absurd (let word : codes "cluster" ≡ codes "move" = cc in cc)
named_deeds digest number (record_of.Hear position name layout) same =
    absurd (let word : codes "cluster" ≡ codes "hear" = cc in cc)
named_deeds digest number (record_of.Close position name) same =
    absurd (let word : codes "cluster" ≡ codes "close" = cc in cc)

named_same : (old new : Node) (digest : List ℕ) (number : ℕ) → CarriesOutEntry old (cluster_entry digest number) new →
    Recovers [] (kept_of old.keeper) (kept_of new.keeper)
named_same old new digest number carried =
    subst (λ (rs : List LogRecord). Recovers rs (kept_of old.keeper) (kept_of new.keeper))
    (named_deeds digest number carried.it (carried.whole ∙ (record_ok carried.strings carried.it carried.read).1))
    carried.done.recovers

-- an entry of a record is carried out as that record
one_carried : (digest : List ℕ) (one : LogRecord) → IsReadBack digest one → (old new : Node) →
    CarriesOutEntry old (log_entry_of digest one) new → Recovers (one ∷ []) (kept_of old.keeper) (kept_of new.keeper)
one_carried digest one read old new carried =
    subst (λ (rs : List LogRecord). Recovers rs (kept_of old.keeper) (kept_of new.keeper))
    (ap deeds_if (sym carried.read) ∙ ap (λ (s : Strings). deeds_if (record_at s)) (sym carried.whole) ∙ read.same)
    carried.done.recovers

all_carried : (digest : List ℕ) (records : List LogRecord) → AllByRecursion (IsReadBack digest) records → (old new : Node) →
    CarriesOutAll old (map (log_entry_of digest) records) new → Recovers records (kept_of old.keeper) (kept_of new.keeper)
all_carried digest [] read old new same =
    subst (λ (n : Node). Recovers [] (kept_of old.keeper) (kept_of n.keeper)) (sym same) (same_self (kept_of old.keeper))
all_carried digest (one ∷ records) read old new carried =
    two_recovered (kept_of old.keeper) (kept_of carried.0.keeper) (kept_of new.keeper) (one ∷ []) records
    (one_carried digest one read.0 old carried.0 carried.1) (all_carried digest records read.1 carried.0 new carried.2)

pub anew_copies : AnewGivesCopies
anew_copies node first last entries anew own calls new carried =
    let digest = node.keeper.digest in
    let number = node.keeper.ids.node in
    let all = subst (λ (es : List Strings). CarriesOutAll first es last) anew.those carried in
    let begun : Recovers [] (kept_of first.keeper) (kept_of all.0.keeper) = named_same first all.0 digest number all.1 in
    let rest = all_carried digest anew.records anew.read all.0 last all.2 in
    let recovers : Recovers anew.records (kept_of first.keeper) (kept_of last.keeper) =
    two_recovered (kept_of first.keeper) (kept_of all.0.keeper) (kept_of last.keeper) [] anew.records begun rest in
    anew.recorded own calls (kept_of last.keeper)
    (subst (λ (k : KeptNode). Recovers anew.records k (kept_of last.keeper)) new recovers)
