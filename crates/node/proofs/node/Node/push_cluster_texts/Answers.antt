use Rattle.std.proofs.Common.{◌≡◌, ℕ, List, ◌++◌, ◌∙◌, ap, append_assoc}
use Rattle.std.specs.List.{count_by}
use Rattle.std.specs.Prelude.{Err, Ok, OnOk, Result, codes, if◌then◌else◌, is_ok}
use Rattle.indexmap.specs.IndexMap.{index_map_len, values}
use Rattle.node.specs.Info.{about_cluster, about_nodes, is_move_open}
use Rattle.node.proofs.node.Node.push_cluster_texts.Goals as goal

-- five texts, one after another
joined : (a b x y z : List ℕ) → (((a ++ b) ++ x) ++ y) ++ z ≡ a ++ (((b ++ x) ++ y) ++ z)
joined a b x y z =
    ap (λ (t : List ℕ). (t ++ y) ++ z) (append_assoc a b x)
    ∙ ap (λ (t : List ℕ). t ++ z) (append_assoc a (b ++ x) y)
    ∙ append_assoc a ((b ++ x) ++ y) z

-- a text that is longer if all went well
grown : {T E : Type 0} (r : Result T E) (now more before all : List ℕ) → now ≡ (if is_ok r then more else before) → more ≡ all →
    OnOk r (now ≡ all)
grown (Ok x) now more before all is same = is ∙ same
grown (Err e) now more before all is same = tt

pub returns : goal.returns
returns c =
    let keeper = c.args.self.now.keeper in
    let peers = c.args.self.now.peers in
    let desk = c.args.self.now.desk in
    let first : List ℕ = about_cluster keeper peers (index_map_len desk.calls) (count_by is_move_open (values desk.calls)) desk.counts in
    let own : List ℕ = about_nodes keeper peers keeper.file.fixed.nodes in
    let later : List ℕ = about_nodes keeper peers keeper.file.later in
    let end : List ℕ = codes "\r\n" in
    let before : List ℕ = c.args.text.now.items in
    let one : c.push_nodes.new.text.items ≡ (before ++ first) ++ own =
    c.in_ok-push_nodes.ensures
    ∙ ap (λ (ns : List ℕ). c.push_cluster_lines.new.text.items ++ about_nodes keeper peers ns) c.nodes.ensures.nodes
    ∙ ap (λ (t : List ℕ). t ++ own) c.in_ok-push_cluster_lines.ensures in
    let two : c.push_nodes-2.new.text.items ≡ ((before ++ first) ++ own) ++ later =
    c.in_ok-push_nodes-2.ensures
    ∙ ap (λ (ns : List ℕ). c.push_nodes.new.text.items ++ about_nodes keeper peers ns) c.later.ensures
    ∙ ap (λ (t : List ℕ). t ++ later) one in
    grown c.extend_from_slice.result c.extend_from_slice.new.self.items (c.push_nodes-2.new.text.items ++ end)
    c.push_nodes-2.new.text.items (before ++ (((first ++ own) ++ later) ++ end)) c.extend_from_slice.ensures.items
    (ap (λ (t : List ℕ). t ++ end) two ∙ joined before first own later end)
