-- How what a node has to do grows.
use Rattle.std.proofs.Common.{◌≡◌, ℕ, List, [], ◌∷◌, ◌++◌, refl, sym, subst, ap, ◌∙◌}
use Rattle.std.proofs.lemmas.List.{append-nil, append_assoc}
use Rattle.node_effects.specs.Work.{Growth, IsGrown, both_grown, entries_in, log_all, no_growth}
use Rattle.node_effects.specs.declared.output.Output.{Output}
use Rattle.node_effects.specs.declared.output.Output.TheVariants as output
use Rattle.node_effects.specs.declared.work.Work.{Work}

pub grown_none : (work : Work) → IsGrown work work no_growth
grown_none work = record {
  outputs = sym (append-nil work.outputs.items);
  to_clients = sym (append-nil work.to_clients.items);
  notices = sym (append-nil work.notices.items);
  own = sym (append-nil work.own.items);
  due = sym (append-nil work.due.items);
}

grown_list : {A : Type 0} (a b c x y : List A) → b ≡ a ++ x → c ≡ b ++ y → c ≡ a ++ (x ++ y)
grown_list a b c x y first second = second ∙ ap (λ xs. xs ++ y) first ∙ append_assoc a x y

pub grown_then : (a b c : Work) (first second : Growth) → IsGrown a b first → IsGrown b c second →
    IsGrown a c (both_grown first second)
grown_then a b c first second f s = record {
  outputs = grown_list a.outputs.items b.outputs.items c.outputs.items first.outputs second.outputs f.outputs s.outputs;
  to_clients = grown_list a.to_clients.items b.to_clients.items c.to_clients.items first.to_clients second.to_clients
      f.to_clients s.to_clients;
  notices = grown_list a.notices.items b.notices.items c.notices.items first.notices second.notices f.notices s.notices;
  own = grown_list a.own.items b.own.items c.own.items first.own second.own f.own s.own;
  due = grown_list a.due.items b.due.items c.due.items first.due second.due f.due s.due;
}

pub grown_as : (a b : Work) (growth same : Growth) → IsGrown a b growth → growth ≡ same → IsGrown a b same
grown_as a b growth same is e = subst (λ g. IsGrown a b g) e is

-- the entries of outputs, one after another
pub entries_append : (xs ys : List Output) → entries_in (xs ++ ys) ≡ entries_in xs ++ entries_in ys
entries_append [] ys = refl
entries_append (output.Log entry ∷ xs) ys = ap (λ zs. entry ∷ zs) (entries_append xs ys)
entries_append (output.Send frame ∷ xs) ys = entries_append xs ys

-- outputs that are all entries
pub entries_all : (entries : List (List (List ℕ))) → entries_in (log_all entries) ≡ entries
entries_all [] = refl
entries_all (entry ∷ entries) = ap (λ zs. entry ∷ zs) (entries_all entries)
