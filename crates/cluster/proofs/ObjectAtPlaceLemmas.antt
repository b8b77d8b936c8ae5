-- What is read of the object at a place.
use Rattle.std.proofs.Common.{◌≡◌, ℕ, Bool, List, Option, Some, None, slice_get}
use Rattle.std.specs.Prelude.{option_map}
use Rattle.std.proofs.lemmas.Option.{slice_get-map}
use Rattle.layout.specs.Layout.{Layout}
use Rattle.cluster.specs.Cluster.{Cluster}
use Rattle.cluster.specs.Places.{object_at}
use Rattle.cluster.proofs.LookupLemmas.{Entry, object_of}
use Rattle.cluster.proofs.ObjectStepLemmas.{cluster_of}

module _ {servers : List Bool} {layouts : List Layout} {counter : ℕ} {now : Cluster} (entries : List Entry) (place : ℕ)
    (same : cluster_of servers layouts entries counter ≡ now) where
  looked_up : (o : Option Entry) → o ≡ slice_get entries place →
      object_at now.objects place ≡ option_map (λ x. x.state) (option_map object_of o)
  looked_up o found = cc (same, slice_get-map object_of entries place)

  -- the object that was found
  pub placed_found : (e : Entry) → Some e ≡ slice_get entries place → object_at now.objects place ≡ Some e.1
  placed_found e found = looked_up (Some e) found

  -- there is none
  pub placed_none : None ≡ slice_get entries place → object_at now.objects place ≡ None
  placed_none found = looked_up None found
