-- What a node put out as calls began stays among all that it puts out.
use Rattle.std.proofs.Common.{◌≡◌, ℕ, List, ◌++◌, Option, None, Some, ap, ◌∙◌}
use Rattle.std.proofs.lemmas.List.{append_assoc}
use Rattle.std.specs.List.{AllByRecursion}
use Rattle.encoder.specs.Fragment.{fragment}
use Rattle.cluster_file.specs.File.{FileContents}
use Rattle.letter.specs.declared.letter.Letter.{Letter}
use Rattle.local_object.specs.Events.{done_here}
use Rattle.open_calls.proofs.ListLemmas.{all_weaker}
use Rattle.node_clients.specs.Services.{Service}
use Rattle.node_effects.specs.Work.{both_grown}
use Rattle.node_effects.specs.declared.output.Output.{Output}
use Rattle.node_keeper.specs.Beginning.{Beginning, opened_growth}
use Rattle.node_keeper.specs.Objects.{objects_of}
use Rattle.node_keeper.specs.Resending.{sendings_of}
use Rattle.node_keeper.specs.Sendings.{sent_growth}
use Rattle.node_keeper.specs.declared.keeper.Keeper.{Keeper}
use Rattle.node_keeper.specs.declared.objects.Objects.{Objects}
use Rattle.node.specs.BegunCalls.{HasPutOut, IsPutOutIf, call_of, call_outputs}

-- what is put out by a node with this number, file and digest, as a call begins with these letters
abbrev made : (number : ℕ) → FileContents → (digest : List ℕ) → Beginning → (id : ℕ) → List Letter → List Output
made number file digest call id letters = (both_grown (opened_growth digest (call.records id) (call.notice id))
    (sent_growth number digest (sendings_of call.asks_all number file call.name letters))).outputs

module _ (a b : Keeper) (node : b.ids.node ≡ a.ids.node) (file : b.file ≡ a.file) (digest : b.digest ≡ a.digest) where
  outputs_as : (objects : Objects) (call : Beginning) (id : ℕ) → call_outputs b objects call id ≡ call_outputs a objects call id
  outputs_as objects call id =
      let first = (done_here fragment (objects_of objects call.name) (call.event id)).sent in
      ap (λ n. made n b.file b.digest call id first) node ∙ ap (λ (f : FileContents). made a.ids.node f b.digest call id first) file
      ∙ ap (λ d. made a.ids.node a.file d call id first) digest

  module _ (some more all : List Output) (are : all ≡ some ++ more) where
    if_later : (call : Option Beginning) (id : ℕ) → IsPutOutIf b call id some → IsPutOutIf a call id all
    if_later None id is = tt
    if_later (Some call) id is =
        let made_then = call_outputs b is.objects call id in record {
          objects = is.objects;
          before = is.before;
          after = is.after ++ more;
          all = are ∙ ap (λ os. os ++ more) is.all ∙ append_assoc is.before (made_then ++ is.after) more
              ∙ ap (λ os. is.before ++ os) (append_assoc made_then is.after more
              ∙ ap (λ os. os ++ (is.after ++ more)) (outputs_as is.objects call id));
        }

    later : (service : Service) → HasPutOut b some service → HasPutOut a all service
    later (Service.Begins client command id) is = if_later (call_of command) id is
    later (Service.Arrives client command) is = tt
    later (Service.Leaves client) is = tt
    later (Service.Replies client command answer) is = tt
    later (Service.Quits client) is = tt
    later (Service.Ends name ended answer told) is = tt
    later (Service.Passes name ended client rest) is = tt
    later (Service.Ages id) is = tt
    later (Service.GivesUp id told) is = tt
    later (Service.Releases id told) is = tt

    -- all that was put out stays among what is put out, also by a node with the same settings
    pub put_out_later : (services : List Service) → AllByRecursion (HasPutOut b some) services →
        AllByRecursion (HasPutOut a all) services
    put_out_later services is = all_weaker (HasPutOut b some) (HasPutOut a all) later services is
