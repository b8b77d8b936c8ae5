-- What the members of a position tell whose pointer is final.
use Rattle.std.proofs.Common.{◌≡◌, ℕ, zero, suc, ◌<◌, ◌≤◌, List, [], ◌∷◌, length, get_or}
use Rattle.std.proofs.Common.{Some, slice_get, refl, sym, ap, ◌∙◌, subst, arith}
use Rattle.std.proofs.lemmas.Option.{same_Some}
use Rattle.std.specs.List.{AllByRecursion}
use Rattle.tag.specs.declared.limits.TheConstants.{MOST_MEMBERS}
use Rattle.layout.specs.Layout.{IsLawful, Layout, quorum_of}
use Rattle.bank.specs.Bank.{with_pointer}
use Rattle.bank.specs.Pointer.{raised, status_of}
use Rattle.bank.specs.declared.reply.Answer.TheVariants as answer
use Rattle.bank.specs.declared.request.Request.TheVariants as request
use Rattle.bank.specs.declared.status.Pointer.{Pointer}
use Rattle.bank.specs.declared.status.Pointer.TheVariants as pointer
use Rattle.bank.specs.declared.status.Status.TheVariants as status
use Rattle.mail.specs.declared.message.Message.{Message}
use Rattle.record.specs.Records.{no_layout}
use Rattle.open_calls.specs.OpenCalls.{NodeCall}
use Rattle.network.specs.Worlds.{World, known_layout, known_layouts, member_bank}
use Rattle.network.specs.Premises.{IsOneFile}
use Rattle.network.proofs.OneFileLemmas.{layouts_known}
use Rattle.starts.specs.Starts.{HasFinal, IsFinalAt}
use Rattle.starts.specs.Reading.{world_with}
use Rattle.open_calls.proofs.ListLemmas.{all_at}
use Rattle.starts.proofs.GatheredReplyLemmas.{Tells}

get_is : {A : Type 0} (xs : List A) (i : ℕ) (x d : A) → slice_get xs i ≡ Some x → get_or xs i d ≡ x
get_is [] i x d at = absurd (cc)
get_is (y ∷ ys) zero x d at = same_Some y x at
get_is (y ∷ ys) (suc i) x d at = get_is ys i x d at

all_both : {A : Type 0} (P Q R : A → Type 0) → ((x : A) → P x → Q x → R x) → (xs : List A) → AllByRecursion P xs →
    AllByRecursion Q xs → AllByRecursion R xs
all_both P Q R both [] first second = tt
all_both P Q R both (x ∷ xs) first second = (both x first.0 second.0, all_both P Q R both xs first.1 second.1)

raised_again : (p : Pointer) (now : ℕ) → status_of p ≡ status.Final → raised p status.Final now ≡ p
raised_again pointer.Unset now final = absurd (cc)
raised_again (pointer.Pending since) now final = absurd (cc)
raised_again (pointer.Final pending since) now final = refl

-- a quorum of a lawful layout has at least one member
pub lawful_quorum : (layout : Layout) → IsLawful layout → 0 < quorum_of layout
lawful_quorum layout lawful = let h = lawful.some in omega arith

-- and at most as many members as a layout may have
small_quorum : (layout : Layout) → IsLawful layout → quorum_of layout ≤ MOST_MEMBERS
small_quorum layout lawful = let a = lawful.enough in let b = lawful.few in omega arith

-- a position that is final is so where calls and messages alone have changed
pub final_there : (world : World) (call : NodeCall) (sent : List Message) (now position : ℕ) → IsFinalAt world position →
    IsFinalAt (world_with world call sent now) position
final_there world call sent now position is =
    record { layout = is.layout; at = is.at; members = is.members; quorum = is.quorum; final = is.final }

module _ (world : World) (one : IsOneFile world.files) (node position : ℕ) (is : IsFinalAt world position) where
  layout_is : known_layout world node position ≡ is.layout
  layout_is = ap (λ ls. get_or ls position no_layout) (sym (layouts_known world one node))
      ∙ get_is (known_layouts world 0) position is.layout no_layout is.at

  pub enough_members : quorum_of (known_layout world node position) ≤ length is.members
  enough_members = subst (λ l. quorum_of l ≤ length is.members) (sym layout_is) is.quorum.enough

  within_members : AllByRecursion (λ m. m < length (known_layout world node position).members) is.members
  within_members =
      subst (λ (l : Layout). AllByRecursion (λ m. m < length l.members) is.members) (sym layout_is) is.quorum.within

  pub tell_next : AllByRecursion (Tells request.Next (answer.Pointer status.Final) world node position) is.members
  tell_next = all_both (λ m. m < length (known_layout world node position).members) (HasFinal world position)
      (Tells request.Next (answer.Pointer status.Final) world node position)
      (λ m within final. record { within = within; same = refl; answers = ap answer.Pointer final })
      is.members within_members is.final

  pub tell_spread : AllByRecursion (Tells (request.Spread status.Final) answer.Done world node position) is.members
  tell_spread = all_both (λ m. m < length (known_layout world node position).members) (HasFinal world position)
      (Tells (request.Spread status.Final) answer.Done world node position)
      (λ m within final. record {
        within = within;
        same = ap (with_pointer (member_bank world position m)) (raised_again (member_bank world position m).pointer 0 final);
        answers = refl;
      })
      is.members within_members is.final

  lawful_there : AllByRecursion IsLawful (known_layouts world 0) → IsLawful is.layout
  lawful_there lawful = all_at IsLawful (known_layouts world 0) position is.layout lawful is.at

  pub most_quorum : AllByRecursion IsLawful (known_layouts world 0) → quorum_of (known_layout world node position) ≤ MOST_MEMBERS
  most_quorum lawful = subst (λ l. quorum_of l ≤ MOST_MEMBERS) (sym layout_is) (small_quorum is.layout (lawful_there lawful))

  -- a lawful position has a quorum of at least one
  pub some_quorum : AllByRecursion IsLawful (known_layouts world 0) → 0 < quorum_of (known_layout world node position)
  some_quorum lawful = subst (λ l. 0 < quorum_of l) (sym layout_is)
      (lawful_quorum is.layout (lawful_there lawful))
