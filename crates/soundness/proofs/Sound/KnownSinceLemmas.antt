-- When a bank came to know what it knows.
use Rattle.std.proofs.lemmas.Grind.{common_steps}
use Rattle.std.proofs.Common.{◌≡◌, ℕ, ◌<◌, ◌⊎◌, cond, List, [], rules, arith}
use Rattle.std.proofs.Common.{length, set, get_or, Option, Some, ◌∙◌}
use Rattle.std.proofs.lemmas.List.{length-set, get_or-set_same}
use Rattle.tag.specs.declared.tag.Tag.{Tag}
use Rattle.tag.specs.Tag.{tag_eq}
use Rattle.piece.specs.declared.piece.Piece.{Piece}
use Rattle.bank.specs.Bank.{Bank, pre_written, finalized}
use Rattle.bank.specs.Collect.{collected}
use Rattle.bank.specs.Knowledge.{since, finalized_at, arrived_at}
use Rattle.bank.proofs.CollectedBankLemmas.{finalized_at-collected, arrived_at-collected}
use Rattle.bank.proofs.RowChangeLemmas.{finalized_at-finalized, arrived_at-finalized, finalized_at-pre_written, arrived_at-pre_written}
use Rattle.record.specs.Records.{Object, bank_at}
use Rattle.record.specs.Steps.{with_bank}

-- Serving a request

-- where a step comes from
tag_cases : (tag other : Tag) (o new : Option ℕ) (now step : ℕ) → new ≡ cond (tag_eq other tag) (since o now) o →
    new ≡ Some step → ((tag ≡ other) × (step ≡ now)) ⊎ (o ≡ Some step)
tag_cases tag other o new now step is e = grind arith

pub label_arrived : (b : Bank) (tag : Tag) (now : ℕ) (other : Tag) →
    arrived_at (collected (finalized b tag now)) other ≡ arrived_at b other
label_arrived b tag now other = arrived_at-collected (finalized b tag now) other ∙ arrived_at-finalized b tag now other

pub piece_finalized : (b : Bank) (tag : Tag) (piece : Piece) (now : ℕ) (other : Tag) →
    finalized_at (collected (pre_written b tag piece now)) other ≡ finalized_at b other
piece_finalized b tag piece now other = search (rules, finalized_at-collected, finalized_at-pre_written)

pub label_cases : (b : Bank) (tag : Tag) (now : ℕ) (other : Tag) (step : ℕ) →
    finalized_at (collected (finalized b tag now)) other ≡ Some step →
    ((tag ≡ other) × (step ≡ now)) ⊎ (finalized_at b other ≡ Some step)
label_cases b tag now other step e =
    tag_cases tag other (finalized_at b other) (finalized_at (collected (finalized b tag now)) other) now step
    (finalized_at-collected (finalized b tag now) other ∙ finalized_at-finalized b tag now other) e

pub piece_cases : (b : Bank) (tag : Tag) (piece : Piece) (now : ℕ) (other : Tag) (step : ℕ) →
    arrived_at (collected (pre_written b tag piece now)) other ≡ Some step →
    ((tag ≡ other) × (step ≡ now)) ⊎ (arrived_at b other ≡ Some step)
piece_cases b tag piece now other step e =
    tag_cases tag other (arrived_at b other) (arrived_at (collected (pre_written b tag piece now)) other) now step
    (arrived_at-collected (pre_written b tag piece now) other ∙ arrived_at-pre_written b tag now other piece) e

pub get_or_set : {A : Type 0} (xs : List A) (i j : ℕ) (y d : A) →
    (get_or (set xs i y) j d ≡ get_or xs j d) ⊎ ((j ≡ i) × (get_or (set xs i y) j d ≡ y))
get_or_set xs i j y d = grind (arith, common_steps)

pub bank_at_set : (object : Object) (position member : ℕ) (bank : Bank) (p i : ℕ) →
    (bank_at (with_bank object position member bank) p i ≡ bank_at object p i)
    ⊎ ((p ≡ position) × (i ≡ member) × (bank_at (with_bank object position member bank) p i ≡ bank))
bank_at_set object position member bank p i = grind (arith, get_or_set)

-- the bank that changed
pub bank_here : (object : Object) (position member : ℕ) (bank : Bank) → position < length object.banks →
    member < length (get_or object.banks position []) → bank_at (with_bank object position member bank) position member ≡ bank
bank_here object position member bank p m = grind (arith, get_or-set_same)

-- no bank comes or goes
pub members_kept : (object : Object) (position member : ℕ) (bank : Bank) (p : ℕ) →
    length (get_or (with_bank object position member bank).banks p []) ≡ length (get_or object.banks p [])
members_kept object position member bank p = grind (arith, common_steps, length-set)
