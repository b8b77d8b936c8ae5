-- The invariant of the type `Bank`.
use Rattle.std.specs.Prelude.{◌≡◌, ℕ, ◌%◌, ◌^◌, List, Option, IsSome, option_map}
use Rattle.std.specs.FinMap as map
use Rattle.std.specs.Map.{keys_of}
use Rattle.std.specs.List.Sorted.{IsStrictlySortedBy}
use Rattle.tag.specs.declared.tag.Tag.{Tag}
use Rattle.tag.specs.Tag.{tag_cmp, opening_tag}
use Rattle.bank.specs.declared.row.Row.{Row}
use Rattle.bank.specs.declared.status.Pointer.{Pointer}
use Rattle.bank.specs.declared.window.Window.{Window}
use Rattle.bank.specs.Bank.{Bank}
use Rattle.bank.specs.Bytes.{bank_bytes}
use Rattle.bank.specs.Collect.{IsCollected}
use Rattle.bank.specs.Knowledge.{finalized_at}
use Rattle.bank.specs.Serve.{greatest_final}
use Rattle.bank.specs.Window.{IsWindowed}

-- the bank that is represented by its entries in rising order of tags, with its pointer, window and retirement
abbrev pub bank_of : List (Tag × Row) → Pointer → Option Window → Option ℕ → Bank
bank_of entries pointer window retired = record {
  rows = map.from_sorted entries;
  pointer = pointer;
  delta = option_map (λ w. w.delta) window;
  retired = retired;
}

-- the invariant of `Bank`: sorted entries, a final opening tag, exactly the pieces to keep; the other values match them
pub record IsKeptBank (entries : List (Tag × Row)) (pointer : Pointer) (window : Option Window) (retired : Option ℕ)
    (last : Tag) (total : ℕ) : Type 0 where
  pub sorted : IsStrictlySortedBy tag_cmp (keys_of entries)
  pub opening : IsSome (finalized_at (bank_of entries pointer window retired) opening_tag)
  pub greatest : last ≡ greatest_final (bank_of entries pointer window retired)
  pub bytes : total ≡ bank_bytes (bank_of entries pointer window retired) % 2 ^ 64
  pub collected : IsCollected (bank_of entries pointer window retired)
  pub windowed : IsWindowed entries window
