-- The contracts that docs/trusted.md lists do not depend on this file; other contracts and proofs do.
-- The settings of a cluster file, and what is wrong with a first word.
use Rattle.std.specs.Prelude.{ℕ, Option, Some, None, codes, nat_lt, if◌then◌else◌}
use Rattle.std.specs.Str.{bytes_eq}
use Rattle.cluster_file.specs.declared.error.Fault.{Fault}
use Rattle.cluster_file.specs.declared.error.Fault.TheVariants.{UnknownSetting, SettingTwice, SettingMissing}
use Rattle.cluster_file.specs.declared.setting.Setting.{Setting}
use Rattle.cluster_file.specs.declared.setting.Setting.TheVariants as setting
use Rattle.words.specs.Word.{Word}

-- the place of a setting in a file, from 0
abbrev pub order_of : Setting → ℕ
order_of setting.Nodes = 0
order_of setting.N = 1
order_of setting.K = 2
order_of setting.Delta = 3
order_of setting.Mover = 4
order_of setting.Later = 5
order_of setting.Ticks = 6

-- the word that names a setting
abbrev pub word_of : Setting → Word
word_of setting.Nodes = codes "nodes"
word_of setting.N = codes "n"
word_of setting.K = codes "k"
word_of setting.Delta = codes "delta"
word_of setting.Mover = codes "mover"
word_of setting.Later = codes "later"
word_of setting.Ticks = codes "ticks"

-- the setting that a word names
unfoldable pub setting_from : Word → Option Setting
setting_from word =
    if bytes_eq word (codes "nodes") then Some setting.Nodes
    else (if bytes_eq word (codes "n") then Some setting.N
    else (if bytes_eq word (codes "k") then Some setting.K
    else (if bytes_eq word (codes "delta") then Some setting.Delta
    else (if bytes_eq word (codes "mover") then Some setting.Mover
    else (if bytes_eq word (codes "later") then Some setting.Later
    else (if bytes_eq word (codes "ticks") then Some setting.Ticks
    else None))))))

-- what is wrong with this setting where that one is due: an earlier line has it already, or the one that is due is
-- missing
abbrev pub order_fault : Setting → Setting → Option Fault
order_fault due found =
    if nat_lt (order_of found) (order_of due) then Some SettingTwice
    else (if nat_lt (order_of due) (order_of found) then Some (SettingMissing due) else None)

-- what is wrong with the setting that a word names where this one is due: the word names none, or it is out of order
abbrev pub named_fault : Setting → Option Setting → Option Fault
named_fault due None = Some UnknownSetting
named_fault due (Some found) = order_fault due found

-- what is wrong with a first word where this setting is due
abbrev pub due_fault : Setting → Word → Option Fault
due_fault due word = named_fault due (setting_from word)

-- what is wrong with a setting after the last one
abbrev pub more_fault : Option Setting → Fault
more_fault None = UnknownSetting
more_fault (Some found) = SettingTwice

-- what is wrong with a first word after the last setting
abbrev pub behind_fault : Word → Fault
behind_fault word = more_fault (setting_from word)
