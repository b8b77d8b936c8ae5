-- How many open banks a node keeps, how many tags they know, and how many closed banks it keeps.
use Rattle.std.specs.Prelude.{ℕ, Option, None, Some, sum_by}
use Rattle.std.specs.FinMap as map
use Rattle.indexmap.specs.IndexMap.{values}
use Rattle.local_object.specs.declared.kept_bank.KeptBank.{KeptBank}
use Rattle.local_object.specs.declared.kept_bank.KeptBank.TheVariants as kept
use Rattle.local_object.specs.Local.{LocalObject, Place}
use Rattle.node_keeper.specs.declared.objects.Objects.{Objects}

-- 1 if a bank is open, and otherwise 0
abbrev pub count_of_banks : Option KeptBank → ℕ
count_of_banks None = 0
count_of_banks (Some (kept.Open bank)) = 1
count_of_banks (Some (kept.Closed closed)) = 0

-- 1 if a bank is closed, and otherwise 0
abbrev pub count_of_closed : Option KeptBank → ℕ
count_of_closed None = 0
count_of_closed (Some (kept.Open bank)) = 0
count_of_closed (Some (kept.Closed closed)) = 1

-- how many tags a bank knows, if it is open, and otherwise 0
abbrev pub count_of_tags : Option KeptBank → ℕ
count_of_tags None = 0
count_of_tags (Some (kept.Open bank)) = map.len bank.rows
count_of_tags (Some (kept.Closed closed)) = 0

-- how many open banks a place has: one or none
abbrev pub place_banks : Place → ℕ
place_banks place = count_of_banks place.bank

-- how many closed banks a place has: one or none
abbrev pub place_closed : Place → ℕ
place_closed place = count_of_closed place.bank

-- how many tags the bank of a place knows, if it is open
abbrev pub place_tags : Place → ℕ
place_tags place = count_of_tags place.bank

-- how many open banks of an object the node keeps
abbrev pub banks_at_places : LocalObject → ℕ
banks_at_places local = sum_by place_banks local.places

-- how many closed banks of an object the node keeps
abbrev pub closed_at_places : LocalObject → ℕ
closed_at_places local = sum_by place_closed local.places

-- how many tags the open banks of an object know
abbrev pub tags_at_places : LocalObject → ℕ
tags_at_places local = sum_by place_tags local.places

-- how many open banks of all objects the node keeps
abbrev pub open_banks : Objects → ℕ
open_banks objects = sum_by banks_at_places (values objects.by_name)

-- how many closed banks of all objects the node keeps
abbrev pub closed_banks : Objects → ℕ
closed_banks objects = sum_by closed_at_places (values objects.by_name)

-- how many tags the open banks know
abbrev pub known_tags : Objects → ℕ
known_tags objects = sum_by tags_at_places (values objects.by_name)
