use Rattle.std.proofs.Common.{◌≡◌, ◌+◌, ◌%◌, ◌^◌, sum_by, None, cond, length}
use Rattle.std.specs.BTreeMap.{get, IsOrdered}
use Rattle.tag.specs.declared.tag.Tag.{Tag}
use Rattle.tag.specs.Tag.{tag_cmp}
use Rattle.bank.specs.Bytes.{entry_bytes}
use Rattle.bank.specs.Floor.{is_under}
use Rattle.bank.proofs.bank.forgetting.remove_under.Given as goal

abbrev pub invariant-loop-tag : goal.invariant-loop-tag
invariant-loop-tag l = record {
  kept : (q : Tag) → cond (is_under l.floor q) None (get tag_cmp l.rows q) ≡ cond (is_under l.floor q) None (get tag_cmp l.fn.rows q);
  freed : (sum_by entry_bytes l.rows.entries + l.freed) % 2 ^ 64 ≡ sum_by entry_bytes l.fn.rows.entries % 2 ^ 64;
  ordered : IsOrdered tag_cmp l.fn.rows → IsOrdered tag_cmp l.rows;
}

abbrev pub decreases-loop-tag : goal.decreases-loop-tag
decreases-loop-tag l = length l.rows.entries
