-- The receipts of a plan's read relations in order.
use Rattle.std.specs.Ordering.{nat_cmp, on}
use Rattle.std.specs.declared.cmp.Ordering.{Ordering}
use Rattle.run_words.specs.declared.status.PipeReceipt.{PipeReceipt}

-- by the number of the relation
abbrev pub by_number : PipeReceipt → PipeReceipt → Ordering
by_number = on (λ (receipt : PipeReceipt). receipt.relation) nat_cmp
