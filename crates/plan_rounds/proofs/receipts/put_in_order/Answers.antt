use Rattle.std.proofs.Common.{rules, Bool, is_lt}
use Rattle.std.specs.Cmp.{IsTotalOrder}
use Rattle.std.proofs.lemmas.Cmp.{on_total, nat_cmp_total}
use Rattle.std.proofs.lemmas.List.Sorted.{ranks_by}
use Rattle.std.proofs.lemmas.Fn.{always_returns_same}
use Rattle.plan_denote.proofs.SortLaws.{is_arranged}
use Rattle.run_words.specs.declared.status.PipeReceipt.{PipeReceipt}
use Rattle.plan_rounds.specs.Receipts.{by_number}
use Rattle.plan_rounds.proofs.receipts.put_in_order.Goals as goal

total : IsTotalOrder by_number
total = on_total (λ (receipt : PipeReceipt). receipt.relation) nat_cmp_total

pub returns : goal.returns
returns c =
    let lt : PipeReceipt → PipeReceipt → Bool = λ a b. is_lt (by_number a b) in
    let weak = ranks_by total (λ (receipt : PipeReceipt). receipt) in
    is_arranged by_number total c.args.receipts.now.items c.sort_by.new.self.items (record {
      sorted = c.in_ok-sort_by.ensures.sorted lt weak (always_returns_same _ _ _ (λ a r f k. search rules));
      stable = c.sort_by.ensures.stable lt weak (always_returns_same _ _ _ (λ a r f k. search rules));
    })
