use Rattle.std.proofs.Common.{◌<◌, length, take, All, arith, ◌∙◌, sym, subst}
use Rattle.std.proofs.lemmas.List.{take_all, take_more_set}
use Rattle.std.proofs.lemmas.List.Elements.{All-push}
use Rattle.run_core.specs.Memory.{HasRoom}
use Rattle.run_core.proofs.Ties.{unchanged}
use Rattle.run_core.proofs.state.reserve_lists.Goals as goal

pub returns-in_err-reserve-clause-lists : goal.returns-in_err-reserve-clause-lists
returns-in_err-reserve-clause-lists c =
    let e = c.in_err-reserve.ensures in
    unchanged c.loop-receipt.receipts c.loop-receipt.receipt-index c.receipt-item.result c.reserve.new.self (omega arith) e.lists ∙ c.loop-receipt.invariant.lists

pub loop-receipt-preserved : goal.loop-receipt-preserved
loop-receipt-preserved c =
    let there : c.loop-receipt.receipt-index < length c.loop-receipt.receipts = omega arith in
    let e = c.in_ok-reserve.ensures in
    record {
      lists = unchanged c.loop-receipt.receipts c.loop-receipt.receipt-index c.receipt-item.result c.reserve.new.self there e.lists ∙ c.loop-receipt.invariant.lists;
      room = subst (All HasRoom) (sym (take_more_set c.loop-receipt.receipts c.loop-receipt.receipt-index c.reserve.new.self there)) (All-push HasRoom (take c.loop-receipt.receipt-index c.loop-receipt.receipts) c.reserve.new.self c.loop-receipt.invariant.room e.room);
    }

pub returns-clause-room : goal.returns-clause-room
returns-clause-room c = subst (All HasRoom) (take_all c.loop-receipt.receipt-index c.loop-receipt.receipts (omega arith)) c.loop-receipt.invariant.room
