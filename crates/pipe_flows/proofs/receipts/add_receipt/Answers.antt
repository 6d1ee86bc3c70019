use Rattle.std.proofs.Common.{refl, sym}
use Rattle.std.specs.Prelude.{vec_len}
use Rattle.pipe_flows.proofs.ReceiptLaws.{receipt_added}
use Rattle.pipe_flows.proofs.receipts.add_receipt.Goals as goal

pub returns : goal.returns
returns c =
    let a = c.args in
    record {
      added =
          receipt_added (vec_len a.workers) (a.relation, a.batches) (record { relation = a.relation; batches = a.batches; left = a.left; workers = a.workers }) a.receipts.now.items c.push.new.self.items c.in_ok-push.ensures.items
          (record { relation = refl; batches = refl; seats = sym a.workers.ok.0; balanced = c.requires.balanced });
    }
