use Rattle.std.proofs.Common.{sym, subst}
use Rattle.run_core.specs.Receipts.{IsBalanced}
use Rattle.run_words.specs.Alone.{workers_alone}
use Rattle.run_words.proofs.AloneLaws.{balanced_alone}
use Rattle.run_words.proofs.receipts.one_receipt.Goals as goal

pub returns-clause-balanced : goal.returns-clause-balanced
returns-clause-balanced c =
    subst (λ lists. IsBalanced c.args.batches lists c.new.result.items) (sym c.in_ok-worker_receipts.ensures.lists)
    (subst (IsBalanced c.args.batches (workers_alone c.args.batches c.args.workers)) (sym c.new.ensures.items) (balanced_alone c.args.batches c.args.workers))
