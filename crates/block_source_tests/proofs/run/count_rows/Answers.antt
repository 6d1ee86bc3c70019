use Rattle.std.proofs.Common.{map, sum_by, Some}
use Rattle.block_source_tests.proofs.Failing.{always, rose_where}
use Rattle.block_source_tests.proofs.run.count_rows.Goals as goal

pub returns-clause-reads : goal.returns-clause-reads
returns-clause-reads g c = always c.settle.result _ c.in_ok-round.ensures.reads

pub returns-clause-cause : goal.returns-clause-cause
returns-clause-cause g c = record {
  never_falls = c.in_ok-round.ensures.cause.never_falls;
  failed = λ is. rose_where c.in_ok-round.round.outs.items _ _ _ _ c.in_ok-round.ensures.made (c.settle.ensures.failed is);
}
