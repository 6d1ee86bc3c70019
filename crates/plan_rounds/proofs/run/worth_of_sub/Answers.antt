use Rattle.std.proofs.Common.{◌∙◌, Option, sym, ap}
use Rattle.std.specs.List.{flat_map}
use Rattle.sub_types.specs.declared.fault.Fault.{Fault}
use Rattle.batch.specs.BatchRows.{rows_of}
use Rattle.plan_denote.specs.Subqueries.{worth_of, worth_unless}
use Rattle.piece_batches.specs.Ended.{ended_stream}
use Rattle.plan_rounds.proofs.run.worth_of_sub.Goals as goal

pub returns-in-Some-clause-worth : goal.returns-in-Some-clause-worth
returns-in-Some-clause-worth g c = record {
  rows = ended_stream c.in_ok-all.all;
  are = c.in_ok-all.ensures.rows;
  worth = ap (λ (end : Option Fault). worth_unless end (worth_of c.args.sub.now.rel c.args.sub.now.kind (ended_stream c.in_ok-all.all).rows)) (sym c.in-Some.is);
}

pub returns-clause-worth : goal.returns-clause-worth
returns-clause-worth g c = record {
  rows = ended_stream c.in_ok-all.all;
  are = c.in_ok-all.ensures.rows;
  worth = c.in_ok-worth.ensures ∙ ap (λ batches. worth_of c.args.sub.now.rel c.args.sub.now.kind (flat_map rows_of batches)) c.deref.ensures.value
      ∙ ap (λ (end : Option Fault). worth_unless end (worth_of c.args.sub.now.rel c.args.sub.now.kind (ended_stream c.in_ok-all.all).rows)) (sym c.in_default.is);
}
