use Rattle.std.proofs.Common.{length, map, get_or, arith, ap, sym, subst, ◌∙◌}
use Rattle.block_source.specs.declared.source.TableSeen.{TableSeen}
use Rattle.block_source.specs.Seen.{GivesNumber}
use Rattle.block_source.proofs.FreshLaws.{same_at}
use Rattle.block_source.proofs.Joining.{raised_later}
use Rattle.block_source.proofs.Once.{once_over}
use Rattle.block_source.proofs.Results.{ok_at, on_ok_at}
use Rattle.block_source.proofs.round.run_blocks.Goals as goal

pub absorb_labours-requires-clause-tables : goal.absorb_labours-requires-clause-tables
absorb_labours-requires-clause-tables g c = λ k d below.
    let s = same_at _ c.in_ok-labours.labours.items c.run_round-round.new.labours.items c.run_round-round.ensures.about k d below in
    ap (λ (a : TableSeen × g.row.W-Sense.Denot). a.0.files) s.1 ∙ (c.in_ok-labours.ensures.unused k d s.0).files_are

pub returns-clause-made : goal.returns-clause-made
returns-clause-made g c = λ k d below.
    let files = c.args.table.now.files.items in
    let bytes = map g.R.Reader.bytes c.args.readers.now.items in
    let sense = g.W.Work.sense in
    let out = get_or c.in_ok-round.round.outs.items k d in
    let fair = ok_at c.run_round-round.result c.in_ok-round.round _ c.in_ok-round.was c.run_round-round.ensures.fair in
    let f = fair (record { files = files; bytes = bytes }, sense c.args.work)
    (λ j e low.
    let u = c.in_ok-labours.ensures.unused j e low in
    let w = c.in_ok-labours.ensures.work j e low in
    λ i. (record { files = u.files_are i; bytes = u.bytes_are i }, sense (w i))) k d below in
    let number = sym f.3.1 in
    record {
      given = f.0.value;
      gives = subst (λ n. GivesNumber files bytes n f.0.value) number f.1;
      failed = λ is. raised_later _ _ _ c.in_ok-labours.ensures.cause.never_falls (c.absorb_labours.ensures.faults.rose (f.2 is));
      made_of = subst (λ n. g.W.Work.makes (sense c.args.work) n f.0.value out.value) number f.3.0;
    }

pub returns-clause-reads : goal.returns-clause-reads
returns-clause-reads g c =
    let table = c.args.table.now in
    once_over _ c.run_round-round.new.labours.items table.files.items (map g.R.Reader.reads c.args.readers.now.items) _ _ c.len.result
    (omega (arith, c.len.ensures, table.places.ok.0, ap length table.placed)) c.in_ok-labours.ensures.reads
    (on_ok_at c.run_round-round.result c.in_ok-round.round _ c.in_ok-round.was c.run_round-round.ensures.loaded)
    c.in_ok-absorb_labours.ensures.reads
