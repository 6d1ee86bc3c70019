use Rattle.std.proofs.Common.{◌≡◌, ℕ, List, map, sum_by, arith, ap, subst, ◌∙◌}
use Rattle.std.proofs.lemmas.List.{map_push, nil_from_length}
use Rattle.hand_off.proofs.Popping.{popped_all, popped_sum}
use Rattle.pipe_labour.specs.declared.labour.PipeLabour.{PipeLabour}
use Rattle.block_source.specs.declared.source.BlockSource.{BlockSource}
use Rattle.block_source.specs.Bodies.{reading}
use Rattle.block_source.specs.Told.{AreGained}
use Rattle.block_source.proofs.Joining.{raised_more}
use Rattle.block_source.proofs.absorb.absorb_labours.Goals as goal

pub loop-labour-preserved : goal.loop-labour-preserved
loop-labour-preserved g c =
    let L = PipeLabour (BlockSource g.row.R.Denot g.R.Reader) g.row.W.Denot g.row.M.Denot in
    let files = c.args.table.now.files.items in
    let loaded : L → List ℕ = λ o. o.source.loaded.items in
    let faults : L → ℕ = λ o. sum_by g.R.Reader.faults o.source.readers.items in
    let e = c.in-Some.ensures in
    let i = c.loop-labour.invariant in
    let a = c.absorb_labour-complete.ensures in
    let labour = c.in-Some.labour in
    let all = c.loop-labour.labours.items in
    let left = c.pop.new.self.items in
    let popped = popped_all (λ (o : L). o.source.table.now.files.items ≡ files) all left labour e.items i.tables in
    record {
      tables = popped.0;
      reads = λ done.
          a.reads done (map g.R.Reader.reads c.args.readers.now.items) (map loaded left) (map loaded all) (map loaded c.args.labours.items)
          (ap (map loaded) e.items ∙ map_push loaded left labour) (i.reads (a.before done));
      faults = raised_more _ _ _ _ _ _ (faults labour) (popped_sum faults all left labour e.items) a.faults.never_falls a.faults.rose i.faults;
      bytes = a.bytes ∙ i.bytes;
      count = a.count ∙ i.count;
    }

pub returns-then-complete-clause-reads : goal.returns-then-complete-clause-reads
returns-then-complete-clause-reads g c =
    let L = PipeLabour (BlockSource g.row.R.Denot g.R.Reader) g.row.W.Denot g.row.M.Denot in
    let loaded : L → List ℕ = λ o. o.source.loaded.items in
    let none = nil_from_length c.loop-labour.labours.items (omega (arith, c.in_default.ensures.cases, c.loop-labour.labours.ok.0)) in
    subst
    (λ (ls : List L). AreGained (reading c.args.table.now.files.items) (map g.R.Reader.reads c.args.readers.now.items) (map g.R.Reader.reads c.loop-labour.readers.items) (map loaded ls) (map loaded c.args.labours.items))
    none (c.loop-labour.invariant.reads c.if-complete.true)
