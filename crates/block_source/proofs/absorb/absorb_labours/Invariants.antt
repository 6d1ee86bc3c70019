use Rattle.std.proofs.Common.{◌≡◌, true, All, map, sum_by, vec_len}
use Rattle.block_source.specs.Absorbed.{IsRaised}
use Rattle.block_source.specs.Bodies.{reading}
use Rattle.block_source.specs.Told.{AreGained}
use Rattle.block_source.proofs.absorb.absorb_labours.Given as goal

abbrev pub invariant-loop-labour : goal.invariant-loop-labour
invariant-loop-labour g l = record {
  tables : All (λ o. o.source.table.now.files.items ≡ l.fn.table.files.items) l.labours.items;
  reads : l.complete ≡ true → AreGained (reading l.fn.table.files.items) (map g.R.Reader.reads l.fn.readers.items) (map g.R.Reader.reads l.readers.items)
      (map (λ o. o.source.loaded.items) l.labours.items) (map (λ o. o.source.loaded.items) l.fn.labours.items);
  faults : IsRaised (sum_by g.R.Reader.faults l.fn.readers.items) (sum_by g.R.Reader.faults l.readers.items)
      (sum_by (λ o. sum_by g.R.Reader.faults o.source.readers.items) l.labours.items) (sum_by (λ o. sum_by g.R.Reader.faults o.source.readers.items) l.fn.labours.items);
  bytes : map g.R.Reader.bytes l.readers.items ≡ map g.R.Reader.bytes l.fn.readers.items;
  count : vec_len l.readers ≡ vec_len l.fn.readers;
}

abbrev pub decreases-loop-labour : goal.decreases-loop-labour
decreases-loop-labour g l = vec_len l.labours
