use Rattle.std.proofs.Common.{List}
use Rattle.std.specs.Vec.Iter.{into_iter_items}
use Rattle.sub_types.specs.declared.kind.Ty.{Ty}
use Rattle.plan_tables.specs.Open.{AreReady, count_files}
use Rattle.open_blocks.specs.Apart.{HasRoom, files_of}
use Rattle.open_blocks.proofs.TakenLaws.{TakenSoFar}
use Rattle.open_blocks.proofs.apart.take_tables.Given as goal

-- the files so far, and what is so of the tables that are left
abbrev pub invariant-loop-table : goal.invariant-loop-table
invariant-loop-table g l = record {
  taken : TakenSoFar (files_of l.fn.opened.items) (files_of (into_iter_items l.table-iterator)) l.initial.apart l.apart;
  room : HasRoom (count_files (into_iter_items l.table-iterator)) l.apart;
  ready : (types : List Ty) × AreReady g.R.Reader.bytes types (into_iter_items l.table-iterator);
}
