use Rattle.std.proofs.Common.{◌∙◌, ◌-◌, [], sym, ap, subst, refl, List, length, IsSome, All, arith, inl, inr}
use Rattle.std.specs.List.{flat_map}
use Rattle.std.proofs.lemmas.List.Elements.{All-nil, All-head, All-rest}
use Rattle.std.proofs.lemmas.List.Sums.{sum_by-cons}
use Rattle.std.specs.Vec.Iter.{into_iter_items}
use Rattle.table_open.specs.Ready.{IsReady}
use Rattle.table_rows.specs.Blocks.{HoldsTypes}
use Rattle.plan_tables.specs.declared.read.TableEnd.TheVariants.{Whole}
use Rattle.plan_tables.specs.Open.{OpenTable, table_seen, AreTold, AreReady, count_files}
use Rattle.plan_tables.proofs.FileLaws.{ReadSoFar, none_read, nothing_read, more_read, rose_before, rose_after}
use Rattle.plan_tables.proofs.read.read_parts.Goals as goal

pub loop-table-init : goal.loop-table-init
loop-table-init g c =
    let bytes = g.F.R.Reader.bytes in
    let relation = c.args.read.now.relation in
    let types = c.args.read.now.types.now in
    let gives = c.into_iter-table-iterator.ensures.into_iter_gives in
    let all = flat_map (table_seen bytes) c.args.opened.items in
    let batches = c.args.batches.now.items in
    record {
      ready = subst (AreReady bytes types) (sym gives.0) c.requires.ready;
      tells = λ told. subst (AreTold bytes) (sym gives.0) told;
      read = λ told. subst (λ left. ReadSoFar relation types all (flat_map (table_seen bytes) left) batches Whole) (sym gives.0)
          (none_read relation types [] all batches Whole (nothing_read relation types batches c.requires.empty));
      typed = subst (All (HoldsTypes types)) (sym c.requires.empty) (All-nil (HoldsTypes types));
      faults = tt;
      never_falls = omega arith;
      failed = λ e. absurd (cc);
      files = refl;
      write_faults = refl;
      lent = ap (λ (left : List (OpenTable g.row.F-R.Denot)). g.F.Folder.lent c.args.folder.now - count_files left) (sym gives.0);
    }

pub read_files-end-requires-clause-ready : goal.read_files-end-requires-clause-ready
read_files-end-requires-clause-ready g c κs within =
    let bytes = g.F.R.Reader.bytes in
    let types = c.args.read.now.types.now in
    All-head (λ (t : OpenTable g.row.F-R.Denot). All (IsReady bytes types) t.items) c.in-Some.table (into_iter_items c.next.new.self) (subst (AreReady bytes types) c.in-Some.ensures.steps.0 c.loop-table.invariant.ready)

pub loop-table-preserved : goal.loop-table-preserved
loop-table-preserved g c =
    let bytes = g.F.R.Reader.bytes in
    let relation = c.args.read.now.relation in
    let types = c.args.read.now.types.now in
    let before = c.loop-table.invariant in
    let step = c.in-Some.ensures.steps.0 in
    let table = c.in-Some.table in
    let rest = into_iter_items c.next.new.self in
    let all = flat_map (table_seen bytes) c.args.opened.items in
    let next = c.read_files-end.ensures in
    let is_ready = λ (t : OpenTable g.row.F-R.Denot). All (IsReady bytes types) t.items in
    let is_told = λ (t : OpenTable g.row.F-R.Denot). All (λ file. IsSome (bytes file.reader)) t.items in
    record {
      ready = All-rest is_ready table rest _ step before.ready;
      tells = λ told. All-rest is_told table rest _ step (before.tells told);
      read = λ told. more_read relation types all (table_seen bytes table) (flat_map (table_seen bytes) rest) c.loop-table.batches.items c.read_files-end.new.batches.items c.loop-table.end c.read_files-end.result
          (subst (λ left. ReadSoFar relation types all (flat_map (table_seen bytes) left) c.loop-table.batches.items c.loop-table.end) step (before.read told))
          (next.read (All-head is_told table rest (subst (AreTold bytes) step (before.tells told))));
      typed = next.typed before.typed;
      faults = next.faults before.faults;
      never_falls = omega (arith, before.never_falls, next.never_falls);
      failed = λ e. elim (next.failed e) [
        | inl was ↦ rose_before _ _ _ (before.failed was) next.never_falls
        | inr rose ↦ rose_after _ _ _ before.never_falls rose
      ];
      files = next.files ∙ before.files;
      write_faults = next.write_faults ∙ before.write_faults;
      lent = omega (arith, before.lent, next.lent, ap count_files step, sum_by-cons (λ (t : OpenTable g.row.F-R.Denot). length t.items) table rest);
    }
