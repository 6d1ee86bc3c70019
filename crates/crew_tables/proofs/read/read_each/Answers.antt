use Rattle.std.proofs.Common.{◌≡◌, ◌∙◌, ◌-◌, [], Ok, sym, ap, subst, refl, List, arith, inl, inr}
use Rattle.std.proofs.lemmas.List.Elements.{All-head, All-rest}
use Rattle.std.proofs.lemmas.List.Sums.{sum_by-cons}
use Rattle.std.specs.Vec.Iter.{into_iter_items}
use Rattle.plan_tables.specs.declared.open.OpenRead.{OpenRead}
use Rattle.plan_tables.specs.Open.{AreReady, AllReady, count_files, count_open}
use Rattle.plan_tables.specs.Read.{IsReadOf}
use Rattle.plan_tables.proofs.FileLaws.{none_left, rose_before, rose_after}
use Rattle.crew_tables.specs.Receipts.{IsReceiptFor}
use Rattle.crew_tables.proofs.AddedLaws.{SoFar, none_so_far, one_so_far, all_so_far}
use Rattle.crew_tables.proofs.read.read_each.Goals as goal

pub loop-one-init : goal.loop-one-init
loop-one-init g c =
    let bytes = g.F.R.Reader.bytes in
    let gives = c.into_iter-one-iterator.ensures.into_iter_gives in
    let all = c.args.opened.items in
    let tables = c.args.all.now.tables.items in
    let receipts = c.args.all.now.receipts.items in
    record {
      ready = subst (AllReady bytes) (sym gives.0) c.requires.ready;
      tables = subst (λ left. SoFar (IsReadOf bytes) all left tables tables (Ok tt)) (sym gives.0) (none_so_far (IsReadOf bytes) all tables);
      receipts = subst (λ left. SoFar (IsReceiptFor bytes c.args.crew.now.workers) all left receipts receipts (Ok tt)) (sym gives.0) (none_so_far (IsReceiptFor bytes c.args.crew.now.workers) all receipts);
      never_falls = omega arith;
      failed = λ e. absurd (cc);
      files = refl;
      write_faults = refl;
      lent = ap (λ (left : List (OpenRead g.row.F-R.Denot)). g.F.Folder.lent c.args.folder.now - count_open left) (sym gives.0);
    }

pub read_next-so_far-requires-clause-ready : goal.read_next-so_far-requires-clause-ready
read_next-so_far-requires-clause-ready g c κs within =
    let bytes = g.F.R.Reader.bytes in
    All-head (λ (o : OpenRead g.row.F-R.Denot). AreReady bytes o.read.types o.tables.items) c.in-Some.one (into_iter_items c.next.new.self) (subst (AllReady bytes) c.in-Some.ensures.steps.0 c.loop-one.invariant.ready)

pub loop-one-preserved : goal.loop-one-preserved
loop-one-preserved g c =
    let bytes = g.F.R.Reader.bytes in
    let before = c.loop-one.invariant in
    let step = c.in-Some.ensures.steps.0 in
    let one = c.in-Some.one in
    let rest = into_iter_items c.next.new.self in
    let next = c.read_next-so_far.ensures in
    record {
      ready = All-rest (λ (o : OpenRead g.row.F-R.Denot). AreReady bytes o.read.types o.tables.items) one rest _ step before.ready;
      tables = one_so_far (IsReadOf bytes) c.args.opened.items _ one rest _ _ _ _ _ step before.tables next.stays next.tables;
      receipts = one_so_far (IsReceiptFor bytes c.args.crew.now.workers) c.args.opened.items _ one rest _ _ _ _ _ step before.receipts next.stays next.receipts;
      never_falls = omega (arith, before.never_falls, next.never_falls);
      failed = λ e. elim (next.failed e) [
        | inl was ↦ rose_before _ _ _ (before.failed was) next.never_falls
        | inr rose ↦ rose_after _ _ _ before.never_falls rose
      ];
      files = next.files ∙ before.files;
      write_faults = next.write_faults ∙ before.write_faults;
      lent = omega (arith, before.lent, next.lent, ap count_open step, sum_by-cons (λ (o : OpenRead g.row.F-R.Denot). count_files o.tables.items) one rest);
    }

pub returns-clause-tables : goal.returns-clause-tables
returns-clause-tables g c =
    let left = into_iter_items c.loop-one.one-iterator in
    let none : left ≡ [] = none_left left (omega (arith, c.in-None.ensures.steps.0)) in
    all_so_far (IsReadOf g.F.R.Reader.bytes) c.args.opened.items left c.args.all.now.tables.items c.loop-one.all.tables.items c.loop-one.so_far none c.loop-one.invariant.tables

pub returns-clause-receipts : goal.returns-clause-receipts
returns-clause-receipts g c =
    let left = into_iter_items c.loop-one.one-iterator in
    let none : left ≡ [] = none_left left (omega (arith, c.in-None.ensures.steps.0)) in
    all_so_far (IsReceiptFor g.F.R.Reader.bytes c.args.crew.now.workers) c.args.opened.items left c.args.all.now.receipts.items c.loop-one.all.receipts.items c.loop-one.so_far none c.loop-one.invariant.receipts
