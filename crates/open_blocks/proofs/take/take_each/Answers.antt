use Rattle.std.proofs.Common.{◌≡◌, ◌∙◌, ◌+◌, [], Ok, sym, ap, subst, refl, arith}
use Rattle.std.proofs.lemmas.List.Elements.{All-head, All-rest}
use Rattle.std.proofs.lemmas.List.Sums.{sum_by-cons}
use Rattle.std.specs.Vec.Iter.{into_iter_items}
use Rattle.plan_tables.specs.declared.open.OpenRead.{OpenRead}
use Rattle.plan_tables.specs.Open.{AreReady, AllReady, count_files, count_open}
use Rattle.plan_tables.proofs.FileLaws.{none_left}
use Rattle.open_blocks.specs.Files.{AreFilesOf, count_readers}
use Rattle.open_blocks.proofs.AddedLaws.{SoFar, none_so_far, one_so_far, all_zip}
use Rattle.open_blocks.proofs.take.take_each.Goals as goal

pub loop-one-init : goal.loop-one-init
loop-one-init g c =
    let bytes = g.F.R.Reader.bytes in
    let gives = c.into_iter-one-iterator.ensures.into_iter_gives in
    let all = c.args.opened.items in
    let old = c.args.all.now.items in
    record {
      ready = subst (AllReady bytes) (sym gives.0) c.requires.ready;
      taken = subst (λ left. SoFar (AreFilesOf bytes) all left old old (Ok tt)) (sym gives.0) (none_so_far (AreFilesOf bytes) all old);
      kept = record { back = 0; lent = omega arith; whole = omega (arith, ap count_readers c.requires.empty, ap count_open gives.0) };
      never_falls = omega arith;
      files = refl;
      write_faults = refl;
    }

pub take_next-so_far-requires-clause-ready : goal.take_next-so_far-requires-clause-ready
take_next-so_far-requires-clause-ready g c κs within =
    let bytes = g.F.R.Reader.bytes in
    All-head (λ (o : OpenRead g.row.F-R.Denot). AreReady bytes o.read.types o.tables.items) c.in-Some.one (into_iter_items c.next.new.self) (subst (AllReady bytes) c.in-Some.ensures.steps.0 c.loop-one.invariant.ready)

pub loop-one-preserved : goal.loop-one-preserved
loop-one-preserved g c =
    let bytes = g.F.R.Reader.bytes in
    let before = c.loop-one.invariant in
    let step = c.in-Some.ensures.steps.0 in
    let one = c.in-Some.one in
    let rest = into_iter_items c.next.new.self in
    let next = c.take_next-so_far.ensures in
    let split = ap count_open step ∙ sum_by-cons (λ (o : OpenRead g.row.F-R.Denot). count_files o.tables.items) one rest in
    record {
      ready = All-rest (λ (o : OpenRead g.row.F-R.Denot). AreReady bytes o.read.types o.tables.items) one rest _ step before.ready;
      taken = one_so_far (AreFilesOf bytes) c.args.opened.items _ one rest _ _ _ _ _ step before.taken next.stays next.taken;
      kept = record {
        back = before.kept.back + next.kept.back;
        lent = omega (arith, before.kept.lent, next.kept.lent);
        whole = omega (arith, before.kept.whole, next.kept.whole, split);
      };
      never_falls = omega (arith, before.never_falls, next.never_falls);
      files = next.files ∙ before.files;
      write_faults = next.write_faults ∙ before.write_faults;
    }

pub returns : goal.returns
returns g c =
    let bytes = g.F.R.Reader.bytes in
    let before = c.loop-one.invariant in
    let left = into_iter_items c.loop-one.one-iterator in
    let none : left ≡ [] = none_left left (omega (arith, c.in-None.ensures.steps.0)) in
    record {
      taken = all_zip (AreFilesOf bytes) c.args.opened.items left _ _ _ none c.requires.empty before.taken;
      kept = record { back = before.kept.back; lent = before.kept.lent; whole = omega (arith, before.kept.whole, ap count_open none) };
      never_falls = before.never_falls;
      files = before.files;
      write_faults = before.write_faults;
    }
