use Rattle.std.proofs.Common.{◌≡◌, ◌∙◌, ◌-◌, [], ◌∷◌, ◌++◌, sym, ap, subst, refl, List, length, map, IsSome, All, arith, inl, inr}
use Rattle.std.proofs.lemmas.List.Elements.{All-head, All-rest}
use Rattle.std.specs.Vec.Iter.{into_iter_items}
use Rattle.table_open.specs.declared.file.OpenFile.{OpenFile}
use Rattle.table_open.specs.Ready.{file_seen, IsReady}
use Rattle.plan_tables.proofs.FileLaws.{ReadSoFar, none_read, more_read, all_read, none_left, rose_before, rose_after}
use Rattle.plan_tables.proofs.read.read_files.Goals as goal

pub loop-file-init : goal.loop-file-init
loop-file-init g c =
    let bytes = g.F.R.Reader.bytes in
    let relation = c.args.read.now.relation in
    let types = c.args.read.now.types.now in
    let gives = c.into_iter-file-iterator.ensures.into_iter_gives in
    let all = map (file_seen bytes) c.args.table.items in
    let batches = c.args.batches.now.items in
    record {
      ready = subst (All (IsReady bytes types)) (sym gives.0) c.requires.ready;
      tells = λ told. subst (All (λ file. IsSome (bytes file.reader))) (sym gives.0) told;
      read = λ told files has.
          subst (λ left. ReadSoFar relation types (files ++ all) (map (file_seen bytes) left) batches c.args.so_far) (sym gives.0) (none_read relation types files all batches c.args.so_far has);
      typed = λ h. h;
      faults = λ h. h;
      never_falls = omega arith;
      failed = λ e. inl e;
      files = refl;
      write_faults = refl;
      lent = ap (λ (left : List (OpenFile g.row.F-R.Denot)). g.F.Folder.lent c.args.folder.now - length left) (sym gives.0);
    }

pub read_one-end-requires-clause-ready : goal.read_one-end-requires-clause-ready
read_one-end-requires-clause-ready g c κs within =
    let ready = IsReady g.F.R.Reader.bytes c.args.read.now.types.now in
    All-head ready c.in-Some.file (into_iter_items c.next.new.self) (subst (All ready) c.in-Some.ensures.steps.0 c.loop-file.invariant.ready)

pub loop-file-preserved : goal.loop-file-preserved
loop-file-preserved g c =
    let bytes = g.F.R.Reader.bytes in
    let relation = c.args.read.now.relation in
    let types = c.args.read.now.types.now in
    let before = c.loop-file.invariant in
    let step = c.in-Some.ensures.steps.0 in
    let file = c.in-Some.file in
    let rest = into_iter_items c.next.new.self in
    let all = map (file_seen bytes) c.args.table.items in
    let next = c.read_one-end.ensures in
    record {
      ready = All-rest (IsReady bytes types) file rest _ step before.ready;
      tells = λ told. All-rest (λ x. IsSome (bytes x.reader)) file rest _ step (before.tells told);
      read = λ told files has. more_read relation types (files ++ all) (file_seen bytes file ∷ []) (map (file_seen bytes) rest) c.loop-file.batches.items c.read_one-end.new.batches.items c.loop-file.end c.read_one-end.result
          (subst (λ left. ReadSoFar relation types (files ++ all) (map (file_seen bytes) left) c.loop-file.batches.items c.loop-file.end) step (before.read told files has))
          (next.read (All-head (λ x. IsSome (bytes x.reader)) file rest (subst (All (λ x. IsSome (bytes x.reader))) step (before.tells told))));
      typed = λ h. next.typed (before.typed h);
      faults = λ h. next.faults (before.faults h);
      never_falls = omega (arith, before.never_falls, next.never_falls);
      failed = λ e. elim (next.failed e) [
        | inl was ↦ elim (before.failed was) [ inl first ↦ inl first | inr rose ↦ inr (rose_before _ _ _ rose next.never_falls) ]
        | inr rose ↦ inr (rose_after _ _ _ before.never_falls rose)
      ];
      files = next.files ∙ before.files;
      write_faults = next.write_faults ∙ before.write_faults;
      lent = omega (arith, before.lent, next.lent, ap length step);
    }

pub returns-clause-read : goal.returns-clause-read
returns-clause-read g c = λ told files has.
    let bytes = g.F.R.Reader.bytes in
    let relation = c.args.read.now.relation in
    let types = c.args.read.now.types.now in
    let left = into_iter_items c.loop-file.file-iterator in
    let batches = c.loop-file.batches.items in
    let all = files ++ map (file_seen bytes) c.args.table.items in
    let none : left ≡ [] = none_left left (omega (arith, c.in-None.ensures.steps.0)) in
    all_read relation types all batches c.loop-file.end
    (subst (λ (files_left : List (OpenFile g.row.F-R.Denot)). ReadSoFar relation types all (map (file_seen bytes) files_left) batches c.loop-file.end) none (c.loop-file.invariant.read told files has))
