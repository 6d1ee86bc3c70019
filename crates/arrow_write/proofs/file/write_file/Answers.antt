use Rattle.std.proofs.Common.{◌≡◌, ◌++◌, ◌∙◌, [], length, map, ap, refl, arith}
use Rattle.std.specs.List.{flat_map}
use Rattle.world.specs.Files.{written, appended, IsPartWritten}
use Rattle.batch.specs.BatchRows.{rows_of}
use Rattle.arrow_meta.specs.File.{file_head, file_of}
use Rattle.fb_bytes.specs.Layout.{buffer_of}
use Rattle.arrow_meta.specs.Messages.{footer_laid}
use Rattle.arrow_meta.specs.Meta.{place_of}
use Rattle.arrow_write.specs.Pieces.{ended, IsPartAppended}
use Rattle.arrow_write.proofs.Parts.{has_after, after_append, on_ok, on_err, at_err}
use Rattle.arrow_write.proofs.FileParts.{messages, tail_is, part_of_head, part_of_messages, part_before_tail, part_of_tail, whole_file}
use Rattle.arrow_write.proofs.file.write_file.Goals as goal

pub append-requires-after_bounds : goal.append-requires-after_bounds
append-requires-after_bounds g c κs within =
    has_after (g.F.Folder.files c.args.folder.now) (g.F.Folder.files c.create.new.folder) c.args.name.now [] c.in_ok-create.ensures.ok

pub returns-in_err-append-clause-err : goal.returns-in_err-append-clause-err
returns-in_err-append-clause-err g c =
    let rows = flat_map rows_of c.args.batches.now in
    let before = g.F.Folder.files c.args.folder.now in
    let now = g.F.Folder.files c.append.new.folder in
    at_err (IsPartWritten before now c.args.name.now (file_of c.args.names.now c.args.types.now rows)) c.from_residual-in_err-append.result
    (part_of_head before (g.F.Folder.files c.create.new.folder) now c.args.name.now c.deref.result.now c.args.names.now c.args.types.now rows (c.deref.ensures.value ∙ c.in_ok-head.ensures.bytes) c.in_ok-create.ensures.ok c.in_err-append.ensures.err)

pub append_batches-requires-clause-has : goal.append_batches-requires-clause-has
append_batches-requires-clause-has g c κs within =
    let before = g.F.Folder.files c.args.folder.now in
    let head = file_head c.args.names.now c.args.types.now in
    let after = after_append before (g.F.Folder.files c.create.new.folder) (g.F.Folder.files c.append.new.folder) c.args.name.now [] head c.deref.result.now (c.deref.ensures.value ∙ c.in_ok-head.ensures.bytes) c.in_ok-create.ensures.ok c.in_ok-append.ensures.ok in
    has_after before (g.F.Folder.files c.append.new.folder) c.args.name.now head after

pub returns-in_err-blocks-clause-err : goal.returns-in_err-blocks-clause-err
returns-in_err-blocks-clause-err g c =
    let rows = flat_map rows_of c.args.batches.now in
    let before = g.F.Folder.files c.args.folder.now in
    let now = g.F.Folder.files c.append_batches.new.folder in
    let head = file_head c.args.names.now c.args.types.now in
    let after = after_append before (g.F.Folder.files c.create.new.folder) (g.F.Folder.files c.append.new.folder) c.args.name.now [] head c.deref.result.now (c.deref.ensures.value ∙ c.in_ok-head.ensures.bytes) c.in_ok-create.ensures.ok c.in_ok-append.ensures.ok in
    at_err (IsPartWritten before now c.args.name.now (file_of c.args.names.now c.args.types.now rows)) c.from_residual-in_err-blocks.result
    (part_of_messages before (g.F.Folder.files c.append.new.folder) now c.args.name.now c.args.names.now c.args.types.now rows after c.in_err-blocks.ensures.err)

pub returns-in_err-tail-clause-err : goal.returns-in_err-tail-clause-err
returns-in_err-tail-clause-err g c =
    let rows = flat_map rows_of c.args.batches.now in
    let before = g.F.Folder.files c.args.folder.now in
    let now = g.F.Folder.files c.append_batches.new.folder in
    let head = file_head c.args.names.now c.args.types.now in
    let all = messages c.args.types.now rows in
    let after = after_append before (g.F.Folder.files c.create.new.folder) (g.F.Folder.files c.append.new.folder) c.args.name.now [] head c.deref.result.now (c.deref.ensures.value ∙ c.in_ok-head.ensures.bytes) c.in_ok-create.ensures.ok c.in_ok-append.ensures.ok in
    let both = after_append before (g.F.Folder.files c.append.new.folder) now c.args.name.now head all all refl after c.in_ok-blocks.ensures.ok in
    at_err (IsPartWritten before now c.args.name.now (file_of c.args.names.now c.args.types.now rows)) c.from_residual-in_err-tail.result (part_before_tail before now c.args.name.now c.args.names.now c.args.types.now rows both)

pub append-requires-2-after_bounds : goal.append-requires-2-after_bounds
append-requires-2-after_bounds g c κs within =
    let rows = flat_map rows_of c.args.batches.now in
    let before = g.F.Folder.files c.args.folder.now in
    let now = g.F.Folder.files c.append_batches.new.folder in
    let head = file_head c.args.names.now c.args.types.now in
    let all = messages c.args.types.now rows in
    let after = after_append before (g.F.Folder.files c.create.new.folder) (g.F.Folder.files c.append.new.folder) c.args.name.now [] head c.deref.result.now (c.deref.ensures.value ∙ c.in_ok-head.ensures.bytes) c.in_ok-create.ensures.ok c.in_ok-append.ensures.ok in
    let both = after_append before (g.F.Folder.files c.append.new.folder) now c.args.name.now head all all refl after c.in_ok-blocks.ensures.ok in
    has_after before now c.args.name.now (head ++ all) both

pub returns-clause-ok : goal.returns-clause-ok
returns-clause-ok g c =
    let names = c.args.names.now in
    let types = c.args.types.now in
    let rows = flat_map rows_of c.args.batches.now in
    let before = g.F.Folder.files c.args.folder.now in
    let mid = g.F.Folder.files c.append_batches.new.folder in
    let now = g.F.Folder.files c.append-2.new.folder in
    let head = file_head names types in
    let all = messages types rows in
    let after = after_append before (g.F.Folder.files c.create.new.folder) (g.F.Folder.files c.append.new.folder) c.args.name.now [] head c.deref.result.now (c.deref.ensures.value ∙ c.in_ok-head.ensures.bytes) c.in_ok-create.ensures.ok c.in_ok-append.ensures.ok in
    let both = after_append before (g.F.Folder.files c.append.new.folder) mid c.args.name.now head all all refl after c.in_ok-blocks.ensures.ok in
    let start : c.len.result ≡ length head = omega (arith, c.len.ensures, c.in_ok-head.head.ok.0, ap length c.in_ok-head.ensures.bytes) in
    let tail = c.deref-3.ensures.value ∙ c.in_ok-tail.ensures ∙ ap (λ blocks. ended (buffer_of (footer_laid names types (map place_of blocks)))) c.deref-2.ensures.value
    ∙ tail_is names types rows (map place_of c.in_ok-blocks.blocks.items) c.len.result start c.in_ok-blocks.ensures.blocks in
    on_ok (now ≡ appended mid c.args.name.now c.deref-3.result.now) (now ≡ written before c.args.name.now (file_of names types rows)) c.append-2.result (whole_file before mid now c.args.name.now c.deref-3.result.now names types rows tail both) c.append-2.ensures.ok

pub returns-clause-err : goal.returns-clause-err
returns-clause-err g c =
    let names = c.args.names.now in
    let types = c.args.types.now in
    let rows = flat_map rows_of c.args.batches.now in
    let before = g.F.Folder.files c.args.folder.now in
    let mid = g.F.Folder.files c.append_batches.new.folder in
    let now = g.F.Folder.files c.append-2.new.folder in
    let head = file_head names types in
    let all = messages types rows in
    let after = after_append before (g.F.Folder.files c.create.new.folder) (g.F.Folder.files c.append.new.folder) c.args.name.now [] head c.deref.result.now (c.deref.ensures.value ∙ c.in_ok-head.ensures.bytes) c.in_ok-create.ensures.ok c.in_ok-append.ensures.ok in
    let both = after_append before (g.F.Folder.files c.append.new.folder) mid c.args.name.now head all all refl after c.in_ok-blocks.ensures.ok in
    let start : c.len.result ≡ length head = omega (arith, c.len.ensures, c.in_ok-head.head.ok.0, ap length c.in_ok-head.ensures.bytes) in
    let tail = c.deref-3.ensures.value ∙ c.in_ok-tail.ensures ∙ ap (λ blocks. ended (buffer_of (footer_laid names types (map place_of blocks)))) c.deref-2.ensures.value
    ∙ tail_is names types rows (map place_of c.in_ok-blocks.blocks.items) c.len.result start c.in_ok-blocks.ensures.blocks in
    on_err (IsPartAppended mid now c.args.name.now c.deref-3.result.now) (IsPartWritten before now c.args.name.now (file_of names types rows)) c.append-2.result (part_of_tail before mid now c.args.name.now c.deref-3.result.now names types rows tail both) c.append-2.ensures.err
