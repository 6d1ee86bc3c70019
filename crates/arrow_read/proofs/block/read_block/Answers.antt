use Rattle.std.proofs.Common.{rules, ◌∙◌, ◌<◌, ℕ, List, Some, Err, length, map, take, drop, Vec, Global, sym, ap, subst, arith, refl}
use Rattle.std.specs.Option.{option_map}
use Rattle.arrow_meta.specs.Batch.{rows_in}
use Rattle.arrow_meta.specs.Table.{shapes_of}
use Rattle.arrow_decode.specs.declared.raw.Raw.{Raw}
use Rattle.arrow_decode.specs.Seen.{wanted_with}
use Rattle.arrow_decode.specs.RawColumn.{IsWanted}
use Rattle.std.specs.List.{All}
use Rattle.arrow_read.specs.BlockReads.{body_start, body_len, reads_block}
use Rattle.arrow_read.specs.Seen.{head_seen}
use Rattle.arrow_read.specs.Known.{known_column}
use Rattle.arrow_read.proofs.BlockLaws.{item_at, found, no_rows, reads_err, reads_ok, never_bad, good_placed}
use Rattle.arrow_read.proofs.WantedLaws.{wanted_is, all_wanted}
use Rattle.arrow_read.proofs.block.read_block.Goals as goal

pub returns-in_default-clause-bad_rows : goal.returns-in_default-clause-bad_rows
returns-in_default-clause-bad_rows g c = λ _ told is.
    let head = c.args.head.now in
    let below : c.args.block < length head.metas.items = omega (arith, c.requires.exists, head.same_count, head.metas.ok.0, head.blocks.ok.0) in
    let bad = item_at head.metas.items c.args.block c.index.result.now below c.index.ensures ∙ ap (λ m. Some m) c.in_default.is in
    no_rows told (head_seen head) c.args.block c.args.wanted.now (c.requires.head told is) bad

pub returns-in_err-meta-clause-bad : goal.returns-in_err-meta-clause-bad
returns-in_err-meta-clause-bad g c =
    let head = c.args.head.now in
    let below : c.args.block < length head.metas.items = omega (arith, c.requires.exists, head.same_count, head.metas.ok.0, head.blocks.ok.0) in
    let good = item_at head.metas.items c.args.block c.index.result.now below c.index.ensures ∙ ap (λ m. Some m) c.in-Some.is in
    never_bad c.from_residual.result head.metas.items c.args.block c.in-Some.meta good (search rules)

pub returns-in_err-columns-clause-bad : goal.returns-in_err-columns-clause-bad
returns-in_err-columns-clause-bad g c =
    let head = c.args.head.now in
    let below : c.args.block < length head.metas.items = omega (arith, c.requires.exists, head.same_count, head.metas.ok.0, head.blocks.ok.0) in
    let good = item_at head.metas.items c.args.block c.index.result.now below c.index.ensures ∙ ap (λ m. Some m) c.in-Some.is in
    never_bad c.from_residual-in_err-columns.result head.metas.items c.args.block c.in-Some.meta good (search rules)

pub returns-in_err-shapes-clause-bad : goal.returns-in_err-shapes-clause-bad
returns-in_err-shapes-clause-bad g c =
    let head = c.args.head.now in
    let below : c.args.block < length head.metas.items = omega (arith, c.requires.exists, head.same_count, head.metas.ok.0, head.blocks.ok.0) in
    let good = item_at head.metas.items c.args.block c.index.result.now below c.index.ensures ∙ ap (λ m. Some m) c.in-Some.is in
    never_bad c.from_residual-in_err-shapes.result head.metas.items c.args.block c.in-Some.meta good (search rules)

pub read_body-requires-clause-placed : goal.read_body-requires-clause-placed
read_body-requires-clause-placed g c =
    let head = c.args.head.now in
    let below : c.args.block < length head.metas.items = omega (arith, c.requires.exists, head.same_count, head.metas.ok.0, head.blocks.ok.0) in
    let inside : c.args.block < length head.blocks.items = omega (arith, c.requires.exists, head.blocks.ok.0) in
    let good = item_at head.metas.items c.args.block c.index.result.now below c.index.ensures ∙ ap (λ m. Some m) c.in-Some.is in
    let at = item_at head.blocks.items c.args.block c.index-2.result.now inside c.index-2.ensures in
    good_placed head.blocks.items head.metas.items c.args.block c.index-2.result.now c.in-Some.meta head.placed at good

pub read_body-requires-clause-within : goal.read_body-requires-clause-within
read_body-requires-clause-within g c = λ told is.
    let head = c.args.head.now in
    let below : c.args.block < length head.metas.items = omega (arith, c.requires.exists, head.same_count, head.metas.ok.0, head.blocks.ok.0) in
    let inside : c.args.block < length head.blocks.items = omega (arith, c.requires.exists, head.blocks.ok.0) in
    let good = item_at head.metas.items c.args.block c.index.result.now below c.index.ensures ∙ ap (λ m. Some m) c.in-Some.is in
    let at = item_at head.blocks.items c.args.block c.index-2.result.now inside c.index-2.ensures in
    let there = found told (head_seen head) c.args.block c.index-2.result.now c.in-Some.meta (c.requires.head told is) at good in
    there.within

pub returns-in_err-body-clause-bad : goal.returns-in_err-body-clause-bad
returns-in_err-body-clause-bad g c =
    let head = c.args.head.now in
    let below : c.args.block < length head.metas.items = omega (arith, c.requires.exists, head.same_count, head.metas.ok.0, head.blocks.ok.0) in
    let good = item_at head.metas.items c.args.block c.index.result.now below c.index.ensures ∙ ap (λ m. Some m) c.in-Some.is in
    let never = c.in_err-body.ensures.good in
    never_bad c.from_residual-in_err-body.result head.metas.items c.args.block c.in-Some.meta good (search (rules, never))

pub returns-in_err-body-clause-reads : goal.returns-in_err-body-clause-reads
returns-in_err-body-clause-reads g c =
    let head = c.args.head.now in
    let inside : c.args.block < length head.blocks.items = omega (arith, c.requires.exists, head.blocks.ok.0) in
    let at = item_at head.blocks.items c.args.block c.index-2.result.now inside c.index-2.ensures in
    let same = c.in_err-body.ensures.reads ∙ reads_err (Vec ℕ Global) Raw c.in_err-body.field-0.0 (g.R.Reader.reads c.args.r.now) (Some c.index-2.result.now)
    ∙ ap (reads_block {A = Raw} (Err c.in_err-body.field-0.0) (g.R.Reader.reads c.args.r.now)) (sym at) in
    search (rules, same)

pub invariant_of-result : goal.invariant_of-result
invariant_of-result g c =
    let head = c.args.head.now in
    let columns = c.in_ok-columns.columns.items in
    let wanted = c.in_ok-columns.ensures ∙ ap (λ fields. map (known_column fields) c.args.wanted.now) c.fields.ensures in
    let P : List ℕ → Type 0 = λ shapes. All (IsWanted shapes) columns in
    record { wanted = subst P (sym (c.in_ok-shapes.ensures ∙ ap shapes_of c.fields-2.ensures)) (all_wanted head.schema.columns columns c.args.wanted.now head.shapes wanted) }

pub returns-clause-meta : goal.returns-clause-meta
returns-clause-meta g c =
    let head = c.args.head.now in
    let below : c.args.block < length head.metas.items = omega (arith, c.requires.exists, head.same_count, head.metas.ok.0, head.blocks.ok.0) in
    item_at head.metas.items c.args.block c.index.result.now below c.index.ensures ∙ ap (λ m. Some m) (c.in-Some.is ∙ ap (λ m. Some m) (sym c.in_ok-meta.ensures))

pub returns-clause-body : goal.returns-clause-body
returns-clause-body g c =
    let head = c.args.head.now in
    let inside : c.args.block < length head.blocks.items = omega (arith, c.requires.exists, head.blocks.ok.0) in
    let at = item_at head.blocks.items c.args.block c.index-2.result.now inside c.index-2.ensures in
    ap (λ n. Some n) c.in_ok-body.ensures.len ∙ ap (option_map body_len) (sym at)

pub returns-clause-rows : goal.returns-clause-rows
returns-clause-rows g c = λ told is.
    let head = c.args.head.now in
    let below : c.args.block < length head.metas.items = omega (arith, c.requires.exists, head.same_count, head.metas.ok.0, head.blocks.ok.0) in
    let inside : c.args.block < length head.blocks.items = omega (arith, c.requires.exists, head.blocks.ok.0) in
    let good = item_at head.metas.items c.args.block c.index.result.now below c.index.ensures ∙ ap (λ m. Some m) (c.in-Some.is ∙ ap (λ m. Some m) (sym c.in_ok-meta.ensures)) in
    let at = item_at head.blocks.items c.args.block c.index-2.result.now inside c.index-2.ensures in
    let meta = c.in_ok-meta.meta in
    let there = found told (head_seen head) c.args.block c.index-2.result.now meta (c.requires.head told is) at good in
    let columns = c.in_ok-columns.columns.items in
    let wanted = c.in_ok-columns.ensures ∙ ap (λ fields. map (known_column fields) c.args.wanted.now) c.fields.ensures in
    let shapes = c.in_ok-shapes.ensures ∙ ap shapes_of c.fields-2.ensures in
    let block = c.index-2.result.now in
    let body = take (body_len block) (drop (body_start block) told) in
    let seen = map (wanted_with head.dictionaries.items) columns in
    there.rows c.args.wanted.now
    ∙ ap (λ ws. rows_in (shapes_of head.schema.columns) meta body ws) (wanted_is head.dictionaries.items (head_seen head) columns c.args.wanted.now refl wanted)
    ∙ ap (λ bytes. rows_in (shapes_of head.schema.columns) meta bytes seen) (sym (c.in_ok-body.ensures.body told is))
    ∙ ap (λ ns. rows_in ns meta c.in_ok-body.body.items seen) (sym shapes)

pub returns-clause-bad : goal.returns-clause-bad
returns-clause-bad g c =
    let head = c.args.head.now in
    let below : c.args.block < length head.metas.items = omega (arith, c.requires.exists, head.same_count, head.metas.ok.0, head.blocks.ok.0) in
    let good = item_at head.metas.items c.args.block c.index.result.now below c.index.ensures ∙ ap (λ m. Some m) c.in-Some.is in
    never_bad _ head.metas.items c.args.block c.in-Some.meta good (λ h. cc)

pub returns-clause-reads : goal.returns-clause-reads
returns-clause-reads g c =
    let head = c.args.head.now in
    let inside : c.args.block < length head.blocks.items = omega (arith, c.requires.exists, head.blocks.ok.0) in
    let at = item_at head.blocks.items c.args.block c.index-2.result.now inside c.index-2.ensures in
    c.in_ok-body.ensures.reads ∙ reads_ok _ _ (g.R.Reader.reads c.args.r.now) (Some c.index-2.result.now) ∙ ap (reads_block _ (g.R.Reader.reads c.args.r.now)) (sym at)
