use Rattle.std.proofs.Common.{◌≡◌, ◌∙◌, ◌≤◌, map, sym, subst, ap, ℕ, Ok}
use Rattle.std.proofs.Math.Facts.{to_z-of_z}
use Rattle.std.proofs.lemmas.List.{length-map}
use Rattle.std.specs.Int.{w64, cast_unsigned}
use Rattle.fb_bytes.specs.Layout.{buffer_of}
use Rattle.fb_bytes.specs.Object.{laid}
use Rattle.arrow_meta.specs.Messages.{message_laid, record_laid}
use Rattle.arrow_meta.specs.Meta.{unsigned_pair, record_of}
use Rattle.arrow_meta.proofs.Lengths.{record_root_small, record_small}
use Rattle.arrow_meta.specs.Message.{record_in}
use Rattle.arrow_meta.proofs.BackLaws.{back_vec}
use Rattle.arrow_meta.proofs.MessageBack.{Laws, record_back}
use Rattle.arrow_meta.proofs.write.record.write_record_message.Goals as goal

pub root_bytes-requires-clause-short : goal.root_bytes-requires-clause-short
root_bytes-requires-clause-short c =
    let meta = c.args.meta.now in
    let N : ℕ → Type 0 = λ n. n ≤ 1024 in
    let B : ℕ → Type 0 = λ n. n ≤ 3072 in
    record_root_small c.laid_lengths.ensures.near c.laid_lengths.ensures.lengths (cast_unsigned w64 meta.length) (map unsigned_pair meta.nodes) (map unsigned_pair meta.buffers)
    c.cast_unsigned.result (laid c.in_ok-root.root) (laid c.in_ok-header.header)
    (subst N (sym (length-map meta.nodes unsigned_pair)) c.requires.few_nodes) (subst B (sym (length-map meta.buffers unsigned_pair)) c.requires.few_buffers)
    c.in_ok-header.ensures.laid c.in_ok-root.ensures.laid

pub returns-clause-reads_back : goal.returns-clause-reads_back
returns-clause-reads_back c =
    let meta = c.args.meta.now in
    let told = c.laid_reads_back.ensures in
    let laws : Laws = record { root = told.root; table = told.table; tables = told.tables; item = told.item; structs = told.structs; text = told.text; absence = told.absence; near = c.laid_lengths.ensures.near } in
    let N : ℕ → Type 0 = λ n. n ≤ 1024 in
    let B : ℕ → Type 0 = λ n. n ≤ 3072 in
    let small = record_small c.laid_lengths.ensures.near c.laid_lengths.ensures.lengths (cast_unsigned w64 meta.length) (map unsigned_pair meta.nodes) (map unsigned_pair meta.buffers) (cast_unsigned w64 c.args.body_len)
    (subst N (sym (length-map meta.nodes unsigned_pair)) c.requires.few_nodes) (subst B (sym (length-map meta.buffers unsigned_pair)) c.requires.few_buffers) in
    let same : laid c.in_ok-root.root ≡ record_of meta c.args.body_len =
    c.in_ok-root.ensures.laid ∙ ap (λ header. message_laid 3 header c.cast_unsigned.result) c.in_ok-header.ensures.laid
    ∙ ap (λ n. message_laid 3 (record_laid (cast_unsigned w64 meta.length) (map unsigned_pair meta.nodes) (map unsigned_pair meta.buffers)) n) (c.cast_unsigned.ensures ∙ ap (cast_unsigned w64) (to_z-of_z c.ranges.body_len)) in
    back_vec c.root_bytes.result (buffer_of (laid c.in_ok-root.root)) record_in (Ok meta) c.root_bytes.ensures.bytes
    (ap (λ l. record_in (buffer_of l)) same ∙ record_back laws meta c.args.body_len c.in_ok-header.ensures.fits small)
