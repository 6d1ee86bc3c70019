use Rattle.std.proofs.Common.{◌∙◌, ◌≤◌, ◌^◌, map, sym, subst, ap, ℕ, Ok}
use Rattle.std.proofs.lemmas.List.{length-map}
use Rattle.fb_bytes.specs.Layout.{buffer_of}
use Rattle.fb_bytes.specs.Object.{laid}
use Rattle.arrow_meta.specs.Meta.{place_of}
use Rattle.arrow_meta.proofs.Lengths.{footer_root_small, footer_small}
use Rattle.arrow_meta.specs.Footer.{footer_in}
use Rattle.arrow_meta.specs.Written.{written_footer}
use Rattle.arrow_meta.proofs.BackLaws.{back_vec}
use Rattle.arrow_meta.proofs.MessageBack.{Laws}
use Rattle.arrow_meta.proofs.FooterBack.{footer_back}
use Rattle.arrow_meta.proofs.write.footer.write_footer.Goals as goal

pub root_bytes-requires-clause-short : goal.root_bytes-requires-clause-short
root_bytes-requires-clause-short c =
    let N : ℕ → Type 0 = λ n. n ≤ 2 ^ 26 in
    footer_root_small c.laid_lengths.ensures.near c.laid_lengths.ensures.lengths c.args.names.now c.args.types.now (map place_of c.args.blocks.now) (laid c.in_ok-root.root)
    c.requires.few c.requires.short (subst N (sym (length-map c.args.blocks.now place_of)) c.requires.few_blocks) c.in_ok-root.ensures.laid

pub returns-clause-reads_back : goal.returns-clause-reads_back
returns-clause-reads_back c =
    λ kinds. let names = c.args.names.now in
    let types = c.args.types.now in
    let blocks = c.args.blocks.now in
    let told = c.laid_reads_back.ensures in
    let laws : Laws = record { root = told.root; table = told.table; tables = told.tables; item = told.item; structs = told.structs; text = told.text; absence = told.absence; near = c.laid_lengths.ensures.near } in
    let N : ℕ → Type 0 = λ n. n ≤ 2 ^ 26 in
    let small = footer_small c.laid_lengths.ensures.near c.laid_lengths.ensures.lengths names types (map place_of blocks)
    c.requires.few c.requires.short (subst N (sym (length-map blocks place_of)) c.requires.few_blocks) in
    back_vec c.root_bytes.result (buffer_of (laid c.in_ok-root.root)) footer_in (Ok (written_footer names types blocks)) c.root_bytes.ensures.bytes
    (ap (λ l. footer_in (buffer_of l)) c.in_ok-root.ensures.laid ∙ footer_back laws names types blocks c.requires.same_count kinds c.in_ok-root.ensures.fits small)
