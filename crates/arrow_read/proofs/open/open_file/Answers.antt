use Rattle.std.proofs.Common.{rules, ◌∙◌, ℕ, List, Vec, Global, Option, Err, sym, ap, subst}
use Rattle.arrow_meta.specs.declared.field.FieldMeta.{FieldMeta}
use Rattle.arrow_meta.specs.declared.meta.Block.{Block}
use Rattle.arrow_meta.specs.Dictionary.{column_dictionaries}
use Rattle.arrow_meta.specs.Footer.{Footer}
use Rattle.arrow_meta.specs.Head.{footer_place, footer_at, head_of}
use Rattle.arrow_meta.specs.Seen.{footer_seen}
use Rattle.arrow_read.specs.declared.metas.TextBlock.{TextBlock}
use Rattle.arrow_read.specs.Refused.{Opens}
use Rattle.arrow_read.specs.Seen.{head_seen}
use Rattle.arrow_read.specs.Sound.{ArePlaced, AreIndexed}
use Rattle.arrow_read.specs.Extents.{metas_seen, blocks_seen}
use Rattle.arrow_read.specs.Metas.{metas_of, texts_of}
use Rattle.arrow_read.proofs.OpenLaws.{refused_whole, no_place, no_footer, compressed_record, compressed_text, head_is}
use Rattle.arrow_read.proofs.open.open_file.Goals as goal

pub returns-in_err-start-clause-head : goal.returns-in_err-start-clause-head
returns-in_err-start-clause-head g c = λ told is.
    let e = c.in_err-start.field-0.0 in
    let part = c.in_err-start.ensures.start told (c.in_ok-len.ensures.bytes ∙ is) in
    let whole : Opens head_seen (Err e) (head_of told) = refused_whole (λ (start : ℕ). start) head_seen (footer_place told) (head_of told) (no_place told) e part in
    search (rules, whole)

pub returns-in_err-schema-clause-head : goal.returns-in_err-schema-clause-head
returns-in_err-schema-clause-head g c = λ told is.
    let start = c.in_ok-start.start in
    let opened = c.in_ok-len.ensures.bytes ∙ is in
    let placed = c.in_ok-start.ensures.bytes ∙ opened in
    let e = c.in_err-schema.field-0.0 in
    let part = c.in_err-schema.ensures.footer told placed in
    let whole : Opens head_seen (Err e) (head_of told) =
    refused_whole footer_seen head_seen (footer_at told start) (head_of told) (λ r h. no_footer told start r (c.in_ok-start.ensures.start told opened) h) e part in
    search (rules, whole)

pub returns-in_err-metas-clause-head : goal.returns-in_err-metas-clause-head
returns-in_err-metas-clause-head g c = λ told is.
    let start = c.in_ok-start.start in
    let read = c.in_ok-schema in
    let footer : Footer = record { columns = read.schema.columns; dictionaries = read.text_places.items; records = read.blocks.items } in
    let opened = c.in_ok-len.ensures.bytes ∙ is in
    let placed = c.in_ok-start.ensures.bytes ∙ opened in
    let e = c.in_err-metas.field-0.0 in
    let P : List Block → Type 0 = λ blocks. Opens metas_seen (Err e) (metas_of told start blocks) in
    let part = subst P c.deref.ensures.value (c.in_err-metas.ensures.metas told (c.in_ok-schema.ensures.bytes ∙ placed)) in
    let whole : Opens head_seen (Err e) (head_of told) =
    refused_whole metas_seen head_seen (metas_of told start read.blocks.items) (head_of told)
    (λ r h. compressed_record told start footer r (c.in_ok-start.ensures.start told opened) (c.in_ok-schema.ensures.footer told placed) h) e part in
    search (rules, whole)

pub returns-in_err-texts-clause-head : goal.returns-in_err-texts-clause-head
returns-in_err-texts-clause-head g c = λ told is.
    let start = c.in_ok-start.start in
    let read = c.in_ok-schema in
    let footer : Footer = record { columns = read.schema.columns; dictionaries = read.text_places.items; records = read.blocks.items } in
    let opened = c.in_ok-len.ensures.bytes ∙ is in
    let placed = c.in_ok-start.ensures.bytes ∙ opened in
    let e = c.in_err-texts.field-0.0 in
    let P : List Block → Type 0 = λ blocks. Opens {A = Vec (Option TextBlock) Global} (λ found. blocks_seen told found.items) (Err e) (texts_of told start blocks) in
    let part = subst P c.deref-2.ensures.value (c.in_err-texts.ensures.blocks told (c.in_ok-metas.ensures.bytes ∙ c.in_ok-schema.ensures.bytes ∙ placed)) in
    let whole : Opens head_seen (Err e) (head_of told) =
    refused_whole {A = Vec (Option TextBlock) Global} (λ found. blocks_seen told found.items) head_seen (texts_of told start read.text_places.items) (head_of told)
    (λ r h. compressed_text told start footer r (c.in_ok-start.ensures.start told opened) (c.in_ok-schema.ensures.footer told placed) h) e part in
    search (rules, whole)

pub invariant_of-result-clause-placed : goal.invariant_of-result-clause-placed
invariant_of-result-clause-placed g c =
    let P : List Block → Type 0 = λ blocks. ArePlaced blocks c.in_ok-metas.metas.items in
    subst P c.deref.ensures.value c.in_ok-metas.ensures.placed

pub invariant_of-result-clause-shapes : goal.invariant_of-result-clause-shapes
invariant_of-result-clause-shapes g c = c.in_ok-schema.ensures.shapes

pub invariant_of-result-clause-indexed : goal.invariant_of-result-clause-indexed
invariant_of-result-clause-indexed g c =
    let P : List FieldMeta → Type 0 = λ columns. AreIndexed columns c.in_ok-dictionaries.dictionaries.items in
    subst P c.fields.ensures c.in_ok-dictionaries.ensures.indexed

pub returns-clause-head : goal.returns-clause-head
returns-clause-head g c = λ told is.
    let start = c.in_ok-start.start in
    let read = c.in_ok-schema in
    let footer : Footer = record { columns = read.schema.columns; dictionaries = read.text_places.items; records = read.blocks.items } in
    let opened = c.in_ok-len.ensures.bytes ∙ is in
    let placed = c.in_ok-start.ensures.bytes ∙ opened in
    let footed = c.in_ok-schema.ensures.bytes ∙ placed in
    let said = c.in_ok-metas.ensures.bytes ∙ footed in
    let metas = ap (metas_of told start) (sym c.deref.ensures.value) ∙ c.in_ok-metas.ensures.metas told footed in
    let texts = ap (texts_of told start) (sym c.deref-2.ensures.value) ∙ c.in_ok-texts.ensures.blocks told said in
    let dictionaries = c.in_ok-dictionaries.ensures.dictionaries told (c.in_ok-texts.ensures.bytes ∙ said)
    ∙ ap (λ found. column_dictionaries (blocks_seen told found) c.fields.result.now) c.deref-3.ensures.value
    ∙ ap (column_dictionaries (blocks_seen told c.in_ok-texts.texts.items)) c.fields.ensures in
    head_is told start footer c.in_ok-metas.metas.items (blocks_seen told c.in_ok-texts.texts.items) _
    (c.in_ok-start.ensures.start told opened) (c.in_ok-schema.ensures.footer told placed) metas texts dictionaries
