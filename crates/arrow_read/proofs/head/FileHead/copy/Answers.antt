use Rattle.std.proofs.Common.{rules, ◌≡◌, ◌∙◌, List, Option, map, sym, ap, subst}
use Rattle.arrow_meta.specs.Dictionary.{ColumnDictionary}
use Rattle.arrow_meta.specs.declared.meta.Block.{Block}
use Rattle.arrow_meta.specs.declared.meta.RecordMeta.{RecordMeta}
use Rattle.arrow_read.specs.Sound.{ArePlaced, AreShapes, index_places}
use Rattle.arrow_read.proofs.WantedLaws.{columns_seen}
use Rattle.arrow_read.proofs.head.FileHead.copy.Goals as goal

pub invariant_of-result-clause-indexed : goal.invariant_of-result-clause-indexed
invariant_of-result-clause-indexed c =
    let head = c.args.self.now in
    let copied = c.in_ok-dictionaries_copy.field-0.items in
    sym (columns_seen copied)
    ∙ ap (map (λ (d : ColumnDictionary). d.column)) (c.in_ok-dictionaries_copy.ensures ∙ ap (map _) c.deref-3.ensures.value)
    ∙ columns_seen head.dictionaries.items ∙ head.indexed ∙ ap index_places (sym c.in_ok-schema_copy.ensures)

pub invariant_of-result-clause-placed : goal.invariant_of-result-clause-placed
invariant_of-result-clause-placed c =
    let head = c.args.self.now in
    let blocks : c.in_ok-to_vec.field-0.items ≡ head.blocks.items = search rules in
    let metas : c.in_ok-metas_copy.field-0.items ≡ head.metas.items = c.in_ok-metas_copy.ensures ∙ c.deref-2.ensures.value in
    let P : List Block → Type 0 = λ bs. ArePlaced bs head.metas.items in
    let Q : List (Option RecordMeta) → Type 0 = λ ms. ArePlaced c.in_ok-to_vec.field-0.items ms in
    subst Q (sym metas) (subst P (sym blocks) head.placed)

pub invariant_of-result-clause-shapes : goal.invariant_of-result-clause-shapes
invariant_of-result-clause-shapes c = subst AreShapes (sym c.in_ok-schema_copy.ensures) c.args.self.now.shapes
