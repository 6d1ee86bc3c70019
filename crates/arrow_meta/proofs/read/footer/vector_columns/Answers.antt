use Rattle.std.proofs.Common.{◌∙◌, ◌<◌, Option, IfSome, sym, subst, arith}
use Rattle.std.proofs.lemmas.List.Elements.{All-push}
use Rattle.arrow_meta.specs.declared.field.Shape.{Shape}
use Rattle.arrow_meta.specs.Known.{IsShape}
use Rattle.arrow_meta.specs.declared.field.FieldMeta.{FieldMeta}
use Rattle.arrow_meta.specs.Footer.{Field, field_at}
use Rattle.arrow_meta.proofs.CollectLaws.{rest_of-tail_ok, next_column}
use Rattle.arrow_meta.proofs.read.footer.vector_columns.Goals as goal

pub loop-i-preserved : goal.loop-i-preserved
loop-i-preserved c =
    let fields = c.args.fields.now in
    let i = c.loop-i.i in
    let below : i < fields.count = omega arith in
    let read = c.in_ok-field.field in
    let field : Field = record { name = read.name.now; nullable = read.nullable; shape = read.shape } in
    let next = next_column (field_at fields) fields.count i c.loop-i.columns.items field c.in-Some.shape below (sym c.in_ok-field.ensures.field) c.in-Some.is in
    let P : Option Shape → Type 0 = λ shape. IfSome shape IsShape in
    let known = subst P c.in-Some.is c.in_ok-field.ensures.sound in
    record {
      readable = rest_of-tail_ok (field_at fields) fields.count i below c.loop-i.invariant.readable;
      columns = rw (c.in_ok-push.ensures.items, c.in_ok-of.ensures) (sym next ∙ c.loop-i.invariant.columns);
      shapes = rw c.in_ok-push.ensures.items (All-push (λ (f : FieldMeta). IsShape f.shape) c.loop-i.columns.items
          (record { name = c.in_ok-of.field-0; nullable = read.nullable; shape = c.in-Some.shape }) c.loop-i.invariant.shapes known);
      count = omega (arith, c.in_ok-push.ensures.len, c.loop-i.invariant.count);
    }
