use Rattle.std.proofs.Common.{rules, ◌≡◌, ◌∙◌, ◌+◌, ◌<◌, Err, ap, sym, arith, zero-add}
use Rattle.arrow_meta.specs.Footer.{field_at}
use Rattle.arrow_meta.specs.Seen.{items_of}
use Rattle.arrow_meta.proofs.CollectLaws.{collect_ok, collect_err}
use Rattle.arrow_meta.proofs.read.footer.check_fields.Goals as goal

pub returns-in_err-_field-clause-err : goal.returns-in_err-_field-clause-err
returns-in_err-_field-clause-err c =
    let fields = c.args.fields.now in
    let here : field_at fields (0 + c.loop-i.i) ≡ Err c.in_err-_field.field-0.0 = ap (field_at fields) (zero-add c.loop-i.i) ∙ sym c.in_err-_field.ensures.field in
    let below : c.loop-i.i < fields.count = omega arith in
    let first : items_of fields ≡ Err c.in_err-_field.field-0.0 = collect_err (field_at fields) 0 fields.count c.loop-i.i c.in_err-_field.field-0.0 below (λ k low high. c.loop-i.invariant k (omega arith)) here in
    search (rules, first)

pub returns-clause-readable : goal.returns-clause-readable
returns-clause-readable c =
    let fields = c.args.fields.now in
    collect_ok (field_at fields) 0 fields.count (λ k low high. c.loop-i.invariant k (omega arith))
