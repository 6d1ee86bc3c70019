use Rattle.std.proofs.Common.{◌≡◌, ◌∙◌, ◌∷◌, Some, Option, IfSome, sym, ap, subst}
use Rattle.std.specs.Option.{option_map, option_copied}
use Rattle.std.proofs.Math.Facts.{Fits-lt-pow}
use Rattle.arrow_meta.specs.Values.{values_in}
use Rattle.batch.specs.ColumnValues.{values_of, storage_of, kind_storage}
use Rattle.batch.specs.declared.column_data.ColumnData.{ColumnData}
use Rattle.arrow_decode.specs.Buffers.{last_seen}
use Rattle.arrow_decode.proofs.InKindLaws.{values_in_kind}
use Rattle.arrow_decode.proofs.LengthLaws.{length-values_in}
use Rattle.arrow_decode.proofs.decoding.typed_column.Goals as goal

pub invariant_of-result : goal.invariant_of-result
invariant_of-result c =
    let dictionary = option_copied c.args.dictionary in
    let others = last_seen c.args.second in
    let read : values_in c.args.kind c.args.layout dictionary c.args.count c.args.valid (c.args.first.now ∷ others) ≡ Some (values_of c.in-Some.values) =
    sym c.in_ok-values.ensures.values ∙ ap (option_map values_of) c.in-Some.is in
    let P : Option ColumnData → Type 0 = λ found. IfSome found (λ column. storage_of column ≡ kind_storage c.args.kind) in
    record {
      valid_kind = c.requires.kind;
      stored = subst P c.in-Some.is c.in_ok-values.ensures.storage;
      in_kind = values_in_kind c.args.kind c.args.layout dictionary c.args.count c.args.valid c.args.first.now others (values_of c.in-Some.values) c.requires.texts (λ i. Fits-lt-pow (c.type_inv.first i)) c.requires.layout read;
    }

pub returns-clause-long : goal.returns-clause-long
returns-clause-long c =
    let dictionary = option_copied c.args.dictionary in
    let others = last_seen c.args.second in
    let read : values_in c.args.kind c.args.layout dictionary c.args.count c.args.valid (c.args.first.now ∷ others) ≡ Some (values_of c.in-Some.values) =
    sym c.in_ok-values.ensures.values ∙ ap (option_map values_of) c.in-Some.is in
    length-values_in c.args.kind c.args.layout dictionary c.args.count c.args.valid c.args.first.now others (values_of c.in-Some.values) c.requires.long c.requires.layout read
