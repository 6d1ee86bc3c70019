use Rattle.std.proofs.Common.{false, ◌≡◌, ◌∙◌, suc, ◌+◌, ◌<◌, length, get_or, map, take, refl, sym, ap, arith}
use Rattle.std.proofs.lemmas.List.{get_or_default}
use Rattle.sub_types.specs.declared.kind.Kind.TheVariants as kinds
use Rattle.sub_types.specs.declared.kind.Ty.{Ty}
use Rattle.batch.specs.Column.{column_type}
use Rattle.table_rows.specs.Read.{kinds_of}
use Rattle.block_rows.proofs.KindLaws.{at_place, one_more}
use Rattle.block_rows.proofs.kinds.have_kinds.Goals as goal

pub returns-then-not-has_kind-clause-differ : goal.returns-then-not-has_kind-clause-differ
returns-then-not-has_kind-clause-differ c = λ _ same.
    let columns = c.args.columns.now in
    let types = c.args.types.now in
    let i = c.loop-index.index in
    let none : Ty = record { kind = kinds.Bool; nullable = false } in
    let ty = get_or types i none in
    let typed : i < length types = c.loop-index-test.true in
    let within : i < length columns = omega (arith, c.loop-index.invariant.many, typed) in
    c.if-not-has_kind.ensures.differ refl
    (at_place columns types i c.index-columns-index.result ty within typed c.index-columns-index.is (get_or_default types i none ty typed) same)

pub loop-index-preserved : goal.loop-index-preserved
loop-index-preserved c =
    let columns = c.args.columns.now in
    let types = c.args.types.now in
    let i = c.loop-index.index in
    let none : Ty = record { kind = kinds.Bool; nullable = false } in
    let ty = get_or types i none in
    let typed : i < length types = c.loop-index-test.true in
    let within : i < length columns = omega (arith, c.loop-index.invariant.many, typed) in
    let next : i + 1 ≡ suc i = omega arith in
    record {
      many = c.loop-index.invariant.many;
      same = ap (λ n. take n (kinds_of (map column_type columns))) next
          ∙ one_more columns types i c.index-columns-index.result ty within typed c.index-columns-index.is (get_or_default types i none ty typed) (c.if-not-has_kind.ensures.same refl) c.loop-index.invariant.same
          ∙ ap (λ n. take n (kinds_of types)) (sym next);
    }
