use Rattle.std.proofs.Common.{◌≡◌, ◌∙◌, ℕ, ◌+◌, ◌<◌, List, ◌∷◌, get_or, length, false, Vec, Global, Ok, Err, sym, ap, arith}
use Rattle.std.proofs.lemmas.List.{get_or_default}
use Rattle.std.proofs.lemmas.Result.{err_from_is_err_and}
use Rattle.sub_types.specs.declared.kind.Kind.TheVariants as kinds
use Rattle.sub_types.specs.declared.kind.Ty.{Ty}
use Rattle.table_open.specs.Columns.{match_column, match_columns, match_one}
use Rattle.table_open.specs.Answers.{FitsFile}
use Rattle.table_open.proofs.StepLaws.{followed, followed_none, followed_more, followed_all}
use Rattle.table_open.proofs.ColumnLaws.{columns_from, columns_all, columns_more, columns_done, columns_stop}
use Rattle.table_open.proofs.columns.places_of.Goals as goal

pub loop-i-init : goal.loop-i-init
loop-i-init c =
    let table = c.args.table in
    rw c.new-places.ensures.items
    (columns_all table.relation c.args.fields.now table.names.now table.types.now
    ∙ followed_none (match_one table.relation c.args.fields.now) (columns_from 0 table.names.now table.types.now))

pub loop-i-preserved : goal.loop-i-preserved
loop-i-preserved c =
    let table = c.args.table in
    let names = table.names.now in
    let types = table.types.now in
    let i = c.loop-i.i in
    let f = match_one table.relation c.args.fields.now in
    let name = c.index-table-i.result in
    let any : Ty = record { kind = kinds.Bool; nullable = false } in
    let ty = get_or types i any in
    let within : i < length types = omega (arith, c.requires.same, c.loop-i-test.true) in
    let here : columns_from i names types ≡ (i, (name, ty)) ∷ columns_from (i + 1) names types =
    columns_more names types i name ty c.loop-i-test.true within c.index-table-i.is (get_or_default types i any ty within) in
    let found : f (i, (name, ty)) ≡ Ok c.in_ok-place_of.field-0 =
    ap (λ n. match_column table.relation i c.args.fields.now n ty.kind) (c.index-table-i.is ∙ sym c.bytes.ensures) ∙ c.in_ok-place_of.ensures.place in
    c.loop-i.invariant
    ∙ ap (followed f c.loop-i.places.items) here
    ∙ followed_more f c.loop-i.places.items (i, (name, ty)) (columns_from (i + 1) names types) c.in_ok-place_of.field-0 found
    ∙ ap (λ (l : List ℕ). followed f l (columns_from (i + 1) names types)) (sym c.in_ok-push.ensures.items)

pub returns-clause-places : goal.returns-clause-places
returns-clause-places c =
    let table = c.args.table in
    let f = match_one table.relation c.args.fields.now in
    c.loop-i.invariant
    ∙ ap (followed f c.loop-i.places.items) (columns_done table.names.now table.types.now c.loop-i.i c.loop-i-test.false)
    ∙ followed_all f c.loop-i.places.items

pub returns-in_err-place_of-clause-places : goal.returns-in_err-place_of-clause-places
returns-in_err-place_of-clause-places c =
    let table = c.args.table in
    let names = table.names.now in
    let types = table.types.now in
    let i = c.loop-i.i in
    let f = match_one table.relation c.args.fields.now in
    let name = c.index-table-i.result in
    let any : Ty = record { kind = kinds.Bool; nullable = false } in
    let ty = get_or types i any in
    let within : i < length types = omega (arith, c.requires.same, c.loop-i-test.true) in
    let here : columns_from i names types ≡ (i, (name, ty)) ∷ columns_from (i + 1) names types =
    columns_more names types i name ty c.loop-i-test.true within c.index-table-i.is (get_or_default types i any ty within) in
    let e = c.in_err-place_of.field-0.0 in
    let same = ap (λ n. match_column table.relation i c.args.fields.now n ty.kind) (c.index-table-i.is ∙ sym c.bytes.ensures) in
    let h : FitsFile {A = ℕ} (λ place. place) (Err e) (f (i, (name, ty))) = rw same c.in_err-place_of.ensures.place in
    let p = err_from_is_err_and c.from_residual.result c.from_residual.ensures.1 in
    rw (p.1, p.2) (columns_stop f (λ (places : Vec ℕ Global). places.items) (λ (place : ℕ). place) c.loop-i.places.items (i, (name, ty)) (columns_from (i + 1) names types) e
    (match_columns table.relation c.args.fields.now names types) (c.loop-i.invariant ∙ ap (followed f c.loop-i.places.items) here) h)
