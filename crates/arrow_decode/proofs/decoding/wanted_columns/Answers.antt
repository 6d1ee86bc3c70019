use Rattle.std.proofs.Common.{◌≡◌, ◌∙◌, ◌∷◌, ◌++◌, [], ℕ, List, Some, Option, IfSome, length, map, take, sym, ap, subst, arith}
use Rattle.std.specs.Option.{option_map}
use Rattle.std.proofs.lemmas.List.{map-append, take_all}
use Rattle.std.proofs.lemmas.List.Elements.{All-push}
use Rattle.sub_types.specs.declared.kind.Kind.{Kind}
use Rattle.sub_types.specs.declared.value.Value.{Value}
use Rattle.arrow_meta.specs.declared.field.Layout.{Layout}
use Rattle.arrow_meta.specs.Batch.{column_in, columns_in}
use Rattle.sub_types.specs.OptionSteps.{all_of}
use Rattle.batch.specs.declared.column.Column.{Column}
use Rattle.batch.specs.Column.{column_values, column_type}
use Rattle.batch.specs.ColumnValues.{values_of}
use Rattle.arrow_decode.specs.Seen.{wanted_with, wanted_type}
use Rattle.arrow_decode.proofs.ListLaws.{all_of-step, all_of-missing, map-take_more, of_some}
use Rattle.arrow_decode.proofs.NumberLaws.{map-map}
use Rattle.arrow_decode.proofs.decoding.wanted_columns.Goals as goal

pub returns-in_default-clause-columns : goal.returns-in_default-clause-columns
unfolding columns_in
returns-in_default-clause-columns c =
    let decoded : ℕ × Kind × Layout → Option (List Value) = λ w. column_in c.args.shapes.now c.args.meta.now c.args.body.now c.args.count (wanted_with c.args.dictionaries.now w) in
    let missing = sym c.in_ok-column.ensures.values ∙ ap (option_map column_values) c.in_default.is in
    sym (ap all_of (map-map (column_in c.args.shapes.now c.args.meta.now c.args.body.now c.args.count) (wanted_with c.args.dictionaries.now) c.args.wanted.now)
    ∙ all_of-missing decoded c.args.wanted.now c.loop-one.one-index _ (omega arith) missing)

pub loop-one-preserved : goal.loop-one-preserved
loop-one-preserved c =
    let decoded : ℕ × Kind × Layout → Option (List Value) = λ w. column_in c.args.shapes.now c.args.meta.now c.args.body.now c.args.count (wanted_with c.args.dictionaries.now w) in
    let wanted = c.args.wanted.now in
    let i = c.loop-one.one-index in
    let column = c.in-Some.column in
    let here = sym c.in_ok-column.ensures.values ∙ ap (option_map column_values) c.in-Some.is in
    let pushed = c.in_ok-push.ensures.items in
    let ty = of_some _ column (λ (one : Column). one.ty) _ c.in-Some.is c.in_ok-column.ensures.ty in
    let L : Option Column → Type 0 = λ found. IfSome found (λ one. length (values_of one.values) ≡ c.args.count) in
    record {
      columns = all_of-step decoded wanted i _ (map column_values c.loop-one.columns.items) (column_values column) (omega arith) c.loop-one.invariant.columns here
          ∙ ap (λ xs. Some xs) (sym (ap (map column_values) pushed ∙ map-append column_values c.loop-one.columns.items (column ∷ [])));
      types = ap (map column_type) pushed ∙ map-append column_type c.loop-one.columns.items (column ∷ [])
          ∙ ap (λ xs. xs ++ column.ty ∷ []) c.loop-one.invariant.types ∙ ap (λ t. map wanted_type (take i wanted) ++ t ∷ []) ty ∙ map-take_more wanted_type wanted i _ (omega arith);
      long = rw pushed (All-push (λ (one : Column). length (values_of one.values) ≡ c.args.count) c.loop-one.columns.items column c.loop-one.invariant.long (subst L c.in-Some.is c.in_ok-column.ensures.long));
    }

pub returns-clause-columns : goal.returns-clause-columns
unfolding columns_in
returns-clause-columns c =
    let decoded : ℕ × Kind × Layout → Option (List Value) = λ w. column_in c.args.shapes.now c.args.meta.now c.args.body.now c.args.count (wanted_with c.args.dictionaries.now w) in
    let all = take_all c.loop-one.one-index c.args.wanted.now (omega arith) in
    sym (ap all_of (map-map (column_in c.args.shapes.now c.args.meta.now c.args.body.now c.args.count) (wanted_with c.args.dictionaries.now) c.args.wanted.now)
    ∙ ap (λ ws. all_of (map decoded ws)) (sym all) ∙ c.loop-one.invariant.columns)
