-- Each row has a value or one that is missing, as the law of one row says.
use Rattle.std.proofs.Common.{rules, ◌≡◌, ◌∙◌, ℕ, ◌+◌, ◌<◌, ◌++◌, ◌∷◌, [], length, Option, Some, None, sym, ap, subst}
use Rattle.std.specs.List.{All}
use Rattle.std.proofs.lemmas.List.Elements.{All-get_or}
use Rattle.sub_types.specs.Value.{InKind}
use Rattle.sub_types.specs.declared.kind.Ty.{Ty}
use Rattle.sub_types.specs.declared.value.Value.{Value}
use Rattle.sub_types.specs.declared.value.Value.TheVariants.{Null}
use Rattle.batch.specs.ColumnValues.{values_of}
use Rattle.kernels.specs.Until.{Until}
use Rattle.batch_nodes.specs.Found.{found_values}
use Rattle.batch_nodes.proofs.FoundLaws.{found_in_kind}
use Rattle.batch_nodes.specs.Early.{settles, merges, IsNext}
use Rattle.batch_nodes.proofs.EarlyLaws.{next-in_kind, IsJoinSoFar-next}
use Rattle.batch_nodes.proofs.JoinLaws.{IsJoinSoFar, IsJoinSoFar-stopped, IsJoinSoFar-end}
use Rattle.batch_nodes.proofs.joining.join.Goals as goal

pub push-requires : goal.push-requires
push-requires c =
    let first = values_of c.args.first.now.values in
    let rest = found_values c.args.rest.now in
    let kind = c.args.ty.kind in
    let there : c.loop-i.i < length first = search rules in
    let e : c.in_ok-value-2.field-0 ≡ Some (c.in-Some.value, c.in-Some.now_used) = search rules in
    let is : IsNext c.args.early c.in_ok-value.value rest c.loop-i.used (Some (c.in-Some.value, c.in-Some.now_used)) =
    subst (λ (one : Option (Value × ℕ)). IsNext c.args.early c.in_ok-value.value rest c.loop-i.used one) e c.in_ok-value-2.ensures in
    let own : InKind c.args.first.now.ty.kind c.in_ok-value.value =
    subst (InKind c.args.first.now.ty.kind) (sym c.in_ok-value.ensures) (All-get_or (InKind c.args.first.now.ty.kind) first c.loop-i.i Null there c.args.first.now.in_kind) in
    let fits : InKind kind c.in_ok-value.value = subst (λ kind. InKind kind c.in_ok-value.value) c.requires.first own in
    let all : All (InKind kind) rest = found_in_kind kind c.args.rest.now c.requires.rest in
    let same : c.loop-i.built.ty ≡ c.args.ty = c.loop-i.invariant.0 in
    subst (λ (one : Ty). InKind one.kind c.in-Some.value) (sym same) (next-in_kind c.args.early rest c.loop-i.used kind c.in_ok-value.value (c.in-Some.value, c.in-Some.now_used) is c.requires.kind fits all)

pub returns-in-None-clause-values : goal.returns-in-None-clause-values
returns-in-None-clause-values c =
    let first = values_of c.args.first.now.values in
    let rest = found_values c.args.rest.now in
    let there : c.loop-i.i < length first = search rules in
    let row_there : c.loop-i.i < length c.args.rows.now = search rules in
    let e : c.in_ok-value-2.field-0 ≡ None = search rules in
    let is : IsNext c.args.early c.in_ok-value.value rest c.loop-i.used None = subst (λ (one : Option (Value × ℕ)). IsNext c.args.early c.in_ok-value.value rest c.loop-i.used one) e c.in_ok-value-2.ensures in
    c.finish.ensures.values
    ∙ sym (ap (λ (found : Until Value). found.values) (IsJoinSoFar-stopped (settles c.args.early) (merges c.args.early) c.args.rows.now first c.args.first_stop rest c.args.rest_stop c.loop-i.i c.loop-i.used Null c.in_ok-value.value c.loop-i.built.values c.loop-i.invariant.1 row_there there c.in_ok-value.ensures is.0 is.1))

pub returns-in-None-clause-stop : goal.returns-in-None-clause-stop
returns-in-None-clause-stop c =
    let first = values_of c.args.first.now.values in
    let rest = found_values c.args.rest.now in
    let there : c.loop-i.i < length first = search rules in
    let row_there : c.loop-i.i < length c.args.rows.now = search rules in
    let e : c.in_ok-value-2.field-0 ≡ None = search rules in
    let is : IsNext c.args.early c.in_ok-value.value rest c.loop-i.used None = subst (λ (one : Option (Value × ℕ)). IsNext c.args.early c.in_ok-value.value rest c.loop-i.used one) e c.in_ok-value-2.ensures in
    sym (ap (λ (found : Until Value). found.stop) (IsJoinSoFar-stopped (settles c.args.early) (merges c.args.early) c.args.rows.now first c.args.first_stop rest c.args.rest_stop c.loop-i.i c.loop-i.used Null c.in_ok-value.value c.loop-i.built.values c.loop-i.invariant.1 row_there there c.in_ok-value.ensures is.0 is.1))

pub loop-i-preserved : goal.loop-i-preserved
loop-i-preserved c =
    let first = values_of c.args.first.now.values in
    let rest = found_values c.args.rest.now in
    let there : c.loop-i.i < length first = search rules in
    let row_there : c.loop-i.i < length c.args.rows.now = search rules in
    let e : c.in_ok-value-2.field-0 ≡ Some (c.in-Some.value, c.in-Some.now_used) = search rules in
    let is : IsNext c.args.early c.in_ok-value.value rest c.loop-i.used (Some (c.in-Some.value, c.in-Some.now_used)) =
    subst (λ (one : Option (Value × ℕ)). IsNext c.args.early c.in_ok-value.value rest c.loop-i.used one) e c.in_ok-value-2.ensures in
    let ty : c.push.new.self.ty ≡ c.args.ty = search rules in
    let grown : c.push.new.self.values ≡ c.loop-i.built.values ++ c.in-Some.value ∷ [] = search rules in (
      ty,
      subst (IsJoinSoFar (settles c.args.early) (merges c.args.early) c.args.rows.now first c.args.first_stop rest c.args.rest_stop (c.loop-i.i + 1) c.in-Some.now_used) (sym grown)
          (IsJoinSoFar-next c.args.early rest c.loop-i.used c.args.rows.now first c.args.first_stop c.args.rest_stop c.loop-i.i c.in_ok-value.value (c.in-Some.value, c.in-Some.now_used) c.loop-i.built.values c.loop-i.invariant.1 row_there there c.in_ok-value.ensures is),
    )

pub returns-clause-values : goal.returns-clause-values
returns-clause-values c =
    let first = values_of c.args.first.now.values in
    let rest = found_values c.args.rest.now in
    c.finish-2.ensures.values
    ∙ sym (ap (λ (found : Until Value). found.values) (IsJoinSoFar-end (settles c.args.early) (merges c.args.early) c.args.rows.now first c.args.first_stop rest c.args.rest_stop c.loop-i.i c.loop-i.used c.loop-i.built.values c.loop-i.invariant.1 (search rules)))

pub returns-clause-stop : goal.returns-clause-stop
returns-clause-stop c =
    let first = values_of c.args.first.now.values in
    let rest = found_values c.args.rest.now in
    sym (ap (λ (found : Until Value). found.stop) (IsJoinSoFar-end (settles c.args.early) (merges c.args.early) c.args.rows.now first c.args.first_stop rest c.args.rest_stop c.loop-i.i c.loop-i.used c.loop-i.built.values c.loop-i.invariant.1 (search rules)))
