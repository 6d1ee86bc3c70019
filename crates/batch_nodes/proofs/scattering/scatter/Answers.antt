-- Each row has a value or one that is missing, as the law of one row says.
use Rattle.std.proofs.Common.{rules, arith, ◌≡◌, ◌∙◌, ℕ, ◌+◌, ◌<◌, ◌≤◌, ◌++◌, ◌∷◌, [], length, set, get_or, sym, ap, subst}
use Rattle.std.proofs.lemmas.List.{length-set, get_or_default}
use Rattle.sub_types.specs.Value.{InKind}
use Rattle.sub_types.specs.declared.kind.Ty.{Ty}
use Rattle.sub_types.specs.declared.value.Value.{Value}
use Rattle.sub_types.specs.declared.value.Value.TheVariants.{Null}
use Rattle.kernels.specs.Until.{Until}
use Rattle.batch_nodes.specs.Found.{found_values, found_at}
use Rattle.batch_nodes.proofs.ChosenLaws.{IsScatteredSoFar, IsScattered-end}
use Rattle.batch_nodes.proofs.ScatterLaws.{scattered-more, scattered-stopped, chosen_in_kind}
use Rattle.batch_nodes.proofs.scattering.scatter.Goals as goal

pub returns-then-used-len-clause-values : goal.returns-then-used-len-clause-values
returns-then-used-len-clause-values c =
    let columns = c.args.columns.now in
    let choice = get_or c.args.choices.now c.loop-i.i 0 in
    let next = c.loop-i.next.items in
    let there : c.loop-i.i < length c.args.choices.now = search rules in
    let row_there : c.loop-i.i < length c.args.rows.now = search rules in
    let chosen : choice < length next = omega (arith, c.requires.chosen c.loop-i.i 0 there, c.loop-i.invariant.1) in
    let used : c.index-used.result.now ≡ get_or next choice 0 = c.index-used.ensures ∙ get_or_default next choice c.index-used.result.now 0 chosen in
    let full : length (found_values c.index-columns-choice.result.0) ≤ c.index-used.result.now = search rules in
    let end : length (found_values c.index-columns-choice.result.0) ≤ get_or next choice 0 = subst (λ (k : ℕ). length (found_values c.index-columns-choice.result.0) ≤ k) used full in
    c.finish.ensures.values
    ∙ sym (ap (λ (found : Until Value). found.values) (scattered-stopped columns c.args.rows.now c.args.choices.now next c.args.stop c.loop-i.i c.index-columns-choice.result c.loop-i.built.values c.loop-i.invariant.2 row_there there (c.requires.chosen c.loop-i.i 0 there) c.index-columns-choice.is end))

pub returns-then-used-len-clause-stop : goal.returns-then-used-len-clause-stop
returns-then-used-len-clause-stop c =
    let columns = c.args.columns.now in
    let choice = get_or c.args.choices.now c.loop-i.i 0 in
    let next = c.loop-i.next.items in
    let there : c.loop-i.i < length c.args.choices.now = search rules in
    let row_there : c.loop-i.i < length c.args.rows.now = search rules in
    let chosen : choice < length next = omega (arith, c.requires.chosen c.loop-i.i 0 there, c.loop-i.invariant.1) in
    let used : c.index-used.result.now ≡ get_or next choice 0 = c.index-used.ensures ∙ get_or_default next choice c.index-used.result.now 0 chosen in
    let full : length (found_values c.index-columns-choice.result.0) ≤ c.index-used.result.now = search rules in
    let end : length (found_values c.index-columns-choice.result.0) ≤ get_or next choice 0 = subst (λ (k : ℕ). length (found_values c.index-columns-choice.result.0) ≤ k) used full in
    sym (ap (λ (found : Until Value). found.stop) (scattered-stopped columns c.args.rows.now c.args.choices.now next c.args.stop c.loop-i.i c.index-columns-choice.result c.loop-i.built.values c.loop-i.invariant.2 row_there there (c.requires.chosen c.loop-i.i 0 there) c.index-columns-choice.is end))

pub push-requires : goal.push-requires
push-requires c =
    let columns = c.args.columns.now in
    let choice = get_or c.args.choices.now c.loop-i.i 0 in
    let column = c.index-columns-choice.result in
    let there : c.loop-i.i < length c.args.choices.now = search rules in
    let below : c.index-used.result.now < length (found_values column.0) = search rules in
    let fits : InKind c.args.ty.kind c.in_ok-value.value = subst (InKind c.args.ty.kind) (sym c.in_ok-value.ensures) (chosen_in_kind c.args.ty.kind columns column choice c.index-used.result.now c.requires.kinds (c.requires.chosen c.loop-i.i 0 there) c.index-columns-choice.is below) in
    let same : c.loop-i.built.ty ≡ c.args.ty = c.loop-i.invariant.0 in
    subst (λ (one : Ty). InKind one.kind c.in_ok-value.value) (sym same) fits

pub loop-i-preserved : goal.loop-i-preserved
loop-i-preserved c =
    let columns = c.args.columns.now in
    let rows = c.args.rows.now in
    let choices = c.args.choices.now in
    let i = c.loop-i.i in
    let choice = get_or choices i 0 in
    let next = c.loop-i.next.items in
    let column = c.index-columns-choice.result in
    let value = c.in_ok-value.value in
    let there : i < length choices = search rules in
    let row_there : i < length rows = search rules in
    let chosen : choice < length next = omega (arith, c.requires.chosen i 0 there, c.loop-i.invariant.1) in
    let used : c.index-used.result.now ≡ get_or next choice 0 = c.index-used.ensures ∙ get_or_default next choice c.index-used.result.now 0 chosen in
    let within : c.index-used.result.now < length (found_values column.0) = search rules in
    let below : get_or next choice 0 < length (found_values column.0) = subst (λ (k : ℕ). k < length (found_values column.0)) used within in
    let value_is : value ≡ get_or (found_values column.0) (get_or next choice 0) Null = c.in_ok-value.ensures ∙ ap (λ (k : ℕ). get_or (found_values column.0) k Null) used in
    let more = scattered-more columns rows choices next c.args.stop i column c.loop-i.built.values c.loop-i.invariant.2 row_there there (c.requires.chosen i 0 there) c.index-columns-choice.is value c.loop-i.invariant.1 below value_is in
    let grown : c.push.new.self.values ≡ c.loop-i.built.values ++ value ∷ [] = search rules in
    let ty : c.push.new.self.ty ≡ c.args.ty = search rules in
    let long : length (set next choice (c.index-used.result.now + 1)) ≡ length columns = length-set next choice (c.index-used.result.now + 1) ∙ c.loop-i.invariant.1 in
    let moved = subst (λ (k : ℕ). IsScatteredSoFar (found_at columns) rows choices c.args.stop (i + 1) (λ (j : ℕ). get_or (set next choice (k + 1)) j 0) (c.loop-i.built.values ++ value ∷ [])) (sym used) more in
    (ty, long, subst (IsScatteredSoFar (found_at columns) rows choices c.args.stop (i + 1) (λ (j : ℕ). get_or (set next choice (c.index-used.result.now + 1)) j 0)) (sym grown) moved)

pub returns-clause-values : goal.returns-clause-values
returns-clause-values c =
    c.finish-2.ensures.values
    ∙ sym (ap (λ (found : Until Value). found.values) (IsScattered-end (found_at c.args.columns.now) c.args.rows.now c.args.choices.now c.args.stop (λ (j : ℕ). get_or c.loop-i.next.items j 0) c.loop-i.i c.loop-i.built.values c.loop-i.invariant.2 (search rules)))

pub returns-clause-stop : goal.returns-clause-stop
returns-clause-stop c =
    sym (ap (λ (found : Until Value). found.stop) (IsScattered-end (found_at c.args.columns.now) c.args.rows.now c.args.choices.now c.args.stop (λ (j : ℕ). get_or c.loop-i.next.items j 0) c.loop-i.i c.loop-i.built.values c.loop-i.invariant.2 (search rules)))
