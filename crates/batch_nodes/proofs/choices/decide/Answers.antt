-- Each row has a choice or one that is missing, as the law of one row says.
use Rattle.std.proofs.Common.{rules, ◌≡◌, ◌∙◌, ℕ, ◌+◌, ◌<◌, ◌++◌, ◌∷◌, [], length, Option, Some, None, get_or, refl, sym, ap, subst}
use Rattle.sub_types.specs.declared.value.Value.TheVariants.{Null}
use Rattle.kernels.specs.Until.{Until}
use Rattle.batch_nodes.specs.Chosen.{other_than, marked}
use Rattle.batch_nodes.specs.Found.{found_values}
use Rattle.batch_nodes.specs.Narrowed.{IsStep}
use Rattle.batch_nodes.proofs.JoinLaws.{IsJoinSoFar, IsJoinSoFar-step, IsJoinSoFar-stopped, IsJoinSoFar-end}
use Rattle.batch_nodes.proofs.choices.decide.Goals as goal

pub returns-in-None-clause-values : goal.returns-in-None-clause-values
returns-in-None-clause-values c =
    let n = c.args.none in
    let tests = found_values c.args.tests.now in
    let x = get_or c.args.choices.now c.loop-i.i 0 in
    let there : c.loop-i.i < length c.args.choices.now = search rules in
    let row_there : c.loop-i.i < length c.args.rows.now = search rules in
    let e : c.in_ok-choice.field-0 ≡ None = search rules in
    let is : IsStep (other_than n) (marked n c.args.number) Null x tests c.loop-i.used None = subst (λ (one : Option (ℕ × ℕ)). IsStep (other_than n) (marked n c.args.number) Null x tests c.loop-i.used one) e c.in_ok-choice.ensures in
    sym (ap (λ (found : Until ℕ). found.values) (IsJoinSoFar-stopped (other_than n) (marked n c.args.number) c.args.rows.now c.args.choices.now c.args.stop tests c.args.tests_stop c.loop-i.i c.loop-i.used 0 x c.loop-i.decided.items c.loop-i.invariant row_there there refl is.0 is.1))

pub returns-in-None-clause-stop : goal.returns-in-None-clause-stop
returns-in-None-clause-stop c =
    let n = c.args.none in
    let tests = found_values c.args.tests.now in
    let x = get_or c.args.choices.now c.loop-i.i 0 in
    let there : c.loop-i.i < length c.args.choices.now = search rules in
    let row_there : c.loop-i.i < length c.args.rows.now = search rules in
    let e : c.in_ok-choice.field-0 ≡ None = search rules in
    let is : IsStep (other_than n) (marked n c.args.number) Null x tests c.loop-i.used None = subst (λ (one : Option (ℕ × ℕ)). IsStep (other_than n) (marked n c.args.number) Null x tests c.loop-i.used one) e c.in_ok-choice.ensures in
    sym (ap (λ (found : Until ℕ). found.stop) (IsJoinSoFar-stopped (other_than n) (marked n c.args.number) c.args.rows.now c.args.choices.now c.args.stop tests c.args.tests_stop c.loop-i.i c.loop-i.used 0 x c.loop-i.decided.items c.loop-i.invariant row_there there refl is.0 is.1))

pub loop-i-preserved : goal.loop-i-preserved
loop-i-preserved c =
    let n = c.args.none in
    let tests = found_values c.args.tests.now in
    let x = get_or c.args.choices.now c.loop-i.i 0 in
    let there : c.loop-i.i < length c.args.choices.now = search rules in
    let row_there : c.loop-i.i < length c.args.rows.now = search rules in
    let next : ℕ × ℕ = (c.in-Some.choice, c.in-Some.now_used) in
    let e : c.in_ok-choice.field-0 ≡ Some next = search rules in
    let is : IsStep (other_than n) (marked n c.args.number) Null x tests c.loop-i.used (Some next) = subst (λ (one : Option (ℕ × ℕ)). IsStep (other_than n) (marked n c.args.number) Null x tests c.loop-i.used one) e c.in_ok-choice.ensures in
    let grown : c.push.new.self.items ≡ c.loop-i.decided.items ++ c.in-Some.choice ∷ [] = search rules in
    subst (IsJoinSoFar (other_than n) (marked n c.args.number) c.args.rows.now c.args.choices.now c.args.stop tests c.args.tests_stop (c.loop-i.i + 1) c.in-Some.now_used) (sym grown)
    (IsJoinSoFar-step (other_than n) (marked n c.args.number) c.args.rows.now c.args.choices.now c.args.stop tests c.args.tests_stop c.loop-i.i c.loop-i.used 0 x Null next c.loop-i.decided.items c.loop-i.invariant row_there there refl is)

pub returns-clause-values : goal.returns-clause-values
returns-clause-values c =
    let n = c.args.none in
    sym (ap (λ (found : Until ℕ). found.values) (IsJoinSoFar-end (other_than n) (marked n c.args.number) c.args.rows.now c.args.choices.now c.args.stop (found_values c.args.tests.now) c.args.tests_stop c.loop-i.i c.loop-i.used c.loop-i.decided.items c.loop-i.invariant (search rules)))

pub returns-clause-stop : goal.returns-clause-stop
returns-clause-stop c =
    let n = c.args.none in
    sym (ap (λ (found : Until ℕ). found.stop) (IsJoinSoFar-end (other_than n) (marked n c.args.number) c.args.rows.now c.args.choices.now c.args.stop (found_values c.args.tests.now) c.args.tests_stop c.loop-i.i c.loop-i.used c.loop-i.decided.items c.loop-i.invariant (search rules)))
