-- Each place has a value or a fault, as the law of one place says.
use Rattle.std.proofs.Common.{rules, ◌≡◌, ◌∙◌, ℕ, ◌+◌, ◌<◌, ◌++◌, ◌∷◌, [], List, map, Ok, Err, sym, ap, subst}
use Rattle.sub_types.specs.Rows.{across}
use Rattle.sub_types.specs.declared.value.Value.{Value}
use Rattle.sub_types.specs.declared.value.Value.TheVariants.{Null}
use Rattle.plan_denote.specs.Calls.{applied}
use Rattle.kernels.specs.Until.{Until}
use Rattle.kernels.proofs.UntilLaws.{IsSoFar, IsSoFar-more, IsSoFar-fault}
use Rattle.batch_nodes.specs.Found.{found_values}
use Rattle.batch_calls.proofs.apply.apply_rows.Goals as goal

pub returns-in-Err-Fault-clause-values : goal.returns-in-Err-Fault-clause-values
returns-in-Err-Fault-clause-values c =
    let f = λ (i : ℕ). applied c.args.func c.args.ty.kind c.args.mode c.args.given.now (across Null (map found_values c.args.columns.now) i) in
    let i = c.loop-i.i in
    let below : i < c.args.n = search rules in
    let args_are : c.as_slice.result.now ≡ across Null (map found_values c.args.columns.now) i = c.as_slice.ensures.value ∙ c.in_ok-args.ensures in
    let fault : f i ≡ Err c.in-Err-Fault.kind = ap (λ (row : List Value). applied c.args.func c.args.ty.kind c.args.mode c.args.given.now row) (sym args_are) ∙ (rw c.in-Err-Fault.field-0-is at c.in-Err-Fault.ensures) in
    c.finish.ensures.values ∙ sym (ap (λ (found : Until Value). found.values) (IsSoFar-fault f c.args.n i c.loop-i.built.values c.in-Err-Fault.kind c.loop-i.invariant.1 below fault))

pub returns-in-Err-Fault-clause-stop : goal.returns-in-Err-Fault-clause-stop
returns-in-Err-Fault-clause-stop c =
    let f = λ (i : ℕ). applied c.args.func c.args.ty.kind c.args.mode c.args.given.now (across Null (map found_values c.args.columns.now) i) in
    let i = c.loop-i.i in
    let below : i < c.args.n = search rules in
    let args_are : c.as_slice.result.now ≡ across Null (map found_values c.args.columns.now) i = c.as_slice.ensures.value ∙ c.in_ok-args.ensures in
    let fault : f i ≡ Err c.in-Err-Fault.kind = ap (λ (row : List Value). applied c.args.func c.args.ty.kind c.args.mode c.args.given.now row) (sym args_are) ∙ (rw c.in-Err-Fault.field-0-is at c.in-Err-Fault.ensures) in
    let stop_is = ap (λ (found : Until Value). found.stop) (IsSoFar-fault f c.args.n i c.loop-i.built.values c.in-Err-Fault.kind c.loop-i.invariant.1 below fault) in
    cc (c.in-Err-Fault.kind-is, stop_is)

pub loop-i-preserved : goal.loop-i-preserved
loop-i-preserved c =
    let f = λ (i : ℕ). applied c.args.func c.args.ty.kind c.args.mode c.args.given.now (across Null (map found_values c.args.columns.now) i) in
    let i = c.loop-i.i in
    let below : i < c.args.n = search rules in
    let args_are : c.as_slice.result.now ≡ across Null (map found_values c.args.columns.now) i = c.as_slice.ensures.value ∙ c.in_ok-args.ensures in
    let is : f i ≡ Ok c.in-Ok.value = ap (λ (row : List Value). applied c.args.func c.args.ty.kind c.args.mode c.args.given.now row) (sym args_are) ∙ c.in-Ok.ensures in
    let ty : c.push.new.self.ty ≡ c.args.ty = search rules in
    let grown : c.push.new.self.values ≡ c.loop-i.built.values ++ c.in-Ok.value ∷ [] = search rules in
    (ty, subst (IsSoFar f c.args.n (i + 1)) (sym grown) (IsSoFar-more f c.args.n i c.loop-i.built.values c.in-Ok.value c.loop-i.invariant.1 below is))
