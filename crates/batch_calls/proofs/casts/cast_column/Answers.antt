-- Each place has a value or a fault, as the law of one place says.
use Rattle.std.proofs.Common.{rules, ◌≡◌, ◌∙◌, ℕ, ◌+◌, ◌<◌, ◌++◌, ◌∷◌, [], length, get_or, Ok, Err, sym, ap, subst}
use Rattle.sub_types.specs.declared.value.Value.{Value}
use Rattle.sub_types.specs.declared.value.Value.TheVariants.{Null}
use Rattle.plan_denote.specs.Casts.{cast, or_null}
use Rattle.kernels.specs.Until.{Until}
use Rattle.kernels.proofs.UntilLaws.{IsSoFar, IsSoFar-more, IsSoFar-fault}
use Rattle.batch_nodes.specs.Found.{found_values}
use Rattle.batch_calls.proofs.casts.cast_column.Goals as goal

pub returns-in-Err-Fault-clause-values : goal.returns-in-Err-Fault-clause-values
returns-in-Err-Fault-clause-values c =
    let xs = found_values c.args.column.now in
    let f = λ (i : ℕ). or_null c.args.null_on_fail (cast c.args.from c.args.ty.kind (get_or xs i Null)) in
    let i = c.loop-i.i in
    let below : i < length xs = search rules in
    let fault : f i ≡ Err c.in-Err-Fault.kind = ap (λ (value : Value). or_null c.args.null_on_fail (cast c.args.from c.args.ty.kind value)) (sym c.in_ok-value.ensures) ∙ (rw c.in-Err-Fault.field-0-is at c.in-Err-Fault.ensures) in
    c.finish.ensures.values ∙ sym (ap (λ (found : Until Value). found.values) (IsSoFar-fault f (length xs) i c.loop-i.built.values c.in-Err-Fault.kind c.loop-i.invariant.1 below fault))

pub returns-in-Err-Fault-clause-stop : goal.returns-in-Err-Fault-clause-stop
returns-in-Err-Fault-clause-stop c =
    let xs = found_values c.args.column.now in
    let f = λ (i : ℕ). or_null c.args.null_on_fail (cast c.args.from c.args.ty.kind (get_or xs i Null)) in
    let i = c.loop-i.i in
    let below : i < length xs = search rules in
    let fault : f i ≡ Err c.in-Err-Fault.kind = ap (λ (value : Value). or_null c.args.null_on_fail (cast c.args.from c.args.ty.kind value)) (sym c.in_ok-value.ensures) ∙ (rw c.in-Err-Fault.field-0-is at c.in-Err-Fault.ensures) in
    let stop_is = ap (λ (found : Until Value). found.stop) (IsSoFar-fault f (length xs) i c.loop-i.built.values c.in-Err-Fault.kind c.loop-i.invariant.1 below fault) in
    cc (c.in-Err-Fault.kind-is, stop_is)

pub loop-i-preserved : goal.loop-i-preserved
loop-i-preserved c =
    let xs = found_values c.args.column.now in
    let f = λ (i : ℕ). or_null c.args.null_on_fail (cast c.args.from c.args.ty.kind (get_or xs i Null)) in
    let i = c.loop-i.i in
    let below : i < length xs = search rules in
    let is : f i ≡ Ok c.in-Ok.value = ap (λ (value : Value). or_null c.args.null_on_fail (cast c.args.from c.args.ty.kind value)) (sym c.in_ok-value.ensures) ∙ c.in-Ok.ensures in
    let ty : c.push.new.self.ty ≡ c.args.ty = search rules in
    let grown : c.push.new.self.values ≡ c.loop-i.built.values ++ c.in-Ok.value ∷ [] = search rules in
    (ty, subst (IsSoFar f (length xs) (i + 1)) (sym grown) (IsSoFar-more f (length xs) i c.loop-i.built.values c.in-Ok.value c.loop-i.invariant.1 below is))
