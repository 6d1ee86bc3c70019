use Rattle.std.proofs.Common.{◌≡◌, ◌∙◌, ◌+◌, ◌∷◌, [], ℕ, Ok, Err, None, Some, get_or, map, option_map, length, sym, ap, subst, arith}
use Rattle.std.proofs.lemmas.List.{map-append}
use Rattle.kernels.specs.Arith.{row, rows_number}
use Rattle.kernels.proofs.UntilLaws.{IsSoFar, IsSoFar-more, IsSoFar-fault}
use Rattle.kernels.proofs.arithmetic.compute_rows_constant.Goals as goal

pub loop-i-preserved : goal.loop-i-preserved
loop-i-preserved g c =
    let number = g.T.Native.number in
    let row_at = row c.args.op c.args.mode g.T.Native.width (number c.args.range.0) (number c.args.range.1) in
    let f = λ (i : ℕ). row_at (option_map number (get_or c.args.a.now i None)) (Some (number c.args.constant)) in
    let n = length c.args.a.now in
    let at : f c.loop-i.i ≡ Ok (option_map number c.in-Ok.value) =
    ap (λ x. row_at x (Some (number c.args.constant))) (sym (ap (option_map number) c.value_at.ensures)) ∙ sym c.compute_row.ensures ∙ ap (rows_number number) c.in-Ok.is in
    subst (IsSoFar f n (c.loop-i.i + 1)) (sym (ap (map (option_map number)) c.in_ok-push-in-Ok.ensures.ok ∙ map-append (option_map number) c.loop-i.column (c.in-Ok.value ∷ [])))
    (IsSoFar-more f n c.loop-i.i (map (option_map number) c.loop-i.column) (option_map number c.in-Ok.value) c.loop-i.invariant (omega arith) at)

pub returns-in-Err : goal.returns-in-Err
returns-in-Err g c =
    let number = g.T.Native.number in
    let row_at = row c.args.op c.args.mode g.T.Native.width (number c.args.range.0) (number c.args.range.1) in
    let f = λ (i : ℕ). row_at (option_map number (get_or c.args.a.now i None)) (Some (number c.args.constant)) in
    let at : f c.loop-i.i ≡ Err c.in-Err.kind =
    ap (λ x. row_at x (Some (number c.args.constant))) (sym (ap (option_map number) c.value_at.ensures)) ∙ sym c.compute_row.ensures ∙ ap (rows_number number) c.in-Err.is in
    rw c.finish.ensures (IsSoFar-fault f (length c.args.a.now) c.loop-i.i (map (option_map number) c.loop-i.column) c.in-Err.kind c.loop-i.invariant (omega arith) at)
