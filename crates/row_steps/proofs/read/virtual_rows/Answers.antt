use Rattle.std.proofs.Common.{◌≡◌, List, [], ◌∷◌, Ok, IfOk, map, sym, subst, rules}
use Rattle.sub_types.specs.Stream.{Stream}
use Rattle.plan_typed.specs.declared.expr.Expr.{Expr}
use Rattle.plan_denote.specs.Eval.{eval}
use Rattle.plan_denote.specs.Rows.{Row, Formula, ◌>>=◌, values_at}
use Rattle.plan_denote.specs.Read.{virtual_rows}
use Rattle.row_steps.specs.Seen.{seen}
use Rattle.row_steps.proofs.EachLaws.{each_made}
use Rattle.row_steps.proofs.read.virtual_rows.Goals as goal

pub returns : goal.returns
unfolding virtual_rows
returns c =
    let of_row = λ (exprs : List Formula). values_at exprs [] >>= (λ row. Ok (row ∷ [])) in
    subst (λ (s : Stream Row). IfOk c.each_of.result (λ found. seen found ≡ s)) (sym (each_made c.args.number of_row (map eval) c.args.rows.now))
    (c.each_of.ensures (λ (exprs : List Expr). of_row (map eval exprs)) (λ _ _ post. search rules))
