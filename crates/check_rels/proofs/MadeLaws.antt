-- A relation that is made of equal parts.
use Rattle.std.proofs.Common.{◌≡◌, ℕ, List, Option, Result}
use Rattle.std.proofs.Math.Path.{subst₂}
use Rattle.sub_types.specs.declared.kind.Ty.{Ty}
use Rattle.plan_leaves.specs.declared.common.RelCommon.{RelCommon}
use Rattle.plan_typed.specs.declared.rel.Op.{Op}
use Rattle.plan_typed.specs.declared.rel.Rel.{Rel}
use Rattle.plan_verdict.specs.declared.rule.CheckError.{CheckError}
use Rattle.plan_verdict.specs.Checking.{Agrees}
use Rattle.plan_verdict.specs.Columns.{finished_in}

pub finished_at : (result : Result Rel CheckError) (number : ℕ) (common : Option RelCommon) (made op : Op) (columns direct : List Ty) → made ≡ op → columns ≡ direct
    → Agrees result number (finished_in number common made columns) → Agrees result number (finished_in number common op direct)
finished_at result number common made op columns direct same same_columns agrees =
    subst₂ (λ (o : Op) (d : List Ty). Agrees result number (finished_in number common o d)) same same_columns agrees
