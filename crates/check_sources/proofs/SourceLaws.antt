-- What a source is checked as, by its member.
use Rattle.std.proofs.Common.{◌≡◌, ℕ, List, Result, sym, subst}
use Rattle.sub_types.specs.declared.kind.Ty.{Ty}
use Rattle.plan_raw.specs.declared.source.RawSource.{RawSource, RawSource-F}
use Rattle.plan_typed.specs.declared.rel.Source.{Source}
use Rattle.plan_verdict.specs.declared.progress.Progress.{Progress}
use Rattle.plan_verdict.specs.declared.rule.CheckError.{CheckError}
use Rattle.plan_verdict.specs.Checking.{Checking, Comes}
use Rattle.plan_verdict.specs.Exprs.{Terms}
use Rattle.plan_verdict.specs.Meaning.{Checked}
use Rattle.plan_verdict.specs.Reads.{source_in}
use Rattle.plan_verdict.specs.Verdict.{checked_source}

pub source_comes : (terms : Terms) (written : RawSource) (level : Checked RawSource-F) (number : ℕ) (types : List Ty) (before : Progress) (result : Result (Source × Progress) CheckError)
    → checked_source terms written ≡ source_in level → Comes result (source_in level number types before) → Comes result (checked_source terms written number types before)
source_comes terms written level number types before result is comes = subst (λ (check : ℕ → List Ty → Checking Source). Comes result (check number types before)) (sym is) comes
