use Rattle.std.proofs.Common.{rules, ◌≡◌, ◌∙◌, ◌++◌, ◌∷◌, [], List, Option, ℕ, replicate, ap}
use Rattle.std.specs.Option.{option_copied}
use Rattle.std.proofs.lemmas.Result.{IfOk-weaker}
use Rattle.col_text.specs.Text.{values_at}
use Rattle.col_text.proofs.GatherLaws.{same_value}
use Rattle.col_text.proofs.column.TextCol.constant.Goals as goal

pub returns : goal.returns
returns c =
    let value = option_copied c.args.value in
    let one = c.view.ensures ∙ c.in_ok-push.ensures.ok ∙ ap (λ (column : List (Option (List ℕ))). column ++ value ∷ []) c.new-one.ensures in
    let zeros : c.in_ok-vec.field-0.items ≡ replicate c.args.n 0 = search rules in
    let at = c.deref.ensures.value ∙ zeros in
    IfOk-weaker c.gather.result _ _ (λ column made. made ∙ ap (λ (all : List (Option (List ℕ))). values_at all c.deref.result.now) one ∙ ap (values_at (value ∷ [])) at ∙ same_value value c.args.n) c.gather.ensures
