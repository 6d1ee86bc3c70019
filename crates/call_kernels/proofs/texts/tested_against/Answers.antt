-- The test of two texts that are UTF-8.
use Rattle.std.proofs.Common.{◌∙◌, ℕ, List, Option, Bool, Ok, Bor, IfSome, option_copied, sym, ap, subst}
use Rattle.std.specs.Str.{IsUtf8}
use Rattle.sub_types.specs.Nullable.{bytes_value}
use Rattle.sub_types.specs.declared.value.Value.TheVariants as values
use Rattle.plan_denote.specs.Texts as texts
use Rattle.call_kernels.specs.Functions.{passes}
use Rattle.call_kernels.proofs.PlaceLaws.{tested_texts}
use Rattle.call_kernels.proofs.texts.tested_against.Goals as goal

pub returns-in-Some : goal.returns-in-Some
returns-in-Some c =
    let text = c.args.text.now in
    let pattern_fits = subst (λ (pattern : Option (Bor (List ℕ))). IfSome (option_copied pattern) IsUtf8) c.in-Some.is c.requires.pattern in
    ap (λ (test : Bool). Ok (values.Bool test)) c.does_pass.ensures
    ∙ sym (tested_texts (passes c.args.test) text c.in-Some.pattern.now c.requires.text pattern_fits)
    ∙ ap (λ (pattern : Option (Bor (List ℕ))). texts.tested (passes c.args.test) (values.Bytes text) (bytes_value (option_copied pattern))) (sym c.in-Some.is)
