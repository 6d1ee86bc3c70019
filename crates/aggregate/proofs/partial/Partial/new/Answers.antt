use Rattle.std.proofs.Common.{◌≡◌, ◌∙◌, ℕ, [], length, map, refl, ap, subst, arith}
use Rattle.std.specs.Prelude.{◌==◌}
use Rattle.std.specs.Vec.{vec_len}
use Rattle.sub_types.specs.Stream.{rows_alone}
use Rattle.group_states.specs.States.{Knows}
use Rattle.aggregate.specs.States.{keeping}
use Rattle.aggregate.proofs.FoldLaws.{known_first}
use Rattle.aggregate.proofs.partial.Partial.new.Goals as goal

pub returns-clause-of : goal.returns-clause-of
returns-clause-of c =
    let spec = c.args.spec.now in
    let e = c.in_ok-groups.ensures in
    let same : vec_len spec.groups ≡ length spec.groups.items = omega (arith, spec.groups.ok.0) in
    let none = c.is_empty.ensures ∙ ap (λ (n : ℕ). n == 0) same in
    let kept = c.as_slice-2.ensures.value ∙ c.in_ok-keepings.ensures ∙ ap (map keeping) c.as_slice.ensures.value in
    (refl, known_first spec c.in_ok-groups.groups c.is_empty.result none e.sound e.keys (e.keeping ∙ kept) (subst (λ kinds. Knows kinds [] c.in_ok-groups.groups) kept e.knows))

pub returns-clause-over : goal.returns-clause-over
returns-clause-over c =
    let spec = c.args.spec.now in
    let e = c.in_ok-groups.ensures in
    let same : vec_len spec.groups ≡ length spec.groups.items = omega (arith, spec.groups.ok.0) in
    let none = c.is_empty.ensures ∙ ap (λ (n : ℕ). n == 0) same in
    let kept = c.as_slice-2.ensures.value ∙ c.in_ok-keepings.ensures ∙ ap (map keeping) c.as_slice.ensures.value in
    λ types over. record {
      over = over;
      rows = rows_alone [];
      fit = tt;
      is = (refl, known_first spec c.in_ok-groups.groups c.is_empty.result none e.sound e.keys (e.keeping ∙ kept) (subst (λ kinds. Knows kinds [] c.in_ok-groups.groups) kept e.knows));
    }
