use Rattle.std.proofs.Common.{◌≡◌, ◌∙◌, [], length, map, refl, ap, sym, arith, Vec, ℕ, Global}
use Rattle.std.specs.Vec.{vec_len}
use Rattle.std.proofs.lemmas.List.{length-map}
use Rattle.sub_types.specs.Stream.{rows_alone}
use Rattle.set_states.specs.States.{measure_in}
use Rattle.plan_pipes.specs.RowMeaning.{sets_of}
use Rattle.group_sets.proofs.FoldLaws.{none_known}
use Rattle.group_sets.proofs.partial.SetsPartial.new.Goals as goal

pub returns-clause-of : goal.returns-clause-of
returns-clause-of c =
    let spec = c.args.spec.now in
    let many : vec_len spec.sets ≡ length spec.sets.items = omega (arith, spec.sets.ok.0) in
    let all : length (sets_of spec) ≡ c.len.result = length-map spec.sets.items (λ (set : Vec ℕ Global). set.items) ∙ sym (c.len.ensures ∙ many) in
    (refl, none_known spec c.in_ok-sets.sets c.len.result c.as_slice-2.result.now all c.as_slice-2.ensures.value c.in_ok-sets.ensures)

pub returns-clause-over : goal.returns-clause-over
returns-clause-over c =
    let spec = c.args.spec.now in
    let many : vec_len spec.sets ≡ length spec.sets.items = omega (arith, spec.sets.ok.0) in
    let all : length (sets_of spec) ≡ c.len.result = length-map spec.sets.items (λ (set : Vec ℕ Global). set.items) ∙ sym (c.len.ensures ∙ many) in
    λ types over. record {
      over = over;
      rows = rows_alone [];
      fit = tt;
      is = (refl, none_known spec c.in_ok-sets.sets c.len.result c.as_slice-2.result.now all c.as_slice-2.ensures.value c.in_ok-sets.ensures);
      plain = c.in_ok-plain.ensures ∙ ap (map measure_in) c.as_slice.ensures.value;
    }
