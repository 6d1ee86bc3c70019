use Rattle.std.proofs.Common.{◌≡◌, ◌∙◌, length, arith}
use Rattle.std.specs.Vec.{vec_len}
use Rattle.group_sets.proofs.FoldLaws.{known_as}
use Rattle.group_sets.proofs.FinalLaws.{final_known}
use Rattle.group_sets.proofs.finals.known_rows.Goals as goal

pub sets_rows-requires : goal.sets_rows-requires
sets_rows-requires c =
    let spec = c.args.spec.now in
    let same : vec_len spec.groups ≡ length spec.groups.items = omega (arith, spec.groups.ok.0) in
    (c.requires.0, known_as spec c.requires.0 c.args.sets c.len.result c.as_slice.result.now c.as_slice-2.result.now (c.len.ensures ∙ same) c.as_slice.ensures.value c.as_slice-2.ensures.value c.requires.1)

pub returns : goal.returns
returns c =
    let spec = c.args.spec.now in
    let same : vec_len spec.groups ≡ length spec.groups.items = omega (arith, spec.groups.ok.0) in
    final_known spec c.args.sets c.in_ok-rows.rows c.len.result c.as_slice.result.now c.as_slice-2.result.now (c.len.ensures ∙ same) c.as_slice.ensures.value c.as_slice-2.ensures.value c.in_ok-rows.ensures
