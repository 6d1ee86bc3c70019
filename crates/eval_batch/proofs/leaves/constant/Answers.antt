-- A constant is of its type's kind, and the same at each row.
use Rattle.std.proofs.Common.{◌∙◌, sym, ap, replicate}
use Rattle.batch_nodes.proofs.LeafLaws.{constant_kind, constant_in_kind, constant_rows}
use Rattle.eval_batch.proofs.leaves.constant.Goals as goal

pub returns : goal.returns
returns c =
    let value = c.args.value.now in
    let all = constant_rows c.args.batch.now c.args.e.now value c.args.ty c.requires.is c.args.rows.now in
    record {
      values = ap (λ n. replicate n value) c.len.ensures ∙ sym (ap (λ found. found.values) all);
      stop = sym (ap (λ found. found.stop) all);
      kind = (constant_kind c.args.batch.now c.args.e.now value c.args.ty c.requires.is c.requires.typed, constant_in_kind c.args.batch.now c.args.e.now value c.args.ty c.requires.is c.requires.typed);
    }
