use Rattle.std.proofs.Common.{◌∙◌, sym}
use Rattle.row_keys.specs.Keys.{key_of}
use Rattle.row_keys.proofs.SameLaws.{same_key, key_same}
use Rattle.row_keys.proofs.equality.same_keys_at.Goals as goal

pub returns-clause-equal : goal.returns-clause-equal
returns-clause-equal c = λ e. same_key (key_of c.args.a_columns.now c.args.a.now c.args.i) (key_of c.args.b_columns.now c.args.b.now c.args.j) (sym c.is_same_in_pairs.ensures ∙ e)

pub returns-clause-found : goal.returns-clause-found
returns-clause-found c = λ e. c.is_same_in_pairs.ensures ∙ key_same (key_of c.args.a_columns.now c.args.a.now c.args.i) (key_of c.args.b_columns.now c.args.b.now c.args.j) e
