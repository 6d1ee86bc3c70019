use Rattle.std.proofs.Common.{sym, lit<}
use Rattle.std.proofs.lemmas.Str.Pattern.{split_once_first}
use Rattle.table_open.proofs.WordLaws.{never_bound}
use Rattle.table_open.proofs.words.bound_file.Goals as goal

pub returns-in_err-bound : goal.returns-in_err-bound
returns-in_err-bound c =
    rw c.from_residual.ensures (sym (never_bound c.args.name.now c.args.word.now c.split_once.result _ c.in_err-bound.was (split_once_first 61 c.args.word.now c.split_once.result c.split_once.ensures.cases (lit< tt))))
