use Rattle.std.proofs.Common.{◌∙◌}
use Rattle.std.proofs.lemmas.List.{length-map}
use Rattle.sub_types.specs.Nullable.{bytes_value}
use Rattle.group_numbers.proofs.CodeLaws.{tell_texts}
use Rattle.group_numbers.proofs.codes.add_column.Goals as goal

pub returns-in-Bytes : goal.returns-in-Bytes
returns-in-Bytes c =
    let long = rw c.in-Bytes.is at c.requires in
    rw c.in-Bytes.is (λ told. tell_texts c.args.codes.now c.add_texts.new.codes c.in-Bytes.column (long ∙ length-map c.in-Bytes.column bytes_value) (c.add_texts.ensures told))
