use Rattle.std.proofs.Common.{◌∙◌, ap}
use Rattle.std.specs.String.{string_bytes}
use Rattle.std.specs.FinSet.{insert}
use Rattle.std_folder.specs.Names.{names_of}
use Rattle.std_folder.proofs.NameLaws.{names_of-inserted}
use Rattle.std_folder.proofs.open_files.OpenFiles.keep.Goals as goal

pub returns-clause-ok : goal.returns-clause-ok
returns-clause-ok c =
    names_of-inserted c.self.inside.files c.insert.new.self (string_bytes c.in_ok-key.key) _ c.in_ok-insert.ensures.updates
    ∙ ap (insert (names_of c.self.inside.files.entries)) c.in_ok-key.ensures.ok
    ∙ ap (λ s. insert s c.args.name.now) c.self.view_is
