use Rattle.std.proofs.Common.{◌∙◌, ap}
use Rattle.std.specs.FinSet.{remove}
use Rattle.std_folder.proofs.NameLaws.{names_of-removed}
use Rattle.std_folder.proofs.open_files.OpenFiles.forget.Goals as goal

pub returns : goal.returns
returns c = names_of-removed c.self.inside.files c.remove.new.self c.args.name.now c.remove.ensures.updates ∙ ap (λ s. remove s c.args.name.now) c.self.view_is
