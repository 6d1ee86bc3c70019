use Rattle.std.proofs.Common.{◌∙◌, ap, sym, is_some}
use Rattle.std.specs.FinSet.{contains}
use Rattle.std_folder.proofs.NameLaws.{contains-names_of}
use Rattle.std_folder.proofs.open_files.OpenFiles.share.Goals as goal

pub returns-in_ok-again-in-Some : goal.returns-in_ok-again-in-Some
returns-in_ok-again-in-Some c = ap is_some c.in-Some.ensures.value ∙ sym (contains-names_of c.self.inside.files c.args.name.now) ∙ ap (λ s. contains s c.args.name.now) c.self.view_is

pub returns-in-None : goal.returns-in-None
returns-in-None c = ap is_some c.in-None.ensures.value ∙ sym (contains-names_of c.self.inside.files c.args.name.now) ∙ ap (λ s. contains s c.args.name.now) c.self.view_is
