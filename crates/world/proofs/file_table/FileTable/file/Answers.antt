use Rattle.std.proofs.Common.{◌≡◌, ◌∙◌, sym, ap, ℕ, List, [], ◌++◌, Some, None, unwrap_or}
use Rattle.std.specs.Option.{option_map}
use Rattle.std.specs.String.{string_bytes}
use Rattle.std.specs.FinMap as map
use Rattle.world.specs.Table.{files_of}
use Rattle.world.proofs.TableLaws.{get-files_of}
use Rattle.world.proofs.file_table.FileTable.file.Goals as goal

pub returns-in-Some : goal.returns-in-Some
returns-in-Some c = ap Some c.as_slice.ensures.value ∙ ap (option_map (λ v. v.items)) c.in-Some.ensures.value ∙ sym (get-files_of c.self.inside.files c.args.name.now) ∙ ap (λ m. map.get m c.args.name.now) c.self.view_is

pub returns-in-None : goal.returns-in-None
returns-in-None c = ap (option_map (λ v. v.items)) c.in-None.ensures.value ∙ sym (get-files_of c.self.inside.files c.args.name.now) ∙ ap (λ m. map.get m c.args.name.now) c.self.view_is
