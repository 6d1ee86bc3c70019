use Rattle.std.proofs.Common.{◌≡◌, ◌∙◌, sym, ap, ℕ, List, [], ◌++◌, Some, None, unwrap_or}
use Rattle.std.specs.Option.{option_map}
use Rattle.std.specs.String.{string_bytes}
use Rattle.std.specs.FinMap as map
use Rattle.world.specs.Table.{files_of}
use Rattle.world.proofs.TableLaws.{files_of-updated}
use Rattle.world.proofs.file_table.FileTable.put.Goals as goal

pub returns-clause-ok : goal.returns-clause-ok
returns-clause-ok c =
    files_of-updated c.self.inside.files c.insert.new.self (string_bytes c.in_ok-name.name) c.args.bytes c.in_ok-insert.ensures.updates
    ∙ ap (λ n. map.insert (files_of c.self.inside.files.entries) n c.args.bytes.items) c.in_ok-name.ensures.ok
    ∙ ap (λ m. map.insert m c.args.name.now c.args.bytes.items) c.self.view_is
