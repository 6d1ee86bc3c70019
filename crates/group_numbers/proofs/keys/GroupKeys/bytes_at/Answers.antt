use Rattle.std.proofs.Common.{◌∙◌, ℕ, List, Vec, Global}
use Rattle.group_numbers.proofs.PlaceLaws.{bytes_there}
use Rattle.group_numbers.proofs.keys.GroupKeys.bytes_at.Goals as goal

abbrev bytes_of : Vec ℕ Global → List ℕ
bytes_of key = key.items

pub returns : goal.returns
returns c = c.as_slice.ensures.value ∙ bytes_there bytes_of c.args.self.now.set.keys c.args.self.now.rows c.args.number c.in-Some.bytes.now (c.requires.kept.bytes c.requires.mode).bytes c.requires.number c.in-Some.ensures.key
