use Rattle.fb_bytes.proofs.ObjectLemmas.{laid_of_tables, sound_of_tables}
use Rattle.fb_bytes.proofs.object.FbObject.of_tables.Goals as goal

pub returns-clause-laid : goal.returns-clause-laid
returns-clause-laid c = laid_of_tables c.args.tables

pub returns-clause-sound : goal.returns-clause-sound
returns-clause-sound c = sound_of_tables c.args.tables
