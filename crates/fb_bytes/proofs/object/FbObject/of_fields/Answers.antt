use Rattle.fb_bytes.proofs.ObjectLemmas.{laid_of_fields, sound_of_fields}
use Rattle.fb_bytes.proofs.object.FbObject.of_fields.Goals as goal

pub returns-clause-laid : goal.returns-clause-laid
returns-clause-laid c = laid_of_fields c.args.fields

pub returns-clause-sound : goal.returns-clause-sound
returns-clause-sound c = sound_of_fields c.args.fields
