-- Labours that have done nothing are fresh.
use Rattle.std.proofs.Common.{ℕ, List, All, refl}
use Rattle.pipe_labour.specs.declared.item.Item.{Item}
use Rattle.pipe_labour.specs.declared.labour.PipeLabour.{PipeLabour}
use Rattle.crew.specs.Labours.{labour_view, IsFresh}
use Rattle.crew_tests.specs.Halvers.{IsNew}
use Rattle.crew_tests.specs.declared.halves.Half.{Half}
use Rattle.crew_tests.specs.declared.halves.Numbers.{Numbers}

pub fresh_new : (ls : List (PipeLabour Numbers Half ℕ)) → All IsNew ls → All (IsFresh {Out = Item ℕ} {About = Unit {0} × Unit {0}} (λ (l : PipeLabour Numbers Half ℕ). labour_view (tt, tt) l.source.loaded.items l.outs.items 0)) ls
fresh_new ls new k d below = record { loaded = (new k d below).loaded; results = (new k d below).outs; failures = refl }
