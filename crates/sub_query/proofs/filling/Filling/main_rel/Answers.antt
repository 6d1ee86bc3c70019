-- After the last subquery.
use Rattle.std.proofs.Common.{◌≡◌, List, None, IfOk, subst}
use Rattle.plan_typed.specs.declared.rel.Rel.{Rel}
use Rattle.plan_denote.specs.Denote.{Tables, denote}
use Rattle.plan_denote.specs.Holes.{filled}
use Rattle.sub_query.specs.Known.{known_seen}
use Rattle.sub_query.specs.Progress.{Progress, progress, next_of, denoted}
use Rattle.sub_query.specs.declared.worth.KnownWorth.{KnownWorth}
use Rattle.sub_query.proofs.ProgressLaws.{main_made}
use Rattle.sub_query.proofs.filling.Filling.main_rel.Goals as goal

pub returns-clause-denoted : goal.returns-clause-denoted
returns-clause-denoted c =
    let state = progress c.self.inside.holed c.self.inside.known.items in
    let made = subst (λ (known : List KnownWorth). IfOk c.filled_rel.result (λ (rel : Rel). rel ≡ filled (known_seen known) state.plan.typed.rel)) c.deref.ensures.value c.filled_rel.ensures in
    subst (λ (one : Progress). IfOk c.filled_rel.result (λ rel. (tables : Tables) → next_of one ≡ None → denote tables rel ≡ denoted tables one)) c.self.view_is (main_made state c.filled_rel.result made)
