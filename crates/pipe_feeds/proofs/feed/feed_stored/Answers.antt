use Rattle.std.proofs.Common.{◌≡◌, ◌∙◌, List, [], slice_index_or, sym, ap, subst}
use Rattle.sub_types.specs.declared.kind.Ty.{Ty}
use Rattle.sub_types.specs.Stream.{rows_alone}
use Rattle.set_rels.specs.Inputs.{stream_of}
use Rattle.pipe_ends.specs.Given.{IsInput}
use Rattle.pipe_feeds.proofs.KeptLaws.{kept_at}
use Rattle.pipe_feeds.proofs.feed.feed_stored.Goals as goal

pub returns-clause-stored : goal.returns-clause-stored
returns-clause-stored c = c.in_ok-types.ensures ∙ ap (λ (all : List (List Ty)). slice_index_or all c.args.at []) c.deref.ensures.value

pub returns-clause-input : goal.returns-clause-input
returns-clause-input c =
    let types = c.args.stores.now.types.items in
    let own : List Ty = slice_index_or types c.args.at [] in
    let same : c.in_ok-types.types.items ≡ own = c.in_ok-types.ensures ∙ ap (λ (all : List (List Ty)). slice_index_or all c.args.at []) c.deref.ensures.value in
    subst (λ (given : List Ty). IsInput given c.into_vec.result.items) (sym same)
    (subst (IsInput own) (sym c.into_vec.ensures) (kept_at IsInput types c.args.stores.now.streams.items c.args.at c.in-Some.pieces [] c.requires.typed c.in-Some.ensures.taken))

pub returns-clause-rows : goal.returns-clause-rows
returns-clause-rows c = λ streams are.
    ap stream_of c.into_vec.ensures ∙ kept_at (λ stream pieces. stream_of pieces ≡ stream) streams c.args.stores.now.streams.items c.args.at c.in-Some.pieces (rows_alone []) are c.in-Some.ensures.taken
