-- The pieces of an input combine, through any number of steps.
use Rattle.std.proofs.Common.{◌≡◌, ◌∙◌, List, [], ◌∷◌, ◌++◌, Bool, map, refl, sym, ap, append_assoc}
use Rattle.std.proofs.lemmas.List.{append-nil, map-append, map-id}
use Rattle.std.proofs.lemmas.Simd.{map-map}
use Rattle.std.proofs.lemmas.List.Sorted.{IsPermutation-map}
use Rattle.std.specs.List.Sorted.{IsPermutation}
use Rattle.sub_types.specs.Stream.{Stream, glue}
use Rattle.plan_denote.specs.Rows.{Row}
use Rattle.plan_denote.specs.Eval.{eval}
use Rattle.plan_denote.specs.Read.{read_rows}
use Rattle.plan_denote.specs.Filter.{filtered}
use Rattle.plan_denote.specs.Project.{projected, emitted}
use Rattle.plan_denote.specs.Denote.{maybe_condition}
use Rattle.plan_denote.proofs.GlueLaws.{filtered-glue, projected-glue, read_rows-glue, emitted-glue}
use Rattle.plan_pipes.specs.declared.pipe.Step.{Step}
use Rattle.plan_pipes.specs.declared.pipe.Step.TheVariants as steps
use Rattle.plan_pipes.specs.Run.{stepped, through}
use Rattle.plan_pipes.specs.RowMeaning.{Table, no_table, row_steps}
use Rattle.plan_pipes.specs.Pieces.{merged, piece_steps, piece_through, table_at, marks_in, last_in, marks_through, merged_each, finished, AgreeIn, Agree}
use Rattle.plan_pipes.proofs.ProbeLaws.{marks_of-append, marks_of-order, probe_combines, last_of-same}
use Rattle.std.specs.Prelude.{slice_index_or}

-- nothing comes last where a step is no probe
alone : (pieces : List (Stream Row)) → glue pieces ≡ glue (pieces ++ [])
alone pieces = ap glue (sym (append-nil pieces))

-- one step
step_combines : (tables : List Table) (step : Step) (pieces : List (Stream Row))
    → stepped row_steps tables step (glue pieces) ≡ glue (map (stepped piece_steps tables step) pieces ++ last_in (table_at tables step) (marks_in (table_at tables step) pieces))
step_combines tables (steps.Read relation names types filter mask) pieces = read_rows-glue relation types (maybe_condition filter) mask pieces ∙ alone (map (read_rows relation types (maybe_condition filter) mask) pieces)
step_combines tables (steps.Filter relation condition) pieces = filtered-glue relation (eval condition) pieces ∙ alone (map (filtered relation (eval condition)) pieces)
step_combines tables (steps.Project relation exprs) pieces = projected-glue relation (map eval exprs) pieces ∙ alone (map (projected relation (map eval exprs)) pieces)
step_combines tables (steps.Keep columns) pieces = emitted-glue columns pieces ∙ alone (map (emitted columns) pieces)
step_combines tables (steps.Probe built) pieces = probe_combines (slice_index_or tables built no_table) pieces

marks_in-append : (tables : List Table) (pieces others : List (Stream Row)) → marks_in tables (pieces ++ others) ≡ merged (marks_in tables pieces) (marks_in tables others)
marks_in-append [] pieces others = refl
marks_in-append (table ∷ tables) pieces others = marks_of-append table pieces others

-- the marks of some pieces and of others, through all steps
pub marks_through-append : (tables : List Table) (steps : List Step) (pieces others : List (Stream Row))
    → marks_through tables steps (pieces ++ others) ≡ merged_each (marks_through tables steps pieces) (marks_through tables steps others)
marks_through-append tables [] pieces others = refl
marks_through-append tables (step ∷ steps) pieces others =
    let own = stepped piece_steps tables step in
    let rest : marks_through tables steps (map own (pieces ++ others)) ≡ merged_each (marks_through tables steps (map own pieces)) (marks_through tables steps (map own others)) =
    ap (marks_through tables steps) (map-append own pieces others) ∙ marks_through-append tables steps (map own pieces) (map own others) in
    λ i. marks_in-append (table_at tables step) pieces others i ∷ rest i

marks_in-order : (tables : List Table) (pieces others : List (Stream Row)) → IsPermutation pieces others → marks_in tables pieces ≡ marks_in tables others
marks_in-order [] pieces others same = refl
marks_in-order (table ∷ tables) pieces others same = marks_of-order table pieces others same

-- the marks of the same pieces in another order, through all steps
pub marks_through-order : (tables : List Table) (steps : List Step) (pieces others : List (Stream Row)) → IsPermutation pieces others → marks_through tables steps pieces ≡ marks_through tables steps others
marks_through-order tables [] pieces others same = refl
marks_through-order tables (step ∷ steps) pieces others same =
    let own = stepped piece_steps tables step in
    λ i. marks_in-order (table_at tables step) pieces others same i ∷ marks_through-order tables steps (map own pieces) (map own others) (IsPermutation-map own pieces others same) i

-- the steps over glued pieces
pub pieces_combine : (tables : List Table) (steps : List Step) (pieces : List (Stream Row))
    → through row_steps tables steps (glue pieces) ≡ glue (map (piece_through tables steps) pieces ++ finished tables steps (marks_through tables steps pieces))
pieces_combine tables [] pieces = ap glue (sym (map-id pieces)) ∙ alone (map (λ piece. piece) pieces)
pieces_combine tables (step ∷ steps) pieces =
    let own = stepped piece_steps tables step in
    let last = last_in (table_at tables step) (marks_in (table_at tables step) pieces) in
    let each : map (piece_through tables steps) (map own pieces ++ last) ≡ map (piece_through tables (step ∷ steps)) pieces ++ map (piece_through tables steps) last =
    map-append (piece_through tables steps) (map own pieces) last ∙ ap (λ all. all ++ map (piece_through tables steps) last) (map-map (piece_through tables steps) own pieces) in
    let behind : finished tables steps (marks_through tables steps (map own pieces ++ last)) ≡ finished tables steps (merged_each (marks_through tables steps (map own pieces)) (marks_through tables steps last)) =
    ap (finished tables steps) (marks_through-append tables steps (map own pieces) last) in
    ap (through row_steps tables steps) (step_combines tables step pieces)
    ∙ pieces_combine tables steps (map own pieces ++ last)
    ∙ ap glue
    ((λ i. each i ++ behind i)
    ∙ append_assoc (map (piece_through tables (step ∷ steps)) pieces) (map (piece_through tables steps) last) (finished tables steps (merged_each (marks_through tables steps (map own pieces)) (marks_through tables steps last))))

last_in-same : (tables : List Table) (marks others : List Bool) → AgreeIn tables marks others → last_in tables marks ≡ last_in tables others
last_in-same [] marks others agree = refl
last_in-same (table ∷ tables) marks others agree = ap (λ one. one ∷ []) (last_of-same table marks others agree)

agree_in-merged : (tables : List Table) (marks others more : List Bool) → AgreeIn tables marks others → AgreeIn tables (merged marks more) (merged others more)
agree_in-merged [] marks others more agree = tt
agree_in-merged (table ∷ tables) marks others more agree = λ used. ap (λ one. merged one more) (agree used)

agree-merged : (tables : List Table) (steps : List Step) (marks others : List (List Bool)) (pieces : List (Stream Row))
    → Agree tables steps marks others → Agree tables steps (merged_each marks (marks_through tables steps pieces)) (merged_each others (marks_through tables steps pieces))
agree-merged tables [] marks others pieces agree = tt
agree-merged tables (step ∷ steps) [] others pieces agree = absurd agree
agree-merged tables (step ∷ steps) (marks ∷ more) [] pieces agree = absurd agree
agree-merged tables (step ∷ steps) (marks ∷ more) (others ∷ rest) pieces agree =
    (agree_in-merged (table_at tables step) marks others (marks_in (table_at tables step) pieces) agree.0, agree-merged tables steps more rest (map (stepped piece_steps tables step) pieces) agree.1)

-- what comes behind the pieces, by marks that agree where they are used
pub finished-same : (tables : List Table) (steps : List Step) (marks others : List (List Bool)) → Agree tables steps marks others → finished tables steps marks ≡ finished tables steps others
finished-same tables [] marks others agree = refl
finished-same tables (step ∷ steps) [] others agree = absurd agree
finished-same tables (step ∷ steps) (marks ∷ more) [] agree = absurd agree
finished-same tables (step ∷ steps) (marks ∷ more) (others ∷ rest) agree =
    let behind : List (Stream Row) → List (List Bool) → List (Stream Row) = λ last later. map (piece_through tables steps) last ++ finished tables steps (merged_each later (marks_through tables steps last)) in
    let last = last_in (table_at tables step) others in
    ap (λ one. behind one more) (last_in-same (table_at tables step) marks others agree.0)
    ∙ ap (λ end. map (piece_through tables steps) last ++ end)
    (finished-same tables steps (merged_each more (marks_through tables steps last)) (merged_each rest (marks_through tables steps last)) (agree-merged tables steps more rest last agree.1))
