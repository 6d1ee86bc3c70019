-- The types of flows as pipelines and steps are added.
use Rattle.std.proofs.Common.{◌≡◌, ◌∙◌, ℕ, zero, suc, ◌+◌, ◌<◌, ◌≤◌, List, [], ◌∷◌, ◌++◌, Some, map, length, refl, sym, ap, subst, arith, append_assoc, inl, inr}
use Rattle.std.specs.Prelude.{slice_get}
use Rattle.std.specs.List.{cons_option, filter_map, range_with_len}
use Rattle.std.proofs.lemmas.Bool.{cases_lt}
use Rattle.std.proofs.lemmas.List.{length-append}
use Rattle.sub_types.specs.declared.kind.Ty.{Ty}
use Rattle.plan_typed.specs.declared.rel.Op.{out-Op}
use Rattle.plan_typed.specs.declared.rel.Rel.{Rel, out-Rel}
use Rattle.plan_typed.specs.declared.rel.SortKey.{SortKey}
use Rattle.plan_typed.specs.Types.{columns_of}
use Rattle.well_typed.specs.Columns.{columns_at}
use Rattle.well_typed.specs.WellTyped.{IsRelation, AreTyped, AreBelow, direct_in}
use Rattle.well_typed.proofs.MadeRel.{all_length}
use Rattle.rel_specs.specs.declared.key_order.KeyOrder.{KeyOrder}
use Rattle.plan_pipes.specs.declared.pipe.Breaker.{Breaker}
use Rattle.plan_pipes.specs.declared.pipe.Pipe.{Pipe}
use Rattle.plan_pipes.specs.declared.pipe.Step.{Step}
use Rattle.plan_pipes.specs.Run.{Meaning, stream_at, stepped, flow, run}
use Rattle.plan_pipes.specs.TypeMeaning.{Typing, JoinTyping, gathered, type_steps, types_over, AreTypedPipes}
use Rattle.plan_pipes.proofs.RunLaws.{stream_stays, last_gathered}
use Rattle.rel_parts.specs.Parts.{orders_from}
use Rattle.cut_flows.specs.declared.flow.Flow.{Flow}
use Rattle.cut_flows.specs.Given.{flow_in}
use Rattle.cut_flows.specs.Flows.{flow_from, feed_of, with_step, pipe_of}
use Rattle.cut_flows.proofs.FlowLaws.{flow_step, flow_next}
use Rattle.cut_laws.proofs.LevelLaws.{held_here}

-- what a pipeline gathered, whatever runs behind it
pub stream_of {ℓ} : {D T : Type ℓ} (m : Meaning D T) (before more : List Pipe) (pipe : Pipe)
    → stream_at m (run m (before ++ pipe ∷ more)).streams (length before) ≡ m.gather pipe.breaker (flow m (run m before) pipe.feed pipe.steps)
stream_of m before more pipe =
    let within : length before < length (before ++ pipe ∷ []) = omega (arith, length-append before (pipe ∷ [])) in
    ap (λ (all : List Pipe). stream_at m (run m all).streams (length before)) (sym (append_assoc before (pipe ∷ []) more))
    ∙ stream_stays m (before ++ pipe ∷ []) more (length before) within ∙ last_gathered m before pipe

module _ (columns : ℕ → List Ty) where
  abbrev m : Meaning Typing JoinTyping
  m = types_over columns

  -- one step more
  pub typed_step : (pipes : List Pipe) (given : Flow) (step : Step) (types : List Ty) → stepped type_steps (run m pipes).tables step (flow_in m pipes given) types → flow_in m pipes (with_step given step) types
  typed_step pipes given step types typed = subst (λ (typing : Typing). typing types) (sym (flow_step m pipes given step)) typed

  -- what a pipeline gathered is fed to the next
  pub typed_next : (pipes : List Pipe) (given : Flow) (breaker : Breaker) (types : List Ty) → gathered breaker (flow_in m pipes given) types → flow_in m (pipes ++ pipe_of given breaker ∷ []) (flow_from (feed_of (length pipes))) types
  typed_next pipes given breaker types typed = subst (λ (typing : Typing). typing types) (sym (flow_next m pipes given breaker)) typed

  -- one pipeline more
  pub typed_last : (pipes : List Pipe) (given : Flow) (breaker : Breaker) (types : List Ty) → AreTypedPipes columns pipes → gathered breaker (flow_in m pipes given) types → AreTypedPipes columns (pipes ++ pipe_of given breaker ∷ [])
  typed_last pipes given breaker types typed last at there =
      let pipe = pipe_of given breaker in
      elim (cases_lt at (length pipes)) [
        | inl before ↦
            let old = typed at before in
            (old.0, subst (λ (typing : Typing). typing old.0) (sym (stream_stays m pipes (pipe ∷ []) at before)) old.1)
        | inr behind ↦
            let same : at ≡ length pipes = omega (arith, there, behind, length-append pipes (pipe ∷ [])) in
            (types, subst (λ (typing : Typing). typing types) (sym (ap (λ k. stream_at m (run m (pipes ++ pipe ∷ [])).streams k) same ∙ last_gathered m pipes pipe)) last)
      ]

  -- each of well-typed pipelines, over what the earlier ones gathered and built
  pub each_typed : (before more : List Pipe) (pipe : Pipe) → AreTypedPipes columns (before ++ pipe ∷ more)
      → (types : List Ty) × gathered pipe.breaker (flow m (run m before) pipe.feed pipe.steps) types
  each_typed before more pipe typed =
      let there : length before < length (before ++ pipe ∷ more) = omega (arith, length-append before (pipe ∷ more)) in
      let found = typed (length before) there in
      (found.0, subst (λ (typing : Typing). typing found.0) (stream_of m before more pipe) found.1)

-- as many columns are emitted as there are places
counted_at : (types : List Ty) (places : List ℕ) → AreBelow (length types) places → length (columns_at types places) ≡ length places
counted_at types [] below = refl
counted_at types (place ∷ places) below = one_more types place (columns_at types places) below.0 (counted_at types places below.1)
  where
    one_more : (all : List Ty) (at : ℕ) (rest : List Ty) → at < length all → length rest ≡ length places → length (cons_option (slice_get all at) rest) ≡ suc (length places)
    one_more [] at rest there many = absurd (omega (arith, there))
    one_more (ty ∷ all) zero rest there many = ap suc many
    one_more (ty ∷ all) (suc at) rest there many = one_more all at rest (omega (arith, there)) many

pub width_typed : (rel : Rel) → AreTyped rel → length (columns_of rel) ≡ length (out-Rel rel).emit
width_typed rel typed =
    let emits = (held_here IsRelation rel typed).1 in
    sym (all_length (columns_at (direct_in (out-Op (out-Rel rel).op)) (out-Rel rel).emit) (columns_of rel) emits.as_implied) ∙ counted_at (direct_in (out-Op (out-Rel rel).op)) (out-Rel rel).emit emits.places

-- a row's columns, behind which others stand
seam : (before : List Ty) (ty : Ty) (rest : List Ty) → slice_get (before ++ ty ∷ rest) (length before) ≡ Some ty
seam [] ty rest = refl
seam (first ∷ before) ty rest = seam before ty rest

own_from : (before types more : List Ty) → filter_map (slice_get (before ++ (types ++ more))) (range_with_len (length before) (length types)) ≡ types
own_from before [] more = refl
own_from before (ty ∷ types) more =
    let longer : length (before ++ ty ∷ []) ≡ length before + 1 = length-append before (ty ∷ []) in
    let rest : filter_map (slice_get (before ++ (ty ∷ (types ++ more)))) (range_with_len (length before + 1) (length types)) ≡ types =
    ap (λ whole. filter_map (slice_get whole) (range_with_len (length before + 1) (length types))) (sym (append_assoc before (ty ∷ []) (types ++ more)))
    ∙ ap (λ start. filter_map (slice_get ((before ++ ty ∷ []) ++ (types ++ more))) (range_with_len start (length types))) (sym longer)
    ∙ own_from (before ++ ty ∷ []) types more in
    ap (λ found. cons_option found (filter_map (slice_get (before ++ (ty ∷ (types ++ more)))) (range_with_len (length before + 1) (length types)))) (seam before ty (types ++ more))
    ∙ ap (λ others. ty ∷ others) rest

pub own_columns : (types more : List Ty) (width : ℕ) → length types ≡ width → columns_at (types ++ more) (range_with_len 0 width) ≡ types
own_columns types more width is = ap (λ many. columns_at (types ++ more) (range_with_len 0 many)) (sym is) ∙ own_from [] types more

range_below : (start count most : ℕ) → start + count ≤ most → AreBelow most (range_with_len start count)
range_below start zero most few = tt
range_below start (suc count) most few = (omega (arith, few), range_below (start + 1) count most (omega (arith, few)))

pub own_below : (types more : List Ty) (width : ℕ) → length types ≡ width → AreBelow (length (types ++ more)) (range_with_len 0 width)
own_below types more width is = range_below 0 width (length (types ++ more)) (omega (arith, is, length-append types more))

orders_below : (start most : ℕ) (keys : List SortKey) → start + length keys ≤ most → AreBelow most (map (λ (key : KeyOrder). key.column) (orders_from start keys))
orders_below start most [] few = tt
orders_below start most (key ∷ keys) few = (omega (arith, few), orders_below (start + 1) most keys (omega (arith, few)))

pub key_places : (types more : List Ty) (width : ℕ) (keys : List SortKey) → length types ≡ width → length more ≡ length keys → AreBelow (length (types ++ more)) (map (λ (key : KeyOrder). key.column) (orders_from width keys))
key_places types more width keys is many = orders_below width (length (types ++ more)) keys (omega (arith, is, many, length-append types more))
