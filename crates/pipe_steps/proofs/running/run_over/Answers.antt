use Rattle.std.proofs.Common.{rules, ◌≡◌, ◌∙◌, List, [], ◌∷◌, false, Option, Some, None, length, sym, ap, subst, arith}
use Rattle.std.specs.Prelude.{is_some}
use Rattle.std.specs.List.{All}
use Rattle.std.specs.Vec.Iter.{into_iter_items}
use Rattle.std.proofs.lemmas.List.Elements.{All-nil, All-head, All-tail, All-append}
use Rattle.sub_types.specs.declared.fault.Fault.{Fault}
use Rattle.batch.specs.declared.batch.Piece.{Piece}
use Rattle.batch.specs.BatchRows.{types_of}
use Rattle.plan_pipes.specs.Run.{through}
use Rattle.pipe_types.specs.Exact.{exact_steps}
use Rattle.pipe_steps.specs.Behind.{IsStored}
use Rattle.pipe_steps.specs.Ready.{IsReady}
use Rattle.pipe_steps.specs.Run.{AreThrough}
use Rattle.pipe_steps.specs.Tables.{joins_of, tables_seen}
use Rattle.pipe_steps.proofs.FinishLaws.{stored_push}
use Rattle.pipe_steps.proofs.InputLaws.{through_none, through_more, through_early, through_all}
use Rattle.pipe_steps.proofs.running.run_over.Goals as goal

no_end : (end : Option Fault) → false ≡ is_some end → end ≡ None
no_end None is = λ i. None
no_end (Some fault) is = absurd (cc)

none_left : (pieces : List Piece) → length pieces ≡ 0 → pieces ≡ []
none_left [] none = λ i. []
none_left (piece ∷ pieces) none = absurd (omega (arith, none))

pub loop-piece-init : goal.loop-piece-init
loop-piece-init c =
    let tables = tables_seen c.args.tables.now in
    let steps = c.args.steps.now in
    let T = through exact_steps (joins_of c.args.tables.now) steps c.args.types.now in
    let same : into_iter_items c.into_iter-piece-iterator.result ≡ c.args.input.items = search rules in
    let Way : List Piece → Type 0 = λ rest. AreThrough tables steps c.args.input.items rest c.args.marks.now c.in_ok-out.out.items in
    record {
      way = subst Way (sym same) (through_none tables steps c.args.input.items c.args.marks.now c.in_ok-out.out.items c.requires.none c.requires.rows c.in_ok-out.ensures.items);
      pieces = subst (All (IsStored T)) (sym c.in_ok-out.ensures.items) (All-nil (IsStored T));
      typed = subst (All (λ (piece : Piece). types_of piece.batch ≡ c.args.types.now)) (sym same) c.requires.typed;
      ready = subst (All (λ (piece : Piece). IsReady steps piece.batch)) (sym same) c.requires.ready;
    }

pub returns-then-ended-clause-stream : goal.returns-then-ended-clause-stream
returns-then-ended-clause-stream c =
    let l = c.loop-piece in
    through_early (tables_seen c.args.tables.now) c.args.steps.now c.args.input.items (into_iter_items l.piece-iterator) l.marks l.out.items l.invariant.way c.in-Some.piece c.in_ok-passed.passed (into_iter_items c.next.new.self) c.push.new.self.items
    c.in-Some.ensures.steps.0 c.in_ok-push.ensures.items c.in_ok-passed.ensures.stream (sym c.if-ended.ensures)

pub returns-then-ended-clause-pieces : goal.returns-then-ended-clause-pieces
returns-then-ended-clause-pieces c =
    let l = c.loop-piece in
    let rest = into_iter_items c.next.new.self in
    let joins = joins_of c.args.tables.now in
    let steps = c.args.steps.now in
    let P : Piece → Type 0 = λ piece. types_of piece.batch ≡ c.args.types.now in
    let typed = All-head P c.in-Some.piece rest (subst (All P) c.in-Some.ensures.steps.0 l.invariant.typed) in
    stored_push (through exact_steps joins steps c.args.types.now) l.out.items c.push.new.self.items c.in_ok-passed.passed c.in_ok-push.ensures.items (c.in_ok-passed.ensures.types ∙ ap (through exact_steps joins steps) typed) c.in_ok-passed.ensures.fit l.invariant.pieces

pub loop-piece-preserved : goal.loop-piece-preserved
loop-piece-preserved c =
    let l = c.loop-piece in
    let rest = into_iter_items c.next.new.self in
    let step = c.in-Some.ensures.steps.0 in
    let joins = joins_of c.args.tables.now in
    let steps = c.args.steps.now in
    let piece = c.in-Some.piece in
    let P : Piece → Type 0 = λ piece. types_of piece.batch ≡ c.args.types.now in
    let R : Piece → Type 0 = λ piece. IsReady steps piece.batch in
    let typed = subst (All P) step l.invariant.typed in
    record {
      way = through_more (tables_seen c.args.tables.now) steps c.args.input.items (into_iter_items l.piece-iterator) l.marks l.out.items l.invariant.way piece c.in_ok-passed.passed rest c.push.new.self.items
          step c.in_ok-push.ensures.items c.in_ok-passed.ensures.stream c.pass.new.marks (no_end c.in_ok-passed.passed.end c.if-ended.ensures) c.in_ok-passed.ensures.marked c.in_ok-passed.ensures.rows;
      pieces = stored_push (through exact_steps joins steps c.args.types.now) l.out.items c.push.new.self.items c.in_ok-passed.passed c.in_ok-push.ensures.items (c.in_ok-passed.ensures.types ∙ ap (through exact_steps joins steps) (All-head P piece rest typed))
          c.in_ok-passed.ensures.fit l.invariant.pieces;
      typed = All-tail P piece rest typed;
      ready = All-tail R piece rest (subst (All R) step l.invariant.ready);
    }

pub returns-clause-stream : goal.returns-clause-stream
returns-clause-stream c =
    let l = c.loop-piece in
    let none = none_left (into_iter_items l.piece-iterator) (omega (arith, l.piece-iterator.rest.ok.0, c.in-None.ensures.steps.0)) in
    through_all (tables_seen c.args.tables.now) c.args.steps.now c.args.input.items (into_iter_items l.piece-iterator) l.marks l.out.items l.invariant.way c.in_ok-last.last.items c.append.new.self.items none c.in_ok-last.ensures.stream c.in_ok-append.ensures.items

pub returns-clause-pieces : goal.returns-clause-pieces
returns-clause-pieces c =
    let T = through exact_steps (joins_of c.args.tables.now) c.args.steps.now c.args.types.now in
    subst (All (IsStored T)) (sym c.in_ok-append.ensures.items) (All-append (IsStored T) c.loop-piece.out.items c.in_ok-last.last.items c.loop-piece.invariant.pieces c.in_ok-last.ensures.pieces)
