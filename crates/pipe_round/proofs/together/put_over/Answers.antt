use Rattle.std.proofs.Common.{◌≡◌, ◌∙◌, ◌++◌, List, false, Option, Some, None, map, get_or, sym, ap, subst}
use Rattle.std.specs.Prelude.{is_some}
use Rattle.sub_types.specs.declared.fault.Fault.{Fault}
use Rattle.pipe_steps.specs.Tables.{tables_seen}
use Rattle.pipe_work.specs.Kept.{Part}
use Rattle.pipe_work.specs.declared.kept.Kept.{Kept}
use Rattle.pipe_round.specs.Settled.{HavePut}
use Rattle.pipe_round.proofs.PutLaws.{parts_some, parts_all}
use Rattle.pipe_round.proofs.SettledLaws.{same_rows, have_same}
use Rattle.pipe_round.proofs.together.put_over.Goals as goal

no_end : (end : Option Fault) → false ≡ is_some end → end ≡ None
no_end None is = λ i. None
no_end (Some fault) is = absurd (cc)

pub add_kept-requires : goal.add_kept-requires
add_kept-requires c = record {
  rows = λ k d below. same_rows (tables_seen c.args.pipe.now.tables) c.args.pipe.now.steps c.args.marks.now (get_or c.args.settled.made.items k d).marks.items c.requires.rows (c.requires.marks k d below);
}

pub last_parts-requires : goal.last_parts-requires
last_parts-requires c = have_same (tables_seen c.args.pipe.now.tables) c.args.pipe.now.steps c.args.marks.now c.add_kept.new.marks c.requires.rows c.add_kept.ensures.rows

pub returns-then-is_some : goal.returns-then-is_some
returns-then-is_some c = λ input put.
    let kept = c.args.settled.made.items in
    let is = c.in_ok-add_kept.ensures.parts ∙ ap (λ (front : List Part). front ++ map (λ (one : Kept). one.part) kept) c.in_ok-out.ensures.items in
    parts_some c.args.pipe.now input kept c.args.settled.end c.add_kept.new.out.items (sym c.if-is_some.ensures) put is

pub returns : goal.returns
returns c = λ input put.
    let pipe = c.args.pipe.now in
    let kept = c.args.settled.made.items in
    let last = c.in_ok-last.last.items in
    let is = c.in_ok-add_kept.ensures.parts ∙ ap (λ (front : List Part). front ++ map (λ (one : Kept). one.part) kept) c.in_ok-out.ensures.items in
    let both = c.in_ok-append.ensures.items ∙ ap (λ (front : List Part). front ++ last) is in
    parts_all pipe input kept c.args.marks.now c.add_kept.new.marks c.append.new.self.items last (subst (HavePut pipe input kept) (no_end c.args.settled.end c.if-is_some.ensures) put)
    c.requires.none c.in_ok-add_kept.ensures.marks c.in_ok-last.ensures both
