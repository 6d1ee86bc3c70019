use Rattle.std.proofs.Common.{◌≡◌, ◌∙◌, ℕ, ◌+◌, ◌<◌, ◌++◌, [], ◌∷◌, List, IsSome, length, map, drop, sym, ap, subst, arith}
use Rattle.std.proofs.lemmas.List.{drop_more}
use Rattle.std.proofs.lemmas.List.Elements.{All-push}
use Rattle.std.proofs.lemmas.List.Sums.{sum_by_push}
use Rattle.std.specs.List.{All}
use Rattle.sub_types.specs.declared.kind.Ty.{Ty}
use Rattle.sub_types.specs.ResultSteps.{collect}
use Rattle.table_open.specs.Ready.{IsReady}
use Rattle.plan_tables.specs.Open.{OpenTable, table_seen, AreTold, AreReady, count_files}
use Rattle.plan_tables.specs.Tables.{files_named, names_in}
use Rattle.plan_tables.proofs.OpenLaws.{step_more, named_is}
use Rattle.plan_tables.proofs.open.open_tables.Goals as goal

pub loop-name-preserved : goal.loop-name-preserved
loop-name-preserved g c =
    let bytes = g.F.R.Reader.bytes in
    let words = c.args.words.now in
    let read = c.args.read.now in
    let before = c.loop-name.invariant in
    let names = c.names_in-name-items.result.now in
    let i = c.loop-name.name-index in
    let name = c.name-item.result in
    let tables = c.loop-name.tables.items in
    let table = c.in_ok-table.table in
    let new = c.push_reserved.new.self.items in
    let next = c.in_ok-table.ensures in
    let is_told = λ (t : OpenTable g.row.F-R.Denot). All (λ file. IsSome (bytes file.reader)) t.items in
    let is_ready = λ (t : OpenTable g.row.F-R.Denot). All (IsReady bytes read.types) t.items in
    let below : i < length names = c.loop-name-test.true in
    let here : drop i names ≡ name ∷ drop (i + 1) names = drop_more names i name below ∙ ap (λ (n : List ℕ). n ∷ drop (i + 1) names) (sym c.name-item.is) in
    let pushed : new ≡ tables ++ table ∷ [] = c.push_reserved.ensures.items ∙ ap (λ (l : List (OpenTable g.row.F-R.Denot)). l ++ table ∷ []) c.in_ok-reserve.ensures.items in
    record {
      told = λ files is.
          step_more (files_named files words read) (table_seen bytes) (collect (map (files_named files words read) (names_in read.origin))) tables new table
          (drop i names) name (drop (i + 1) names) here pushed
          (named_is files words read name c.bytes.result.now c.as_slice.result.now c.as_slice-in-loop-name.result.now _ c.bytes.ensures c.as_slice.ensures c.as_slice-in-loop-name.ensures
          (next.told files (before.files ∙ is))) (before.told files is);
      tells = λ files is. subst (AreTold bytes) (sym pushed) (All-push is_told tables table (before.tells files is) (next.tells files (before.files ∙ is)));
      ready = subst (AreReady bytes read.types) (sym pushed)
          (All-push is_ready tables table before.ready (subst (λ (types : List Ty). All (IsReady bytes types) table.items) c.as_slice-in-loop-name.ensures next.ready));
      never_falls = omega (arith, next.cause.never_falls, before.never_falls);
      files = next.files ∙ before.files;
      write_faults = next.write_faults ∙ before.write_faults;
      lent = omega (arith, next.lent, before.lent, ap count_files pushed, sum_by_push (λ (t : OpenTable g.row.F-R.Denot). length t.items) tables table);
    }
