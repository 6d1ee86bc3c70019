use Rattle.std.proofs.Common.{◌≡◌, ◌∙◌, sym, ap, ℕ, List, [], ◌++◌, Some, None, unwrap_or, rules, IsSome}
use Rattle.std.specs.Option.{option_map}
use Rattle.std.specs.String.{string_bytes}
use Rattle.std.specs.FinMap as map
use Rattle.world.specs.Table.{files_of}
use Rattle.world.proofs.TableLaws.{files_of-updated, insert-same, get-files_of, on_err}
use Rattle.world.proofs.file_table.FileTable.append.Goals as goal

pub unreachable-requires : goal.unreachable-requires
unreachable-requires c =
    let none : map.get c.args.self.now c.args.name.now ≡ None = ap (λ m. map.get m c.args.name.now) (sym c.self.view_is) ∙ get-files_of c.self.inside.files c.args.name.now ∙ ap (option_map (λ v. v.items)) (sym c.in_default.ensures.value) in
    let found : IsSome {T = List ℕ} None = rw none at c.requires in
    absurd (cc)

pub returns-in_err-extend_from_slice-clause-err : goal.returns-in_err-extend_from_slice-clause-err
returns-in_err-extend_from_slice-clause-err c =
    let files = files_of c.self.inside.files.entries in
    let w = c.extend_from_slice.new.self in
    let set = files_of-updated c.self.inside.files (c.get_mut.follows.lender w) c.args.name.now w ((c.get_mut.follows.holds w).3 (search rules)) in
    let held : map.get files c.args.name.now ≡ Some c.in-Some.bytes.now.items = get-files_of c.self.inside.files c.args.name.now ∙ ap (option_map (λ v. v.items)) (sym c.in-Some.ensures.value) in
    on_err _ (set ∙ ap (map.insert files c.args.name.now) c.in_err-extend_from_slice.ensures.items ∙ insert-same files c.args.name.now c.in-Some.bytes.now.items held ∙ c.self.view_is)

pub returns-clause-ok : goal.returns-clause-ok
returns-clause-ok c =
    let files = files_of c.self.inside.files.entries in
    let w = c.extend_from_slice.new.self in
    let set = files_of-updated c.self.inside.files (c.get_mut.follows.lender w) c.args.name.now w ((c.get_mut.follows.holds w).3 (search rules)) in
    let held : map.get files c.args.name.now ≡ Some c.in-Some.bytes.now.items = get-files_of c.self.inside.files c.args.name.now ∙ ap (option_map (λ v. v.items)) (sym c.in-Some.ensures.value) in
    set
    ∙ ap (map.insert files c.args.name.now) (c.in_ok-extend_from_slice.ensures.items ∙ ap (λ found. unwrap_or found [] ++ c.args.piece.now) (sym held))
    ∙ ap (λ m. map.insert m c.args.name.now (unwrap_or (map.get m c.args.name.now) [] ++ c.args.piece.now)) c.self.view_is
