use Rattle.std.proofs.Common.{◌≡◌, ◌∙◌, ap, sym, true, is_some}
use Rattle.std.specs.FinSet as set
use Rattle.std_folder.proofs.NameLaws.{insert-held}
use Rattle.std_folder.proofs.folder.StdFolder.share.Goals as goal

pub returns-in-Some-clause-others : goal.returns-in-Some-clause-others
returns-in-Some-clause-others g c =
    let held : set.contains c.args.self.now.reading c.args.name.now ≡ true = ap (λ f. set.contains f.reading c.args.name.now) (sym c.self.view_is) ∙ sym c.in_ok-shared.ensures ∙ ap is_some c.in-Some.is in
    ap (λ names. record c.args.self.now { reading = names }) (sym (insert-held c.args.self.now.reading c.args.name.now held))
