use Rattle.std.proofs.Common.{◌≡◌, ◌∙◌, ◌<◌, ◌≤◌, [], true, Some, length, map, drop, get_or, ap, sym, subst, arith}
use Rattle.std.proofs.lemmas.List.{drop_all, get_or_read}
use Rattle.std.proofs.lemmas.List.Elements.{All-get_or}
use Rattle.group_tallies.specs.Kept.{tallies_in, keeping_in, with_tally, kept_of}
use Rattle.group_columns.specs.Columns.{with_members, count_in}
use Rattle.group_columns.proofs.StepLaws.{count_done, length_done, count_at}
use Rattle.group_firsts.specs.Firsts.{first_in}
use Rattle.group_firsts.proofs.OnceLaws.{pair_added, all_kept, none_many, none_counted}
use Rattle.group_firsts.proofs.firsts.Firsts.tallies.Goals as goal

pub loop-from-init : goal.loop-from-init
loop-from-init c =
    let e = c.in_ok-tallies.ensures in
    let groups = c.args.self.now.groups.items in
    let pairs = map (λ pair. Some (first_in pair)) c.args.self.now.pairs.rows in
    record {
      tallies = ap (λ l. with_members c.args.keeping l groups pairs) e.tallies;
      keeping = e.keeping;
      groups = ap length e.tallies ∙ none_many c.args.groups;
      counts = subst (λ l. count_in l ≤ 0) (sym e.tallies) (none_counted c.args.groups);
    }

pub loop-from-preserved : goal.loop-from-preserved
loop-from-preserved c =
    let l = c.loop-from in
    let self = c.args.self.now in
    let groups = self.groups.items in
    let pairs = self.pairs.rows in
    let here : l.from < length groups = omega (arith, c.loop-from-test.true) in
    let within : l.from < length pairs = omega (arith, here, c.requires.within.sized) in
    let old = tallies_in l.tallies in
    let new = tallies_in c.add.new.self in
    let number = get_or groups l.from 0 in
    let at : c.index.result.now ≡ number = get_or_read groups l.from c.index.result.now here c.index.ensures 0 in
    let stepped : new ≡ with_tally old number (kept_of c.args.keeping c.in_ok-value.value) =
    c.add.ensures.tallies ∙ ap (λ n. with_tally old n (kept_of (keeping_in l.tallies) c.in_ok-value.value)) at ∙ ap (λ k. with_tally old number (kept_of k c.in_ok-value.value)) l.invariant.keeping in
    let there : number < length old = subst (λ n. number < n) (sym l.invariant.groups) (All-get_or (λ group. group < c.args.groups) groups l.from 0 here c.requires.within.within) in
    let lent : l.from < length c.rows.result.now = subst (λ xs. l.from < length xs) (sym c.rows.ensures) within in
    let is : c.index-rows-from.result ≡ get_or pairs l.from [] = get_or_read c.rows.result.now l.from c.index-rows-from.result lent c.index-rows-from.is [] ∙ ap (λ xs. get_or xs l.from []) c.rows.ensures in
    let fewer = count_done c.args.keeping old new number c.in_ok-value.value l.from 0 true there stepped (omega (arith, l.invariant.counts)) in
    record {
      tallies = pair_added c.args.keeping old new groups pairs l.from c.in_ok-value.value here within (c.in_ok-value.ensures ∙ ap first_in is) stepped ∙ l.invariant.tallies;
      keeping = c.add.ensures.keeping ∙ l.invariant.keeping;
      groups = length_done old new number (kept_of c.args.keeping c.in_ok-value.value) true stepped ∙ l.invariant.groups;
      counts = omega (arith, fewer);
    }

pub add-requires-clause-group : goal.add-requires-clause-group
add-requires-clause-group c =
    let l = c.loop-from in
    let groups = c.args.self.now.groups.items in
    let here : l.from < length groups = omega (arith, c.loop-from-test.true) in
    let at : c.index.result.now ≡ get_or groups l.from 0 = get_or_read groups l.from c.index.result.now here c.index.ensures 0 in
    subst (λ n. n < length (tallies_in l.tallies)) (sym at) (subst (λ n. get_or groups l.from 0 < n) (sym l.invariant.groups) (All-get_or (λ group. group < c.args.groups) groups l.from 0 here c.requires.within.within))

pub add-requires-clause-room : goal.add-requires-clause-room
add-requires-clause-room c =
    let l = c.loop-from in
    let groups = c.args.self.now.groups.items in
    let here : l.from < length groups = omega (arith, c.loop-from-test.true) in
    let at : c.index.result.now ≡ get_or groups l.from 0 = get_or_read groups l.from c.index.result.now here c.index.ensures 0 in
    let there : c.index.result.now < length (tallies_in l.tallies) =
    subst (λ n. n < length (tallies_in l.tallies)) (sym at) (subst (λ n. get_or groups l.from 0 < n) (sym l.invariant.groups) (All-get_or (λ group. group < c.args.groups) groups l.from 0 here c.requires.within.within)) in
    omega (arith, count_at (tallies_in l.tallies) c.index.result.now there, l.invariant.counts, here, c.requires.few)

pub returns-clause-tallies : goal.returns-clause-tallies
returns-clause-tallies c =
    let l = c.loop-from in
    let self = c.args.self.now in
    let groups = self.groups.items in
    let pairs = self.pairs.rows in
    let done : length groups ≤ l.from = omega (arith, c.loop-from-test.false) in
    let none = drop_all l.from groups done in
    let rest = map (λ pair. Some (first_in pair)) (drop l.from pairs) in
    λ keys entries place are once many.
    ap (λ ns. with_members c.args.keeping (tallies_in l.tallies) ns rest) (sym none)
    ∙ l.invariant.tallies
    ∙ all_kept c.args.keeping keys c.args.groups place entries pairs groups many once are.owned are.pairs
