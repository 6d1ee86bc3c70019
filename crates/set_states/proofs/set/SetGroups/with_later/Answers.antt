use Rattle.std.proofs.Common.{true, ◌≡◌, ◌∙◌, ◌++◌, length, map, ap, sym, subst, refl, arith}
use Rattle.std.specs.List.{list_any}
use Rattle.plan_typed.specs.declared.rel.SetMeasure.{SetMeasure}
use Rattle.plan_denote.specs.GroupSets.{entry_in}
use Rattle.group_tallies.specs.Kept.{keeping_in}
use Rattle.group_numbers.specs.Keys.{AreAt, with_keys}
use Rattle.group_states.proofs.StateLaws.{as_many_numbers}
use Rattle.set_states.specs.States.{keeping, AreKept}
use Rattle.set_states.proofs.SetLaws.{plain_none, nothing_kept, keys_both, again, set_grown, sound_again, knows_again, set_rows}
use Rattle.set_states.proofs.set.SetGroups.with_later.Goals as goal

pub with_later-requires-clause-sound : goal.with_later-requires-clause-sound
with_later-requires-clause-sound c = c.requires.known.3.sound

pub with_later-requires-clause-later : goal.with_later-requires-clause-later
with_later-requires-clause-later c = c.requires.known.4.sound

pub with_later-requires-clause-keeping : goal.with_later-requires-clause-keeping
with_later-requires-clause-keeping c = c.requires.known.3.kept ∙ sym c.requires.known.4.kept

pub with_later-requires-clause-few : goal.with_later-requires-clause-few
with_later-requires-clause-few c =
    omega (arith, set_rows c.args.measures.now c.requires.known.0 c.requires.known.1 c.args.self c.requires.known.3, c.requires.known.5)

pub with_later-requires-clause-later_few : goal.with_later-requires-clause-later_few
with_later-requires-clause-later_few c =
    omega (arith, set_rows c.args.measures.now c.requires.known.0 c.requires.known.2 c.args.later.now c.requires.known.4, c.requires.known.6)

pub returns-then-plain : goal.returns-then-plain
returns-then-plain c =
    let measures = c.args.measures.now in
    let old = c.args.self.groups.keys.rows in
    let others = c.args.later.now.groups.keys.rows in
    let grown = c.in_ok-grown.grown in
    let e = c.in_ok-grown.ensures in
    let none = plain_none (list_any (λ (one : SetMeasure). one.distinct) measures) true c.if-plain.ensures refl in
    λ set entries more known was.
    let own = map (entry_in set) entries in
    let later = map (entry_in set) more in
    set_grown measures set entries more _ (map keeping_in c.args.self.groups.columns.items) e.sound e.keeping known.kept
    (keys_both set entries more old others grown.keys.rows known.keys was.keys e.keys)
    (e.knows (map keeping measures) own later known.knows was.knows)
    (nothing_kept measures old grown.keys.rows own (own ++ later) c.args.self.firsts.items none known.firsts)

pub numbered_later-requires-clause-later : goal.numbered_later-requires-clause-later
numbered_later-requires-clause-later c = c.requires.known.4.sound.kept

pub firsts_with_later-requires-clause-kept : goal.firsts_with_later-requires-clause-kept
firsts_with_later-requires-clause-kept c = (c.args.self.groups.keys.rows, map (entry_in c.requires.known.0) c.requires.known.1, c.requires.known.3.firsts)

pub firsts_with_later-requires-clause-later : goal.firsts_with_later-requires-clause-later
firsts_with_later-requires-clause-later c =
    let later = c.args.later.now in
    let both = c.in_ok-both.both in (
      later.groups.keys.rows,
      map (entry_in c.requires.known.0) c.requires.known.2,
      subst (AreKept c.args.measures.now later.groups.keys.rows (map (entry_in c.requires.known.0) c.requires.known.2)) (sym c.as_slice-2.ensures.value) c.requires.known.4.firsts,
      ap length c.as_slice.ensures.value ∙ as_many_numbers both.groups.keys.rows both.numbers.items later.groups.keys.rows c.in_ok-both.ensures.numbers,
    )

pub returns : goal.returns
returns c =
    let measures = c.args.measures.now in
    let old = c.args.self.groups.keys.rows in
    let others = c.args.later.now.groups.keys.rows in
    let grown = c.in_ok-grown.grown in
    let e = c.in_ok-grown.ensures in
    let last = c.in_ok-both.both.groups in
    let numbers = c.in_ok-both.both.numbers.items in
    let n = c.in_ok-both.ensures in
    let same : last.keys.rows ≡ grown.keys.rows = again old grown.keys.rows last.keys.rows others e.keys n.keys in
    let all : last.keys.rows ≡ with_keys old others = same ∙ e.keys in
    λ set entries more known was.
    let own = map (entry_in set) entries in
    let later = map (entry_in set) more in
    let at : AreAt (with_keys old others) numbers others = subst (λ l. AreAt l numbers others) all n.numbers in
    set_grown measures set entries more _ (map keeping_in c.args.self.groups.columns.items) (sound_again grown last n.rest.1 n.rest.0 n.kept same e.sound)
    (ap (λ columns. map keeping_in columns.items) n.rest.1 ∙ e.keeping) known.kept
    (keys_both set entries more old others last.keys.rows known.keys was.keys all)
    (knows_again (map keeping measures) (own ++ later) grown last n.rest.1 n.rest.0 same (e.knows (map keeping measures) own later known.knows was.knows))
    (subst (λ l. AreKept measures l (own ++ later) c.in_ok-firsts.firsts.items) (sym all)
    (c.in_ok-firsts.ensures old others own later known.firsts (subst (AreKept measures others later) (sym c.as_slice-2.ensures.value) was.firsts) (subst (λ l. AreAt (with_keys old others) l others) (sym c.as_slice.ensures.value) at)))
