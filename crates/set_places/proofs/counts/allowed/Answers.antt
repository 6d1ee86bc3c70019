use Rattle.std.proofs.Common.{◌≡◌, ◌∙◌, ◌-◌, ap, sym, min, length}
use Rattle.set_places.specs.Taken.{allowed, times_each}
use Rattle.set_places.proofs.CountLaws.{elsewhere_is}
use Rattle.set_places.proofs.counts.allowed.Goals as goal

pub returns-in-MinusPrimary : goal.returns-in-MinusPrimary
returns-in-MinusPrimary c = λ test count is are front.
    let e = elsewhere_is test c.args.first c.args.many c.args.others.now count c.args.alike.now is are front in
    let h : c.saturating_sub.result ≡ 1 - (length c.args.alike.now - c.args.many) = c.saturating_sub.ensures in
    h ∙ ap (λ n. 1 - n) e ∙ sym (ap (λ op. allowed op c.args.many (times_each test c.args.first c.args.others.now)) c.in-MinusPrimary.is)

pub returns-in-MinusPrimaryAll : goal.returns-in-MinusPrimaryAll
returns-in-MinusPrimaryAll c = λ test count is are front.
    let e = elsewhere_is test c.args.first c.args.many c.args.others.now count c.args.alike.now is are front in
    let h : c.saturating_sub-in-MinusPrimaryAll.result ≡ c.args.many - (length c.args.alike.now - c.args.many) = c.saturating_sub-in-MinusPrimaryAll.ensures in
    h ∙ ap (λ n. c.args.many - n) e ∙ sym (ap (λ op. allowed op c.args.many (times_each test c.args.first c.args.others.now)) c.in-MinusPrimaryAll.is)

pub returns-in-IntersectionPrimary : goal.returns-in-IntersectionPrimary
returns-in-IntersectionPrimary c = λ test count is are front.
    let e = elsewhere_is test c.args.first c.args.many c.args.others.now count c.args.alike.now is are front in
    let h : c.min.result ≡ min (length c.args.alike.now - c.args.many) 1 = c.min.ensures in
    h ∙ ap (λ n. min n 1) e ∙ sym (ap (λ op. allowed op c.args.many (times_each test c.args.first c.args.others.now)) c.in-IntersectionPrimary.is)
