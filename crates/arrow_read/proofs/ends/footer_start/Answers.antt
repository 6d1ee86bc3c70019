use Rattle.std.proofs.Common.{◌≡◌, ◌∙◌, ◌-◌, length, take, drop, Some, None, Ok, Err, sym, ap, arith}
use Rattle.arrow_meta.specs.Head.{BadFooter}
use Rattle.arrow_read.specs.Sizes.{size_of_footer}
use Rattle.arrow_read.proofs.SizeLaws.{short_file, other_file, unsized_file, sized_file}
use Rattle.arrow_read.proofs.ends.footer_start.Goals as goal

pub returns-then-len-lt18-clause-start : goal.returns-then-len-lt18-clause-start
returns-then-len-lt18-clause-start g c = λ told is.
    let len : c.args.len ≡ length told = c.requires told is in
    short_file told (omega arith)

pub returns-then-not-is_arrow-clause-start : goal.returns-then-not-is_arrow-clause-start
returns-then-not-is_arrow-clause-start g c = λ told is.
    let len : c.args.len ≡ length told = c.requires told is in
    let front : c.deref.result.now ≡ take 6 told = c.deref.ensures.value ∙ c.in_ok-front.ensures.read told is in
    let back : c.deref-2.result.now ≡ take 10 (drop (length told - 10) told) =
    c.deref-2.ensures.value ∙ c.in_ok-back.ensures.read told (c.in_ok-front.ensures.bytes ∙ is) ∙ ap (λ n. take 10 (drop (n - 10) told)) len in
    other_file told c.deref.result.now c.deref-2.result.now (omega arith) front back (sym c.is_arrow.ensures ∙ c.if-not-is_arrow.true)

pub returns-in_default-clause-start : goal.returns-in_default-clause-start
returns-in_default-clause-start g c = λ told is.
    let len : c.args.len ≡ length told = c.requires told is in
    let front : c.deref.result.now ≡ take 6 told = c.deref.ensures.value ∙ c.in_ok-front.ensures.read told is in
    let back : c.deref-2.result.now ≡ take 10 (drop (length told - 10) told) =
    c.deref-2.ensures.value ∙ c.in_ok-back.ensures.read told (c.in_ok-front.ensures.bytes ∙ is) ∙ ap (λ n. take 10 (drop (n - 10) told)) len in
    let same : c.deref-2.result.now ≡ c.deref-3.result.now = c.deref-2.ensures.value ∙ sym c.deref-3.ensures.value in
    let size : size_of_footer (length told) c.deref-2.result.now ≡ None =
    ap (size_of_footer (length told)) same ∙ ap (λ n. size_of_footer n c.deref-3.result.now) (sym len) ∙ sym c.footer_size.ensures.size ∙ c.in_default.is in
    unsized_file told c.deref.result.now c.deref-2.result.now (omega arith) front back (sym c.is_arrow.ensures ∙ c.if-not-is_arrow.false) size
    ∙ ap (λ n. Err (BadFooter (n - 10))) (sym len)

pub returns-clause-start : goal.returns-clause-start
returns-clause-start g c = λ told is.
    let len : c.args.len ≡ length told = c.requires told is in
    let front : c.deref.result.now ≡ take 6 told = c.deref.ensures.value ∙ c.in_ok-front.ensures.read told is in
    let back : c.deref-2.result.now ≡ take 10 (drop (length told - 10) told) =
    c.deref-2.ensures.value ∙ c.in_ok-back.ensures.read told (c.in_ok-front.ensures.bytes ∙ is) ∙ ap (λ n. take 10 (drop (n - 10) told)) len in
    let same : c.deref-2.result.now ≡ c.deref-3.result.now = c.deref-2.ensures.value ∙ sym c.deref-3.ensures.value in
    let size : size_of_footer (length told) c.deref-2.result.now ≡ Some c.in-Some.size =
    ap (size_of_footer (length told)) same ∙ ap (λ n. size_of_footer n c.deref-3.result.now) (sym len) ∙ sym c.footer_size.ensures.size ∙ c.in-Some.is in
    sized_file told c.deref.result.now c.deref-2.result.now c.in-Some.size (omega arith) front back (sym c.is_arrow.ensures ∙ c.if-not-is_arrow.false) size
    ∙ ap (λ n. Ok (n - 10 - c.in-Some.size)) (sym len)
