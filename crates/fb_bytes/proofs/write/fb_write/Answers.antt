use Rattle.std.proofs.Common.{◌≡◌, List, ℕ, sym, subst, arith, rules}
use Rattle.fb_bytes.specs.Object.{laid, buffer}
use Rattle.fb_bytes.specs.ReadBack.{ReadsBuffer}
use Rattle.fb_bytes.proofs.ObjectBack.{reads_buffer}
use Rattle.fb_bytes.proofs.ObjectLemmas.{length-buffer_of, buffer_appended}
use Rattle.fb_bytes.proofs.write.fb_write.Goals as goal
use Rattle.fb_bytes.proofs.write.fb_write.Goals.{In_ok-put_object}

pub put_object-requires-clause-small : goal.put_object-requires-clause-small
put_object-requires-clause-small c =
    omega (arith, length-buffer_of (laid c.args.root.now), c.requires.small, c.in_ok-put_number.ensures.len, c.in_ok-put_zeros.ensures.len)

written : (c : In_ok-put_object) → c.put_object.new.out.items ≡ buffer c.args.root.now
written c =
    buffer_appended (laid c.args.root.now) c.lead.result c.put_number.new.out.items c.put_zeros.new.out.items c.put_object.new.out.items c.lead.ensures.value
    (search rules) (search rules) (search rules)

pub returns-clause-laid : goal.returns-clause-laid
returns-clause-laid c = written c

pub returns-clause-read_back : goal.returns-clause-read_back
returns-clause-read_back c =
    subst (λ (bytes : List ℕ). ReadsBuffer bytes c.args.root.now) (sym (written c)) (reads_buffer c.args.root.now c.requires.small c.requires.sound)
