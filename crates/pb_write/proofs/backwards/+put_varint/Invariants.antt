use Rattle.pb_write.proofs.backwards.+put_varint.Given as goal

abbrev pub decreases-put_varint : goal.decreases-put_varint
decreases-put_varint l = l.left
