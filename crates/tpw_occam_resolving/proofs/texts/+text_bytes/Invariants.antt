use Rattle.tpw_occam_resolving.proofs.texts.+text_bytes.Given as goal

abbrev pub decreases-text_bytes : goal.decreases-text_bytes
decreases-text_bytes l = l.room
