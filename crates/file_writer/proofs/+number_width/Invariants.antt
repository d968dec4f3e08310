use Rattle.file_writer.proofs.+number_width.Given as goal

abbrev pub decreases-number_width : goal.decreases-number_width
decreases-number_width l = l.n
