use Rattle.reader.proofs.whole.whole_window.Goals as goal

pub overflow_sub-result : goal.overflow_sub-result
overflow_sub-result c = rw (c.pair-start.ensures, c.pair-end.ensures) c.requires.0

pub returns : goal.returns
returns c = rw (c.pair-start.ensures, c.pair-end.ensures)
