-- `ladders::number` meets its contract: the digits taken so far and those still to come are the word's number (`Taken`).
use Rattle.ladders.proofs.Words.{Taken}
use Rattle.ladders.proofs.number.Given as goal

abbrev pub invariant-loop-byte : goal.invariant-loop-byte
invariant-loop-byte l = Taken l.word l.byte-index l.n
