-- What a read gives comes behind what was read before.
use Rattle.std.proofs.Common.{rules, ◌-◌, length, sym, subst}
use Rattle.std.specs.Io.KnownBytes.{Consumes}
use Rattle.program_input.proofs.Reading.{consumes_both, read_behind}
use Rattle.program_input.proofs.read_input.Goals as goal

pub loop-have-preserved : goal.loop-have-preserved
loop-have-preserved g c =
    let have = c.loop-have.have in
    let old = c.loop-have.space in
    let read = c.in_ok-more.ensures in
    let (within, before) = c.loop-have.invariant in
    let front = read_behind have (length old - have) c.in_ok-more.more old c.read.new.buf within read.bound.0 in
    (search rules, subst (Consumes _ _) (sym front) (consumes_both _ _ _ _ _ before read.bytes.0))
