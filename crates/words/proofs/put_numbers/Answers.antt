-- `words::put_numbers` meets its contract: the numbers passed are stored.
use Rattle.std.proofs.Common.{◌≡◌, length, arith, rules}
use Rattle.words.proofs.Storing.{put_more}
use Rattle.words.proofs.put_numbers.Goals as goal

pub loop-i-preserved : goal.loop-i-preserved
loop-i-preserved c =
    let size : length c.args.numbers ≡ 64 = search rules in
    put_more c.args.numbers c.loop-i.i c.loop-i.invariant (omega (arith, size)) c.from.ensures c.put_word.ensures
