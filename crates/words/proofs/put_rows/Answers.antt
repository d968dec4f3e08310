-- `words::put_rows` meets its contract: the rows passed are stored.
use Rattle.std.proofs.Common.{◌≡◌, length, arith, rules, refl}
use Rattle.words.proofs.Storing.{put_more}
use Rattle.words.proofs.put_rows.Goals as goal

pub loop-i-preserved : goal.loop-i-preserved
loop-i-preserved c =
    let size : length c.args.rows ≡ 64 = search rules in
    put_more c.args.rows c.loop-i.i c.loop-i.invariant (omega (arith, size)) refl c.put_word.ensures
