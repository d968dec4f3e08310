-- `run_words::put_answer` meets its contract: each part is where the one before it ends.
use mathlib.Core.Path.{◌≡◌, refl}
use lib.ListN.{length}
use Rattle.words.proofs.Storing.{put_two}
use Rattle.run_words.proofs.Lengths.{answer_picks_place}
use borrow.Author.Rules.{rules}
use Rattle.run_words.proofs.put_answer.Goals as goal

pub returns : goal.returns
returns c =
    let chain-size : length c.args.chain.rows ≡ 64 = search rules in
    put_two (put_two (put_two c.put_word.ensures c.put_word-2.ensures refl) c.put_chain.ensures refl) c.put_numbers.ensures
    (answer_picks_place c.args.outcome c.args.moves c.args.chain chain-size)
