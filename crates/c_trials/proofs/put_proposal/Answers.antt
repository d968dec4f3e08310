-- `c_trials::put_proposal` meets its contract: each part is where the one before it ends.
use mathlib.Core.Path.{◌≡◌, refl}
use lib.ListN.{length}
use Rattle.words.proofs.Storing.{put_two, put_as}
use Rattle.c_trials.proofs.Serving.{chain_place, gauge_place}
use borrow.Author.Rules.{rules}
use Rattle.c_trials.proofs.put_proposal.Goals as goal

pub returns : goal.returns
returns c =
    let table-size : length c.args.p.table.rows ≡ 64 = search rules in
    let chain-size : length c.args.p.chain.rows ≡ 64 = search rules in
    let p = c.args.p in
    put_two (put_two c.put_table.ensures c.put_chain.ensures (chain_place p.table table-size))
    (put_two (put_two c.put_word.ensures c.put_word-2.ensures refl) (put_as _ c.effect_word.ensures c.put_word-3.ensures) refl)
    (gauge_place p.table table-size p.chain chain-size)
