-- `run_words::put_run` meets its contract: each part is where the one before it ends.
use mathlib.Core.Path.{◌≡◌, refl, ap}
use lib.ListN.{length}
use Rattle.words.proofs.Storing.{put_two, put_as}
use Rattle.run_words.specs.Values.{side_word}
use Rattle.run_words.specs.declared.Mark.{Mark}
use Rattle.run_words.proofs.Lengths.{order_place, picks-place, count-place}
use borrow.Author.Rules.{rules}
use Rattle.run_words.proofs.put_run.Goals as goal

pub returns : goal.returns
returns g c =
    let table-size : length c.args.p.table.rows ≡ 64 = search rules in
    let order-size : length c.args.p.order.numbers ≡ 64 = search rules in
    let picks-size : length c.args.p.picks.numbers ≡ 64 = search rules in
    let p = c.args.p in
    let n = side_word g.S.Side.CASES in
    let front = put_two (put_as _ c.side_number.ensures c.put_word.ensures) c.put_table.ensures refl in
    let ordered = put_two front c.put_numbers.ensures (order_place n p.table table-size) in
    let picked = put_two ordered c.put_numbers-2.ensures (picks-place n p.table table-size p.order.numbers order-size) in
    let phase = put_as _ (ap (λ (x : Mark). x.phase) c.mark_of-mark.ensures) c.put_word-3.ensures in
    let from = put_as _ (ap (λ (x : Mark). x.from) c.mark_of-mark.ensures) c.put_word-4.ensures in
    let marked = put_two (put_two c.put_word-2.ensures phase refl) from refl in
    let last = put_two marked (put_as _ c.flag.ensures c.put_word-5.ensures) refl in
    put_two picked last (count-place n p.table table-size p.order.numbers order-size p.picks.numbers picks-size)
