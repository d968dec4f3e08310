-- `runs::listing::hand` meets its contract: the rows put are those of the ladder, by number again where the rows went by place (`hands_as`, `turns_as`).
use mathlib.Core.Path.{◌≡◌, refl}
use mathlib.Core.Bool.{true, false}
use borrow.Author.Rules.{rules}
use lib.ListN.{length}
use Rattle.runs.proofs.Turns.{hands_as, gathered_long, turns_as}
use Rattle.runs.proofs.listing.hand.Goals as goal

pub returns-then-work : goal.returns-then-work
returns-then-work c =
    rw c.in_default.is (turns_as _ _ _ _ _ _ c.requires c.args.work.now.few c.transpose_into.ensures _ _ _ true c.if-work.true refl)

pub returns-in_default : goal.returns-in_default
returns-in_default c =
    let chain-length : length c.args.chain.now ≡ 64 = search rules in
    rw c.in_default.is (hands_as _ _ _ _ _ _ _ _ chain-length c.args.work.now.few c.put.ensures _ true false c.if-work.false refl)

pub returns-then-work-2 : goal.returns-then-work-2
returns-then-work-2 c =
    rw c.in-Some.is (turns_as _ _ _ _ _ _ c.requires c.args.work.now.few c.transpose_into-then-work-2.ensures _ _ _ false
    c.if-work-2.true c.gather-numbered.ensures)

pub returns : goal.returns
returns c =
    rw c.in-Some.is (hands_as _ _ _ _ _ _ _ _ (gathered_long _ _ _) c.args.work.now.few c.put_numbered.ensures _ false false c.if-work-2.false refl)
