-- `trials::commit` meets its contract: the table is checked, the trial is made anew on it and compared whole, and the entry is flipped.
use mathlib.Core.Path.{◌≡◌, sym, refl}
use borrow.Author.Rules.{rules}
use lib.ListN.{length}
use Rattle.table.specs.Tables.{table_refusal}
use Rattle.trials.proofs.Commits.{committed-differs}
use Rattle.trials.proofs.Answers.{tried-placed}
use Rattle.trials.proofs.commit.Goals as goal

pub returns-then-not-same_proposal : goal.returns-then-not-same_proposal
returns-then-not-same_proposal c =
    let passed : table_refusal c.args.t ≡ 0 = sym c.in_ok-check_table.ensures in
    let table-size : length c.args.t.rows ≡ 64 = search rules in
    let chain-size : length c.args.p.chain.rows ≡ 64 = search rules in
    committed-differs _ _ _ passed table-size chain-size _ c.in-Ok.ensures _ c.same_proposal.ensures c.if-not-same_proposal.true refl

pub flip-requires : goal.flip-requires
flip-requires c =
    let table-size : length c.args.t.rows ≡ 64 = search rules in
    let chain-size : length c.args.p.chain.rows ≡ 64 = search rules in
    tried-placed _ _ _ _ table-size chain-size _ c.in-Ok.ensures refl
