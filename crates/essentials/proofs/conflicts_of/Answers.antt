-- `essentials::conflicts_of` meets its contract: the check refuses by its number, and the rows are those of the pair's conflicts.
use mathlib.Core.Path.{◌≡◌, sym}
use native.Mathlib.Omega.{arith}
use lib.ListN.{length}
use borrow.Author.Rules.{rules}
use Rattle.conflicts.proofs.Covering.{conflict_claims}
use Rattle.essentials.proofs.Answers.{PairFacts, pair_facts, placed, gives}
use Rattle.essentials.proofs.conflicts_of.Goals as goal

pub returns-in_err-check_pair-clause-claims : goal.returns-in_err-check_pair-clause-claims
returns-in_err-check_pair-clause-claims c = λ e. conflict_claims _

pub overflow_sub-i : goal.overflow_sub-i
overflow_sub-i c =
    let rows-length : length c.args.t.rows ≡ 64 = search rules in
    let facts : PairFacts c.args.t c.args.g.0 c.args.c.0 rows-length = pair_facts _ _ _ _ (sym c.in_ok-check_pair.ensures) in
    let f = facts in omega (arith, f.pair.gauge)

pub overflow_sub-c : goal.overflow_sub-c
overflow_sub-c c =
    let rows-length : length c.args.t.rows ≡ 64 = search rules in
    let facts : PairFacts c.args.t c.args.g.0 c.args.c.0 rows-length = pair_facts _ _ _ _ (sym c.in_ok-check_pair.ensures) in
    let f = facts in omega (arith, f.pair.gauge, f.pair.case)

pub conflict_rows-rows-requires : goal.conflict_rows-rows-requires
conflict_rows-rows-requires c =
    let rows-length : length c.args.t.rows ≡ 64 = search rules in
    let facts : PairFacts c.args.t c.args.g.0 c.args.c.0 rows-length = pair_facts _ _ _ _ (sym c.in_ok-check_pair.ensures) in
    let f = facts in omega (arith, (placed _ _ _ _ f).among, f.legal.gauges_high)

pub returns : goal.returns
returns c =
    let rows-length : length c.args.t.rows ≡ 64 = search rules in
    let facts : PairFacts c.args.t c.args.g.0 c.args.c.0 rows-length = pair_facts _ _ _ _ (sym c.in_ok-check_pair.ensures) in
    record {
      gives_conflicts = gives _ _ _ _ facts _ c.conflict_rows-rows.ensures;
      claims = λ e. conflict_claims _;
    }
