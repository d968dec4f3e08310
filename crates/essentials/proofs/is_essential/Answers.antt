-- `essentials::is_essential` meets its contract: the check refuses by its number, and a pair that none outdoes is essential.
use mathlib.Core.Path.{◌≡◌, sym}
use lib.ListN.{length}
use borrow.Author.Rules.{rules}
use Rattle.conflicts.proofs.Covering.{conflict_claims}
use Rattle.essentials.proofs.Answers.{PairFacts, pair_facts, placed, essential-judged}
use Rattle.essentials.proofs.Outdoing.{ready}
use Rattle.essentials.proofs.is_essential.Goals as goal

pub returns-in_err-check_pair-clause-claims : goal.returns-in_err-check_pair-clause-claims
returns-in_err-check_pair-clause-claims c = λ e. conflict_claims _

pub invariant_of-table : goal.invariant_of-table
invariant_of-table c =
    let rows-length : length c.args.t.rows ≡ 64 = search rules in
    let facts : PairFacts c.args.t c.args.g.0 c.args.c.0 rows-length = pair_facts _ _ _ _ (sym c.in_ok-check_pair.ensures) in
    record { few = facts.legal.gauges_high }

pub invariant_of-pairs : goal.invariant_of-pairs
invariant_of-pairs c =
    let rows-length : length c.args.t.rows ≡ 64 = search rules in
    let facts : PairFacts c.args.t c.args.g.0 c.args.c.0 rows-length = pair_facts _ _ _ _ (sym c.in_ok-check_pair.ensures) in
    let f = facts in
    record { ready = ready _ f.legal _ c.unions.ensures }

pub overflow_sub-i : goal.overflow_sub-i
overflow_sub-i c =
    let rows-length : length c.args.t.rows ≡ 64 = search rules in
    let facts : PairFacts c.args.t c.args.g.0 c.args.c.0 rows-length = pair_facts _ _ _ _ (sym c.in_ok-check_pair.ensures) in
    facts.pair.gauge

pub overflow_sub-c : goal.overflow_sub-c
overflow_sub-c c =
    let rows-length : length c.args.t.rows ≡ 64 = search rules in
    let facts : PairFacts c.args.t c.args.g.0 c.args.c.0 rows-length = pair_facts _ _ _ _ (sym c.in_ok-check_pair.ensures) in
    facts.pair.case

pub outdone-requires : goal.outdone-requires
outdone-requires c =
    let rows-length : length c.args.t.rows ≡ 64 = search rules in
    let facts : PairFacts c.args.t c.args.g.0 c.args.c.0 rows-length = pair_facts _ _ _ _ (sym c.in_ok-check_pair.ensures) in
    placed _ _ _ _ facts

pub returns : goal.returns
returns c =
    let rows-length : length c.args.t.rows ≡ 64 = search rules in
    let facts : PairFacts c.args.t c.args.g.0 c.args.c.0 rows-length = pair_facts _ _ _ _ (sym c.in_ok-check_pair.ensures) in
    record {
      judged = essential-judged _ _ _ _ facts _ c.outdone.ensures;
      claims = λ e. conflict_claims _;
    }
