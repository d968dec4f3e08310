-- `essentials::essential_rows` meets its contract: the rows passed have their essential pairs, the others none.
use mathlib.Core.Path.{◌≡◌, sym}
use native.Mathlib.Omega.{arith}
use lib.ListN.{length}
use borrow.Author.Rules.{rules}
use Rattle.table.specs.Tables.{Legal}
use Rattle.table.proofs.Legality.{legal_of}
use Rattle.essentials.proofs.Outdoing.{finding_none, finding_more, finding_all, ready}
use Rattle.essentials.proofs.essential_rows.Goals as goal

pub invariant_of-table : goal.invariant_of-table
invariant_of-table c =
    let rows-length : length c.args.t.rows ≡ 64 = search rules in
    let legal : Legal c.args.t = legal_of _ rows-length (sym c.in_ok-check_table.ensures) in
    record { few = legal.gauges_high }

pub invariant_of-pairs : goal.invariant_of-pairs
invariant_of-pairs c =
    let rows-length : length c.args.t.rows ≡ 64 = search rules in
    let legal : Legal c.args.t = legal_of _ rows-length (sym c.in_ok-check_table.ensures) in
    record { ready = ready _ legal _ c.unions.ensures }

pub loop-i-init : goal.loop-i-init
loop-i-init c = finding_none _ _

pub offset_bounds-found-i : goal.offset_bounds-found-i
offset_bounds-found-i c =
    let rows-length : length c.args.t.rows ≡ 64 = search rules in
    let legal : Legal c.args.t = legal_of _ rows-length (sym c.in_ok-check_table.ensures) in
    omega (arith, legal.gauges_high)

pub bounds-found-i : goal.bounds-found-i
bounds-found-i c =
    let rows-length : length c.args.t.rows ≡ 64 = search rules in
    let legal : Legal c.args.t = legal_of _ rows-length (sym c.in_ok-check_table.ensures) in
    omega (arith, legal.gauges_high)

pub loop-i-preserved : goal.loop-i-preserved
loop-i-preserved c =
    let rows-length : length c.args.t.rows ≡ 64 = search rules in
    let legal : Legal c.args.t = legal_of _ rows-length (sym c.in_ok-check_table.ensures) in
    finding_more _ _ _ _ _ c.loop-i.invariant c.loop-i-test.true
    legal.gauges_high c.essential_row.ensures

pub returns : goal.returns
returns c =
    let rows-length : length c.args.t.rows ≡ 64 = search rules in
    let legal : Legal c.args.t = legal_of _ rows-length (sym c.in_ok-check_table.ensures) in
    finding_all _ legal _ _ c.loop-i.invariant c.loop-i-test.false
