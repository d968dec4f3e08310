-- `extend::first_by_place` meets its contract: the first by number of the rows as the order has them is, its rows by gauge again, the first by place
-- (`may_grow`, `placed_first`).
use mathlib.Core.Path.{sym, subst₂}
use mathlib.Core.List.{List}
use Prim.Native.Nat.{ℕ}
use borrow.Author.Rules.{rules}
use Rattle.table.specs.declared.Table.{Table}
use Rattle.table.specs.declared.Chain.{Chain}
use Rattle.table.specs.Chains.{IsChain}
use Rattle.table.specs.Tables.{chain_rows}
use Rattle.table.proofs.Legality.{ChainFacts}
use Rattle.extend.specs.private.FirstByNumber.{FirstByNumber}
use Rattle.extend.proofs.Answers.{Preferred, may_grow, some_places, placed_first}
use Rattle.extend.proofs.first_by_place.Goals as goal

abbrev table_with : Table → List ℕ → Table
table_with t x = record { gauges = t.gauges; cases = t.cases; rows = x }

abbrev chain_with : Table → List ℕ → Chain
chain_with t y = record { gauges = t.gauges; rows = y }

pub first_rows-first-requires : goal.first_rows-first-requires
first_rows-first-requires c =
    let preferred : Preferred c.args.t c.args.numbers c.args.s = record { passes = c.requires.0; chain = c.requires.1; size = search rules; long = search rules; size_chain = search rules } in
    let t = c.args.t in
    subst₂ (λ (x y : List ℕ). ChainFacts (table_with t x) (chain_with t y) × IsChain (chain_rows (chain_with t y))) (sym c.gather-rows.ensures)
    (sym c.gather-asked.ensures) (may_grow t c.args.numbers c.args.s preferred)

pub unwrap-places-requires : goal.unwrap-places-requires
unwrap-places-requires c =
    let preferred : Preferred c.args.t c.args.numbers c.args.s = record { passes = c.requires.0; chain = c.requires.1; size = search rules; long = search rules; size_chain = search rules } in
    some_places c.args.t c.args.numbers c.args.s preferred _ c.place_all.ensures

pub returns : goal.returns
returns c =
    let preferred : Preferred c.args.t c.args.numbers c.args.s = record { passes = c.requires.0; chain = c.requires.1; size = search rules; long = search rules; size_chain = search rules } in
    let t = c.args.t in
    placed_first t c.args.numbers c.args.s preferred c.first_rows-first.result _ _ _
    (subst₂ (λ (x y : List ℕ). FirstByNumber (table_with t x) (chain_with t y) c.first_rows-first.result) c.gather-rows.ensures c.gather-asked.ensures
    c.first_rows-first.ensures)
    c.place_all.ensures (search rules) c.gather.ensures
