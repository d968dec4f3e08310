-- `judge::all_nested` meets its contract: what the chain of calls tests is what the definition says.
use mathlib.Core.Path.{◌∙◌}
use borrow.Author.Rules.{rules}
use borrow.Author.Tests.{tests}
use Rattle.std.specs.List.{list_all}
use Rattle.std.proofs.lemmas.Iterator.Search.{all_from_yields_List}
use Rattle.std.proofs.lemmas.Iterator.{YieldsList-from_slice}
use Rattle.judge.specs.private.RowTests.{nested}
use Rattle.judge.proofs.RowLoops.{nested_list}
use Rattle.judge.proofs.all_nested.Goals as goal

pub returns : goal.returns
returns c =
    all_from_yields_List (λ a. list_all (nested a) c.args.rows.now) _ _ c.all.result c.all.ensures.ran (YieldsList-from_slice c.args.rows.now cc) (λ x b q k. search (rules, tests))
    ∙ nested_list _
