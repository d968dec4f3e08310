-- `mechanisms::search` meets its contract: one law for each way that the search on boards ends.
use mathlib.Core.Path.{refl}
use Rattle.table.specs.Tables.{table_rows}
use Rattle.lists.specs.Lists.{GaugeList}
use Rattle.lists.proofs.Listed.{chains_in_order}
use Rattle.lists.proofs.Plain.{gauge_list_of}
use Rattle.mechanisms.proofs.Searching.{answer-spent, some-cover, rest-low, count_low, answer-cover}
use Rattle.mechanisms.proofs.search.Goals as goal

pub overflow_sub-budget : goal.overflow_sub-budget
overflow_sub-budget c =
    let listed : GaugeList c.args.t (chains_in_order (table_rows c.args.t)) = gauge_list_of c.args.t in
    rest-low c.args.t c.requires.small (chains_in_order (table_rows c.args.t)) listed c.args.budget _ _ (c.requires.listed (chains_in_order (table_rows c.args.t)) listed)
    c.board_of.ensures _ _ c.least_cover-found.ensures _ _ c.in-Cover.is

pub covered-requires : goal.covered-requires
covered-requires c =
    let listed : GaugeList c.args.t (chains_in_order (table_rows c.args.t)) = gauge_list_of c.args.t in
    count_low c.args.t c.requires.small (chains_in_order (table_rows c.args.t)) listed c.args.budget _ _ (c.requires.listed (chains_in_order (table_rows c.args.t)) listed)
    c.board_of.ensures _ _ c.least_cover-found.ensures _ _ c.in-Cover.is

pub returns-in-Cover : goal.returns-in-Cover
returns-in-Cover c xs g =
    answer-cover c.args.t c.requires.small xs g c.args.budget _ _ (c.requires.listed xs g) c.board_of.ensures _ _
    c.least_cover-found.ensures _ _ c.in-Cover.is _ c.covered.ensures

pub returns-in-Nothing : goal.returns-in-Nothing
returns-in-Nothing c xs g =
    absurd (some-cover c.args.t c.requires.small xs g c.args.budget _ _ (c.requires.listed xs g) c.board_of.ensures _ _
    c.least_cover-found.ensures _ c.in-Nothing.is)

pub returns-in-Spent : goal.returns-in-Spent
returns-in-Spent c xs g =
    answer-spent c.args.t c.requires.small xs g c.args.budget _ _ (c.requires.listed xs g) c.board_of.ensures _ _
    c.least_cover-found.ensures c.in-Spent.is _ refl
