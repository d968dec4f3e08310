-- `file_reader::comment_at` meets its contract: the answer of the reader of either kind comes first, and the search starts behind the first line.
use mathlib.Core.Path.{◌≡◌, ap, ◌∙◌}
use borrow.Author.Rules.{rules}
use Rattle.std.specs.Prelude.{Err}
use Rattle.file_reader.specs.Comments.{found}
use Rattle.file_reader.proofs.Lookup.{find_start, lookup_refused, lookup_found}
use Rattle.file_reader.proofs.Promising.{comment_of_file}
use Rattle.file_reader.proofs.comment_at.Goals as goal

pub returns-in_err-read_recorded : goal.returns-in_err-read_recorded
returns-in_err-read_recorded c =
    let raised : c.from_residual.result ≡ Err c.in_err-read_recorded.field-0.0.why = search rules in
    comment_of_file c.args.file.now c.args.k _
    (ap found raised ∙ lookup_refused c.args.file.now c.args.k c.read_recorded.result c.read_recorded.ensures.answer c.in_err-read_recorded.was)

pub returns : goal.returns
returns c =
    comment_of_file c.args.file.now c.args.k _
    (c.find_comment.ensures
    ∙ find_start c.args.file.now _ c.line_at-span.ensures c.args.k
    ∙ lookup_found c.args.file.now c.args.k c.read_recorded.result c.read_recorded.ensures.answer c.in_ok-read_recorded.was)
